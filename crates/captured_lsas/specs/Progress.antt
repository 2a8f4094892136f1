-- The state of a recording so far.
use Rattle.std.specs.Prelude.{ℕ, Bool, false, List, [], Option, None}
use Rattle.captured_lsas.specs.declared.options.Options.{Options}
use Rattle.captured_lsas.specs.Newest.{Newest}

pub record CaptureProgress : Type 0 where
  pub options : Options
  pub areas : Option (List ℕ)  -- those of the recording, if only their LSAs are given
  pub last_time : Option ℕ  -- of the packets, that of the last that has one
  pub waiting : ℕ  -- how many nanoseconds passed that were not given as seconds
  pub has_begun : Bool  -- an LSA was given
  pub newest : Newest  -- of the LSAs that were given; none are noted where all are kept
  pub strange : List ℕ  -- the other areas of which there were LSAs, in the order in which they came

abbrev pub start : Options → (areas : Option (List ℕ)) → CaptureProgress
start options areas = record { options = options; areas = areas; last_time = None; waiting = 0; has_begun = false; newest = []; strange = [] }
