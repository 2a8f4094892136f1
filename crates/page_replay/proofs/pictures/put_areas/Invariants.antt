use Rattle.std.proofs.Common.{◌≡◌, ◌++◌, string_bytes}
use Rattle.std.specs.Iterator.Adapters.{zip_first, zip_second}
use Rattle.std.specs.Slice.Iter.{iter_rest}
use Rattle.page_replay.specs.Pictures.{areas_text}
use Rattle.page_replay.proofs.pictures.put_areas.Given as goal

abbrev pub invariant-loop-area : goal.invariant-loop-area
invariant-loop-area l = string_bytes l.text ++ areas_text (iter_rest (zip_first l.area-iterator)) (iter_rest (zip_second l.area-iterator)) ≡ string_bytes l.initial.text ++ areas_text l.areas l.pictures
