use Rattle.std.specs.Iterator.Adapters.{zip_first, zip_second}
use Rattle.std.specs.Slice.Iter.{iter_rest}
use Rattle.std.specs.Prelude.{string_bytes}
use Rattle.std.proofs.lemmas.Slice.Zip.{either_empty_from_Zip}
use Rattle.page_replay.proofs.Shown.{none_left}
use Rattle.page_replay.proofs.pictures.put_areas.Goals as goal

pub returns : goal.returns
returns c =
    none_left (iter_rest (zip_first c.loop-area.area-iterator)) (iter_rest (zip_second c.loop-area.area-iterator)) (string_bytes c.loop-area.text) _
    (either_empty_from_Zip c.loop-area.area-iterator c.next.new.self c.next.result c.in-None.is c.next.ensures.steps) c.loop-area.invariant
