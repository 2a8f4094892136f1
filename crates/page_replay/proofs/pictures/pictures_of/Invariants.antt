use Rattle.std.proofs.Common.{take}
use Rattle.std.specs.List.{AllZip}
use Rattle.page_replay.specs.Pictures.{IsPictureOf}
use Rattle.page_replay.proofs.pictures.pictures_of.Given as goal

abbrev pub invariant-loop-area : goal.invariant-loop-area
invariant-loop-area l = AllZip (IsPictureOf l.root) (take l.area-index l.areas) l.pictures.items
