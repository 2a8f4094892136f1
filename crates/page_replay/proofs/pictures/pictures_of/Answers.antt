use Rattle.std.proofs.Common.{◌+◌, List, take, sym, subst}
use Rattle.std.specs.List.{AllZip}
use Rattle.page_replay.specs.Pictures.{IsPictureOf}
use Rattle.page_replay.specs.declared.pictures.Picture.{Picture}
use Rattle.page_replay.proofs.Shown.{picture_more, tree_of}
use Rattle.page_replay.proofs.pictures.pictures_of.Goals as goal

pub picture_of-requires : goal.picture_of-requires
picture_of-requires c = tree_of c.args.root c.args.areas.now c.requires c.loop-area.area-index c.area-item.result c.loop-area-test.true c.area-item.is

pub loop-area-preserved : goal.loop-area-preserved
loop-area-preserved c =
    subst (λ (pictures : List Picture). AllZip (IsPictureOf c.args.root) (take (c.loop-area.area-index + 1) c.args.areas.now) pictures) (sym c.in_ok-push.ensures.items)
    (picture_more c.args.root c.args.areas.now c.loop-area.area-index c.area-item.result c.loop-area.pictures.items c.in_ok-picture_of.field-0 c.loop-area-test.true c.area-item.is c.loop-area.invariant c.in_ok-picture_of.ensures)
