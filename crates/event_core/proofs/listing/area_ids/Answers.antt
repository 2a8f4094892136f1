use Rattle.std.proofs.Common.{◌==◌, List, ap, ◌∙◌, arith}
use Rattle.std.specs.List.{list_any}
use Rattle.std.proofs.lemmas.List.{take_all}
use Rattle.ospf_types.specs.declared.config.AreaConfig.{AreaConfig}
use Rattle.event_core.proofs.Listings.{area_ids}
use Rattle.event_core.proofs.listing.area_ids.Goals as goal

pub returns : goal.returns
returns c =
    area_ids c.args.areas.now c.loop-area.ids c.len.ensures.ordered
    (λ q. c.loop-area.invariant q ∙ ap (λ (areas : List AreaConfig). list_any (λ a. a.id == q) areas) (take_all c.loop-area.area-index c.args.areas.now (omega arith)))
