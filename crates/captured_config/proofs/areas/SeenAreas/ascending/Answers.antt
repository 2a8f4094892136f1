use Rattle.std.proofs.Common.{◌∙◌, ap}
use Rattle.captured_config.specs.Areas.{ascending}
use Rattle.captured_config.proofs.Ascending.{sorted_once}
use Rattle.captured_config.proofs.areas.SeenAreas.ascending.Goals as goal

pub returns : goal.returns
returns c =
    sorted_once c.in_ok-ids.ids.items c.sort_unstable.new.self.items c.dedup.new.self.items c.sort_unstable.ensures.permutation c.sort_unstable.ensures.sorted c.dedup.ensures.filtered
    ∙ ap ascending (c.in_ok-ids.ensures.items ∙ c.as_slice.ensures)
