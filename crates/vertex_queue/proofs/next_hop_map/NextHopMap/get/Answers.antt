use Rattle.std.proofs.Common.{ap, ◌∙◌}
use Rattle.std.specs.FinMap.{get}
use Rattle.vertex_queue.specs.Maps.{HopMap}
use Rattle.vertex_queue.proofs.next_hop_map.NextHopMap.get.Goals as goal

pub returns : goal.returns
returns c = c.get.ensures ∙ ap (λ (m : HopMap). get m c.args.vertex.now) c.self.view_is
