use Rattle.std.proofs.Common.{ap, ◌∙◌}
use Rattle.std.specs.FinMap.{insert, remove}
use Rattle.ospf_types.specs.declared.entry.Vertex.{Vertex}
use Rattle.ospf_types.specs.declared.entry.Vertex.TheVariants.{Router}
use Rattle.vertex_graph.specs.Graphs.{HasRoot}
use Rattle.spf.proofs.Resetting.{reset_with, reset_without}
use Rattle.spf.proofs.relax.reset.Goals as goal

pub returns-in_ok-set : goal.returns-in_ok-set
returns-in_ok-set c =
    reset_with {root = c.args.graph.now.root} {has_root = HasRoot c.args.graph.now} c.clear.new.distances c.clear.ensures c.set.new.self (c.has_root.ensures.0 c.if-has_root.true)
    (c.in_ok-set.ensures.set ∙ ap (λ (v : Vertex). insert c.clear.new.distances v 0) c.with_vertex-root.ensures ∙ ap (λ r. insert c.clear.new.distances (Router r) 0) c.root.ensures.value)

pub returns-else-has_root : goal.returns-else-has_root
returns-else-has_root c =
    reset_without {root = c.args.graph.now.root} {has_root = HasRoot c.args.graph.now} c.clear.new.distances c.clear.ensures c.remove.new.self
    (λ has. let yes = c.has_root.ensures.1 has in absurd cc) (c.remove.ensures ∙ ap (remove c.clear.new.distances) c.with_vertex-root.ensures ∙ ap (λ r. remove c.clear.new.distances (Router r)) c.root.ensures.value)
