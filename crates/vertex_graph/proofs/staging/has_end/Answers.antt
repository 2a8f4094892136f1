use Rattle.std.proofs.Common.{sym, ◌∙◌}
use Rattle.graph_links.proofs.Linking.{searched}
use Rattle.vertex_graph.proofs.staging.has_end.Goals as goal

pub returns : goal.returns
returns c true_is = searched c.binary_search.result c.args.ends.now c.args.end c.binary_search.ensures.ok c.binary_search.ensures.bound (sym c.is_ok.ensures.value ∙ true_is)
