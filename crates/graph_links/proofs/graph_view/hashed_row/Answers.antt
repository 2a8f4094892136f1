use Rattle.std.proofs.Common.{◌∙◌}
use Rattle.graph_links.proofs.VertexTests.{found}
use Rattle.graph_links.proofs.graph_view.hashed_row.Goals as goal

pub returns-in-Some : goal.returns-in-Some
returns-in-Some c = c.in-Some.ensures.value ∙ found c.args.vertex c.args.rows.now.entries

pub returns-in-None : goal.returns-in-None
returns-in-None c = c.in-None.ensures.value ∙ found c.args.vertex c.args.rows.now.entries
