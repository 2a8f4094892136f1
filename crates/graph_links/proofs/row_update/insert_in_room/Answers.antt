use Rattle.std.proofs.Common.{Some}
use Rattle.graph_links.proofs.VertexTests.{found_after}
use Rattle.graph_links.proofs.row_update.insert_in_room.Goals as goal

pub returns-clause-placed : goal.returns-clause-placed
returns-clause-placed c = found_after c.args.rows.now.entries c.insert.new.self.entries c.args.vertex (Some c.args.row) c.in-Ok.ensures.updates.0
