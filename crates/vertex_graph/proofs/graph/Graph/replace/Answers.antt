use Rattle.vertex_graph.proofs.graph.Graph.replace.Goals as goal

pub replace_all-requires-clause-few : goal.replace_all-requires-clause-few
replace_all-requires-clause-few c = c.requires.few
