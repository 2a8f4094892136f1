use Rattle.graph_links.proofs.AtVertex.{between_exact, between_in_order}
use Rattle.graph_links.proofs.at_vertex.ends_at.Goals as goal

pub returns-clause-in_order : goal.returns-clause-in_order
returns-clause-in_order c =
    between_in_order c.args.vertex c.args.ends.now c.first_at-first.result c.past_from-past.result c.first_at-first.ensures.within c.past_from-past.ensures.within c.first_at-first.ensures.split c.past_from-past.ensures.split c.requires

pub returns-clause-exact : goal.returns-clause-exact
returns-clause-exact c =
    between_exact c.args.vertex c.args.ends.now c.first_at-first.result c.past_from-past.result c.first_at-first.ensures.within c.past_from-past.ensures.within c.first_at-first.ensures.split c.past_from-past.ensures.split
