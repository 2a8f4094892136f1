use Rattle.std.proofs.Common.{sym, ◌∙◌}
use Rattle.vertex_queue.proofs.QueueDistances.{none_in, as_many_as_none}
use Rattle.vertex_queue.proofs.queue.Queue.is_empty.Goals as goal

pub returns : goal.returns
returns c =
    let q = c.self.inside.distances in
    (λ none. sym c.self.view_is ∙ none_in q (c.is_empty.ensures.0 none), λ is. c.is_empty.ensures.1 (as_many_as_none q (c.self.view_is ∙ is)))
