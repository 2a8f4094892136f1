-- The order of a queue is total.
use Rattle.std.specs.Cmp.{IsTotalOrder, nat_cmp_total}
use Rattle.std.proofs.lemmas.Cmp.{on_total, then_total}
use Rattle.vertex_queue.specs.Queues.{kind_and_number, queue_cmp}

pub queue_total : IsTotalOrder queue_cmp
queue_total =
    then_total (on_total (λ x. x.0) nat_cmp_total) (then_total (on_total (λ x. (kind_and_number x.1).0) nat_cmp_total) (on_total (λ x. (kind_and_number x.1).1) nat_cmp_total))
