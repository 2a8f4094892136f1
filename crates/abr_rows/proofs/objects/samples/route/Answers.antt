use Rattle.std.proofs.Common.{refl}
use Rattle.std.specs.List.Sorted.{IsStrictlySortedBy}
use Rattle.abr_rows.proofs.objects.samples.route.Goals as goal

pub new-requires : goal.new-requires
unfolding IsStrictlySortedBy
new-requires c = rw c.in_ok-from_slice.ensures.ok ((refl, (refl, tt)), ((refl, tt), (tt, tt)))
