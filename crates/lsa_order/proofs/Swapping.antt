-- The comparison of two instances, asked the other way round.
use Rattle.std.proofs.Common.{◌≡◌, ℕ, refl, arith}
use Rattle.std.specs.Int.{w32, cast_signed}
use Rattle.std.specs.Ordering.{ordering_reverse, ordering_then}
use Rattle.std.specs.declared.cmp.Ordering.{Ordering}
use Rattle.std.specs.declared.cmp.Ordering.TheVariants.{Less, Equal, Greater}
use Rattle.std.proofs.lemmas.Bool.Decides.{nat_tests}
use Rattle.std.proofs.lemmas.Cmp.{int_cmp_total, nat_cmp_total}
use Rattle.ospf_types.specs.declared.lsa.Header.{Header}
use Rattle.ospf_types.specs.Instances.{newer_of, newer_by, age_cmp, instance_cmp, swapped}

then_reversed : (a b : Ordering) → ordering_reverse (ordering_then a b) ≡ ordering_then (ordering_reverse a) (ordering_reverse b)
then_reversed Less b = refl
then_reversed Equal b = refl
then_reversed Greater b = refl

ages_reversed : (x y : ℕ) → age_cmp y x ≡ ordering_reverse (age_cmp x y)
ages_reversed x y = grind (arith, nat_tests)

by_reversed : (r : Ordering) → newer_by (ordering_reverse r) ≡ swapped (newer_by r)
by_reversed Less = refl
by_reversed Equal = refl
by_reversed Greater = refl

reversed : (a b : Header) → instance_cmp b a ≡ ordering_reverse (instance_cmp a b)
reversed a b =
    let by_seq = int_cmp_total.antisymm (cast_signed w32 b.seq) (cast_signed w32 a.seq) in
    let by_sum = nat_cmp_total.antisymm b.sum a.sum in
    rw (by_seq, by_sum, ages_reversed a.age b.age, then_reversed, then_reversed)

pub other_way : (a b : Header) → newer_of b a ≡ swapped (newer_of a b)
other_way a b = rw (reversed a b, by_reversed)
