-- A vertex that is not listed as changed keeps its distance and its list of next hops.
use Rattle.std.proofs.Common.{◌≡◌, List, Option, Some, None, refl, sym, subst, ◌⊎◌, inl, inr}
use Rattle.std.specs.Prelude.{◌↔◌, IfSome}
use Rattle.std.specs.FinMap.{get}
use Rattle.std.specs.List.{Contains}
use Rattle.std.specs.List.Sorted.{IsStrictlySortedBy}
use Rattle.std.proofs.lemmas.Slice.Eq.{slice_eq-Decides}
use Rattle.ospf_types.specs.declared.entry.Vertex.{Vertex}
use Rattle.ospf_types.specs.declared.hop.NextHop.{NextHop}
use Rattle.ospf_types.specs.Hops.{hop_cmp}
use Rattle.ospf_types.proofs.Elements.{no_element}
use Rattle.ospf_types.proofs.OneBest.{same_list}
use Rattle.ospf_types.proofs.Orders.{hop_total, hop_exact}
use Rattle.ospf_types.proofs.Paths.{hop_eq-Decides}
use Rattle.vertex_queue.specs.Maps.{AreHopsInOrder}
use Rattle.spf.specs.TreeValues.{TreeValue, Differs, AreChanged, AreOthersKept, listed_hops}
use Rattle.spf.proofs.Before.{cases_decided}
use Rattle.spf.proofs.CarriedOut.{cases_distance}
use Rattle.spf.proofs.Finished.{with_changed}

-- what is one or the other, and is not not, is
is_so : {P : Type 0} → P ⊎ (P → ⊥) → ((P → ⊥) → ⊥) → P
is_so (inl holds) not_not = holds
is_so (inr fails) not_not = absurd (not_not fails)

cases_hops : (xs ys : List NextHop) → (xs ≡ ys) ⊎ (xs ≡ ys → ⊥)
cases_hops xs ys = cases_decided _ (slice_eq-Decides hop_eq-Decides xs ys _ refl)

-- the next hops of a vertex, where it has some
abbrev AreHopsAt : Option (List NextHop) → NextHop → Type 0
AreHopsAt o h = (hops : List NextHop) × (o ≡ Some hops) × Contains hops h

listed : (o : Option (List NextHop)) (h : NextHop) → Contains (listed_hops o) h ↔ AreHopsAt o h
listed None h = (λ c. absurd (no_element h c), λ w. absurd (let wrong : None ≡ Some w.0 = w.1 in cc))
listed (Some hops) h = (
  λ c. (hops, refl, c),
  λ w. let same : w.0 ≡ hops = (let is = w.1 in cc) in subst (λ (hs : List NextHop). Contains hs h) same w.2,
)

listed_in_order : (o : Option (List NextHop)) → IfSome o (λ (hops : List NextHop). IsStrictlySortedBy hop_cmp hops) → IsStrictlySortedBy hop_cmp (listed_hops o)
unfolding IsStrictlySortedBy
listed_in_order None sorted = tt
listed_in_order (Some hops) sorted = sorted

-- two vertices that have the same next hops have the same list of them
same_listed : (x y : Option (List NextHop)) → IsStrictlySortedBy hop_cmp (listed_hops x) → IsStrictlySortedBy hop_cmp (listed_hops y) → ((h : NextHop) → AreHopsAt x h ↔ AreHopsAt y h) → listed_hops x ≡ listed_hops y
same_listed x y one other same = same_list hop_total hop_exact (listed_hops x) (listed_hops y) one other (λ h. (
  λ c. (listed y h).1 ((same h).0 ((listed x h).0 c)),
  λ c. (listed x h).1 ((same h).1 ((listed y h).0 c)),
))

-- what was not listed is unchanged
others_kept : (old new : TreeValue) → AreHopsInOrder old.hops → AreHopsInOrder new.hops → AreChanged old new new.changed → AreOthersKept old new
others_kept old new were are changed v other =
    let alike : Differs old new v → ⊥ = λ differs. other ((changed.exact v).1 differs) in
    let before = get old.hops v in
    let after = get new.hops v in (
      is_so (cases_distance (get new.distances v) (get old.distances v)) (λ fails. alike (λ both. fails both.0)),
      is_so (cases_hops (listed_hops after) (listed_hops before)) (λ fails. alike (λ both. fails (same_listed after before (listed_in_order after (are v)) (listed_in_order before (were v)) both.1))),
    )

-- The kept values after the vertices were listed.
pub others_listed : (was view new : TreeValue) (changed : List Vertex) → view ≡ new → AreHopsInOrder was.hops → AreHopsInOrder new.hops → AreChanged was (with_changed view changed) changed → AreOthersKept was (with_changed view changed)
others_listed was view new changed view_is were are exact =
    others_kept was (with_changed view changed) were (subst (λ (t : TreeValue). AreHopsInOrder t.hops) (sym view_is) are) exact
