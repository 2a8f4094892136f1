use Rattle.std.proofs.Common.{◌≡◌, ℕ, List, Ordering, Option, IfErr, IfNone, sym, subst, ◌∙◌}
use Rattle.std.specs.Prelude.{Contains}
use Rattle.std.specs.List.Sorted.{IsBinarySearchResult, IsStrictlySortedBy}
use Rattle.ospf_types.specs.declared.prefix.Prefix.{Prefix}
use Rattle.ospf_types.specs.Network.{network_cmp}
use Rattle.ospf_types.proofs.DerivedOrders.{network_cmp_is}
use Rattle.explanation.proofs.Searching.{absent, if_none_of}
use Rattle.explanation.proofs.networks.NetworkSet.place.Goals as goal

pub returns-clause-none : goal.returns-clause-none
returns-clause-none c =
    let xs = c.as_slice.result.now in
    let p = c.args.network in
    let r = c.binary_search.result in
    let listed : xs ≡ c.args.self.now = c.as_slice.ensures.value ∙ c.self.view_is in
    let ordered = subst (IsStrictlySortedBy network_cmp) (sym c.as_slice.ensures.value) c.self.invariant in
    let is = subst (λ (cmp : Prefix → Prefix → Ordering). IsBinarySearchResult (λ q. cmp q p) xs r) network_cmp_is c.binary_search.ensures.position in
    subst (λ (found : Option ℕ). IfNone found (Contains c.args.self.now p → ⊥)) (sym c.ok.ensures.value)
    (if_none_of (Contains c.args.self.now p → ⊥) r (subst (λ (qs : List Prefix). IfErr r (λ _. Contains qs p → ⊥)) listed (absent xs ordered p r is)))
