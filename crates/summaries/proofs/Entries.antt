-- The entries that are kept are as defined: intra-area and inter-area networks, and AS boundary
-- routers.
use Rattle.std.proofs.Common.{◌≡◌, ◌≢◌, ℕ, Bool, true, false, cond, List, Option, Some, None, sym, ap, subst, ◌∙◌, inl, inr}
use Rattle.std.specs.Prelude.{◌==◌}
use Rattle.std.specs.List.Sorted.{IsStrictlySortedBy}
use Rattle.std.specs.Cmp.{nat_cmp_total}
use Rattle.std.proofs.lemmas.Map.Lookups.{exact_unsigned}
use Rattle.ospf_types.specs.declared.entry.Entry.{Entry}
use Rattle.ospf_types.specs.declared.entry.PathType.TheVariants.{Intra, Inter, External1, External2}
use Rattle.ospf_types.specs.declared.hop.NextHop.{NextHop}
use Rattle.ospf_types.specs.declared.prefix.Prefix.{Prefix}
use Rattle.ospf_types.specs.Boundary.{Preference, BoundaryOffers, IsPreferred}
use Rattle.ospf_types.specs.Hops.{path_cmp}
use Rattle.ospf_types.specs.Inputs.{Inputs, Area}
use Rattle.ospf_types.specs.Intra.{AreaCost, IsIntra, IntraOffers}
use Rattle.ospf_types.specs.Inter.{IsInter, InterOffers}
use Rattle.ospf_types.specs.Ranges.{IsExamined}
use Rattle.ospf_types.specs.Routes.{IsEntry, entry_of, external_type}
use Rattle.ospf_types.proofs.Examined.{examined_once}
use Rattle.ospf_types.proofs.OneBest.{same_key, same_items}
use Rattle.ospf_types.proofs.Orders.{area_cost_total, area_cost_exact, path_total, path_exact, preference_total, preference_exact}
use Rattle.intra.specs.Intras.{IsEntryFor as IsIntraEntry}
use Rattle.inter.specs.Right.{IsEntryOf as IsInterEntry}
use Rattle.external.specs.AsbrRoute.{PreferredValue, IsPreferredFor}

-- ---- kinds of paths

external_kind : (t : Bool) → (cond t External1 External2 ≢ Intra) × (cond t External1 External2 ≢ Inter)
external_kind true = (λ e. absurd cc, λ e. absurd cc)
external_kind false = (λ e. absurd cc, λ e. absurd cc)

not_external : (kind : ℕ) → (external_type kind ≢ Intra) × (external_type kind ≢ Inter)
not_external kind = external_kind (kind == 1)

module _ (s : Inputs) (p : Prefix) where
  -- ---- intra-area

  pub intra_is : (o : Option Entry) (e : Entry) → IsIntraEntry (IntraOffers s p) o → o ≡ Some e → IsEntry s p e × (e.kind ≡ Intra)
  intra_is None e is same = absurd cc
  intra_is (Some f) e is same =
      let one : f ≡ e = cc in
      subst (λ (x : Entry). IsEntry s p x × (x.kind ≡ Intra)) one (record { best = inl (is.0, is.1, is.3); in_order = is.2 }, ap (λ (x : Entry). x.kind) is.3)

  intra_same : (o : Option Entry) (e : Entry) → IsIntraEntry (IntraOffers s p) o → (key : AreaCost) → IsIntra s p key e.paths → IsStrictlySortedBy path_cmp e.paths → e ≡ entry_of Intra (Some key.1) key.0 0 e.paths → o ≡ Some e
  intra_same None e none key best in_order is = absurd (none key best.stands.0 best.stands.1)
  intra_same (Some f) e w key best in_order is =
      let keys : w.0 ≡ key = same_key area_cost_total area_cost_exact (IntraOffers s p) w.0 key f.paths e.paths w.1 best in
      let paths : f.paths ≡ e.paths = same_items area_cost_total area_cost_exact (IntraOffers s p) path_total path_exact w.0 key f.paths e.paths w.1 best w.2 in_order in
      ap Some (w.3 ∙ (λ i. entry_of Intra (Some (keys i).1) (keys i).0 0 (paths i)) ∙ sym is)

  pub intra_there : (o : Option Entry) (e : Entry) → IsIntraEntry (IntraOffers s p) o → IsEntry s p e → e.kind ≡ Intra → o ≡ Some e
  intra_there o e is entry kind = elim entry.best [
    | inl w ↦ intra_same o e is w.0 w.1 entry.in_order w.2
    | inr others ↦ elim others [
      | inl w ↦ let wrong : Inter ≡ Intra = sym (ap (λ (x : Entry). x.kind) w.4) ∙ kind in absurd cc
      | inr w ↦ absurd ((not_external w.0.kind).0 (sym (ap (λ (x : Entry). x.kind) w.2) ∙ kind))
    ]
  ]

  -- ---- inter-area

  pub inter_is : (o : Option Entry) (e : Entry) → IsInterEntry s (InterOffers s p) o → o ≡ Some e → IsEntry s p e × (e.kind ≡ Inter)
  inter_is None e is same = absurd cc
  inter_is (Some f) e (inr none) same = absurd (let gone = none.1 in cc)
  inter_is (Some f) e (inl is) same =
      let one : f ≡ e = cc in
      let w = is.2 in
      subst (λ (x : Entry). IsEntry s p x × (x.kind ≡ Inter)) one (record { best = inr (inl (w.0, is.0, w.1, is.1, w.3)); in_order = w.2 }, ap (λ (x : Entry). x.kind) w.3)

  inter_same : (o : Option Entry) (e : Entry) → IsInterEntry s (InterOffers s p) o → (cost : ℕ) (a : Area) → IsInter s p cost e.paths → IsExamined s a → IsStrictlySortedBy path_cmp e.paths → e ≡ entry_of Inter (Some a.id) cost 0 e.paths → o ≡ Some e
  inter_same o e (inr none) cost a best examined in_order is = absurd (none.0 a examined)
  inter_same None e (inl none) cost a best examined in_order is = absurd (none.2 cost best.stands.0 best.stands.1)
  inter_same (Some f) e (inl there) cost a best examined in_order is =
      let w = there.2 in
      let costs : w.0 ≡ cost = same_key nat_cmp_total exact_unsigned (InterOffers s p) w.0 cost f.paths e.paths w.1 best in
      let paths : f.paths ≡ e.paths = same_items nat_cmp_total exact_unsigned (InterOffers s p) path_total path_exact w.0 cost f.paths e.paths w.1 best w.2 in_order in
      let areas : there.0.id ≡ a.id = examined_once s there.0 a there.1 examined in
      ap Some (w.3 ∙ (λ i. entry_of Inter (Some (areas i)) (costs i) 0 (paths i)) ∙ sym is)

  pub inter_there : (o : Option Entry) (e : Entry) → IsInterEntry s (InterOffers s p) o → IsEntry s p e → e.kind ≡ Inter → o ≡ Some e
  inter_there o e is entry kind = elim entry.best [
    | inl w ↦ let wrong : Intra ≡ Inter = sym (ap (λ (x : Entry). x.kind) w.2) ∙ kind in absurd cc
    | inr others ↦ elim others [
      | inl w ↦ inter_same o e is w.0 w.1 w.2 w.3 entry.in_order w.4
      | inr w ↦ absurd ((not_external w.0.kind).1 (sym (ap (λ (x : Entry). x.kind) w.2) ∙ kind))
    ]
  ]

-- ---- AS boundary routers

module _ (s : Inputs) (router : ℕ) where
  pub preferred_is : (o : Option PreferredValue) (w : PreferredValue) → IsPreferredFor (BoundaryOffers s router) o → o ≡ Some w → IsPreferred s router w.preference w.hops
  preferred_is None w is same = absurd cc
  preferred_is (Some x) w is same = let one : x ≡ w = cc in subst (λ (y : PreferredValue). IsPreferred s router y.preference y.hops) one is.0

  pub preferred_there : (o : Option PreferredValue) → IsPreferredFor (BoundaryOffers s router) o → (k : Preference) (hops : List NextHop) → IsPreferred s router k hops → (w : PreferredValue) × (o ≡ Some w) × (w.preference ≡ k)
  preferred_there None none k hops best = absurd (none k best.stands.0 best.stands.1)
  preferred_there (Some x) is k hops best = (x, λ _. Some x, same_key preference_total preference_exact (BoundaryOffers s router) x.preference k x.hops hops is.0 best)
