-- Where forwarding addresses lead is what the definitions say (RFC 2328, 16.4).
--   nothing_inside: a network has no internal entry where the definitions give it neither an
--     intra-area nor an inter-area one
--   forward_right: where an address leads is what the definitions say
use Rattle.std.proofs.Common.{◌≡◌, ℕ, ◌≤◌, Option, Some, None, true≢false, refl, sym, ap, subst, ◌∙◌, ◌⊎◌, inl, inr, arith}
use Rattle.std.specs.Prelude.{◌↔◌, Bool, IsSome}
use Rattle.std.specs.Cmp.{nat_cmp_total}
use Rattle.std.specs.FinMap.{get}
use Rattle.std.specs.List.{Contains}
use Rattle.std.proofs.lemmas.Map.Lookups.{exact_unsigned}
use Rattle.ospf_types.specs.declared.entry.Entry.{Entry}
use Rattle.ospf_types.specs.declared.hop.NextHop.{NextHop}
use Rattle.ospf_types.specs.declared.hop.Path.{Path}
use Rattle.ospf_types.specs.declared.key.Dest.TheVariants.{Net}
use Rattle.ospf_types.specs.declared.prefix.Prefix.{Prefix}
use Rattle.ospf_types.specs.Boundary.{class_of}
use Rattle.ospf_types.specs.External.{InternalReaches, IsForward, toward}
use Rattle.ospf_types.specs.Inputs.{Inputs}
use Rattle.ospf_types.specs.Inter.{InterOffers, IsInter, NoInter}
use Rattle.ospf_types.specs.Intra.{AreaCost, IntraOffers, IsIntra, NoIntra}
use Rattle.ospf_types.specs.Masks.{masked}
use Rattle.ospf_types.specs.Ranges.{IsActivePrefix}
use Rattle.ospf_types.proofs.Forwards.{same_longest}
use Rattle.ospf_types.proofs.OneBest.{same_key}
use Rattle.ospf_types.proofs.Orders.{area_cost_total, area_cost_exact}
use Rattle.intra.specs.Intras.{IsEntryFor as IsIntraEntry}
use Rattle.inter.specs.Right.{IsEntryOf as IsInterEntry}
use Rattle.external.specs.Forwards.{ForwardValue, InternalLeads, IsLongest, IsMatchOf, IsForwardOf, LeadsByMatch, Matches, WayOffers, class_at, internal_entry}
use Rattle.external.specs.Inputs.{ExternalInputsValue}
use Rattle.external.specs.Right.{AreInputsOf}

-- ---- the internal entry of a network

-- a path of the entry, whose class is `own`
abbrev Over : Entry → ℕ → ℕ → ℕ → NextHop → Type 0
Over e own class cost h = (path : Path) × (e.cost ≡ cost) × (own ≡ class) × Contains e.paths path × (path.hop ≡ h)

abbrev ReachedRouter : Inputs → Prefix → Type 0
ReachedRouter s p = (class cost : ℕ) × (h : NextHop) × InternalReaches s p class cost h

-- the entry has a path, and says what the definitions say
record IsInternal (s : Inputs) (p : Prefix) (e : Entry) (own : ℕ) : Type 0 where
  first : (path : Path) × Contains e.paths path
  says : (class cost : ℕ) (h : NextHop) → Over e own class cost h ↔ InternalReaches s p class cost h

abbrev IsInternalIn : Inputs → Prefix → (Option ℕ → ℕ) → Option Entry → Type 0
IsInternalIn s p classes None = NoIntra s p × NoInter s p
IsInternalIn s p classes (Some e) = IsInternal s p e (classes e.area)

module _ (s : Inputs) (p : Prefix) (e : Entry) (own : ℕ) where
  inside_is : (is : IsIntraEntry (IntraOffers s p) (Some e)) → own ≡ class_of s.compat (Some is.0.1) → IsInternal s p e own
  inside_is is class_is = record {
    first = (is.1.stands.0, (is.1.union is.1.stands.0).1 is.1.stands.1);
    says = λ class cost h. (
      λ o. inl (is.0.1, e.paths, o.0, subst (λ (c : ℕ). IsIntra s p (c, is.0.1) e.paths) (sym (ap (λ (t : Entry). t.cost) is.3) ∙ o.1) is.1, o.3, o.4, sym o.2 ∙ class_is),
      λ r. elim r [
        | inl intra ↦
            let same : is.0 ≡ (cost, intra.0) = same_key area_cost_total area_cost_exact (IntraOffers s p) is.0 (cost, intra.0) e.paths intra.1 is.1 intra.3 in (
              intra.2,
              ap (λ (t : Entry). t.cost) is.3 ∙ ap (λ (k : AreaCost). k.0) same,
              class_is ∙ ap (λ (k : AreaCost). class_of s.compat (Some k.1)) same ∙ sym intra.6,
              (is.1.union intra.2).1 (subst (λ (k : AreaCost). IntraOffers s p k intra.2) (sym same) ((intra.3.union intra.2).0 intra.4)),
              intra.5,
            )
        | inr inter ↦ absurd (inter.2.stands.1.10 is.0 is.1.stands.0 is.1.stands.1)
      ],
    );
  }

  between_is : IsInterEntry s (InterOffers s p) (Some e) → NoIntra s p → own ≡ class_of s.compat None → IsInternal s p e own
  between_is (inr none) outside class_is = let both : Some e ≡ None = none.1 in absurd cc
  between_is (inl one) outside class_is =
      let is = one.2 in
      record {
        first = (is.1.stands.0, (is.1.union is.1.stands.0).1 is.1.stands.1);
        says = λ class cost h. (
          λ o. inr (e.paths, o.0, subst (λ (c : ℕ). IsInter s p c e.paths) (sym (ap (λ (t : Entry). t.cost) is.3) ∙ o.1) is.1, o.3, o.4, sym o.2 ∙ class_is),
          λ r. elim r [
            | inl intra ↦ absurd (outside (cost, intra.0) intra.3.stands.0 intra.3.stands.1)
            | inr inter ↦
                let same : is.0 ≡ cost = same_key nat_cmp_total exact_unsigned (InterOffers s p) is.0 cost e.paths inter.0 is.1 inter.2 in (
                  inter.1,
                  ap (λ (t : Entry). t.cost) is.3 ∙ same,
                  class_is ∙ sym inter.5,
                  (is.1.union inter.1).1 (subst (λ (c : ℕ). InterOffers s p c inter.1) (sym same) ((inter.2.union inter.1).0 inter.3)),
                  inter.4,
                )
          ],
        );
      }

none_between : (s : Inputs) (p : Prefix) → IsInterEntry s (InterOffers s p) None → NoInter s p
none_between s p (inl one) = one.2
none_between s p (inr none) = λ cost path offer. none.0 offer.0 offer.8.examined

module _ (s : Inputs) (v : ExternalInputsValue) (are : AreInputsOf s v) (p : Prefix) where
  by_entries : (x y : Option Entry) → get v.intra.entries p ≡ x → get v.inter.entries (Net p) ≡ y → IsIntraEntry (IntraOffers s p) x → IsInterEntry s (InterOffers s p) y → IsInternalIn s p (class_at v p) (internal_entry v p)
  by_entries (Some e) y inside between is also =
      let known : internal_entry v p ≡ Some e = rw inside refl in
      let class_is : class_at v p e.area ≡ class_of s.compat (Some is.0.1) = ap (class_at v p) (ap (λ (t : Entry). t.area) is.3) ∙ rw inside (ap (λ (b : Bool). class_of b (Some is.0.1)) are.compat) in
      subst (IsInternalIn s p (class_at v p)) (sym known) (inside_is s p e (class_at v p e.area) is class_is)
  by_entries None (Some e) inside between is also =
      let known : internal_entry v p ≡ Some e = rw inside between in
      let class_is : class_at v p e.area ≡ class_of s.compat None = rw inside (ap (λ (b : Bool). class_of b None) are.compat) in
      subst (IsInternalIn s p (class_at v p)) (sym known) (between_is s p e (class_at v p e.area) also is class_is)
  by_entries None None inside between is also =
      let known : internal_entry v p ≡ None = rw inside between in
      subst (IsInternalIn s p (class_at v p)) (sym known) (is, none_between s p also)

  internal_is : IsInternalIn s p (class_at v p) (internal_entry v p)
  internal_is = by_entries (get v.intra.entries p) (get v.inter.entries (Net p)) refl refl (are.intra.entries p) (are.inter.networks p)

  some_is : (o : Option Entry) → IsInternalIn s p (class_at v p) o → IsSome o ↔ ReachedRouter s p
  some_is None is = (
    λ some. absurd (true≢false (sym some)),
    λ r. elim r.3 [
      | inl intra ↦ absurd (is.0 (r.1, intra.0) intra.3.stands.0 intra.3.stands.1)
      | inr inter ↦ absurd (is.1 r.1 inter.2.stands.0 inter.2.stands.1)
    ],
  )
  some_is (Some e) is = (
    λ some. (class_at v p e.area, e.cost, is.first.0.hop, (is.says (class_at v p e.area) e.cost is.first.0.hop).0 (is.first.0, refl, refl, is.first.1, refl)),
    λ r. refl,
  )

  none_is : (o : Option Entry) → IsInternalIn s p (class_at v p) o → (o ≡ None) ↔ (NoIntra s p × NoInter s p)
  none_is None is = (λ e. is, λ none. refl)
  none_is (Some e) is = (
    λ both. absurd cc,
    λ none.
        let r = (some_is (Some e) is).0 refl in
        elim r.3 [
          | inl intra ↦ absurd (none.0 (r.1, intra.0) intra.3.stands.0 intra.3.stands.1)
          | inr inter ↦ absurd (none.1 r.1 inter.2.stands.0 inter.2.stands.1)
        ],
  )

  -- a network has no internal entry where the definitions give it none
  pub nothing_inside : (internal_entry v p ≡ None) ↔ (NoIntra s p × NoInter s p)
  nothing_inside = none_is (internal_entry v p) internal_is

  leads_is : (o : Option Entry) → internal_entry v p ≡ o → IsInternalIn s p (class_at v p) o → (class cost : ℕ) (h : NextHop) → InternalLeads v p class cost h ↔ InternalReaches s p class cost h
  leads_is None known is class cost h = (
    λ l. let both : None ≡ Some l.0 = sym known ∙ l.2 in absurd cc,
    λ r. absurd (true≢false (sym ((some_is None is).1 (class, cost, h, r)))),
  )
  leads_is (Some e) known is class cost h = (
    λ l.
        let both : Some e ≡ Some l.0 = sym known ∙ l.2 in
        let same : e ≡ l.0 = cc in
        (is.says class cost h).0 (
          l.1,
          ap (λ (t : Entry). t.cost) same ∙ l.3,
          ap (λ (t : Entry). class_at v p t.area) same ∙ l.4,
          subst (λ (t : Entry). Contains t.paths l.1) (sym same) l.5,
          l.6,
        ),
    λ r. let o = (is.says class cost h).1 r in (e, o.0, known, o.1, o.2, o.3, o.4),
  )

  internal_right : (class cost : ℕ) (h : NextHop) → InternalLeads v p class cost h ↔ InternalReaches s p class cost h
  internal_right = leads_is (internal_entry v p) refl internal_is

  matches_right : Matches v p ↔ (ReachedRouter s p ⊎ IsActivePrefix s p)
  matches_right = (
    λ m. elim m [ inl some ↦ inl ((some_is (internal_entry v p) internal_is).0 some) | inr active ↦ inr ((are.ranges p).0 active) ],
    λ m. elim m [ inl reached ↦ inl ((some_is (internal_entry v p) internal_is).1 reached) | inr active ↦ inr ((are.ranges p).1 active) ],
  )

-- ---- a forwarding address

-- the longest match of the address leads there
abbrev pub ForwardReaches : Inputs → ℕ → ℕ → ℕ → NextHop → Type 0
ForwardReaches s address class x h = (p : Prefix) × (first : NextHop) × IsForward s address p × InternalReaches s p class x first × (h ≡ toward address first)

module _ (s : Inputs) (v : ExternalInputsValue) (are : AreInputsOf s v) (address : ℕ) where
  forward_of : (p : Prefix) → IsLongest v address p → ReachedRouter s p → IsForward s address p
  forward_of p is reached = record {
    within = is.within;
    contains = is.contains;
    entry = reached;
    longest = (same_longest s address p).1 (λ q short has known. is.longest q short has ((matches_right s v are q).1 known));
  }

  -- the longest match is one
  one_match : (p q : Prefix) → IsForward s address p → IsLongest v address q → p ≡ q
  one_match p q forward is =
      let below : p.length ≤ q.length = is.longest p forward.within forward.contains ((matches_right s v are p).1 (inl forward.entry)) in
      let above : q.length ≤ p.length = (same_longest s address p).0 forward.longest q is.within is.contains ((matches_right s v are q).0 is.matches) in
      let length : p.length ≡ q.length = omega (arith, below, above) in
      let start : p.address ≡ q.address = sym forward.contains ∙ ap (masked address) length ∙ is.contains in
      λ i. record { address = start i; length = length i }

  match_right : (m : Option Prefix) → IsMatchOf v address m → (class x : ℕ) (h : NextHop) → LeadsByMatch v address m class x h ↔ ForwardReaches s address class x h
  match_right None is class x h = (
    λ l. absurd l,
    λ w. absurd (is w.0 w.2.within w.2.contains ((matches_right s v are w.0).1 (inl w.2.entry))),
  )
  match_right (Some q) is class x h = (
    λ l. let reaches = (internal_right s v are q class x l.0).0 l.1 in (q, l.0, forward_of q is (class, x, l.0, reaches), reaches, l.2),
    λ w.
        let same = one_match w.0 q w.2 is in
        (w.1, (internal_right s v are q class x w.1).1 (subst (λ (t : Prefix). InternalReaches s t class x w.1) same w.3), w.4),
  )

  -- where an address leads is what the definitions say
  pub forward_right : (f : ForwardValue) → IsForwardOf v address f → (class x : ℕ) (h : NextHop) → WayOffers f.way class x h ↔ ForwardReaches s address class x h
  forward_right f is class x h =
      let way = is.way class x h in
      let led = match_right f.matched is.matched class x h in
      (λ o. led.0 (way.0 o), λ w. way.1 (led.1 w))
