-- A metric due to a destination that is not affected stays due, where the routes differ in no more
-- than is named.
--   due_stays: it is due at a metric now just where it was
use Rattle.std.proofs.Common.{◌≡◌, ℕ, List, Option, Some, None, refl, sym, subst, ◌∙◌, inl, inr}
use Rattle.std.specs.Prelude.{◌↔◌, Contains}
use Rattle.std.specs.FinMap.{get}
use Rattle.std.proofs.lemmas.List.Elements.{All-contains}
use Rattle.ospf_types.specs.declared.config.AreaConfig.{AreaConfig}
use Rattle.ospf_types.specs.declared.config.Range.{Range}
use Rattle.ospf_types.specs.declared.config.Stub.{Stub}
use Rattle.ospf_types.specs.declared.entry.Entry.{Entry}
use Rattle.ospf_types.specs.declared.key.Dest.{Dest}
use Rattle.ospf_types.specs.declared.key.Dest.TheVariants.{Net, Router}
use Rattle.ospf_types.specs.declared.prefix.Prefix.{Prefix}
use Rattle.ospf_types.specs.Address.{Covers}
use Rattle.ospf_types.specs.Summaries.{IsGreatest}
use Rattle.external.specs.AsbrRoute.{PreferredValue}
use Rattle.active_ranges.proofs.Searching.{all_lack}
use Rattle.active_ranges.specs.Active.{IsRangeNetwork, RangesDifferAt}
use Rattle.active_ranges.specs.declared.member.RangeMember.{RangeMember}
use Rattle.summaries.specs.Changes.{InputsDifferAmong}
use Rattle.summaries.specs.Giving.{GivesIn, IsRangeAdvertised, IsComponentIn, IsDueIn, IsDueTo, IsNetworkDueIn, IsOutsideRanges, IsRouterDueIn, IsServed, PreferredGives}
use Rattle.summaries.specs.Inputs.{SummaryInputsValue}
use Rattle.summaries.specs.Touched.{IsRangeOver, IsTouchedBy}

-- ---- what two sides share, in either direction

record AreAlike (dests : List Dest) (a b : SummaryInputsValue) : Type 0 where
  pub range : Option (ℕ × Prefix)
  pub ranges : RangesDifferAt range a.areas b.areas
  pub prefix : (area : ℕ) (p : Prefix) → range ≡ Some (area, p) → Contains dests (Net p)
  pub within : (area : ℕ) (q p : Prefix) → range ≡ Some (area, q) → (Contains dests (Net p) → ⊥) → IsRangeNetwork a.intra.entries area q p → ⊥
  pub active : b.active ≡ a.active
  pub intra : (p : Prefix) → (Contains dests (Net p) → ⊥) → get b.intra.entries p ≡ get a.intra.entries p
  pub members : (m : RangeMember) → (Contains dests (Net m.network) → Covers m.range m.network → ⊥) → get b.ranges.members m ≡ get a.ranges.members m
  pub inter : (p : Prefix) → (Contains dests (Net p) → ⊥) → get b.inter.entries (Net p) ≡ get a.inter.entries (Net p)
  pub preferred : (r : ℕ) → (Contains dests (Router r) → ⊥) → get b.external.preferred r ≡ get a.external.preferred r

turned : (dests : List Dest) (a b : SummaryInputsValue) → AreAlike dests a b → AreAlike dests b a
turned dests a b alike = record {
  range = alike.range;
  ranges = λ area r other. let w = alike.ranges area r other in (w.1, w.0);
  prefix = alike.prefix;
  within = λ area q p is absent w. alike.within area q p is absent (w.0, sym (alike.intra p absent) ∙ w.1, w.2, w.3);
  active = sym alike.active;
  intra = λ p absent. sym (alike.intra p absent);
  members = λ m absent. sym (alike.members m absent);
  inter = λ p absent. sym (alike.inter p absent);
  preferred = λ r absent. sym (alike.preferred r absent);
}

greatest_same : (P Q : ℕ → Type 0) → ((n : ℕ) → P n → Q n) → ((n : ℕ) → Q n → P n) → (n : ℕ) → IsGreatest P n → IsGreatest Q n
greatest_same P Q there back n is = record { holds = there n is.holds; greatest = λ m q. is.greatest m (back m q) }

-- ---- networks

-- the ranges with the prefix have no named network
abbrev IsQuiet : List Dest → Prefix → Type 0
IsQuiet dests p = (network : Prefix) → Contains dests (Net network) → Covers p network → ⊥

-- where the prefix belongs to a range, and is not affected
quiet : (areas : List AreaConfig) (dests : List Dest) (p : Prefix) (through : ℕ) → (IsTouchedBy areas dests (Net p) → ⊥) → IsRangeAdvertised areas through p → IsQuiet dests p
quiet areas dests p through untouched range network named covers =
    let over : IsRangeOver areas dests p = (range.0, range.1, network, range.2, range.4, range.5, named, covers) in
    untouched (inr (p, refl, over))

module _ (dests : List Dest) (a b : SummaryInputsValue) (alike : AreAlike dests a b) (p : Prefix) (unnamed : Contains dests (Net p) → ⊥) where
  -- no range of the area covers the network now, if none did
  outside_stays : (through : ℕ) (e : Entry) → get a.intra.entries p ≡ Some e → e.area ≡ Some through → IsOutsideRanges a.areas through p → IsOutsideRanges b.areas through p
  outside_stays through e held area outside x there id =
      let none : (r : Range) → Contains x.ranges r → Covers r.prefix p → ⊥ = λ r range covers.
      let other : alike.range ≡ Some (through, r.prefix) → ⊥ = λ named. alike.within through r.prefix p named unnamed (e, held, area, covers) in
      let was = (alike.ranges through r other).0 (x, there, id, range) in
      All-contains (λ (q : Range). Covers q.prefix p → ⊥) was.0.ranges r (outside was.0 was.1 was.2) was.3 covers in
      all_lack (λ (q : Range). Covers q.prefix p) x.ranges none

  -- and one with the prefix is advertised now, if it was
  advertised_stays : (through : ℕ) → IsRangeAdvertised a.areas through p → IsRangeAdvertised b.areas through p
  advertised_stays through w =
      let r = w.1 in
      let other : alike.range ≡ Some (through, r.prefix) → ⊥ = λ named. unnamed (subst (λ (q : Prefix). Contains dests (Net q)) w.5 (alike.prefix through r.prefix named)) in
      let now = (alike.ranges through r other).1 (w.0, w.2, w.3, w.4) in
      (now.0, r, now.1, now.2, now.3, w.5, w.6)

module _ (dests : List Dest) (a b : SummaryInputsValue) (alike : AreAlike dests a b) (p : Prefix) where
  component_stays : (through cost : ℕ) → IsQuiet dests p → IsComponentIn a through p cost → IsComponentIn b through p cost
  component_stays through cost none is =
      let had = is.0 in
      let m : RangeMember = record { range = p; area = through; network = had.0 } in
      ((had.0, alike.members m (none had.0) ∙ had.1), is.1)

module _ (dests : List Dest) (a b : SummaryInputsValue) (alike : AreAlike dests a b) (p : Prefix) (untouched : IsTouchedBy a.areas dests (Net p) → ⊥) where
  gives_stays : (area m : ℕ) → GivesIn a area p m → GivesIn b area p m
  gives_stays area m gives =
      let unnamed : Contains dests (Net p) → ⊥ = λ named. untouched (inl named) in
      elim gives [
        | inl own ↦ inl (own.0, own.1, alike.intra p unnamed ∙ own.2, own.3, outside_stays dests a b alike p unnamed own.1 own.0 own.2 own.3.through_area own.4, own.5)
        | inr (inl far) ↦ inr (inl (far.0, far.1, alike.inter p unnamed ∙ far.2, far.3, far.4))
        | inr (inr range) ↦
            let through = range.0 in
            let none = quiet a.areas dests p through untouched range.1 in
            inr (inr (
              through,
              advertised_stays dests a b alike p unnamed through range.1,
              range.2,
              greatest_same (IsComponentIn a through p) (IsComponentIn b through p) (λ n is. component_stays dests a b alike p through n none is) (λ n is. component_stays dests b a (turned dests a b alike) p through n none is) m range.3,
            ))
      ]

-- ---- all destinations

-- what is affected by the ranges of the one is by those of the other
touched_stays : (dests : List Dest) (a b : SummaryInputsValue) → AreAlike dests a b → (d : Dest) → (IsTouchedBy a.areas dests d → ⊥) → IsTouchedBy b.areas dests d → ⊥
touched_stays dests a b alike d untouched affected = elim affected [
  | inl named ↦ untouched (inl named)
  | inr over ↦
      let p = over.0 in
      let w = over.2 in
      let x : AreaConfig = w.0 in
      let r : Range = w.1 in
      let other : alike.range ≡ Some (x.id, r.prefix) → ⊥ = λ named.
      untouched (inl (subst (λ (e : Dest). Contains dests e) (sym over.1) (subst (λ (q : Prefix). Contains dests (Net q)) w.5 (alike.prefix x.id r.prefix named)))) in
      let was = (alike.ranges x.id r other).0 (x, w.3, refl, w.4) in
      untouched (inr (p, over.1, (was.0, r, w.2, was.1, was.3, w.5, w.6, w.7)))
]

module _ (dests : List Dest) (a b : SummaryInputsValue) (alike : AreAlike dests a b) where
  network_stays : (p : Prefix) → (IsTouchedBy a.areas dests (Net p) → ⊥) → (area : ℕ) (stub : Option Stub) (m : ℕ) → IsNetworkDueIn a area stub p m → IsNetworkDueIn b area stub p m
  network_stays p untouched area stub m due =
      let other : IsTouchedBy b.areas dests (Net p) → ⊥ = touched_stays dests a b alike (Net p) untouched in
      let greatest = greatest_same (GivesIn a area p) (GivesIn b area p) (λ n is. gives_stays dests a b alike p untouched area n is) (λ n is. gives_stays dests b a (turned dests a b alike) p other area n is) m in
      go stub greatest due
    where
      go : (stub : Option Stub) → (IsGreatest (GivesIn a area p) m → IsGreatest (GivesIn b area p) m) → IsNetworkDueIn a area stub p m → IsNetworkDueIn b area stub p m
      go None greatest due = greatest due
      go (Some stub) greatest due = elim due [ inl own ↦ inl own | inr told ↦ inr (told.0, told.1, greatest told.2) ]

  router_stays : (r : ℕ) → (Contains dests (Router r) → ⊥) → (area : ℕ) (stub : Option Stub) (m : ℕ) → IsRouterDueIn a area stub r m → IsRouterDueIn b area stub r m
  router_stays r unnamed area None m due = subst (λ (o : Option PreferredValue). PreferredGives o area m) (sym (alike.preferred r unnamed)) due
  router_stays r unnamed area (Some stub) m due = due

  to_stays : (d : Dest) → (IsTouchedBy a.areas dests d → ⊥) → (x : AreaConfig) (m : ℕ) → IsDueTo a x d m → IsDueTo b x d m
  to_stays (Net p) untouched x m due = network_stays p untouched x.id x.stub m due
  to_stays (Router r) untouched x m due = router_stays r (λ named. untouched (inl named)) x.id x.stub m due

  one_way : (d : Dest) → (IsTouchedBy a.areas dests d → ⊥) → (x : AreaConfig) (m : ℕ) → IsDueIn a x d m → IsDueIn b x d m
  one_way d untouched x m due = record { served = subst (λ (active : List ℕ). IsServed active x.id) (sym alike.active) due.served; due = to_stays d untouched x m due.due }

module _ (dests : List Dest) (old new : SummaryInputsValue) (differ : InputsDifferAmong dests old new) (active : new.active ≡ old.active) where
  alike : AreAlike dests old new
  alike = record {
    range = differ.range;
    ranges = differ.ranges;
    prefix = λ area p is. (differ.whole area p is).0;
    within = λ area q p is absent w. absent ((differ.whole area q is).1 p w);
    active = active;
    intra = differ.intra;
    members = differ.members;
    inter = differ.inter;
    preferred = differ.preferred;
  }

  pub due_stays : (d : Dest) → (IsTouchedBy new.areas dests d → ⊥) → (x : AreaConfig) (m : ℕ) → IsDueIn old x d m ↔ IsDueIn new x d m
  due_stays d untouched x m =
      let back = turned dests old new alike in (
        one_way dests old new alike d (touched_stays dests new old back d untouched) x m,
        one_way dests new old back d untouched x m,
      )
