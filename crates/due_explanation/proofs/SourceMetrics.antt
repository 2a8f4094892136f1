-- The metric at which a summary is due, and when none is.
use Rattle.std.proofs.Common.{◌≡◌, ◌≢◌, ℕ, true, false, List, Option, Some, None, refl, sym, ap, subst, ◌∙◌, inl, inr}
use Rattle.std.specs.Prelude.{◌↔◌, Contains}
use Rattle.std.specs.FinMap.{get}
use Rattle.std.proofs.lemmas.Bool.{cases_eq}
use Rattle.ospf_types.specs.declared.config.AreaConfig.{AreaConfig}
use Rattle.ospf_types.specs.declared.config.Stub.{Stub}
use Rattle.ospf_types.specs.declared.key.Dest.{Dest}
use Rattle.ospf_types.specs.declared.key.Dest.TheVariants.{Net, Router}
use Rattle.ospf_types.specs.declared.prefix.Prefix.{Prefix}
use Rattle.ospf_types.specs.Summaries.{IsGreatest, default_route}
use Rattle.active_ranges.proofs.Greatest.{is_greatest}
use Rattle.external.specs.AsbrRoute.{PreferredValue}
use Rattle.summaries.specs.Giving.{GivesIn, IsDueIn, IsDueTo, IsMost, IsNetworkDueIn, IsRouterDueIn, IsServed, PreferredGives}
use Rattle.summaries.specs.Inputs.{SummaryInputsValue}
use Rattle.due_explanation.specs.Reasons.{AreSeveral, IsReason, IsStubReason, MaySend}
use Rattle.due_explanation.specs.Sources.{AreNetworkSources, AreRouterSources, AreSources, GivesAmong}
use Rattle.due_explanation.specs.declared.due.DueReason.{DueReason}
use Rattle.due_explanation.specs.declared.due.DueReason.TheVariants as reason
use Rattle.due_explanation.specs.declared.due.DueSource.{DueSource}
use Rattle.due_explanation.proofs.Fates.{given_listed, network_gives, preferred_gives, some_same}

-- ---- an area that is active, of several

pub served : (active : List ℕ) (area : ℕ) → AreSeveral active → Contains active area → IsServed active area
served active area two here = record {
  here = here;
  other = elim (cases_eq two.0 area) [
    | inl same ↦ (two.1, two.3, λ e. two.4 (same ∙ sym e))
    | inr apart ↦ (two.0, two.2, apart)
  ];
}

pub several : (active : List ℕ) (area : ℕ) → IsServed active area → AreSeveral active
several active area is = (is.other.0, area, is.other.1, is.here, is.other.2)

-- ---- by the sources

module _ (v : SummaryInputsValue) (area : ℕ) where
  network_metric : (p : Prefix) (sources : List DueSource) (metric : Option ℕ) → AreNetworkSources v p sources → IsMost (GivesAmong area sources) metric → (m : ℕ) → (metric ≡ Some m) ↔ IsGreatest (GivesIn v area p) m
  network_metric p sources metric are most = is_greatest (GivesIn v area p) metric (λ n e. (network_gives v area p sources are n).0 (most.found n e)) (λ n g. most.reached n ((network_gives v area p sources are n).1 g))

  network_due : (stub : Option Stub) (p : Prefix) → MaySend stub (Net p) → (m : ℕ) → IsGreatest (GivesIn v area p) m ↔ IsNetworkDueIn v area stub p m
  network_due None p may m = (λ g. g, λ d. d)
  network_due (Some stub) p may m = (λ g. inr (may.0, may.1, g), λ d. elim d [ inl w ↦ absurd (may.0 w.0) | inr w ↦ w.2 ])

  router_gives : (preferred : Option PreferredValue) (sources : List DueSource) → AreRouterSources preferred sources → (n : ℕ) → GivesAmong area sources n ↔ PreferredGives preferred area n
  router_gives preferred sources are n =
      let one = given_listed area are.0 n in
      let by = preferred_gives area preferred are.0 are.1 n in (
        λ w. by.0 (one.0 (subst (λ (xs : List DueSource). GivesAmong area xs n) are.2 w)),
        λ g. subst (λ (xs : List DueSource). GivesAmong area xs n) (sym are.2) (one.1 (by.1 g)),
      )

  router_metric : (preferred : Option PreferredValue) (sources : List DueSource) (metric : Option ℕ) → AreRouterSources preferred sources → IsMost (GivesAmong area sources) metric → (m : ℕ) → (metric ≡ Some m) ↔ PreferredGives preferred area m
  router_metric preferred sources metric are most m = (
    λ e. (router_gives preferred sources are m).0 (most.found m e),
    λ g.
        let r = most.reached m ((router_gives preferred sources are m).1 g) in
        let other = (router_gives preferred sources are r.0).0 (most.found r.0 r.1) in
        let same : other.0 ≡ g.0 = some_same (sym other.1 ∙ g.1) in
        let cost : r.0 ≡ m = sym other.4 ∙ ap (λ (w : PreferredValue). w.preference.cost) same ∙ g.4 in
        r.1 ∙ ap Some cost,
  )

  router_due : (stub : Option Stub) (router : ℕ) → MaySend stub (Router router) → (m : ℕ) → PreferredGives (get v.external.preferred router) area m ↔ IsRouterDueIn v area stub router m
  router_due None router may m = (λ g. g, λ d. d)
  router_due (Some stub) router may m = absurd may

module _ (v : SummaryInputsValue) (a : AreaConfig) where
  -- it is due, where the area is one of several that are active
  pub due_served : (d : Dest) (metric : Option ℕ) → IsServed v.active a.id → ((m : ℕ) → (metric ≡ Some m) ↔ IsDueTo v a d m) → (m : ℕ) → (metric ≡ Some m) ↔ IsDueIn v a d m
  due_served d metric is due m = (λ e. record { served = is; due = (due m).0 e }, λ w. (due m).1 w.due)

  pub sources_due : (d : Dest) (sources : List DueSource) (metric : Option ℕ) → MaySend a.stub d → AreSources v d sources → IsMost (GivesAmong a.id sources) metric → (m : ℕ) → (metric ≡ Some m) ↔ IsDueTo v a d m
  sources_due (Net p) sources metric may are most m =
      let by = network_metric v a.id p sources metric are most m in
      let due = network_due v a.id a.stub p may m in
      (λ e. due.0 (by.0 e), λ d. by.1 (due.1 d))
  sources_due (Router router) sources metric may are most m =
      let by = router_metric v a.id (get v.external.preferred router) sources metric are most m in
      let due = router_due v a.id a.stub router may m in
      (λ e. due.0 (by.0 e), λ d. by.1 (due.1 d))

  -- ---- none is due

  none_due : (d : Dest) → (IsServed v.active a.id → ⊥) → (m : ℕ) → (None ≡ Some m) ↔ IsDueIn v a d m
  none_due d not m = (λ e. absurd (let wrong : None ≡ Some m = e in cc), λ w. absurd (not w.served))

  pub none_unless_several : (d : Dest) → (AreSeveral v.active → ⊥) → (m : ℕ) → (None ≡ Some m) ↔ IsDueIn v a d m
  none_unless_several d not = none_due d (λ is. not (several v.active a.id is))

  pub none_unless_active : (d : Dest) → (Contains v.active a.id → ⊥) → (m : ℕ) → (None ≡ Some m) ↔ IsDueIn v a d m
  none_unless_active d not = none_due d (λ is. not is.here)

-- ---- what a stub area decides

module _ (v : SummaryInputsValue) (area : ℕ) where
  abbrev DueAs : Option Stub → Dest → ℕ → Type 0
  DueAs stub (Net p) m = IsNetworkDueIn v area stub p m
  DueAs stub (Router router) m = IsRouterDueIn v area stub router m

  default_due : (stub : Stub) (m : ℕ) → (stub.cost ≡ m) ↔ IsNetworkDueIn v area (Some stub) default_route m
  default_due stub m = (λ e. inl (refl, sym e), λ d. elim d [ inl w ↦ sym w.1 | inr w ↦ absurd (w.0 refl) ])

  hidden : (stub : Stub) (p : Prefix) → p ≢ default_route → stub.summaries ≡ false → (m : ℕ) → IsNetworkDueIn v area (Some stub) p m → ⊥
  hidden stub p other hides m due = elim due [ inl w ↦ other w.0 | inr w ↦ let wrong : true ≡ false = sym w.1 ∙ hides in absurd cc ]

  not_due : (metric : Option ℕ) (P : ℕ → Type 0) → metric ≡ None → ((m : ℕ) → P m → ⊥) → (m : ℕ) → (metric ≡ Some m) ↔ P m
  not_due metric P none not m = (λ e. absurd (let wrong : None ≡ Some m = sym none ∙ e in cc), λ p. absurd (not m p))

  stub_due_as : (stub : Option Stub) (d : Dest) (metric : Option ℕ) (r : DueReason) → IsStubReason stub d metric r → (m : ℕ) → (metric ≡ Some m) ↔ DueAs stub d m
  stub_due_as None d metric r is m = absurd is
  stub_due_as (Some stub) d metric reason.StubRouter is m = not_due metric (DueAs (Some stub) d) is.2 (λ n w. subst (λ (x : Dest). DueAs (Some stub) x n) is.1 w) m
  stub_due_as (Some stub) d metric reason.StubDefault is m =
      let by = default_due stub m in (
        λ e. subst (λ (x : Dest). DueAs (Some stub) x m) (sym is.0) (by.0 (some_same (sym is.1 ∙ e))),
        λ w. is.1 ∙ ap Some (by.1 (subst (λ (x : Dest). DueAs (Some stub) x m) is.0 w)),
      )
  stub_due_as (Some stub) d metric reason.StubHides is m = not_due metric (DueAs (Some stub) d) is.4 (λ n w. hidden stub is.0 is.2 is.3 n (subst (λ (x : Dest). DueAs (Some stub) x n) is.1 w)) m
  stub_due_as (Some stub) d metric r is m = absurd is

pub stub_due : (v : SummaryInputsValue) (a : AreaConfig) (d : Dest) (metric : Option ℕ) (r : DueReason) → IsStubReason a.stub d metric r → (m : ℕ) → (metric ≡ Some m) ↔ IsDueTo v a d m
stub_due v a (Net p) metric r is m = stub_due_as v a.id a.stub (Net p) metric r is m
stub_due v a (Router router) metric r is m = stub_due_as v a.id a.stub (Router router) metric r is m

abbrev IsOfStub : DueReason → Type 0
IsOfStub reason.StubRouter = Unit {0}
IsOfStub reason.StubDefault = Unit {0}
IsOfStub reason.StubHides = Unit {0}
IsOfStub r = ⊥

of_stub : (stub : Option Stub) (d : Dest) (metric : Option ℕ) (r : DueReason) → IsStubReason stub d metric r → IsOfStub r
of_stub None d metric r is = absurd is
of_stub (Some stub) d metric reason.StubRouter is = tt
of_stub (Some stub) d metric reason.StubDefault is = tt
of_stub (Some stub) d metric reason.StubHides is = tt
of_stub (Some stub) d metric r is = absurd is

pub stub_why : (v : SummaryInputsValue) (a : AreaConfig) (d : Dest) (metric : Option ℕ) (r : DueReason) → IsServed v.active a.id → IsStubReason a.stub d metric r → IsReason v a d metric r
stub_why v a d metric reason.StubRouter active is = (active, is)
stub_why v a d metric reason.StubDefault active is = (active, is)
stub_why v a d metric reason.StubHides active is = (active, is)
stub_why v a d metric r active is = absurd (of_stub a.stub d metric r is)
