-- Which of the destinations that are listed may be due.
use Rattle.std.proofs.Common.{◌≡◌, ℕ, List, Option, Some, None, refl, sym, ap, subst, ◌∙◌, inl, inr}
use Rattle.std.specs.Prelude.{Contains, IsSome, is_some}
use Rattle.std.specs.FinMap.{get}
use Rattle.ospf_types.specs.declared.config.AreaConfig.{AreaConfig}
use Rattle.ospf_types.specs.declared.config.Stub.{Stub}
use Rattle.ospf_types.specs.declared.key.Dest.{Dest}
use Rattle.ospf_types.specs.declared.key.Dest.TheVariants.{Net, Router}
use Rattle.ospf_types.specs.declared.prefix.Prefix.{Prefix}
use Rattle.ospf_types.specs.Address.{Covers}
use Rattle.ospf_types.specs.Summaries.{default_route}
use Rattle.active_ranges.specs.Active.{IsActiveIn}
use Rattle.summaries.specs.Inputs.{SummaryInputsValue}
use Rattle.summaries.specs.Giving.{IsDueIn, IsDueTo, IsNetworkDueIn, IsRouterDueIn, GivesIn}
use Rattle.route_choice.specs.Lists.{GainsAll, IsOfSome}
use Rattle.summaries.specs.Touched.{IsOverIn, IsTouchedBy, IsRangeOver}

-- ---- those that are affected

pub all_touched : (areas : List AreaConfig) (dests found : List Dest) → GainsAll (IsOfSome areas (λ (a : AreaConfig). IsOverIn a.ranges dests)) dests found → (d : Dest) → IsTouchedBy areas dests d → Contains found d
all_touched areas dests found has d affected = elim affected [
  | inl named ↦ has d (inl named)
  | inr over ↦
      let p = over.0 in
      let w : IsRangeOver areas dests p = over.2 in
      let a = w.0 in
      let r = w.1 in
      let network = w.2 in
      let prefix : r.prefix ≡ p = w.5 in
      has d (inr (a, w.3, (r, w.4, (over.1 ∙ ap Net (sym prefix), (Net network, w.6, subst (λ (q : Prefix). Covers q network) (sym prefix) w.7)))))
]

-- ---- those that may be due

is_there : {A : Type 0} {o : Option A} {x : A} → o ≡ Some x → IsSome o
is_there is = ap is_some is

module _ (v : SummaryInputsValue) (found : List Dest)
    (inter : (d : Dest) → IsSome (get v.inter.entries d) → Contains found d)
    (intra : (p : Prefix) → IsSome (get v.intra.entries p) → Contains found (Net p))
    (ranges : (p : Prefix) → IsActiveIn v.ranges p → Contains found (Net p))
    (routers : (r : ℕ) → IsSome (get v.external.preferred r) → Contains found (Router r))
    (default : Contains found (Net default_route)) where
  given : (area : ℕ) (p : Prefix) (m : ℕ) → GivesIn v area p m → Contains found (Net p)
  given area p m gives = elim gives [
    | inl own ↦ intra p (is_there own.2)
    | inr (inl far) ↦ inter (Net p) (is_there far.2)
    | inr (inr range) ↦ let holds = range.3.holds in let cost = holds.0 in ranges p (record { range = p; area = range.0; network = cost.0 }, m, cost.1, refl)
  ]

  network_due : (area : ℕ) (stub : Option Stub) (p : Prefix) (m : ℕ) → IsNetworkDueIn v area stub p m → Contains found (Net p)
  network_due area None p m due = given area p m due.holds
  network_due area (Some stub) p m due = elim due [
    | inl own ↦ subst (λ (q : Prefix). Contains found (Net q)) (sym own.0) default
    | inr told ↦ given area p m told.2.holds
  ]

  router_due : (area : ℕ) (stub : Option Stub) (r m : ℕ) → IsRouterDueIn v area stub r m → Contains found (Router r)
  router_due area None r m due = routers r (is_there due.1)
  router_due area (Some stub) r m due = absurd due

  due_to : (a : AreaConfig) (d : Dest) (m : ℕ) → IsDueTo v a d m → Contains found d
  due_to a (Net p) m due = network_due a.id a.stub p m due
  due_to a (Router r) m due = router_due a.id a.stub r m due

  pub all_due : (a : AreaConfig) (d : Dest) (m : ℕ) → IsDueIn v a d m → Contains found d
  all_due a d m due = due_to a d m due.due
