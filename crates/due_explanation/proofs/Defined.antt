-- A summary that is due by the results calculated of a state is due by the definitions (RFC 2328,
-- 12.4.3).
use Rattle.std.proofs.Common.{◌≡◌, ℕ, Option, sym, subst}
use Rattle.std.specs.Prelude.{◌↔◌, Contains}
use Rattle.ospf_types.specs.declared.config.AreaConfig.{AreaConfig}
use Rattle.ospf_types.specs.declared.config.Stub.{Stub}
use Rattle.ospf_types.specs.declared.key.Dest.{Dest}
use Rattle.ospf_types.specs.declared.key.Dest.TheVariants.{Net, Router}
use Rattle.ospf_types.specs.Inputs.{Area, Inputs}
use Rattle.ospf_types.specs.Summaries.{IsDue, IsDueTo}
use Rattle.summaries.specs.Giving.{IsDueIn, IsDueTo as IsDueToIn, IsNetworkDueIn, IsRouterDueIn, IsServed}
use Rattle.summaries.specs.Inputs.{SummaryInputsValue}
use Rattle.summaries.specs.Right.{AreInputsOf}
use Rattle.summaries.proofs.Areas.{border_served, served_active, served_border}
use Rattle.summaries.proofs.Told.{network_due, router_due}

-- ---- a summary for a destination, in an area as it is configured

module _ (s : Inputs) (v : SummaryInputsValue) (are : AreInputsOf s v) (a : Area) (here : Contains s.areas a) (x : AreaConfig) (id : a.id ≡ x.id) (stub : a.stub ≡ x.stub) where
  to_same : (d : Dest) (metric : ℕ) → IsDueToIn v x d metric ↔ IsDueTo s a d metric
  to_same (Net p) metric =
      subst (λ (n : ℕ). IsNetworkDueIn v n x.stub p metric ↔ IsDueTo s a (Net p) metric) id
      (subst (λ (o : Option Stub). IsNetworkDueIn v a.id o p metric ↔ IsDueTo s a (Net p) metric) stub (network_due s v are a p a.stub metric))
  to_same (Router router) metric =
      subst (λ (n : ℕ). IsRouterDueIn v n x.stub router metric ↔ IsDueTo s a (Router router) metric) id
      (subst (λ (o : Option Stub). IsRouterDueIn v a.id o router metric ↔ IsDueTo s a (Router router) metric) stub (router_due s v are a router a.stub metric))

  pub due_same : (d : Dest) (metric : ℕ) → IsDueIn v x d metric ↔ IsDue s a d metric
  due_same d metric = (
    λ due.
        let served : IsServed v.active a.id = subst (IsServed v.active) (sym id) due.served in
        record { border = served_border s v are a here served; active = served_active s v are a here served; due = (to_same d metric).0 due.due },
    λ due. record {
      served = subst (IsServed v.active) id (border_served s v are a here due.border due.active);
      due = (to_same d metric).1 due.due;
    },
  )
