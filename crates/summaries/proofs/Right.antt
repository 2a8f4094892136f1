-- Due summaries are as defined (RFC 2328, 12.4.3).
use Rattle.std.proofs.Common.{◌≡◌, ℕ, List, [], ◌∷◌, Option, sym, subst, ◌∙◌}
use Rattle.std.specs.Prelude.{◌↔◌}
use Rattle.std.specs.List.{Contains}
use Rattle.ospf_types.specs.declared.config.AreaConfig.{AreaConfig}
use Rattle.ospf_types.specs.declared.config.Stub.{Stub}
use Rattle.ospf_types.specs.declared.key.Dest.{Dest}
use Rattle.ospf_types.specs.declared.key.Dest.TheVariants.{Net, Router}
use Rattle.ospf_types.specs.Inputs.{Inputs, Area}
use Rattle.ospf_types.specs.Summaries.{IsDue, IsDueTo}
use Rattle.ospf_types.proofs.Elements.{first_element, later_element}
use Rattle.summaries.specs.Giving.{IsNetworkDueIn, IsRouterDueIn, IsServed, IsDueIn, IsDueTo as IsDueToIn}
use Rattle.summaries.specs.Inputs.{SummaryInputsValue}
use Rattle.summary_lists.specs.Lists.{AreaSummariesValue}
use Rattle.summaries.specs.DueSummaries.{DueSummariesValue, IsListOf, AreListsOf, AreSummariesOf}
use Rattle.summaries.specs.Right.{AreConfigured, AreInputsOf, IsListRight, AreListsRight, IsRightFor}
use Rattle.summaries.proofs.Areas.{border_served, served_active, served_border}
use Rattle.summaries.proofs.Told.{network_due, router_due}

module _ (s : Inputs) (v : SummaryInputsValue) (are : AreInputsOf s v) where
  -- ---- an area

  module _ (a : Area) (here : Contains s.areas a) (x : AreaConfig) (id : a.id ≡ x.id) (stub : a.stub ≡ x.stub) where
    to_same : (d : Dest) (metric : ℕ) → IsDueToIn v x d metric ↔ IsDueTo s a d metric
    to_same (Net p) metric =
        subst (λ (n : ℕ). IsNetworkDueIn v n x.stub p metric ↔ IsDueTo s a (Net p) metric) id
        (subst (λ (o : Option Stub). IsNetworkDueIn v a.id o p metric ↔ IsDueTo s a (Net p) metric) stub (network_due s v are a p a.stub metric))
    to_same (Router router) metric =
        subst (λ (n : ℕ). IsRouterDueIn v n x.stub router metric ↔ IsDueTo s a (Router router) metric) id
        (subst (λ (o : Option Stub). IsRouterDueIn v a.id o router metric ↔ IsDueTo s a (Router router) metric) stub (router_due s v are a router a.stub metric))

    due_from : (d : Dest) (metric : ℕ) → IsDueIn v x d metric → IsDue s a d metric
    due_from d metric due =
        let served : IsServed v.active a.id = subst (IsServed v.active) (sym id) due.served in
        record { border = served_border s v are a here served; active = served_active s v are a here served; due = (to_same d metric).0 due.due }

    due_to : (d : Dest) (metric : ℕ) → IsDue s a d metric → IsDueIn v x d metric
    due_to d metric due = record {
      served = subst (IsServed v.active) id (border_served s v are a here due.border due.active);
      due = (to_same d metric).1 due.due;
    }

    list_right : (w : AreaSummariesValue) → IsListOf v x w → IsListRight s a w
    list_right w is = record {
      area = is.area ∙ sym id;
      in_order = is.in_order;
      exact = λ due. (
        λ c. let held = (is.exact due).0 c in (due_from due.dest due.metric held.0, held.1),
        λ said. (is.exact due).1 (due_to due.dest due.metric said.0, said.1),
      );
    }

  -- ---- the lists

  lists_right : (bs : List Area) → ((b : Area) → Contains bs b → Contains s.areas b) → (areas : List AreaConfig) → AreConfigured bs areas → (lists : List AreaSummariesValue) → AreListsOf v areas lists → AreListsRight s bs lists
  lists_right [] within [] same [] is = is
  lists_right [] within [] same (w ∷ lists) is = absurd is
  lists_right [] within (x ∷ areas) same lists is = absurd same
  lists_right (b ∷ bs) within [] same lists is = absurd same
  lists_right (b ∷ bs) within (x ∷ areas) same [] is = absurd is
  lists_right (b ∷ bs) within (x ∷ areas) same (w ∷ lists) is = (
    list_right b (within b (first_element b bs)) x same.0 same.1 w is.0,
    lists_right bs (λ c later. within c (later_element b c bs later)) areas same.3 lists is.1,
  )

-- what is due by the inputs is what the definitions say
pub summaries_right : (s : Inputs) (v : SummaryInputsValue) (w : DueSummariesValue) → AreInputsOf s v → AreSummariesOf v w → IsRightFor s w
summaries_right s v w are is = lists_right s v are s.areas (λ b c. c) v.areas are.areas w.areas is.lists
