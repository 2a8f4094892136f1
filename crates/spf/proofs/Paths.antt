-- Paths by their last step, and the beginnings of least paths.
use Rattle.std.proofs.Common.{◌≡◌, ◌≢◌, ℕ, ◌+◌, List, [], ◌∷◌, ◌++◌, refl, sym, ap, subst, arith}
use Rattle.std.proofs.lemmas.List.Sums.{sum_by-cons, sum_by_push}
use Rattle.ospf_types.specs.declared.entry.Vertex.{Vertex}
use Rattle.ospf_types.specs.declared.entry.Vertex.TheVariants.{Router}
use Rattle.ospf_types.specs.declared.label.Label.{Label}
use Rattle.ospf_types.specs.Distances.{Links, TakenLink, Leads, cost_of, IsDistance}
use Rattle.spf.specs.Trees.{step_to, EndsIn}

-- a first step adds its cost
pub cost_of-cons : (step : TakenLink) (way : List TakenLink) → cost_of (step ∷ way) ≡ step.cost + cost_of way
cost_of-cons step way = sum_by-cons (λ s. s.cost) step way

-- a last step adds its cost
pub cost_of-push : (way : List TakenLink) (step : TakenLink) → cost_of (way ++ step ∷ []) ≡ cost_of way + step.cost
cost_of-push way step = sum_by_push (λ s. s.cost) way step

module _ (link : Links) (root : ℕ) where
  -- a way to a vertex goes on over a link from it
  pub one_more : (from tail to : Vertex) (way : List TakenLink) (cost : ℕ) (label : Label) → Leads link root from way tail → link tail to cost label → to ≢ Router root
      → Leads link root from (way ++ step_to to cost label ∷ []) to
  one_more from tail to [] cost label leads taken other = (subst (λ v. link v to cost label) (sym leads) taken, other, refl)
  one_more from tail to (step ∷ way) cost label leads taken other = (leads.0, leads.1, one_more step.to tail to way cost label leads.2 taken other)

  -- a way that is not empty has a last step, and does not end at the root
  pub last_step : (from to : Vertex) (step : TakenLink) (way : List TakenLink) → Leads link root from (step ∷ way) to → EndsIn link root from (step ∷ way) to
  last_step from to step [] leads = record {
    before = [];
    tail = from;
    cost = step.cost;
    label = step.label;
    leads = refl;
    taken = subst (λ v. link from v step.cost step.label) leads.2 leads.0;
    other = subst (λ v. v ≢ Router root) leads.2 leads.1;
    whole = λ i. step_to (leads.2 i) step.cost step.label ∷ [];
  }
  last_step from to step (next ∷ way) leads =
      let rest = last_step step.to to next way leads.2 in
      record {
        before = step ∷ rest.before;
        tail = rest.tail;
        cost = rest.cost;
        label = rest.label;
        leads = (leads.0, leads.1, rest.leads);
        taken = rest.taken;
        other = rest.other;
        whole = ap (λ l. step ∷ l) rest.whole;
      }

  -- a way from the root to another vertex has a last step
  pub ends_in : (to : Vertex) (way : List TakenLink) → Leads link root (Router root) way to → to ≢ Router root → EndsIn link root (Router root) way to
  ends_in to [] leads other = absurd (other (sym leads))
  ends_in to (step ∷ way) leads other = last_step (Router root) to step way leads

  -- only the empty path ends at the root
  pub empty_to_root : (way : List TakenLink) → Leads link root (Router root) way (Router root) → way ≡ []
  empty_to_root [] leads = refl
  empty_to_root (step ∷ way) leads = absurd ((last_step (Router root) (Router root) step way leads).other refl)

  -- the cost of a way is the cost before its last step, and the cost of the last step
  pub cost_before : (from to : Vertex) (way : List TakenLink) (e : EndsIn link root from way to) → cost_of way ≡ cost_of e.before + e.cost
  cost_before from to way e = rw e.whole (cost_of-push e.before (step_to to e.cost e.label))

  -- Where a path is of least cost, it is so without its last step too.
  pub beginning : (has_root : Type 0) (to : Vertex) (way : List TakenLink) (e : EndsIn link root (Router root) way to) → has_root
      → IsDistance link root has_root to (cost_of way) → IsDistance link root has_root e.tail (cost_of e.before)
  beginning has_root to way e has d = record {
    reached = (e.before, (has, e.leads), refl);
    least = λ others path.
        let last : TakenLink = step_to to e.cost e.label in
        let longer = d.least (others ++ last ∷ []) (has, one_more (Router root) e.tail to others e.cost e.label path.1 e.taken e.other) in
        omega (arith, longer, cost_before (Router root) to way e, cost_of-push others last);
  }

-- A vertex has one distance.
pub same_distance : (link : Links) (root : ℕ) (has_root : Type 0) (to : Vertex) (d e : ℕ) → IsDistance link root has_root to d → IsDistance link root has_root to e → d ≡ e
same_distance link root has_root to d e at_d at_e =
    omega (arith, at_d.least at_e.reached.0 at_e.reached.1, at_e.reached.2, at_e.least at_d.reached.0 at_d.reached.1, at_d.reached.2)
