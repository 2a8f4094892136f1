-- Values that meet the local equations are the distances, and the distances meet them.
use Rattle.std.proofs.Common.{◌≡◌, ◌≢◌, ℕ, ◌+◌, ◌≤◌, List, [], ◌∷◌, ◌++◌, Option, Some, None, refl, sym, ap, subst, ◌∙◌, arith}
use Rattle.ospf_types.specs.declared.entry.Vertex.{Vertex}
use Rattle.ospf_types.specs.declared.entry.Vertex.TheVariants.{Router}
use Rattle.ospf_types.specs.Distances.{Links, TakenLink, Leads, IsPath, cost_of, IsDistance}
use Rattle.spf.specs.Trees.{step_to, EndsIn, IsInLimit, AreRelaxed, AreReal, AreDistances, IsShortestLink, HasLeast}
use Rattle.spf.proofs.Paths.{cost_of-cons, cost_of-push, one_more, ends_in, cost_before, beginning, same_distance}

-- a value that is none is not within a limit
pub none_within : (value : Option ℕ) (limit : ℕ) → value ≡ None → IsInLimit value limit → ⊥
none_within value limit none within = let same : Some within.number ≡ None = sym within.is ∙ none in cc

module _ (link : Links) (root : ℕ) (value : Vertex → Option ℕ) (relaxed : AreRelaxed link root value) where
  -- a way from a vertex with a value ends at one that is valued at no more than it costs
  pub lower_bound : (from to : Vertex) (d : ℕ) (way : List TakenLink) → value from ≡ Some d → Leads link root from way to → IsInLimit (value to) (d + cost_of way)
  lower_bound from to d [] is leads = record { number = d; is = subst (λ v. value v ≡ Some d) leads is; most = omega arith }
  lower_bound from to d (step ∷ way) is leads =
      let first = relaxed.relaxed from step.to step.cost step.label d leads.0 leads.1 is in
      let rest = lower_bound step.to to first.number way first.is leads.2 in
      record {
        number = rest.number;
        is = rest.is;
        most = omega (arith, rest.most, first.most, cost_of-cons step way);
      }

module _ (link : Links) (root : ℕ) (has_root : Type 0) (value : Vertex → Option ℕ) where
  -- Values that are relaxed, that are real, and of which the root's is 0, are the distances.
  pub distances_from_local : (has_root → value (Router root) ≡ Some 0) → AreRelaxed link root value → AreReal link root has_root value → AreDistances link root has_root value
  distances_from_local at_root relaxed real = record {
    right = λ to d is.
        let found = real.real to d is in
        let below : (way : List TakenLink) → IsPath link root has_root way to → d ≤ cost_of way =
        λ way path.
        let bound = lower_bound link root value relaxed (Router root) to 0 way (at_root path.0) path.1 in
        let same : bound.number ≡ d = cc (bound.is, is) in
        omega (arith, bound.most) in
        record { reached = (found.way, found.path, omega (arith, found.most, below found.way found.path)); least = below };
    unreached = λ to none way path.
        none_within (value to) (0 + cost_of way) none (lower_bound link root value relaxed (Router root) to 0 way (at_root path.0) path.1);
  }

module _ {link : Links} {root : ℕ} {has_root : Type 0} {value : Vertex → Option ℕ} (are : AreDistances link root has_root value) where
  -- what a path leads to has a value, at most its cost
  pub within_path : (to : Vertex) (way : List TakenLink) → IsPath link root has_root way to → IsInLimit (value to) (cost_of way)
  within_path to way path = go (value to) refl
    where
      go : (o : Option ℕ) → value to ≡ o → IsInLimit (value to) (cost_of way)
      go None none = absurd (are.unreached to none way path)
      go (Some d) is = record { number = d; is = is; most = (are.right to d is).least way path }

  -- the value is the distance
  pub value_at : (to : Vertex) (d : ℕ) → IsDistance link root has_root to d → value to ≡ Some d
  value_at to d at =
      let within = within_path to at.reached.0 at.reached.1 in
      within.is ∙ ap Some (same_distance link root has_root to within.number d (are.right to within.number within.is) at)

  -- the root is valued at 0
  pub root_zero : has_root → value (Router root) ≡ Some 0
  root_zero has = value_at (Router root) 0 (record { reached = ([], (has, refl), refl); least = λ way path. omega arith })

  -- where the root has a value, it is a vertex
  pub root_has : (to : Vertex) (d : ℕ) → value to ≡ Some d → has_root
  root_has to d is = (are.right to d is).reached.1.0

  -- the distances are relaxed
  pub distances_relaxed : AreRelaxed link root value
  distances_relaxed = record {
    relaxed = λ from to cost label d taken other is.
        let at = are.right from d is in
        let way = at.reached.0 in
        let within = within_path to (way ++ step_to to cost label ∷ []) (at.reached.1.0, one_more link root (Router root) from to way cost label at.reached.1.1 taken other) in
        record {
          number = within.number;
          is = within.is;
          most = omega (arith, within.most, at.reached.2, cost_of-push way (step_to to cost label));
        };
  }

  -- and real
  pub distances_real : AreReal link root has_root value
  distances_real = record {
    real = λ to d is.
        let at = are.right to d is in
        record { way = at.reached.0; path = at.reached.1; most = omega (arith, at.reached.2) };
  }

  -- what comes before the last step of a least path is a least path to its tail
  pub last_tail : (to : Vertex) (way : List TakenLink) (e : EndsIn link root (Router root) way to) → has_root → IsDistance link root has_root to (cost_of way)
      → value e.tail ≡ Some (cost_of e.before)
  last_tail to way e has at = value_at e.tail (cost_of e.before) (beginning link root has_root to way e has at)

  -- and the last step is a least link
  pub last_least : (to : Vertex) (way : List TakenLink) (e : EndsIn link root (Router root) way to) → has_root → IsDistance link root has_root to (cost_of way)
      → IsShortestLink link value e.tail to e.cost e.label
  last_least to way e has at = record {
    taken = e.taken;
    near = cost_of e.before;
    tail = last_tail to way e has at;
    head = value_at to (cost_of way) at ∙ ap Some (cost_before link root (Router root) to way e);
  }

  -- each reached vertex but the root has a least link into it
  pub has_least : (to : Vertex) (d : ℕ) → value to ≡ Some d → to ≢ Router root → HasLeast link value to
  has_least to d is other =
      let at = are.right to d is in
      let e = ends_in link root to at.reached.0 at.reached.1.1 other in
      record {
        from = e.tail;
        cost = e.cost;
        label = e.label;
        least = last_least to at.reached.0 e at.reached.1.0 (subst (λ n. IsDistance link root has_root to n) (sym at.reached.2) at);
      }
