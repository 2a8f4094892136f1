-- It is compared with what had the greatest metric.
use Rattle.std.proofs.Common.{◌≡◌, ℕ, ◌≤◌, Option, Some, ◌⊎◌, sym, subst, ◌∙◌, arith}
use Rattle.std.proofs.Math.Path.{subst₂}
use Rattle.summaries.specs.declared.giving.Through.{Through}
use Rattle.summaries.specs.Candidates.{CostsInto, metric_beside}
use Rattle.summaries.specs.Giving.{IsMost}
use Rattle.summaries.proofs.GivenParts.{adds_same, adds_greater, adds_lesser, some_same}
use Rattle.summaries.proofs.giving.Given.with.Goals as goal

pub returns-then-through-most-clause-greatest : goal.returns-then-through-most-clause-greatest
returns-then-through-most-clause-greatest c = λ area.
    let next = c.args.self.next in
    let w = c.costlier.result in
    subst₂ (λ (most through : Option Through). IsMost (λ n. (metric_beside most next area ≡ Some n) ⊎ CostsInto through area n) (metric_beside (Some w) next area)) (sym c.in-Some-most.is) (sym c.in-Some.is)
    (adds_same c.in-Some-most.most c.in-Some.through next area w c.if-through-most.true c.costlier.ensures.one c.costlier.ensures.first c.costlier.ensures.second)

pub returns-then-through-most-2-clause-greatest : goal.returns-then-through-most-2-clause-greatest
returns-then-through-most-2-clause-greatest c = λ area.
    let next = c.args.self.next in
    let u = c.in-Some-most.most in
    let t = c.in-Some.through in
    let ordered : (m : ℕ) → next ≡ Some m → m ≤ u.cost = λ m e.
    let low = c.requires m e in
    subst (λ (x : Through). m ≤ x.cost) (some_same (sym low.1 ∙ c.in-Some-most.is)) low.2 in
    subst₂ (λ (most through : Option Through). IsMost (λ n. (metric_beside most next area ≡ Some n) ⊎ CostsInto through area n) (metric_beside (Some t) (Some u.cost) area)) (sym c.in-Some-most.is) (sym c.in-Some.is)
    (adds_greater u t next area c.if-through-most.false c.if-through-most-2.true ordered)

pub returns-clause-greatest : goal.returns-clause-greatest
returns-clause-greatest c = λ area.
    let next = c.args.self.next in
    let u = c.in-Some-most.most in
    let t = c.in-Some.through in
    let after = c.greater.result in
    let lesser : t.cost ≤ u.cost = let no = c.if-through-most-2.false in omega (arith, no) in
    subst₂ (λ (most through : Option Through). IsMost (λ n. (metric_beside most next area ≡ Some n) ⊎ CostsInto through area n) (metric_beside (Some u) after area)) (sym c.in-Some-most.is) (sym c.in-Some.is)
    (adds_lesser u t next area after c.if-through-most.false lesser c.greater.ensures)
