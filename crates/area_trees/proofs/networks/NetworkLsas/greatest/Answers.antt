use Rattle.std.proofs.Common.{rules, ℕ, List, sym, subst}
use Rattle.std.specs.Prelude.{IfNone, Contains}
use Rattle.area_trees.specs.Areas.{IsGreatestRouter}
use Rattle.area_trees.proofs.NetworkSets.{none_there, last_greatest}
use Rattle.area_trees.proofs.networks.NetworkLsas.greatest.Goals as goal

pub returns-in_err-greatest-clause-none : goal.returns-in_err-greatest-clause-none
returns-in_err-greatest-clause-none c =
    let ends = c.new.result in
    let none = none_there c.self.inside.lsas c.self.invariant c.args.id ends.start ends.end c.new.ensures.start c.new.ensures.end c.range.result (c.range.ensures.in_range (search rules)) c.in_err-greatest.ensures.steps.0 in
    subst (λ o. IfNone o ((router : ℕ) → Contains c.args.self.now (c.args.id, router) → ⊥)) (sym c.from_residual.ensures) (subst (λ (ns : List (ℕ × ℕ)). (router : ℕ) → Contains ns (c.args.id, router) → ⊥) c.self.view_is none)

pub returns-clause-some : goal.returns-clause-some
returns-clause-some c =
    let ends = c.new.result in
    let greatest = c.in_ok-greatest.greatest.now in
    subst (λ (ns : List (ℕ × ℕ)). IsGreatestRouter ns c.args.id greatest.router) c.self.view_is
    (last_greatest c.self.inside.lsas c.self.invariant c.args.id ends.start ends.end c.new.ensures.start c.new.ensures.end c.range.result (c.range.ensures.in_range (search rules)) c.next_back.new.self greatest c.in_ok-greatest.ensures.steps)
