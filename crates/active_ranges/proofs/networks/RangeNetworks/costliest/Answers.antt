-- One network more.
use Rattle.std.proofs.Common.{◌≡◌, ℕ, ◌+◌, ◌<◌, ◌≤◌, Option, ◌∷◌, length, drop, get_or, refl, sym, ap, subst, ◌∙◌, arith}
use Rattle.std.proofs.lemmas.List.{drop_all, drop_more}
use Rattle.ospf_types.specs.declared.prefix.Prefix.{Prefix}
use Rattle.active_ranges.specs.Grouped.{RangeNetworksValue}
use Rattle.active_ranges.proofs.Placed.{AreInOrder, Entries}
use Rattle.active_ranges.proofs.Weighing.{AreWeighed, weighed_none, weighed_past, weighed_more, weighed_all}
use Rattle.active_ranges.proofs.networks.RangeNetworks.costliest.Goals as goal
use Rattle.active_ranges.proofs.networks.RangeNetworks.costliest.Goals.{then-cost-limit, else-cost-limit}

pub loop-cost-init : goal.loop-cost-init
loop-cost-init c = weighed_none c.args.self.now c.args.limit (subst AreInOrder (ap (λ (n : RangeNetworksValue). n.entries) c.self.view_is) c.self.invariant) c.args.self.now.entries refl

pub loop-cost-preserved : goal.loop-cost-preserved
loop-cost-preserved c =
    let networks = c.args.self.now in
    let es = networks.entries in
    let i = c.loop-cost.cost-index in
    let x = c.loop-cost-item.result in
    let kept : c.deref-cost-items.result.now ≡ es = c.deref-cost-items.ensures.value ∙ ap (λ (n : RangeNetworksValue). n.entries) c.self.view_is in
    let lt : i < length es = subst (λ (ys : Entries). i < length ys) kept c.loop-cost-test.true in
    let at : x ≡ get_or es i x = c.loop-cost-item.is ∙ ap (λ (ys : Entries). get_or ys i x) kept in
    let left : drop i es ≡ x ∷ drop (i + 1) es = drop_more es i x lt ∙ ap (λ (y : Prefix × ℕ). y ∷ drop (i + 1) es) (sym at) in
    let so_far = subst (AreWeighed networks c.args.limit c.loop-cost.most) left c.loop-cost.invariant in
    elim c.if-cost-limit.branch [
      | then-cost-limit w ↦ subst (λ (most : Option ℕ). AreWeighed networks c.args.limit most (drop (i + 1) es)) (sym (w.most-is ∙ w.max-most.ensures))
          (weighed_more networks c.args.limit x.0 x.1 (drop (i + 1) es) c.loop-cost.most so_far w.if-cost-limit.true)
      | else-cost-limit w ↦ subst (λ (most : Option ℕ). AreWeighed networks c.args.limit most (drop (i + 1) es)) (sym w.most-is)
          (let past = w.if-cost-limit.false in weighed_past networks c.args.limit x.0 x.1 (drop (i + 1) es) c.loop-cost.most so_far (λ lt. omega (arith, past, lt)))
    ]

pub returns : goal.returns
returns c =
    let es = c.args.self.now.entries in
    let i = c.loop-cost.cost-index in
    let kept : c.deref-cost-items.result.now ≡ es = c.deref-cost-items.ensures.value ∙ ap (λ (n : RangeNetworksValue). n.entries) c.self.view_is in
    let past : length es ≤ i = subst (λ (ys : Entries). length ys ≤ i) kept c.loop-cost-test.false in
    weighed_all c.args.self.now c.args.limit c.loop-cost.most (drop i es) (drop_all i es past) c.loop-cost.invariant
