-- One range more.
use Rattle.std.proofs.Common.{◌≡◌, subst, sym, ◌∙◌, true, false}
use Rattle.ospf_types.specs.declared.config.Range.{Range}
use Rattle.ospf_types.proofs.KeyOrders.{prefixes_decided}
use Rattle.active_ranges.proofs.Searching.{HasNone, none_next, none_of}
use Rattle.due_explanation.proofs.area_ranges.has_range.Goals as goal

pub loop-range-preserved : goal.loop-range-preserved
loop-range-preserved c =
    let r = c.range-item.result in
    none_next (λ (s : Range). s.prefix ≡ c.args.prefix) c.as_slice-range-items.result.now c.loop-range.range-index r c.loop-range-test.true c.range-item.is c.loop-range.invariant
    (λ is. let wrong : true ≡ false = sym ((prefixes_decided r.prefix c.args.prefix).1 is) ∙ sym c.eq.ensures ∙ c.if-eq.false in absurd cc)

pub returns : goal.returns
returns c =
    let P : Range → Type 0 = λ s. s.prefix ≡ c.args.prefix in
    let none = subst (HasNone P) c.as_slice-range-items.ensures (none_of P c.as_slice-range-items.result.now c.loop-range.range-index c.loop-range-test.false c.loop-range.invariant) in
    (λ t. absurd cc, λ w. absurd (none w.0 w.1 w.2))
