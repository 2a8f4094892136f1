use Rattle.std.proofs.Common.{◌≡◌, ℕ, true, false, sym, subst, ◌∙◌}
use Rattle.std.proofs.lemmas.Result.{on_ok_weaker}
use Rattle.intra.specs.Choosing.{IsOver}
use Rattle.intra.proofs.Sourced.{takes_over, takes_aside}
use Rattle.intra.proofs.choose.offer_over.Goals as goal

pub returns-then-not-is_over : goal.returns-then-not-is_over
returns-then-not-is_over c =
    takes_aside c.args.prefix c.args.key c.args.interface.0 c.args.interface.1 c.args.best.now
    (λ over.
    let up : c.is_over.result ≡ true = c.is_over.ensures.1 (subst (λ (area : ℕ). IsOver area c.args.prefix c.args.interface.1) (sym c.area.ensures) over) in
    let e : true ≡ false = sym up ∙ c.if-not-is_over.true in cc)

pub returns : goal.returns
returns c =
    let over : IsOver c.args.key.1 c.args.prefix c.args.interface.1 = subst (λ (area : ℕ). IsOver area c.args.prefix c.args.interface.1) c.area.ensures (c.is_over.ensures.0 c.if-not-is_over.false) in
    on_ok_weaker c.offer_hop.result
    (λ takes. takes_over c.args.prefix c.args.key c.args.interface.0 c.args.interface.1 c.args.best.now c.offer_hop.new.best over takes)
    c.offer_hop.ensures
