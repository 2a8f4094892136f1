-- The destinations affected by the LSAs of one area, or by another area in place of what was
-- examined before.
use Rattle.std.proofs.Common.{sym, ◌∙◌}
use Rattle.std.proofs.lemmas.Result.{on_ok_weaker}
use Rattle.inter.specs.Following.{area_of}
use Rattle.inter.proofs.Following.{same_areas, since, led_same, led_other}
use Rattle.inter.proofs.inputs.InterInputs.follow_examined.Goals as goal

pub follow_named-requires : goal.follow_named-requires
follow_named-requires c =
    let same = same_areas c.args.area c.area.result (sym c.eq.ensures ∙ c.if-eq.true) ∙ c.area.ensures in
    since c.args.self.now.root c.args.keys.now c.args.self.now.examined c.args.area c.args.index.now c.requires same

pub returns-then-eq-clause-led : goal.returns-then-eq-clause-led
returns-then-eq-clause-led c =
    let same = same_areas c.args.area c.area.result (sym c.eq.ensures ∙ c.if-eq.true) ∙ c.area.ensures in
    on_ok_weaker c.follow_named.result
    (λ touched. led_same c.args.area (area_of c.args.self.now.examined) c.args.index.now c.follow_named.new.index c.args.affected.now c.follow_named.new.affected (sym same) touched)
    c.follow_named.ensures.touched

pub returns-clause-led : goal.returns-clause-led
returns-clause-led c =
    on_ok_weaker c.follow_all.result
    (λ touched. led_other c.args.area (area_of c.args.self.now.examined) c.args.index.now c.clear.new.self c.follow_all.new.index c.args.affected.now c.clear.new.affected c.follow_all.new.affected
    c.in_ok-clear.ensures.cleared c.in_ok-clear.ensures.touched touched)
    c.follow_all.ensures.touched
