use Rattle.std.proofs.Common.{◌≤◌, length, sym, ap, ◌∙◌, arith}
use Rattle.std.proofs.lemmas.List.{drop_all, length-drop}
use Rattle.abr_c.proofs.Fronts.{one_less_left}
use Rattle.abr_c.proofs.items.without_first.Goals as goal

pub returns-in_default : goal.returns-in_default
returns-in_default c =
    let all = c.args.items in let passed = c.loop-passed.passed in
    let none_left = ap length (sym c.loop-passed.invariant.left ∙ c.in_default.ensures.steps.0) in
    let few : length all ≤ passed = omega (arith, none_left, length-drop passed all) in
    c.in_default.ensures.steps.1 ∙ sym (drop_all c.args.first all (omega (arith, few, c.loop-passed.invariant.within)))

pub loop-passed-preserved : goal.loop-passed-preserved
loop-passed-preserved c = record {
  goes = tt;
  ends = tt;
  left = one_less_left c.args.items c.args.items c.args.items c.loop-passed.passed _ c.next.new.self (sym c.in-Some.ensures.steps ∙ c.loop-passed.invariant.left);
  within = omega arith;
}
