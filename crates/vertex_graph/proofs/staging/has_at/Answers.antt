use Rattle.std.proofs.Common.{◌<◌, length, sym, subst, arith, ◌∙◌}
use Rattle.std.specs.Prelude.{Contains}
use Rattle.std.proofs.lemmas.Bool.Decides.{nat_tests}
use Rattle.std.proofs.lemmas.List.Elements.{Contains-get_or}
use Rattle.vertex_graph.proofs.staging.has_at.Goals as goal

pub returns-in-Some : goal.returns-in-Some
returns-in-Some c true_is =
    let ends = c.args.ends.now in
    let within : c.args.place < length ends = let test = c.in-Some.ensures.lookup.0 in grind (arith, nat_tests) in
    subst (Contains ends) (sym c.in-Some.ensures.lookup.1 ∙ c.is_same_end.ensures.0 true_is) (Contains-get_or ends c.args.place c.in-Some.other.now within)
