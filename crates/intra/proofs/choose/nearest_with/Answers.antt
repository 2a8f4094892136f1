use Rattle.std.proofs.Common.{sym, ◌∙◌, arith}
use Rattle.intra.proofs.Nearest.{passes_unreached, takes_reached}
use Rattle.intra.proofs.choose.nearest_with.Goals as goal

pub returns-in-Some-clause-found : goal.returns-in-Some-clause-found
returns-in-Some-clause-found c = λ before p found.
    let e = c.nearer.ensures in
    takes_reached c.args.area.now p before c.args.source.now c.args.nearest c.in-Network.id c.in-Some.distance c.nearer.result (sym c.vertex.ensures ∙ c.in-Network.is) (omega (arith, c.if-source-gt0.false)) (sym c.in-Some.ensures.value) e.one e.other e.nearest found

pub returns-in-None-clause-found : goal.returns-in-None-clause-found
returns-in-None-clause-found c = λ before p found. passes_unreached c.args.area.now p before c.args.source.now c.args.nearest (sym c.in-None.ensures.value) found
