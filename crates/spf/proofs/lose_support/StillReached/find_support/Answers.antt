use Rattle.std.proofs.Common.{List, subst, arith}
use Rattle.std.specs.FinMap.{get}
use Rattle.std.specs.List.{All}
use Rattle.std.proofs.lemmas.List.{take_all}
use Rattle.std.proofs.lemmas.List.Elements.{All-more}
use Rattle.vertex_graph.specs.GraphLink.{GraphLink}
use Rattle.spf.specs.Suspects.{Supports}
use Rattle.spf.proofs.lose_support.StillReached.find_support.Goals as goal

pub loop-place-preserved : goal.loop-place-preserved
loop-place-preserved c =
    let Fails = λ (x : GraphLink). Supports (get c.args.self.distances.now) c.args.self.lost.now c.args.distance x → ⊥ in
    All-more Fails c.args.links.now c.loop-place.place c.index-links-place.result c.loop-place-test.true c.loop-place.invariant
    (subst Fails c.index-links-place.is (λ supports. let yes = c.supports.ensures.1 supports in let no = c.if-supports.false in absurd cc))

pub returns-clause-none : goal.returns-clause-none
returns-clause-none c =
    let Fails = λ (x : GraphLink). Supports (get c.args.self.distances.now) c.args.self.lost.now c.args.distance x → ⊥ in
    subst (λ (xs : List GraphLink). All Fails xs) (take_all c.loop-place.place c.args.links.now (omega arith)) c.loop-place.invariant
