use Rattle.std.proofs.Common.{inl, inr}
use Rattle.explanation.specs.Outside.{IsOwnStub}
use Rattle.explanation.proofs.layers.Layers.traces_within.Goals as goal

pub returns-then-is_own_stub : goal.returns-then-is_own_stub
returns-then-is_own_stub c = inl (c.is_own_stub.ensures.0 c.if-is_own_stub.true, c.in_ok-traces.ensures)

pub returns : goal.returns
returns c =
    let other : IsOwnStub c.args.self c.args.offer.now → ⊥ = λ own. let t = c.is_own_stub.ensures.1 own in let f = c.if-is_own_stub.false in absurd cc in
    inr (other, c.in_ok-traces-2.ensures)
