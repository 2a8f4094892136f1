use Rattle.std.proofs.Common.{inl, inr, refl}
use Rattle.explanation.proofs.layers.Layers.boundary_traces.Goals as goal

pub returns-in_ok-traces-in-Some : goal.returns-in_ok-traces-in-Some
returns-in_ok-traces-in-Some c = inl (refl, (c.in-Some.area, c.in-Some.ensures.some, c.in_ok-traces-in-Some.ensures))

pub returns-in_ok-traces-in-None : goal.returns-in_ok-traces-in-None
returns-in_ok-traces-in-None c = inr (inl (refl, (c.in-None.ensures.none, c.in_ok-traces-in-None.ensures)))
