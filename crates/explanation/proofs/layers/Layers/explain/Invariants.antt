use Rattle.std.proofs.Common.{take}
use Rattle.explanation.specs.Networks.{all_offers}
use Rattle.explanation.proofs.Candidates.{IsDone}
use Rattle.explanation.proofs.layers.Layers.explain.Given as goal

-- the verdicts on the offers of the networks so far are there
abbrev pub invariant-loop-network : goal.invariant-loop-network
invariant-loop-network l = IsDone l.self (all_offers l.self l.address) (take l.network-index l.network-items) l.candidates.items
