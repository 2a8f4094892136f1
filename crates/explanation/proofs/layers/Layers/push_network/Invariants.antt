use Rattle.std.proofs.Common.{◌≡◌, ◌++◌, take}
use Rattle.explanation.specs.Explained.{MakesMore, offers_of}
use Rattle.explanation.proofs.layers.Layers.push_network.Given as goal

-- the verdicts on the network's offers so far are there
abbrev pub invariant-loop-offer : goal.invariant-loop-offer
invariant-loop-offer l = record {
  made : MakesMore l.self l.all (take l.offer-index l.offer-items) l.initial.candidates.items l.candidates.items;
  listed : offers_of l.candidates.items ≡ offers_of l.initial.candidates.items ++ take l.offer-index l.offer-items;
}
