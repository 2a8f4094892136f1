use Rattle.std.proofs.Common.{take}
use Rattle.std.specs.List.{Contains}
use Rattle.vertex_queue.proofs.vertex_set.is_among.Given as goal

-- none so far is the vertex
abbrev pub invariant-loop-other : goal.invariant-loop-other
invariant-loop-other l = Contains (take l.other-index l.list) l.vertex → ⊥
