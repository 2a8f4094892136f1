use Rattle.std.proofs.Common.{take}
use Rattle.area_trees.specs.LeastPaths.{links_at}
use Rattle.explanation.specs.Traces.{AreLinkSteps}
use Rattle.explanation.proofs.traces.link_steps.Given as goal

-- the steps so far belong to the links so far
abbrev pub invariant-loop-link : goal.invariant-loop-link
invariant-loop-link l = AreLinkSteps l.area (links_at (take l.link-index l.links)) l.steps.items
