-- So far the results at the keys up to here are recomputed, and no more places are noted than there
-- are results.
use Rattle.std.proofs.Common.{length}
use Rattle.route_choice.specs.Results.{result_in}
use Rattle.route_choice.proofs.ChosenAnew.{IsSoFar}
use Rattle.route_choice.proofs.Left.{IsLeft}
use Rattle.route_choice.proofs.results.ResultMap.choose_each.Given as goal

abbrev pub invariant-loop-key : goal.invariant-loop-key
invariant-loop-key g l =
    IsSoFar g.K.ResultKey.order (g.R.Choose.IsChosen l.by) g.N.ReportedAs.reported_as (result_in g.K.ResultKey.order l.initial.self-inside.entries.entries) (result_in g.K.ResultKey.order l.self-inside.entries.entries) l.keys l.key-index l.told.items
    × IsLeft g.K.ResultKey.order (result_in g.K.ResultKey.order l.self-inside.entries.entries) l.keys l.key-index (length l.self-inside.left.items)
