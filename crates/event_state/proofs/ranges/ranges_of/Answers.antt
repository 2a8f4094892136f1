use Rattle.std.proofs.Common.{sym, ◌∙◌}
use Rattle.event_state.proofs.SamePlaces.{ranges_at}
use Rattle.event_state.proofs.ranges.ranges_of.Goals as goal

pub returns-clause-some : goal.returns-clause-some
returns-clause-some c = c.as_slice.ensures ∙ ranges_at c.args.areas.now c.args.id c.in_ok-place.place c.index-areas-place.result (sym c.place_of.ensures ∙ c.in_ok-place.was)
