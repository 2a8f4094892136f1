use Rattle.std.proofs.Common.{sym, subst, true≢false}
use Rattle.event_state.specs.States.{State, AreAreasApart}
use Rattle.event_core.specs.Kept.{IsCoherent}
use Rattle.event_state.proofs.Configs.{sound_apart}
use Rattle.event_state.proofs.Faultless.{faultless}
use Rattle.event_core.proofs.Runs.{kept_open}
use Rattle.event_core.proofs.core_state.Core.open_with_limits.Goals as goal

pub build-requires-clause-apart : goal.build-requires-clause-apart
build-requires-clause-apart c = subst (λ (s : State). AreAreasApart s.config.areas) (sym c.in_ok-state.ensures) (sound_apart c.args.base.config (faultless c.args.limits c.args.base c.requires.sound).config)

kept : (c : goal.In_ok-routes) → IsCoherent c.in_ok-state.state c.in_ok-routes.routes 0
kept c =
    kept_open c.args.base c.args.limits c.in_ok-state.state c.in_ok-routes.routes c.in_ok-state.ensures c.requires.sound c.requires.few c.in_ok-routes.ensures.right

pub invariant_of-result : goal.invariant_of-result
invariant_of-result c = (kept c, λ from_roll. absurd (true≢false (sym from_roll)))

pub returns-clause-kept : goal.returns-clause-kept
returns-clause-kept c = (kept c).core
