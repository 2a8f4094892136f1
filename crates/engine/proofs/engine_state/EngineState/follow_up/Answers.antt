use Rattle.std.proofs.Common.{◌≡◌, ◌<◌, [], false, true, length, refl, sym, ap, subst, arith, ◌∙◌, length-append}
use Rattle.std.proofs.lemmas.List.{append-nil}
use Rattle.std.specs.Prelude.{Bool, MatchBool}
use mathlib.Core.List.{IsPrefix}
use Rattle.event_core.specs.Cores.{CoreValue}
use Rattle.publication.proofs.Prefixes.{prefix_self}
use Rattle.engine.specs.EngineStates.{Held, IsFresh, list_of}
use Rattle.engine.proofs.Keeping.{core_kept, caught_up}
use Rattle.engine.proofs.engine_state.EngineState.follow_up.Goals as goal

pub publish_whole-engine_state-requires-clause-kept : goal.publish_whole-engine_state-requires-clause-kept
publish_whole-engine_state-requires-clause-kept g c =
    let core = c.self.inside.parts.core in
    let done = c.catch_up-state.ensures in
    core_kept core c.catch_up-state.new.self c.catch_up-state.result _ c.self.inside.parts.rolled _ _ done.base done.limits ([], append-nil core.journal ∙ sym done.journal) done.stands c.self.invariant.1

pub returns-clause-state : goal.returns-clause-state
returns-clause-state g c =
    let same = c.publish_whole-engine_state.ensures.same in
    caught_up c.self.inside.parts.core c.catch_up-state.new.self c.catch_up-state.result c.self.inside.parts.rolled c.args.self c.publish_whole-engine_state.result (sym (ap (λ (h : Held). h.built) c.self.view_is)) same.1 same.2 c.catch_up-state.ensures.stands

pub returns-clause-grows : goal.returns-clause-grows
returns-clause-grows g c = subst (λ (h : Held). IsPrefix h.published c.publish_whole-engine_state.result.published) c.self.view_is c.publish_whole-engine_state.ensures.grows
