use Rattle.std.proofs.Common.{◌≡◌, ◌+◌, ◌++◌, List, Some, IfNone, IfSome, take, length, refl, sym, ap, arith, subst, ◌∙◌, append_assoc, length-append}
use Rattle.std.specs.Prelude.{option_map}
use Rattle.std.proofs.lemmas.List.{length-take-le}
use Rattle.ospf_types.specs.declared.config.Config.{Config}
use Rattle.event_state.specs.declared.base.Base.{Base}
use Rattle.event_state.specs.Steps.{run_of}
use Rattle.event_core.specs.DueSummary.{DueSummary}
use Rattle.event_core.specs.Right.{IsDueIn}
use Rattle.publication.specs.Published.{IsLegalHistory, name_of}
use Rattle.publication.proofs.Prefixes.{take_prefix}
use Rattle.engine.specs.Answers.{IsDueListOf, HasArea, after}
use Rattle.engine.specs.EngineStates.{Held, IsTokenFor, list_of}
use Rattle.engine.proofs.Runs.{legal_built}
use Rattle.engine.proofs.Replying.{tells_beside, built_now, built_prefix}
use Rattle.engine.proofs.Duing.{due_after, has_area, has_no_area}
use Rattle.engine.proofs.engine_state.EngineState.due.Goals as goal

pub returns-clause-due : goal.returns-clause-due
returns-clause-due c =
    let core = c.self.inside.parts.core in
    let kept = c.self.invariant.1 in
    let told = c.told-told in
    let shown = c.self.inside.parts.writer.desk.shown.value in
    let rolled = c.self.inside.parts.rolled.list in
    let list = rolled ++ take core.built core.journal in
    let long = length-take-le core.built core.journal c.self.invariant.0.within in
    let count = built_now shown.base rolled core kept.base c.self.invariant.0.within c.built-serial.result c.built-serial.ensures.value in
    let due = due_after shown.base rolled core kept.base kept.limits c.args.area c.in-Some.due.now _ (ap (option_map (λ list. list.now)) c.in-Some.is) c.due.ensures.right in
    subst (λ (h : Held). IsDueListOf h.name c.args.area (record { serial = c.built-serial.result; list = c.in-Ok.list; told = told.result })) c.self.view_is (
      list,
      legal_built shown.base rolled core kept.base kept.limits c.self.invariant.0,
      count,
      subst (λ (l : List DueSummary). IsDueIn (after shown.base list) c.args.area (Some l)) (sym c.in-Ok.ensures.items) due,
      tells_beside (name_of shown) (list_of c.self.inside.parts.rolled core) _ told.result shown.front.list list (built_prefix rolled core) count (omega (arith, long, kept.published.built, length-append rolled (take core.built core.journal)))
          (subst (λ (h : Held). IfNone told.result (¬ (c.built-serial.result ≡ h.name.base.serial + length h.published))) (sym c.self.view_is) told.ensures.none)
          (subst (λ (h : Held). IfSome told.result (IsTokenFor h.name h.list c.built-serial.result)) (sym c.self.view_is) told.ensures.some),
    )

pub returns-clause-built : goal.returns-clause-built
returns-clause-built c =
    let core = c.self.inside.parts.core in
    let kept = c.self.invariant.1 in
    let count : c.built-serial.result ≡ c.self.inside.parts.writer.desk.shown.value.base.serial + (length c.self.inside.parts.rolled.list + core.built) = omega (arith, c.built-serial.ensures.value, kept.base.serial) in
    count ∙ ap (λ (h : Held). h.name.base.serial + h.built) c.self.view_is

pub returns-in_default-clause-area : goal.returns-in_default-clause-area
returns-in_default-clause-area c =
    let core = c.self.inside.parts.core in
    let kept = c.self.invariant.1 in
    let shown = c.self.inside.parts.writer.desk.shown.value in
    let none = has_no_area shown.base c.self.inside.parts.rolled.list core kept.base kept.limits c.args.area _ (ap (option_map (λ list. list.now)) c.in_default.is) c.due.ensures.right in
    (λ _. subst (λ (h : Held). ¬ HasArea h.name.base.config c.args.area) c.self.view_is none, λ _. refl)

pub returns-in_default-from_slice-clause-area : goal.returns-in_default-from_slice-clause-area
returns-in_default-from_slice-clause-area c =
    let core = c.self.inside.parts.core in
    let kept = c.self.invariant.1 in
    let shown = c.self.inside.parts.writer.desk.shown.value in
    let has = has_area shown.base c.self.inside.parts.rolled.list core kept.base kept.limits c.args.area c.in-Some.due.now _ (ap (option_map (λ list. list.now)) c.in-Some.is) c.due.ensures.right in
    (λ e _. cc, λ none. absurd (none (subst (λ (h : Held). HasArea h.name.base.config c.args.area) c.self.view_is has)))

pub returns-clause-area : goal.returns-clause-area
returns-clause-area c =
    let core = c.self.inside.parts.core in
    let kept = c.self.invariant.1 in
    let shown = c.self.inside.parts.writer.desk.shown.value in
    subst (λ (h : Held). HasArea h.name.base.config c.args.area) c.self.view_is
    (has_area shown.base c.self.inside.parts.rolled.list core kept.base kept.limits c.args.area c.in-Some.due.now _ (ap (option_map (λ list. list.now)) c.in-Some.is) c.due.ensures.right)
