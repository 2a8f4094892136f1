use Rattle.std.proofs.Common.{◌≡◌, sym, ap, subst, ◌∙◌}
use Rattle.std.specs.Prelude.{option_map}
use Rattle.summaries.specs.DueSummaries.{DueSummariesValue, list_in}
use Rattle.event_state.specs.States.{inputs_of}
use Rattle.event_core.specs.Cores.{CoreValue, built_state}
use Rattle.event_core.specs.Kept.{core_of}
use Rattle.event_core.specs.Right.{IsDueIn, list_under}
use Rattle.event_core.proofs.DueRight.{due_found, list_found}
use Rattle.event_core.proofs.core_state.Core.due.Goals as goal

-- it is the first list under the Area ID
found : (c : goal.After-get) → option_map (λ list. list.now) c.get.result ≡ list_under c.args.self.now.summaries c.args.area
found c =
    let kept : DueSummariesValue = c.self.inside.routes.summaries in
    c.get.ensures ∙ ap (λ (w : DueSummariesValue). list_in w.areas c.args.area) c.summaries.ensures ∙ list_found kept.areas c.args.area ∙ ap (λ (v : CoreValue). list_under v.summaries c.args.area) c.self.view_is

pub returns-clause-value : goal.returns-clause-value
returns-clause-value c = found c

pub returns-clause-right : goal.returns-clause-right
returns-clause-right c =
    let core : CoreValue = core_of c.self.inside.state c.self.inside.routes c.self.inside.built in
    let s = inputs_of (built_state core) in
    let first = due_found s s.areas core.summaries c.args.area c.self.invariant.0.core.due in
    let now = subst (λ (v : CoreValue). IsDueIn (built_state v) c.args.area (list_under v.summaries c.args.area)) c.self.view_is first in
    subst (IsDueIn (built_state c.args.self.now) c.args.area) (sym (found c)) now
