use Rattle.std.proofs.Common.{ap}
use Rattle.summary_lists.specs.Lists.{AreaSummariesValue}
use Rattle.summary_lists.proofs.Putting.{removed, stayed, written, inserted}
use Rattle.summary_lists.proofs.list.AreaSummaries.put.Goals as goal

pub invariant_of-self : goal.invariant_of-self
invariant_of-self c =
    let same = ap (λ (w : AreaSummariesValue). w.list) c.self.view_is in
    (removed _ _ same c.self.invariant c.args.dest _ c.in_default.is c.in-Ok.at c.in-Ok.ensures.found _ c.remove.ensures.items).invariant

pub returns-in-Ok-clause-list : goal.returns-in-Ok-clause-list
returns-in-Ok-clause-list c =
    let same = ap (λ (w : AreaSummariesValue). w.list) c.self.view_is in
    (removed _ _ same c.self.invariant c.args.dest _ c.in_default.is c.in-Ok.at c.in-Ok.ensures.found _ c.remove.ensures.items).put

pub returns-in-Err-clause-list : goal.returns-in-Err-clause-list
returns-in-Err-clause-list c =
    let same = ap (λ (w : AreaSummariesValue). w.list) c.self.view_is in
    (stayed _ _ same c.self.invariant c.args.dest _ c.in_default.is c.in-Err.at c.in-Err.ensures.absent).put

pub invariant_of-self-in-Ok-place : goal.invariant_of-self-in-Ok-place
invariant_of-self-in-Ok-place c =
    let same = ap (λ (w : AreaSummariesValue). w.list) c.self.view_is in
    (written _ _ same c.self.invariant c.args.dest _ c.in-Some.metric c.in-Some.is c.of-due.result c.of-due.ensures c.in-Ok-place.at c.in-Ok-place.ensures.found).invariant

pub returns-in-Ok-place-clause-list : goal.returns-in-Ok-place-clause-list
returns-in-Ok-place-clause-list c =
    let same = ap (λ (w : AreaSummariesValue). w.list) c.self.view_is in
    (written _ _ same c.self.invariant c.args.dest _ c.in-Some.metric c.in-Some.is c.of-due.result c.of-due.ensures c.in-Ok-place.at c.in-Ok-place.ensures.found).put

pub invariant_of-self-in-Err-place : goal.invariant_of-self-in-Err-place
invariant_of-self-in-Err-place c =
    let same = ap (λ (w : AreaSummariesValue). w.list) c.self.view_is in
    (inserted _ _ same c.self.invariant c.args.dest _ c.in-Some.metric c.in-Some.is c.of-due.result c.of-due.ensures c.in-Err-place.at c.in-Err-place.ensures.absent _ c.in-Ok-insert.ensures.items).invariant

pub returns-in-Ok-insert-clause-list : goal.returns-in-Ok-insert-clause-list
returns-in-Ok-insert-clause-list c =
    let same = ap (λ (w : AreaSummariesValue). w.list) c.self.view_is in
    (inserted _ _ same c.self.invariant c.args.dest _ c.in-Some.metric c.in-Some.is c.of-due.result c.of-due.ensures c.in-Err-place.at c.in-Err-place.ensures.absent _ c.in-Ok-insert.ensures.items).put
