use Rattle.std.proofs.Common.{◌≡◌, None, Some, sym, subst, ◌∙◌}
use Rattle.ospf_types.specs.Lsa.{IsUsable}
use Rattle.lsa_codec.specs.Readers.{with_age}
use Rattle.area_trees.specs.Areas.{IsStandingKey}
use Rattle.intra.specs.Inputs.{AreaValue}
use Rattle.explanation.specs.Traces.{IsSourceAt}
use Rattle.explanation.proofs.Rivals.{some_same}
use Rattle.explanation.proofs.Standings.{held_there}
use Rattle.explanation.proofs.traces.source_at.Goals as goal

pub returns-in_err-lsa-2-clause-none : goal.returns-in_err-lsa-2-clause-none
returns-in_err-lsa-2-clause-none c =
    let d = c.area.inside.database.now.lsas in
    let is = subst (IsStandingKey d c.args.vertex) (sym c.key.ensures.value) c.in_ok-lsa.ensures.key in
    let there = held_there d c.args.vertex c.key.result c.in_ok-lsa.lsa.now.body is c.in_ok-lsa.ensures.body in
    absurd (let wrong : None ≡ Some there.0 = c.in_err-lsa-2.ensures.value ∙ there.1 in cc)

pub returns-clause-some : goal.returns-clause-some
returns-clause-some c =
    let d = c.area.inside.database.now.lsas in
    let key = c.key.result in
    let is = subst (IsStandingKey d c.args.vertex) (sym c.key.ensures.value) c.in_ok-lsa.ensures.key in
    let there = held_there d c.args.vertex key c.in_ok-lsa.lsa.now.body is c.in_ok-lsa.ensures.body in
    let held = with_age c.in_ok-lsa-2.lsa.now c.in_ok-lsa-2.field-0-1 in
    let same : there.0 ≡ held = some_same there.0 held (sym there.1 ∙ sym c.in_ok-lsa-2.ensures.value) in
    subst (λ (a : AreaValue). IsSourceAt a c.args.vertex c.of.result) c.area.view_is (key, held, is, sym c.in_ok-lsa-2.ensures.value, subst IsUsable same there.2, c.of.ensures)
