-- One area more.
use Rattle.std.proofs.Common.{◌≡◌, ◌+◌, ◌≤◌, ◌⊎◌, Some, List, length, take, sym, ap, subst}
use Rattle.std.proofs.lemmas.List.{take_all}
use Rattle.ospf_types.specs.declared.config.AreaConfig.{AreaConfig}
use Rattle.summaries.specs.Candidates.{metric_into}
use Rattle.summaries.specs.Inputs.{SummaryInputsValue}
use Rattle.summaries.specs.Giving.{IsMost}
use Rattle.summaries.proofs.GivenParts.{GivenAmong, given_none, given_more, given_all}
use Rattle.summaries.proofs.giving.with_ranges.Goals as goal

pub loop-area-init : goal.loop-area-init
loop-area-init c = (c.requires, λ area. given_none c.args.inputs.now area c.args.prefix (metric_into c.args.own area))

pub loop-area-preserved : goal.loop-area-preserved
loop-area-preserved c =
    let v = c.args.inputs.now in
    let p = c.args.prefix in
    let areas = c.inputs.inside.areas.now in
    let i = c.loop-area.area-index in
    let kept = ap (λ (w : SummaryInputsValue). w.areas) c.inputs.view_is in (
      c.with-given.ensures.in_order,
      λ area.
          let own = metric_into c.args.own area in
          let so_far = subst (λ (ones : List AreaConfig). IsMost (λ n. (own ≡ Some n) ⊎ GivenAmong v area p (take i ones) n) (metric_into c.loop-area.given area)) (sym kept) (c.loop-area.invariant.1 area) in
          subst (λ (ones : List AreaConfig). IsMost (λ n. (own ≡ Some n) ⊎ GivenAmong v area p (take (i + 1) ones) n) (metric_into c.with-given.result area)) kept
          (given_more v area p own areas i c.area-item.result (metric_into c.loop-area.given area) (metric_into c.with-given.result area) c.range_through.result c.loop-area-test.true c.area-item.is so_far c.range_through.ensures (c.with-given.ensures.greatest area)),
    )

pub returns : goal.returns
returns c = λ area.
    let v = c.args.inputs.now in
    let p = c.args.prefix in
    let i = c.loop-area.area-index in
    let own = metric_into c.args.own area in
    let most = metric_into c.loop-area.given area in
    let past = subst (λ (w : SummaryInputsValue). length w.areas ≤ i) c.inputs.view_is c.loop-area-test.false in
    given_all v area p own most (subst (λ (ones : List AreaConfig). IsMost (λ n. (own ≡ Some n) ⊎ GivenAmong v area p ones n) most) (take_all i v.areas past) (c.loop-area.invariant.1 area))
