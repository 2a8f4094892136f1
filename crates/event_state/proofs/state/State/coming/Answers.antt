use Rattle.std.proofs.Common.{List, ◌<◌, ◌≤◌, length, get_or, ap, ◌∙◌, arith}
use Rattle.ospf_types.specs.declared.config.AreaConfig.{AreaConfig}
use Rattle.ospf_types.specs.declared.config.Config.{Config}
use Rattle.event_state.proofs.Naming.{listed_more, listed_all, still_listed}
use Rattle.event_state.proofs.state.State.coming.Goals as goal

pub loop-area-preserved : goal.loop-area-preserved
loop-area-preserved c =
    let s = c.args.self.now in
    let i = c.loop-area.area-index in
    let area = c.area-item.result in
    let areas = c.as_slice-area-items.ensures ∙ ap (λ (g : Config). g.areas) c.config.ensures.value in
    let within : i < length s.config.areas = omega (arith, c.loop-area-test.true, ap length areas) in
    let here = c.area-item.is ∙ ap (λ (all : List AreaConfig). get_or all i area) areas in
    listed_more c.loop-area.named.items c.add_coming.new.named.items s i area within here c.in_ok-add_coming.ensures.kept c.loop-area.invariant c.in_ok-add_coming.ensures.listed

pub returns : goal.returns
returns c =
    let before = c.loop-area.named.items in
    let named = c.add_coming-2.new.named.items in
    let s = c.args.self.now in
    let kept = c.in_ok-add_coming-2.ensures.kept in
    let areas = c.as_slice-area-items.ensures ∙ ap (λ (g : Config). g.areas) c.config.ensures.value in
    let past : length s.config.areas ≤ c.loop-area.area-index = omega (arith, c.loop-area-test.false, ap length areas) in
    listed_all named s c.loop-area.area-index past (λ j lt. still_listed before named s _ kept (c.loop-area.invariant j lt)) c.in_ok-add_coming-2.ensures.listed
