use Rattle.std.proofs.Common.{◌≡◌, false, List, sym, ap, subst, ◌∙◌}
use Rattle.std.specs.Prelude.{◌↔◌}
use Rattle.ospf_types.specs.declared.config.AreaConfig.{AreaConfig}
use Rattle.ospf_types.specs.RangeChanges.{with_ranges, areas_without_ranges}
use Rattle.ospf_types.proofs.RangeChanges.{others_kept}
use Rattle.event_state.specs.contracts.state.State.{the_view}
use Rattle.event_state.specs.RangeEvents.{changed_ranges}
use Rattle.event_state.specs.States.{State, LooksAlike}
use Rattle.event_state.specs.Steps.{with_range_change}
use Rattle.event_state.proofs.Looks.{ranges_look}
use Rattle.event_state.proofs.SamePlaces.{held_same, interfaces_same}
use Rattle.event_state.proofs.state.State.change_ranges.Goals as goal

pub ranges_differ-changed-requires : goal.ranges_differ-changed-requires
ranges_differ-changed-requires c =
    ap areas_without_ranges (c.as_slice.ensures ∙ c.in_ok-new.ensures) ∙ others_kept c.as_slice-areas.result.now c.args.area (changed_ranges c.args.change.now)

pub invariant_of-self : goal.invariant_of-self
invariant_of-self c =
    let i = c.self.inside in
    let change = changed_ranges c.args.change.now in
    let is : c.in_ok-new.new ≡ with_ranges i.config.areas c.args.area change = c.in_ok-new.ensures ∙ ap (λ (areas : List AreaConfig). with_ranges areas c.args.area change) c.as_slice-areas.ensures in
    let same : areas_without_ranges i.config.areas ≡ areas_without_ranges c.in_ok-new.new = sym (ap areas_without_ranges is ∙ others_kept i.config.areas c.args.area change) in
    record {
      held = held_same i.config (record i.config { areas = c.in_ok-new.new }) i.limits i.databases.items same c.self.invariant.held;
      interfaces = interfaces_same i.config.areas c.in_ok-new.new same _ c.self.invariant.interfaces;
      serial = c.self.invariant.serial;
    }

pub returns-clause-changed : goal.returns-clause-changed
returns-clause-changed c =
    let i = c.self.inside in
    let changed = c.ranges_differ-changed.result in
    let change = changed_ranges c.args.change.now in
    let is : c.in_ok-new.new ≡ with_ranges i.config.areas c.args.area change = c.in_ok-new.ensures ∙ ap (λ (areas : List AreaConfig). with_ranges areas c.args.area change) c.as_slice-areas.ensures in
    let told : (changed ≡ false) ↔ (c.in_ok-new.new ≡ i.config.areas) = (
      λ e. sym c.as_slice.ensures ∙ c.ranges_differ-changed.ensures.0 e ∙ c.as_slice-areas.ensures,
      λ same. c.ranges_differ-changed.ensures.1 (c.as_slice.ensures ∙ same ∙ sym c.as_slice-areas.ensures),
    ) in
    subst (λ (s : State). (changed ≡ false) ↔ LooksAlike s (with_range_change s c.args.area change)) c.self.view_is (ranges_look (the_view i) changed c.args.area change c.in_ok-new.new is told)
