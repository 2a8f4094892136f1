use Rattle.std.proofs.Common.{◌≡◌, List, length, ap, sym, subst, ◌∙◌, arith}
use Rattle.std.specs.Vec.{with_items}
use Rattle.ospf_types.specs.declared.config.AreaConfig.{AreaConfig}
use Rattle.ospf_types.specs.declared.config.Config.{Config}
use Rattle.event_state.specs.Bases.{interfaces_in}
use Rattle.event_state.specs.Changes.{empty_values, lsas_in}
use Rattle.event_state.specs.Held.{IsHeld, AreInterfaces}
use Rattle.event_state.specs.States.{interfaces_of}
use Rattle.event_state.proofs.Faultless.{faultless}
use Rattle.event_state.proofs.Filling.{filled_items, interfaces_of_base}
use Rattle.event_state.proofs.state.State.from_base.Goals as goal

pub invariant_of-result : goal.invariant_of-result
invariant_of-result c =
    let b = c.args.base in
    let limits = c.args.limits in
    let v = c.in_ok-databases.databases in
    let new = c.put_all.new.databases in
    let filled = c.in_ok-put_all.ensures.filled in
    let first = c.in_ok-databases.ensures ∙ ap (λ (areas : List AreaConfig). empty_values areas limits) c.as_slice-areas.ensures in
    let is : (with_items v new).items ≡ new = filled_items b.config limits v new b.lsas first filled in
    let interfaces = c.in_ok-interfaces.ensures ∙ ap interfaces_in c.as_slice.ensures in
    record {
      held = subst (λ (k : Config). IsHeld k limits (with_items v new).items) (sym c.in_ok-config.ensures) (subst (IsHeld b.config limits) (sym is) filled.held);
      interfaces = subst (λ (k : Config). AreInterfaces k.areas (interfaces_of c.in_ok-interfaces.interfaces)) (sym c.in_ok-config.ensures)
          (subst (AreInterfaces b.config.areas) (sym interfaces) (interfaces_of_base limits b (faultless limits b c.requires)));
      serial = omega (arith, ap length c.new.ensures.items);
    }

pub returns : goal.returns
returns c =
    let b = c.args.base in
    let limits = c.args.limits in
    let v = c.in_ok-databases.databases in
    let new = c.put_all.new.databases in
    let filled = c.in_ok-put_all.ensures.filled in
    let first = c.in_ok-databases.ensures ∙ ap (λ (areas : List AreaConfig). empty_values areas limits) c.as_slice-areas.ensures in
    let lsas = ap lsas_in (filled_items b.config limits v new b.lsas first filled) ∙ filled.lsas in
    let interfaces = c.in_ok-interfaces.ensures ∙ ap interfaces_in c.as_slice.ensures in
    λ i. record { base = b; config = c.in_ok-config.ensures i; limits = limits; databases = lsas i; interfaces = interfaces i; journal = c.new.ensures.items i }
