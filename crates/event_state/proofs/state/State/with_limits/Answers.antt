use Rattle.std.proofs.Common.{◌≡◌, List, length, ap, sym, subst, ◌∙◌, arith, rules}
use Rattle.std.specs.FinMap.{empty}
use Rattle.ospf_types.specs.declared.config.AreaConfig.{AreaConfig}
use Rattle.event_state.specs.declared.base.Base.{Base}
use Rattle.event_state.specs.Bases.{bare}
use Rattle.event_state.specs.Changes.{empty_values}
use Rattle.event_state.specs.Held.{AreInterfaces}
use Rattle.event_state.specs.States.{interfaces_of}
use Rattle.event_state.proofs.Filling.{filled_new, interfaces_none, no_interfaces_in}
use Rattle.event_state.proofs.state.State.with_limits.Goals as goal

pub invariant_of-result : goal.invariant_of-result
invariant_of-result c =
    let is = c.in_ok-databases.ensures ∙ ap (λ (areas : List AreaConfig). empty_values areas c.args.limits) c.as_slice.ensures in
    let none : interfaces_of c.new.result ≡ empty = search rules in
    record {
      held = (filled_new c.args.config c.args.limits c.in_ok-databases.databases.items is).held;
      interfaces = subst (AreInterfaces c.args.config.areas) (sym none) (interfaces_none c.args.config.areas);
      serial = omega (arith, ap (λ (b : Base). b.serial) c.bare-base.ensures, ap length c.new-2.ensures.items);
    }

pub returns : goal.returns
returns c =
    let is = c.in_ok-databases.ensures ∙ ap (λ (areas : List AreaConfig). empty_values areas c.args.limits) c.as_slice.ensures in
    let lsas = (filled_new c.args.config c.args.limits c.in_ok-databases.databases.items is).lsas in
    let none : interfaces_of c.new.result ≡ empty = search rules in
    let base = c.bare-base.ensures ∙ ap bare c.in_ok-copy.ensures in
    λ i. record { base = base i; config = c.args.config; limits = c.args.limits; databases = lsas i; interfaces = (none ∙ sym no_interfaces_in) i; journal = c.new-2.ensures.items i }
