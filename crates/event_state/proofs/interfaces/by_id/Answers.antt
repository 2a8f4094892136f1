use Rattle.std.proofs.Common.{◌≡◌, ℕ, false, get_or, sym, ap, ◌∙◌}
use Rattle.std.proofs.lemmas.List.{get_or_default}
use Rattle.std.specs.Ordering.{nat_cmp}
use Rattle.std.specs.FinMap.{FinMap, insert}
use Rattle.ospf_types.specs.declared.config.Interface.{Interface}
use Rattle.event_state.specs.States.{interfaces_of}
use Rattle.event_state.proofs.Filling.{interfaces_more}
use Rattle.event_state.proofs.interfaces.by_id.Goals as goal

pub loop-id-preserved : goal.loop-id-preserved
loop-id-preserved c =
    let xs = c.args.interfaces.now in
    let i = c.loop-id.id-index in
    let none : ℕ × Interface = (0, record { area = 0; address = 0; peer = 0; up = false }) in
    let x = get_or xs i none in
    let told : interfaces_of c.put_interface.new.interfaces ≡ insert (interfaces_of c.loop-id.tree) x.0 x.1 = c.in_ok-put_interface.ensures.done in
    told ∙ ap (λ (m : FinMap nat_cmp Interface). insert m x.0 x.1) c.loop-id.invariant ∙ sym (interfaces_more xs i x c.loop-id-test.true (get_or_default xs i none x c.loop-id-test.true) c.requires)
