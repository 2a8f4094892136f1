-- One address more.
use Rattle.std.proofs.Common.{ℕ, List, get_or, refl, sym, subst, inl, inr}
use Rattle.std.specs.Prelude.{Contains}
use Rattle.std.proofs.lemmas.List.{get_or_default}
use Rattle.route_choice.proofs.Adding.{gains_first, gains_next, gains_all}
use Rattle.external.specs.Forwards.{forwards_in}
use Rattle.external.specs.Updating.{IsAddressAffected}
use Rattle.external.proofs.update.AddressMatches.list_due_in.Goals as goal

pub loop-address-init : goal.loop-address-init
loop-address-init c = gains_first (IsAddressAffected (forwards_in c.args.self.now.forwards.now) c.args.network) c.args.due.now.items

pub loop-address-preserved : goal.loop-address-preserved
loop-address-preserved c =
    let ns = c.deref-address-items.result.now in
    let i = c.loop-address.address-index in
    let n = get_or ns i 0 in
    gains_next (IsAddressAffected (forwards_in c.args.self.now.forwards.now) c.args.network) ns i n c.args.due.now.items c.loop-address.due.items c.list_if_due.new.due.items c.loop-address-test.true (get_or_default ns i 0 n c.loop-address-test.true)
    c.loop-address.invariant c.in_ok-list_if_due.ensures

pub returns : goal.returns
returns c = λ a w.
    gains_all (IsAddressAffected (forwards_in c.args.self.now.forwards.now) c.args.network) c.deref-address-items.result.now c.loop-address.address-index c.args.due.now.items c.loop-address.due.items c.loop-address-test.false c.loop-address.invariant a
    (elim w [
      | inl there ↦ inl there
      | inr due ↦ inr (a, subst (λ (ns : List ℕ). Contains ns a) (sym c.deref-address-items.ensures.value) ((c.in_ok-list_addresses.ensures a).1 (inr due.0)), (refl, due.1))
    ])
