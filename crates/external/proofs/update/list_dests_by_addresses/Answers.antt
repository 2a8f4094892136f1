-- One more.
use Rattle.std.proofs.Common.{get_or}
use Rattle.std.proofs.lemmas.List.{get_or_default}
use Rattle.route_choice.proofs.Adding.{more_first, more_next, more_all}
use Rattle.external.specs.Updating.{IsLedByAddress}
use Rattle.external.proofs.update.list_dests_by_addresses.Goals as goal

pub loop-address-init : goal.loop-address-init
loop-address-init c = more_first (IsLedByAddress c.args.index.now) c.args.dests.now.items

pub loop-address-preserved : goal.loop-address-preserved
loop-address-preserved c =
    let ns = c.args.addresses.now in
    let i = c.loop-address.address-index in
    let n = get_or ns i 0 in
    more_next (IsLedByAddress c.args.index.now) ns i n c.args.dests.now.items c.loop-address.dests.items c.list_dests.new.dests.items c.loop-address-test.true (get_or_default ns i 0 n c.loop-address-test.true)
    c.loop-address.invariant c.in_ok-list_dests.ensures

pub returns : goal.returns
returns c = more_all (IsLedByAddress c.args.index.now) c.args.addresses.now c.loop-address.address-index c.args.dests.now.items c.loop-address.dests.items c.loop-address-test.false c.loop-address.invariant
