-- One more.
use Rattle.std.proofs.Common.{get_or}
use Rattle.std.proofs.lemmas.List.{get_or_default}
use Rattle.route_choice.proofs.Adding.{more_first, more_next, more_all}
use Rattle.external.specs.Updating.{IsLedBy}
use Rattle.external.proofs.update.list_dests_by_routers.Goals as goal

pub loop-router-init : goal.loop-router-init
loop-router-init c = more_first (IsLedBy c.args.index.now) c.args.dests.now.items

pub loop-router-preserved : goal.loop-router-preserved
loop-router-preserved c =
    let ns = c.args.routers.now in
    let i = c.loop-router.router-index in
    let n = get_or ns i 0 in
    more_next (IsLedBy c.args.index.now) ns i n c.args.dests.now.items c.loop-router.dests.items c.list_dests.new.dests.items c.loop-router-test.true (get_or_default ns i 0 n c.loop-router-test.true)
    c.loop-router.invariant c.in_ok-list_dests.ensures

pub returns : goal.returns
returns c = more_all (IsLedBy c.args.index.now) c.args.routers.now c.loop-router.router-index c.args.dests.now.items c.loop-router.dests.items c.loop-router-test.false c.loop-router.invariant
