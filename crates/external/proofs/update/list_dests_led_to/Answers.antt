-- One destination more.
use Rattle.route_choice.proofs.Adding.{gains_first, gains_next, gains_all}
use Rattle.external.specs.Updating.{IsAlso}
use Rattle.external.proofs.update.list_dests_led_to.Goals as goal

pub loop-dest-init : goal.loop-dest-init
loop-dest-init c = gains_first (IsAlso c.args.index.now) c.args.leading.now.items

pub loop-dest-preserved : goal.loop-dest-preserved
loop-dest-preserved c =
    gains_next (IsAlso c.args.index.now) c.args.dests.now c.loop-dest.dest-index c.dest-item.result c.args.leading.now.items c.loop-dest.leading.items c.list_if_led_to.new.leading.items
    c.loop-dest-test.true c.dest-item.is c.loop-dest.invariant c.in_ok-list_if_led_to.ensures

pub returns : goal.returns
returns c = gains_all (IsAlso c.args.index.now) c.args.dests.now c.loop-dest.dest-index c.args.leading.now.items c.loop-dest.leading.items c.loop-dest-test.false c.loop-dest.invariant
