use Rattle.std.proofs.Common.{get_or, refl}
use Rattle.ospf_types.specs.declared.key.Key.{Key}
use Rattle.area_trees.proofs.Following.{right_at_first, right_more, right_all}
use Rattle.area_trees.proofs.networks.NetworkLsas.follow.Goals as goal

pub loop-key-init : goal.loop-key-init
loop-key-init c = right_at_first c.requires.0 c.args.database.now.lsas c.args.keys.now c.args.self.now c.requires.1 c.requires.2

pub loop-key-preserved : goal.loop-key-preserved
loop-key-preserved c =
    let blank : Key = record { kind = 0; id = 0; router = 0 } in
    let keys = c.args.keys.now in
    let i = c.loop-key.key-index in
    right_more c.args.database.now.lsas keys i c.loop-key.self c.follow_key.new.self (get_or keys i blank) blank c.loop-key-test.true refl c.loop-key.invariant c.in_ok-follow_key.ensures.own c.in_ok-follow_key.ensures.others

pub returns : goal.returns
returns c = right_all c.args.database.now.lsas c.args.keys.now c.loop-key.key-index c.loop-key.self c.loop-key-test.false c.loop-key.invariant
