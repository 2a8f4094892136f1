use Rattle.std.proofs.Common.{refl, get_or}
use Rattle.ospf_types.specs.declared.key.Key.{Key}
use Rattle.ospf_types.specs.declared.key.Scope.{Scope}
use Rattle.ospf_types.specs.declared.key.Scope.TheVariants.{Area}
use Rattle.advertised_index.proofs.Following.{followed_first, followed_more, followed_all}
use Rattle.advertised_index.proofs.index.AdvertisedIndex.follow.Goals as goal

pub loop-named-init : goal.loop-named-init
loop-named-init c =
    followed_first c.args.from.root c.args.from.scope c.args.from.database.now.lsas c.args.keys.now c.requires.before.0 c.args.self.now c.args.affected.now c.requires.before.1 c.requires.before.2

pub loop-named-preserved : goal.loop-named-preserved
loop-named-preserved c =
    let blank : Scope × Key = (Area 0, record { kind = 0; id = 0; router = 0 }) in
    let keys = c.args.keys.now in
    let place = c.loop-named.named-index in
    let done = c.in_ok-follow_named.ensures in
    followed_more c.args.from.root c.args.from.scope c.args.from.database.now.lsas keys place c.args.self.now c.loop-named.self c.follow_named.new.self c.args.affected.now c.loop-named.affected c.follow_named.new.affected (get_or keys place blank) blank c.loop-named-test.true refl c.loop-named.invariant done.taken done.others done.touched

pub returns-clause-index : goal.returns-clause-index
returns-clause-index c =
    followed_all c.args.from.root c.args.from.scope c.args.from.database.now.lsas c.args.keys.now c.loop-named.named-index c.args.self.now c.loop-named.self c.args.affected.now c.loop-named.affected c.loop-named-test.false c.loop-named.invariant
