use Rattle.std.proofs.Common.{refl, get_or, List, subst, sym}
use Rattle.std.specs.Prelude.{Contains}
use Rattle.ospf_types.specs.declared.key.Key.{Key}
use Rattle.advertised_index.proofs.Following.{IsFollowed, begun, gone_on, gone_through}
use Rattle.advertised_index.proofs.index.AdvertisedIndex.follow_all.Goals as goal

pub loop-key-init : goal.loop-key-init
loop-key-init c =
    let d = c.args.from.database.now in
    let i = c.args.self.now in
    let v = c.args.affected.now in
    let first = begun c.args.from.root c.args.from.scope d.lsas d v refl c.keys-key-items.ensures.ordered i c.requires in
    subst (λ (ks : List Key). IsFollowed c.args.from.root c.args.from.scope d.lsas (Contains ks) i i v v) (sym c.keys-key-items.ensures.value) first

pub loop-key-preserved : goal.loop-key-preserved
loop-key-preserved c =
    let blank : Key = record { kind = 0; id = 0; router = 0 } in
    let keys = c.keys-key-items.result.now in
    let place = c.loop-key.key-index in
    let done = c.in_ok-follow_key.ensures in
    gone_on c.args.from.root c.args.from.scope c.args.from.database.now.lsas keys place c.args.self.now c.loop-key.self c.follow_key.new.self c.args.affected.now c.loop-key.affected c.follow_key.new.affected (get_or keys place blank) blank c.loop-key-test.true refl c.loop-key.invariant done.taken done.others done.touched

pub returns-clause-index : goal.returns-clause-index
returns-clause-index c =
    gone_through c.args.from.root c.args.from.scope c.args.from.database.now.lsas c.keys-key-items.result.now c.loop-key.key-index c.args.self.now c.loop-key.self c.args.affected.now c.loop-key.affected c.loop-key-test.false c.loop-key.invariant
