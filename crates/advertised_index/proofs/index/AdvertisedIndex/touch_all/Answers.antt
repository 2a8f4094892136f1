use Rattle.std.proofs.Common.{refl, get_or, subst, sym, List, Option}
use Rattle.std.specs.Prelude.{◌↔◌, Contains, IsSome}
use Rattle.std.specs.FinMap.{get}
use Rattle.ospf_types.specs.declared.key.Key.{Key}
use Rattle.advertised_index.specs.AdvertisedRoute.{AdvertisedValue}
use Rattle.advertised_index.specs.AffectedDests.{AreAdded}
use Rattle.advertised_index.specs.Indexes.{OfferIndexValue}
use Rattle.advertised_index.proofs.Clearing.{none_touched, one_touched, all_touched}
use Rattle.advertised_index.proofs.index.AdvertisedIndex.touch_all.Goals as goal

pub loop-key-init : goal.loop-key-init
loop-key-init c =
    let i = c.args.self.now in
    let found = subst (λ (j : OfferIndexValue). (k : Key) → Contains c.in_ok-keys.keys.items k ↔ IsSome (get j.routes k)) c.self.view_is c.in_ok-keys.ensures.exact in
    none_touched i c.as_slice-key-items.result.now c.args.affected.now (subst (λ (ks : List Key). (k : Key) → Contains ks k ↔ IsSome (get i.routes k)) (sym c.as_slice-key-items.ensures.value) found)

pub loop-key-preserved : goal.loop-key-preserved
loop-key-preserved c =
    let blank : Key = record { kind = 0; id = 0; router = 0 } in
    let keys = c.as_slice-key-items.result.now in
    let place = c.loop-key.key-index in
    let added = subst (λ (o : Option AdvertisedValue). AreAdded o c.loop-key.affected c.add.new.self) c.route.ensures c.in_ok-add.ensures in
    one_touched c.args.self.now keys place c.args.affected.now c.loop-key.affected c.add.new.self (get_or keys place blank) blank c.loop-key-test.true refl c.loop-key.invariant added

pub returns : goal.returns
returns c = all_touched c.args.self.now c.as_slice-key-items.result.now c.loop-key.key-index c.args.affected.now c.loop-key.affected c.loop-key-test.false c.loop-key.invariant
