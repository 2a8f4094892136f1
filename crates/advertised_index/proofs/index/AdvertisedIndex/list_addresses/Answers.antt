use Rattle.std.proofs.Common.{ℕ, List, refl, subst, sym, arith, ◌⊎◌, inl, inr}
use Rattle.std.specs.Prelude.{Contains}
use Rattle.advertised_index.specs.Indexes.{IsForwardedTo, IsForwardedInto}
use Rattle.advertised_index.specs.declared.index_key.IndexKey.TheVariants.{Forwarded}
use Rattle.advertised_index.proofs.Gathering.{some_listed, one_inside, all_inside}
use Rattle.advertised_index.proofs.index.AdvertisedIndex.list_addresses.Goals as goal

pub returns : goal.returns
returns c =
    let i = c.args.self.now in
    let network = c.args.network in
    let all = c.into_iter-address-iterator.result in
    let just = λ (a : ℕ). some_listed _ c.self.inside.members i c.self.view_is c.self.invariant (Forwarded a) in
    let only : (a : ℕ) → Contains all a → IsForwardedTo i a =
    λ a has. (just a).0 ((c.addresses-address-items.ensures a).0 (subst (λ (ns : List ℕ). Contains ns a) c.into_iter-address-iterator.ensures.into_iter_gives has)).0 in
    let there : (a : ℕ) → IsForwardedInto i network a → Contains all a =
    λ a to.
    let bounds = c.last_address-last.ensures.within a to.1 in
    subst (λ (ns : List ℕ). Contains ns a) (sym c.into_iter-address-iterator.ensures.into_iter_gives)
    ((c.addresses-address-items.ensures a).1 ((just a).1 to.0, omega (arith, bounds.0, c.address-first.ensures.value), bounds.1)) in
    all_inside network i c.args.addresses.now.items c.loop-address.addresses.items all c.loop-address.address-iterator c.in-None.ensures.steps.0 c.loop-address.invariant only there

pub loop-address-preserved : goal.loop-address-preserved
loop-address-preserved c =
    one_inside c.args.network c.args.addresses.now.items c.loop-address.addresses.items c.push_inside.new.addresses.items c.into_iter-address-iterator.result c.loop-address.address-iterator c.next.new.self c.in-Some.address.now c.in-Some.ensures.steps c.loop-address.invariant c.in_ok-push_inside.ensures

pub returns-then-not-may_have_addresses : goal.returns-then-not-may_have_addresses
returns-then-not-may_have_addresses c = λ a. (
  λ had. inl had,
  λ has. elim has [
    | inl had ↦ had
    | inr to ↦
        let bounds = c.last_address-last.ensures.within a to.1 in
        absurd (c.if-not-may_have_addresses.ensures refl a (omega (arith, bounds.0, c.address-first.ensures.value)) bounds.1 ((some_listed _ c.self.inside.members c.args.self.now c.self.view_is c.self.invariant (Forwarded a)).1 to.0))
  ],
)
