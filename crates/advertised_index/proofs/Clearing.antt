-- All that was advertised is affected when an index is cleared, key by key.
use Rattle.std.proofs.Common.{◌≡◌, ℕ, ◌+◌, ◌<◌, ◌≤◌, List, length, get_or, drop, sym, subst, ◌⊎◌, inl, inr, Option, Some, None}
use Rattle.std.specs.Prelude.{◌↔◌, Contains, IsSome}
use Rattle.std.specs.FinMap as map
use Rattle.ospf_types.specs.declared.key.Dest.{Dest}
use Rattle.ospf_types.specs.declared.key.Key.{Key}
use Rattle.ospf_types.specs.Keys.{key_cmp}
use Rattle.advertised_index.specs.AdvertisedRoute.{AdvertisedValue}
use Rattle.advertised_index.specs.AffectedDests.{AreAdded}
use Rattle.advertised_index.specs.Indexes.{OfferIndexValue, ChangedOffersValue, IsTouchedAt, AreDestsAffected}
use Rattle.advertised_index.proofs.Following.{left_or_now, none_left, there_or_not}

-- nothing is advertised any more under the keys that are not left
pub record AreTouchedBut (left : List Key) (i : OfferIndexValue) (before after : ChangedOffersValue) : Type 0 where
  pub dests : (dest : Dest) → Contains before.dests dest → Contains after.dests dest
  pub addresses : (address : ℕ) → Contains before.addresses address → Contains after.addresses address
  pub each : (k : Key) → Contains left k ⊎ IsTouchedAt (map.get i.routes k) None after

-- what one route says is affected, and more
now_touched : (o : Option AdvertisedValue) (v w : ChangedOffersValue) → AreAdded o v w → IsTouchedAt o None w
now_touched o v w added =
    inr (
      λ dest has. elim has [ inl was ↦ added.dest dest was | inr is ↦ absurd (let wrong : None ≡ Some is.0 = is.1 in cc) ],
      λ address has. elim has [ inl was ↦ added.forwarding address was | inr is ↦ absurd (let wrong : None ≡ Some is.0 = is.1 in cc) ],
    )

still_touched : (o p : Option AdvertisedValue) (v w : ChangedOffersValue) → ((dest : Dest) → Contains v.dests dest → Contains w.dests dest) → ((address : ℕ) → Contains v.addresses address → Contains w.addresses address)
    → IsTouchedAt o p v → IsTouchedAt o p w
still_touched o p v w dests addresses (inl same) = inl same
still_touched o p v w dests addresses (inr both) = inr (λ dest has. dests dest (both.0 dest has), λ address has. addresses address (both.1 address has))

module _ (i : OfferIndexValue) (keys : List Key) where
  pub none_touched : (v : ChangedOffersValue) → ((k : Key) → Contains keys k ↔ IsSome (map.get i.routes k)) → AreTouchedBut keys i v v
  none_touched v exact =
      record {
        dests = λ dest c. c;
        addresses = λ address c. c;
        each = λ k. elim (there_or_not (map.get i.routes k)) [ inl some ↦ inl ((exact k).1 some) | inr none ↦ inr (inl (sym none)) ];
      }

  module _ (place : ℕ) where
    pub one_touched : (u v w : ChangedOffersValue) (key first : Key) → place < length keys → key ≡ get_or keys place first → AreTouchedBut (drop place keys) i u v → AreAdded (map.get i.routes key) v w → AreTouchedBut (drop (place + 1) keys) i u w
    one_touched u v w key first lt is so_far added =
        record {
          dests = λ dest c. added.dests dest (so_far.dests dest c);
          addresses = λ address c. added.addresses address (so_far.addresses address c);
          each = λ k. elim (so_far.each k) [
            | inr touched ↦ inr (still_touched (map.get i.routes k) None v w added.dests added.addresses touched)
            | inl left ↦ elim (left_or_now keys place key first k lt is left) [
              | inr later ↦ inl later
              | inl same ↦ inr (subst (λ (q : Key). IsTouchedAt (map.get i.routes q) None w) (sym same) (now_touched (map.get i.routes key) v w added))
            ]
          ];
        }

    pub all_touched : (u v : ChangedOffersValue) → length keys ≤ place → AreTouchedBut (drop place keys) i u v → AreDestsAffected i (record { routes = map.empty }) u v
    all_touched u v past so_far =
        record {
          dests = so_far.dests;
          addresses = so_far.addresses;
          each = λ k. elim (so_far.each k) [
            | inl left ↦ absurd (none_left keys place k past left)
            | inr touched ↦ subst (λ (o : Option AdvertisedValue). IsTouchedAt (map.get i.routes k) o v) (sym (map.get-empty key_cmp k)) touched
          ];
        }
