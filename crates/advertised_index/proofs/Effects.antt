-- The destinations and addresses that added and removed routes affect.
use Rattle.std.proofs.Common.{◌≡◌, ◌≢◌, ℕ, ◌<◌, inl, inr, Option, Some, None, refl, sym, ap, subst, ◌∙◌}
use Rattle.std.specs.Prelude.{Contains}
use Rattle.std.specs.FinMap.{get}
use Rattle.ospf_types.specs.declared.key.Dest.{Dest}
use Rattle.ospf_types.specs.declared.key.Key.{Key}
use Rattle.ospf_types.proofs.Orders.{key_total, key_exact}
use Rattle.route_choice.proofs.KeyedMaps.{one_or_other}
use Rattle.advertised_index.specs.AdvertisedRoute.{AdvertisedValue}
use Rattle.advertised_index.specs.AffectedDests.{AreAdded}
use Rattle.advertised_index.specs.Indexes.{OfferIndexValue, ChangedOffersValue, HasDest, HasForwarding, IsTouchedAt, AreDestsAffected}

-- ---- what one route adds

pub added_none : (v : ChangedOffersValue) → AreAdded None v v
added_none v = record { dests = λ dest c. c; addresses = λ address c. c; dest = λ dest has. absurd (let wrong : None ≡ Some has.0 = has.1 in cc); forwarding = λ address has. absurd (let wrong : None ≡ Some has.0 = has.1 in cc) }

pub added_some : (a : AdvertisedValue) (before after : ChangedOffersValue) → ((dest : Dest) → Contains before.dests dest → Contains after.dests dest) → Contains after.dests a.dest
    → ((address : ℕ) → Contains before.addresses address → Contains after.addresses address) → (0 < a.forwarding → Contains after.addresses a.forwarding) → AreAdded (Some a) before after
added_some a before after dests dest addresses forwarding =
    record {
      dests = dests;
      addresses = addresses;
      dest = λ d has. let both : Some a ≡ Some has.0 = has.1 in let same : a ≡ has.0 = cc in subst (Contains after.dests) (ap (λ (b : AdvertisedValue). b.dest) same ∙ has.2) dest;
      forwarding = λ n has.
          let both : Some a ≡ Some has.0 = has.1 in let same : a ≡ has.0 = cc in
          let is : a.forwarding ≡ n = ap (λ (b : AdvertisedValue). b.forwarding) same ∙ has.2 in
          subst (Contains after.addresses) is (forwarding (subst (λ m. 0 < m) (sym is) has.3));
    }

-- ---- from one index to the next

-- where nothing is touched
pub touched_none : (i : OfferIndexValue) (v : ChangedOffersValue) → AreDestsAffected i i v v
touched_none i v = record { dests = λ dest c. c; addresses = λ address c. c; each = λ k. inl refl }

-- another route under one key; what was there and what is there are affected
pub touched_at : (old new : OfferIndexValue) (key : Key) (before between after : ChangedOffersValue) → AreAdded (get old.routes key) before between → AreAdded (get new.routes key) between after
    → ((k : Key) → k ≢ key → get new.routes k ≡ get old.routes k) → AreDestsAffected old new before after
touched_at old new key before between after first second others =
    record {
      dests = λ dest c. second.dests dest (first.dests dest c);
      addresses = λ address c. second.addresses address (first.addresses address c);
      each = λ k.
          elim (one_or_other key_total key_exact key k) [
            | inl same ↦ inr (
              λ dest has. elim has [
                | inl was ↦ second.dests dest (first.dest dest (subst (λ (q : Key). HasDest (get old.routes q) dest) same was))
                | inr is ↦ second.dest dest (subst (λ (q : Key). HasDest (get new.routes q) dest) same is)
              ],
              λ address has. elim has [
                | inl was ↦ second.addresses address (first.forwarding address (subst (λ (q : Key). HasForwarding (get old.routes q) address) same was))
                | inr is ↦ second.forwarding address (subst (λ (q : Key). HasForwarding (get new.routes q) address) same is)
              ],
            )
            | inr other ↦ inl (others k other)
          ];
    }

-- ---- two steps

module _ (v w : ChangedOffersValue) (dests : (dest : Dest) → Contains v.dests dest → Contains w.dests dest) (addresses : (address : ℕ) → Contains v.addresses address → Contains w.addresses address) where
  at_both : (a b c : Option AdvertisedValue) → IsTouchedAt a b v → IsTouchedAt b c w → IsTouchedAt a c w
  at_both a b c (inl same) second = subst (λ (o : Option AdvertisedValue). IsTouchedAt o c w) same second
  at_both a b c (inr first) (inl same) =
      subst (λ (o : Option AdvertisedValue). IsTouchedAt a o w) (sym same) (inr (λ dest has. dests dest (first.0 dest has), λ address has. addresses address (first.1 address has)))
  at_both a b c (inr first) (inr second) =
      inr (
        λ dest has. elim has [ inl was ↦ dests dest (first.0 dest (inl was)) | inr is ↦ second.0 dest (inr is) ],
        λ address has. elim has [ inl was ↦ addresses address (first.1 address (inl was)) | inr is ↦ second.1 address (inr is) ],
      )

pub touched_both : (a b c : OfferIndexValue) (u v w : ChangedOffersValue) → AreDestsAffected a b u v → AreDestsAffected b c v w → AreDestsAffected a c u w
touched_both a b c u v w first second =
    record {
      dests = λ dest has. second.dests dest (first.dests dest has);
      addresses = λ address has. second.addresses address (first.addresses address has);
      each = λ k. at_both v w second.dests second.addresses (get a.routes k) (get b.routes k) (get c.routes k) (first.each k) (second.each k);
    }
