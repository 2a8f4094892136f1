-- Slots for entries, one after the other.
use Rattle.std.proofs.Common.{◌≡◌, ℕ, ◌+◌, ◌^◌, ◌<◌, ◌≤◌, List, length, sym, subst, arith}
use Rattle.ospf_types.specs.Network.{Network}
use Rattle.ospf_types.specs.declared.hasher.WordHash.{WordHash}
use Rattle.prefix_index.specs.Slots.{base_of, home_of, AreHomesFew, AreSlotted, HasNetwork, IsMore, IsSlotPlaced}
use Rattle.prefix_index.specs.declared.slots.Slots.{Slots}
use Rattle.prefix_index.proofs.Lookups.{has_within}
use Rattle.prefix_index.proofs.Numbers.{some_number}
use Rattle.prefix_index.proofs.Places.{by_place}

-- the entries before the place have slots
pub record AreAdded {V : Type 0} (hashing : WordHash) (entries : List (Network × V)) (s : Slots) (place : ℕ) : Type 0 where
  pub small : s.bits ≤ 31
  pub room : length entries + 3 ≤ 2 ^ s.bits
  pub long : 2 ^ s.bits ≤ length s.numbers.items
  pub placed : (i : ℕ) (p : Network) → i < place → HasNetwork entries i p → IsSlotPlaced s.numbers.items (home_of hashing s.bits p) (base_of hashing s.bits p + i)
  pub used : s.used ≤ place
  pub bound : length s.numbers.items ≤ 2 ^ s.bits + 64 + s.used
  pub few : AreHomesFew s.bits (length entries)

-- what was found is found at the same bits
pub placed_more : (hashing : WordHash) {s t : Slots} → IsMore s t → (p : Network) (i : ℕ) → IsSlotPlaced s.numbers.items (home_of hashing s.bits p) (base_of hashing s.bits p + i) → IsSlotPlaced t.numbers.items (home_of hashing t.bits p) (base_of hashing t.bits p + i)
placed_more hashing {s} {t} more p i placed =
    subst (λ (b : ℕ). IsSlotPlaced t.numbers.items (home_of hashing b p) (base_of hashing b p + i)) (sym more.bits) (more.kept (home_of hashing s.bits p) (base_of hashing s.bits p + i) (some_number hashing s.bits p i) placed)

module _ {V : Type 0} {hashing : WordHash} {entries : List (Network × V)} where
  pub added_more : {s t : Slots} {place : ℕ} → AreAdded hashing entries s place → IsMore s t → (p : Network) → HasNetwork entries place p → ((q : Network) → HasNetwork entries place q → q ≡ p)
      → IsSlotPlaced t.numbers.items (home_of hashing t.bits p) (base_of hashing t.bits p + place) → AreAdded hashing entries t (place + 1)
  added_more {s} {t} {place} added more p has only here = record {
    small = subst (λ (b : ℕ). b ≤ 31) (sym more.bits) added.small;
    room = subst (λ (b : ℕ). length entries + 3 ≤ 2 ^ b) (sym more.bits) added.room;
    long = subst (λ (b : ℕ). 2 ^ b ≤ length t.numbers.items) (sym more.bits) (let long = added.long in let longer = more.longer in omega arith);
    placed = λ i q below at. by_place i place
        (λ same. subst (λ (j : ℕ). IsSlotPlaced t.numbers.items (home_of hashing t.bits q) (base_of hashing t.bits q + j)) (sym same)
        (subst (λ (r : Network). IsSlotPlaced t.numbers.items (home_of hashing t.bits r) (base_of hashing t.bits r + place)) (sym (only q (subst (λ (j : ℕ). HasNetwork entries j q) same at))) here))
        (λ other. placed_more hashing more q i (added.placed i q (omega (arith, other)) at));
    used = let used = added.used in let one = more.used in omega arith;
    bound = subst (λ (b : ℕ). length t.numbers.items ≤ 2 ^ b + 64 + t.used) (sym more.bits) (let bound = added.bound in let more_bound = more.bound in omega arith);
    few = subst (λ (b : ℕ). AreHomesFew b (length entries)) (sym more.bits) added.few;
  }

  pub added_all : {s : Slots} {place : ℕ} → AreAdded hashing entries s place → length entries ≡ place → AreSlotted hashing entries s
  added_all added all = record {
    small = added.small;
    room = let room = added.room in omega arith;
    placed = λ i p has. added.placed i p (subst (λ (n : ℕ). i < n) all (has_within entries i p has)) has;
    used = let room = added.room in let used = added.used in omega arith;
    bound = added.bound;
  }

  -- one slot more harms no entry
  pub more_slotted : {s t : Slots} → AreSlotted hashing entries s → s.used < 2 ^ s.bits → IsMore s t → AreSlotted hashing entries t
  more_slotted {s} {t} slotted spare more = record {
    small = subst (λ (b : ℕ). b ≤ 31) (sym more.bits) slotted.small;
    room = subst (λ (b : ℕ). length entries + 2 ≤ 2 ^ b) (sym more.bits) slotted.room;
    placed = λ i p has. placed_more hashing more p i (slotted.placed i p has);
    used = subst (λ (b : ℕ). t.used ≤ 2 ^ b) (sym more.bits) (let used = more.used in omega arith);
    bound = subst (λ (b : ℕ). length t.numbers.items ≤ 2 ^ b + 64 + t.used) (sym more.bits) (let bound = slotted.bound in let more_bound = more.bound in omega arith);
  }
