-- Slots after an entry is gone.
use Rattle.std.proofs.Common.{◌≡◌, ◌≢◌, ℕ, ◌+◌, ◌-◌, ◌<◌, List, length, get_or, sym, ap, subst, ◌∙◌, arith}
use Rattle.ospf_types.specs.Network.{Network}
use Rattle.ospf_types.specs.declared.hasher.WordHash.{WordHash}
use Rattle.prefix_index.specs.Slots.{base_of, home_of, AreSlotted, HasNetwork, IsSlotPlaced, IsEntryRemoved}
use Rattle.prefix_index.specs.declared.slots.Slots.{Slots}
use Rattle.prefix_index.proofs.Lookups.{has_within, named_at}
use Rattle.prefix_index.proofs.Numbers.{other_number}
use Rattle.prefix_index.proofs.Whole.{IsSwapped}

module _ {V : Type 0} (hashing : WordHash) (es : List (Network × V)) (s : Slots) (slotted : AreSlotted hashing es s) (i : ℕ) (within : i < length es) (k : Network) (r : Slots) (same : r.bits ≡ s.bits)
    (kept : (h n : ℕ) → n ≢ base_of hashing s.bits k + i → IsSlotPlaced s.numbers.items h n → IsSlotPlaced r.numbers.items h n) where
  -- the slots of the others are found when that of the entry is out of use
  pub others_found : (q : ℕ) (p : Network) → q ≢ i → HasNetwork es q p → IsSlotPlaced r.numbers.items (home_of hashing r.bits p) (base_of hashing r.bits p + q)
  others_found q p apart has =
      let room = slotted.room in
      let inside = has_within es q p has in
      subst (λ (b : ℕ). IsSlotPlaced r.numbers.items (home_of hashing b p) (base_of hashing b p + q)) (sym same)
      (kept (home_of hashing s.bits p) (base_of hashing s.bits p + q) (other_number hashing s.bits p k q i (omega arith) (omega arith) apart) (slotted.placed q p has))

  -- the entry was the last one
  pub last_gone : i ≡ length es - 1 → r.used ≡ s.used → length r.numbers.items ≡ length s.numbers.items → IsEntryRemoved hashing es i s r
  last_gone last used long = record {
    bits = same;
    used = used;
    long = long;
    others = λ q p apart below has. others_found q p apart has;
    moved = λ p below. absurd (omega (arith, last));
  }

  -- the last one has its place
  pub last_moved : (d : Network × V) (t : Slots) → t.bits ≡ r.bits
      → ((h n : ℕ) → n ≢ base_of hashing r.bits (get_or es (length es - 1) d).0 + (length es - 1) → IsSlotPlaced r.numbers.items h n → IsSlotPlaced t.numbers.items h n)
      → IsSlotPlaced t.numbers.items (home_of hashing t.bits (get_or es (length es - 1) d).0) (base_of hashing t.bits (get_or es (length es - 1) d).0 + i)
      → t.used ≡ s.used → length t.numbers.items ≡ length s.numbers.items → IsEntryRemoved hashing es i s t
  last_moved d t same_too kept_too placed used long =
      let room = slotted.room in
      record {
        bits = same_too ∙ same;
        used = used;
        long = long;
        others = λ q p apart below has.
            subst (λ (b : ℕ). IsSlotPlaced t.numbers.items (home_of hashing b p) (base_of hashing b p + q)) (sym same_too)
            (kept_too (home_of hashing r.bits p) (base_of hashing r.bits p + q)
            (subst (λ (b : ℕ). base_of hashing b p + q ≢ base_of hashing b (get_or es (length es - 1) d).0 + (length es - 1)) (sym same)
            (other_number hashing s.bits p (get_or es (length es - 1) d).0 q (length es - 1) (omega arith) (omega arith) (λ one. omega (arith, one))))
            (others_found q p apart has));
        moved = λ p more has. subst (λ (x : Network). IsSlotPlaced t.numbers.items (home_of hashing t.bits x) (base_of hashing t.bits x + i)) (named_at es (length es - 1) p d has) placed;
      }

-- `swap_remove`, as it says of itself
pub swapped_by : {V : Type 0} (es fs : List (Network × V)) (i n m : ℕ) → n ≡ length es → m ≡ length fs → i < length es → m + 1 ≡ n
    → ((d : Network × V) → i + 1 < n → get_or fs i d ≡ get_or es (n - 1) d) × ((q : ℕ) (d : Network × V) → q ≢ i → q + 1 < n → get_or fs q d ≡ get_or es q d) → IsSwapped es fs i
swapped_by es fs i n m long less within one by = record {
  within = within;
  less = omega (arith, long, less, one);
  moved = λ d more. by.0 d (omega (arith, long, more)) ∙ ap (λ (l : ℕ). get_or es (l - 1) d) long;
  others = λ q d apart below. by.1 q d apart (omega (arith, long, below));
}
