-- The map after each change.
use Rattle.std.proofs.Common.{◌≡◌, ◌≢◌, ℕ, ◌+◌, ◌-◌, ◌^◌, ◌<◌, ◌≤◌, List, [], ◌∷◌, ◌++◌, length, get_or, Some, None, is_some, true, inl, inr, refl, sym, ap, subst, ◌∙◌, length-append, arith}
use Rattle.std.specs.FinMap.{FinMap, get, insert, remove}
use Rattle.std.specs.List.{slice_get}
use Rattle.std.proofs.Math.ListN.{set}
use Rattle.std.proofs.lemmas.List.{get_or-set_same, get_or-set_other, get_or_push, get_or_append_left, length-set}
use Rattle.std.proofs.lemmas.Option.{slice_get-get_or, slice_get_within, slice_get_past, get_or_from_slice_get, none-some}
use Rattle.ospf_types.specs.Network.{Network, network_cmp}
use Rattle.ospf_types.specs.declared.hasher.WordHash.{WordHash}
use Rattle.prefix_index.specs.Slots.{base_of, home_of, AreSlotted, HasNetwork, IsMore, IsOnce, IsSlotPlaced, HasFreeSlot, IsEntryRemoved, AreSlotsRight}
use Rattle.prefix_index.specs.declared.slots.Slots.{Slots}
use Rattle.prefix_index.proofs.Adding.{more_slotted}
use Rattle.prefix_index.proofs.Lookups.{has_within}
use Rattle.prefix_index.proofs.Places.{by_place, below_or_not}
use Rattle.prefix_index.proofs.Standing.{map_of, gotten, one_entry, put_stands, take_stands, none_at, nowhere}

module _ {E : Type 0} where
  -- two lists have one element at two places
  pub same_get : (xs ys : List E) (i j : ℕ) → i < length xs → j < length ys → ((d : E) → get_or xs i d ≡ get_or ys j d) → (e : E) → slice_get ys j ≡ Some e → slice_get xs i ≡ Some e
  same_get xs ys i j first second same e is = slice_get-get_or xs i e first ∙ ap (λ (x : E). Some x) (same e ∙ get_or_from_slice_get ys j e e is)

  pub set_here : (xs : List E) (i : ℕ) (e : E) → i < length xs → slice_get (set xs i e) i ≡ Some e
  set_here xs i e within = slice_get-get_or (set xs i e) i e (let same : length (set xs i e) ≡ length xs = length-set xs i e in omega (arith, same)) ∙ ap (λ (x : E). Some x) (get_or-set_same xs i e e within)

  pub set_others : (xs : List E) (i : ℕ) (e : E) (q : ℕ) → q ≢ i → slice_get (set xs i e) q ≡ slice_get xs q
  set_others xs i e q other = elim (below_or_not q (length xs)) as (λ _. slice_get (set xs i e) q ≡ slice_get xs q) [
    | inl below ↦
        let same : length (set xs i e) ≡ length xs = length-set xs i e in
        slice_get-get_or (set xs i e) q e (omega (arith, same)) ∙ ap (λ (x : E). Some x) (get_or-set_other xs i q e e other) ∙ sym (slice_get-get_or xs q e below)
    | inr past ↦
        let same : length (set xs i e) ≡ length xs = length-set xs i e in
        slice_get_past (set xs i e) q (omega (arith, same)) ∙ sym (slice_get_past xs q past)
  ]

  pub push_here : (xs : List E) (e : E) → slice_get (xs ++ e ∷ []) (length xs) ≡ Some e
  push_here xs e =
      let one : length (xs ++ e ∷ []) ≡ length xs + 1 = length-append xs (e ∷ []) in
      slice_get-get_or (xs ++ e ∷ []) (length xs) e (omega (arith, one)) ∙ ap (λ (x : E). Some x) (get_or_push xs e e (length xs) refl)

  pub push_others : (xs : List E) (e : E) (q : ℕ) → q ≢ length xs → slice_get (xs ++ e ∷ []) q ≡ slice_get xs q
  push_others xs e q other =
      let one : length (xs ++ e ∷ []) ≡ length xs + 1 = length-append xs (e ∷ []) in
      elim (below_or_not q (length xs)) as (λ _. slice_get (xs ++ e ∷ []) q ≡ slice_get xs q) [
        | inl below ↦ slice_get-get_or (xs ++ e ∷ []) q e (omega (arith, one)) ∙ ap (λ (x : E). Some x) (get_or_append_left xs (e ∷ []) e q below) ∙ sym (slice_get-get_or xs q e below)
        | inr past ↦ slice_get_past (xs ++ e ∷ []) q (omega (arith, one, other)) ∙ sym (slice_get_past xs q past)
      ]

-- a network that has an entry has a value
pub has_value : {V : Type 0} (es : List (Network × V)) → IsOnce es → (k : Network) (i : ℕ) → HasNetwork es i k → (m : FinMap network_cmp V) → map_of es ≡ m → is_some (get m k) ≡ true
has_value {V} es once k i has m is = ap is_some (ap (λ (n : FinMap network_cmp V). get n k) (sym is) ∙ gotten es once k has.value i has.stands)

module _ {V : Type 0} {hashing : WordHash} (es : List (Network × V)) (s : Slots) (whole : AreSlotsRight hashing es s) (k : Network) where
  -- a network that is not found has no entry
  pub missing : ((i : ℕ) → HasNetwork es i k → IsSlotPlaced s.numbers.items (home_of hashing s.bits k) (base_of hashing s.bits k + i) → ⊥) → get (map_of es) k ≡ None
  missing none = nowhere es k (λ i has. none i has (whole.slotted.placed i k has))

  -- and no value
  pub none_by : (m : FinMap network_cmp V) → map_of es ≡ m → ((i : ℕ) → HasNetwork es i k → IsSlotPlaced s.numbers.items (home_of hashing s.bits k) (base_of hashing s.bits k + i) → ⊥) → get m k ≡ None
  none_by m is none = ap (λ (n : FinMap network_cmp V). get n k) (sym is) ∙ missing none

  module _ (i : ℕ) (has : HasNetwork es i k) (v : V) where
    named_still : (q : ℕ) (p : Network) → HasNetwork (set es i (k, v)) q p → HasNetwork es q p
    named_still q p at = by_place q i
        (λ same.
        let here = subst (λ (j : ℕ). HasNetwork (set es i (k, v)) j p) same at in
        let key : k ≡ p = ap (λ (z : Network × V). z.0) (one_entry (slice_get (set es i (k, v)) i) (k, v) (p, here.value) (set_here es i (k, v) (has_within es i k has)) here.stands) in
        subst (λ (j : ℕ). HasNetwork es j p) (sym same) (subst (λ (x : Network). HasNetwork es i x) key has))
        (λ other. record { value = at.value; stands = sym (set_others es i (k, v) q other) ∙ at.stands })

    -- another value is put in its place
    pub replaced : AreSlotsRight hashing (set es i (k, v)) s
    replaced =
        let same : length (set es i (k, v)) ≡ length es = length-set es i (k, v) in
        let slotted = whole.slotted in
        record {
          once = λ a b p at as_well. whole.once a b p (named_still a p at) (named_still b p as_well);
          slotted = record {
            small = slotted.small;
            room = let room = slotted.room in omega (arith, same);
            placed = λ q p at. slotted.placed q p (named_still q p at);
            used = slotted.used;
            bound = slotted.bound;
          };
        }

    pub replaced_map : map_of (set es i (k, v)) ≡ insert (map_of es) k v
    replaced_map = put_stands es (set es i (k, v)) whole.once replaced.once i k v (set_here es i (k, v) (has_within es i k has)) (λ q other. set_others es i (k, v) q other)
        (λ f is. ap (λ (z : Network × V). z.0) (one_entry (slice_get es i) f (k, has.value) is has.stands))

module _ {V : Type 0} (es : List (Network × V)) (once : IsOnce es) (k : Network) (none : get (map_of es) k ≡ None) (v : V) where
  -- an entry of the longer list is the new one or one of before
  old_or_new : {C : Type 0} (i : ℕ) (p : Network) → HasNetwork (es ++ (k, v) ∷ []) i p → (i ≡ length es → p ≡ k → C) → (HasNetwork es i p → C) → C
  old_or_new i p at new old = by_place i (length es)
      (λ same.
      let here = subst (λ (j : ℕ). HasNetwork (es ++ (k, v) ∷ []) j p) same at in
      new same (ap (λ (z : Network × V). z.0) (one_entry (slice_get (es ++ (k, v) ∷ []) (length es)) (p, here.value) (k, v) here.stands (push_here es (k, v)))))
      (λ other. old (record { value = at.value; stands = sym (push_others es (k, v) i other) ∙ at.stands }))

  pub pushed_once : IsOnce (es ++ (k, v) ∷ [])
  pushed_once i j p at as_well = old_or_new i p at
      (λ last key. old_or_new j p as_well
      (λ last_too _. last ∙ sym last_too)
      (λ old. absurd (none_at es once k none j (subst (λ (x : Network). HasNetwork es j x) key old))))
      (λ old. old_or_new j p as_well
      (λ _ key. absurd (none_at es once k none i (subst (λ (x : Network). HasNetwork es i x) key old)))
      (λ old_too. once i j p old old_too))

  pub pushed_map : map_of (es ++ (k, v) ∷ []) ≡ insert (map_of es) k v
  pushed_map = put_stands es (es ++ (k, v) ∷ []) once pushed_once (length es) k v (push_here es (k, v)) (λ q other. push_others es (k, v) q other)
      (λ f is. absurd (none-some f (sym (slice_get_past es (length es) (omega arith)) ∙ is)))

  -- a new network's entry comes last
  pub pushed : (hashing : WordHash) (s t : Slots) → AreSlotted hashing es s → HasFreeSlot s (length es) → IsMore s t → IsSlotPlaced t.numbers.items (home_of hashing t.bits k) (base_of hashing t.bits k + length es) → AreSlotsRight hashing (es ++ (k, v) ∷ []) t
  pushed hashing s t slotted ready more here =
      let rest = more_slotted slotted ready.spare more in
      let one : length (es ++ (k, v) ∷ []) ≡ length es + 1 = length-append es ((k, v) ∷ []) in
      record {
        once = pushed_once;
        slotted = record {
          small = rest.small;
          room = subst (λ (b : ℕ). length (es ++ (k, v) ∷ []) + 2 ≤ 2 ^ b) (sym more.bits) (let room = ready.room in omega (arith, one));
          placed = λ i p at. old_or_new i p at
              (λ last key. subst (λ (j : ℕ). IsSlotPlaced t.numbers.items (home_of hashing t.bits p) (base_of hashing t.bits p + j)) (sym last)
              (subst (λ (x : Network). IsSlotPlaced t.numbers.items (home_of hashing t.bits x) (base_of hashing t.bits x + length es)) (sym key) here))
              (λ old. rest.placed i p old);
          used = rest.used;
          bound = rest.bound;
        };
      }

-- the entry at the place is gone, and the last one has its place
pub record IsSwapped {V : Type 0} (es fs : List (Network × V)) (i : ℕ) : Type 0 where
  pub within : i < length es
  pub less : length fs + 1 ≡ length es
  pub moved : (d : Network × V) → i + 1 < length es → get_or fs i d ≡ get_or es (length es - 1) d
  pub others : (q : ℕ) (d : Network × V) → q ≢ i → q + 1 < length es → get_or fs q d ≡ get_or es q d

module _ {V : Type 0} (es fs : List (Network × V)) (i : ℕ) (swapped : IsSwapped es fs i) where
  -- an entry that is left was the last one, or has its old place
  before : {C : Type 0} (q : ℕ) (f : Network × V) → slice_get fs q ≡ Some f → (q ≡ i → i + 1 < length es → slice_get es (length es - 1) ≡ Some f → C) → (q ≢ i → q + 1 < length es → slice_get es q ≡ Some f → C) → C
  before q f is last other =
      let less = swapped.less in
      let within : q < length fs = slice_get_within fs q f is in
      by_place q i
      (λ same.
      let at : i < length fs = omega arith in
      let more : i + 1 < length es = omega arith in
      last same more (same_get es fs (length es - 1) i (omega arith) at (λ d. sym (swapped.moved d more)) f (subst (λ (j : ℕ). slice_get fs j ≡ Some f) same is)))
      (λ apart. other apart (omega arith) (same_get es fs q q (omega arith) within (λ d. sym (swapped.others q d apart (omega arith))) f is))

  was_there : (q : ℕ) (f : Network × V) → slice_get fs q ≡ Some f → (r : ℕ) × (r ≢ i) × (slice_get es r ≡ Some f)
  was_there q f is = before q f is
      (λ same more at. (length es - 1, (λ one. omega arith), at))
      (λ apart more at. (q, apart, at))

  still_there : (r : ℕ) (f : Network × V) → r ≢ i → slice_get es r ≡ Some f → (q : ℕ) × (slice_get fs q ≡ Some f)
  still_there r f apart is =
      let less = swapped.less in
      let inside = swapped.within in
      let within : r < length es = slice_get_within es r f is in
      by_place r (length es - 1)
      (λ same.
      let more : i + 1 < length es = omega (arith, apart) in
      (i, same_get fs es i r (omega arith) within (λ d. swapped.moved d more ∙ ap (λ (j : ℕ). get_or es j d) (sym same)) f is))
      (λ other. (r, same_get fs es r r (omega (arith, other)) within (λ d. swapped.others r d apart (omega (arith, other))) f is))

  module _ (once : IsOnce es) where
    pub taken_once : IsOnce fs
    taken_once a b p at as_well = before a (p, at.value) at.stands
        (λ same more last. before b (p, as_well.value) as_well.stands
        (λ same_too _ _. same ∙ sym same_too)
        (λ apart below old. absurd (let one = once (length es - 1) b p (record { value = at.value; stands = last }) (record { value = as_well.value; stands = old }) in omega (arith, one))))
        (λ apart below old. before b (p, as_well.value) as_well.stands
        (λ same more last. absurd (let one = once a (length es - 1) p (record { value = at.value; stands = old }) (record { value = as_well.value; stands = last }) in omega (arith, one)))
        (λ _ _ old_too. once a b p (record { value = at.value; stands = old }) (record { value = as_well.value; stands = old_too })))

    pub taken_map : (k : Network) → HasNetwork es i k → map_of fs ≡ remove (map_of es) k
    taken_map k has = take_stands es fs once taken_once i k has was_there still_there

  pub taken : (hashing : WordHash) (s t : Slots) → AreSlotsRight hashing es s → IsEntryRemoved hashing es i s t → AreSlotsRight hashing fs t
  taken hashing s t whole gone =
      let slotted = whole.slotted in
      let less = swapped.less in
      let used = gone.used in
      let long = gone.long in
      record {
        once = taken_once whole.once;
        slotted = record {
          small = subst (λ (b : ℕ). b ≤ 31) (sym gone.bits) slotted.small;
          room = subst (λ (b : ℕ). length fs + 2 ≤ 2 ^ b) (sym gone.bits) (let room = slotted.room in omega arith);
          placed = λ q p at. before q (p, at.value) at.stands
              (λ same more last. subst (λ (j : ℕ). IsSlotPlaced t.numbers.items (home_of hashing t.bits p) (base_of hashing t.bits p + j)) (sym same) (gone.moved p more (record { value = at.value; stands = last })))
              (λ apart below old. gone.others q p apart below (record { value = at.value; stands = old }));
          used = subst (λ (b : ℕ). t.used ≤ 2 ^ b) (sym gone.bits) (let few = slotted.used in omega arith);
          bound = subst (λ (b : ℕ). length t.numbers.items ≤ 2 ^ b + 64 + t.used) (sym gone.bits) (let bound = slotted.bound in omega arith);
        };
      }
