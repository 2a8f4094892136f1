-- The networks of a range in their order: where one is, and what is left of them where it has
-- another cost.
--   put_changed: by what comes before and after it
--   was_set, was_removed, was_inserted: by the place of the edit
use Rattle.std.proofs.Common.{◌≡◌, ℕ, zero, suc, ◌+◌, ◌-◌, ◌<◌, Bool, cond, true, false, List, [], ◌∷◌, ◌++◌, map, length, take, drop, get_or, set, Option, Some, None, Ordering, Result, Ok, Err, IfOk, IfErr, refl, sym, ap, subst, ◌∙◌, inl, inr, add-one, arith}
use Rattle.std.specs.declared.cmp.Ordering.TheVariants.{Less, Greater}
use Rattle.std.specs.Ordering.{is_eq, is_lt, ordering_reverse, ordering_index}
use Rattle.std.specs.Cmp.{eq_by_cmp_equiv}
use Rattle.std.specs.BTreeMap.{is_at}
use Rattle.std.specs.List.{All, AllByRecursion, Contains, insert, remove}
use Rattle.std.specs.List.Sorted.{IsStrictlySortedBy, IsSearchInRange, IsBinarySearchResult, IsNonDecreasingBy}
use Rattle.std.specs.Map.{keys_of, lookup}
use Rattle.std.specs.Option.{option_or}
use Rattle.std.proofs.lemmas.Bool.{cases_lt}
use Rattle.std.proofs.lemmas.List.{get_or-map, get_or_default, length-map, get_or-take, get_or-drop, length-take, length-drop, take-append-drop, drop_more, set_split}
use Rattle.std.proofs.lemmas.List.Elements.{All-head, All-tail, Contains-append_left, Contains-append_right, Contains-append_cases}
use Rattle.std.proofs.lemmas.List.Sorted.{searchable_from_sorted}
use Rattle.std.proofs.lemmas.Map.Keys.{Less-from_sorted}
use Rattle.std.proofs.lemmas.Map.Views.{tells_apart}
use Rattle.ospf_types.specs.declared.prefix.Prefix.{Prefix}
use Rattle.ospf_types.specs.Network.{network_cmp}
use Rattle.ospf_types.proofs.Elements.{first_element, no_element}
use Rattle.ospf_types.proofs.InOrder.{only_item, sorted_insert}
use Rattle.ospf_types.proofs.Orders.{network_total, network_exact}
use Rattle.active_ranges.specs.Grouped.{AreMadeOf, IsNetworkAt, IsGapFor, IsPutIn, RangeNetworksValue}
use Rattle.active_ranges.proofs.Grouped.{lookup_in_two}

abbrev pub Entries : Type 0
Entries = List (Prefix × ℕ)

abbrev pub AreInOrder : Entries → Type 0
AreInOrder es = IsStrictlySortedBy network_cmp (keys_of es)

abbrev cost_at : Prefix → Entries → Option ℕ
cost_at q es = lookup (is_at (network_cmp q)) es

turned : (p q : Prefix) → network_cmp p q ≡ Less → network_cmp q p ≡ Greater
turned p q h = network_total.antisymm q p ∙ ap ordering_reverse h

turned_back : (p q : Prefix) → network_cmp p q ≡ Greater → network_cmp q p ≡ Less
turned_back p q h = network_total.antisymm q p ∙ ap ordering_reverse h

-- ---- by what comes before and after it

-- the network at this cost
abbrev at_cost : Prefix → Option ℕ → Entries
at_cost k None = []
at_cost k (Some c) = (k, c) ∷ []

module _ (k : Prefix) where
  -- it is none of those that are less, or of those that are greater
  none_of : (o : Ordering) → is_eq o ≡ false → (es : Entries) → All (λ e. network_cmp k e.0 ≡ o) es → cost_at k es ≡ None
  none_of o other [] all = refl
  none_of o other (e ∷ es) all =
      ap (λ (b : Bool). cond b (Some e.1) (cost_at k es)) (ap is_eq (All-head (λ x. network_cmp k x.0 ≡ o) e es all) ∙ other)
      ∙ none_of o other es (All-tail (λ x. network_cmp k x.0 ≡ o) e es all)

  own_cost : (cost : Option ℕ) (high : Entries) → cost_at k high ≡ None → cost_at k (at_cost k cost ++ high) ≡ cost
  own_cost None high none = none
  own_cost (Some c) high none = ap (λ (b : Bool). cond b (Some c) (cost_at k high)) ((eq_by_cmp_equiv network_total).refl k)

  others_cost : (q : Prefix) → is_at (network_cmp q) k ≡ false → (cost : Option ℕ) (high : Entries) → cost_at q (at_cost k cost ++ high) ≡ cost_at q high
  others_cost q apart None high = refl
  others_cost q apart (Some c) high = ap (λ (b : Bool). cond b (Some c) (cost_at q high)) apart

  pub put_changed : (low high : Entries) → cost_at k low ≡ None → cost_at k high ≡ None → (before after : Option ℕ) (q : Prefix)
      → cost_at q (low ++ (at_cost k after ++ high)) ≡ cond (is_at (network_cmp k) q) after (cost_at q (low ++ (at_cost k before ++ high)))
  put_changed low high below above before after q =
      elim (is_at (network_cmp k) q) as (λ b. is_at (network_cmp k) q ≡ b → cost_at q (low ++ (at_cost k after ++ high)) ≡ cond b after (cost_at q (low ++ (at_cost k before ++ high)))) [
        | true ↦ λ tied.
            let same : k ≡ q = tells_apart network_exact k q tied in
            subst (λ (p : Prefix). cost_at p (low ++ (at_cost k after ++ high)) ≡ after) same
            (lookup_in_two (is_at (network_cmp k)) low (at_cost k after ++ high) ∙ ap (λ (o : Option ℕ). option_or o (cost_at k (at_cost k after ++ high))) below ∙ own_cost after high above)
        | false ↦ λ apart.
            let other : is_at (network_cmp q) k ≡ false = (eq_by_cmp_equiv network_total).symm q k ∙ apart in
            lookup_in_two (is_at (network_cmp q)) low (at_cost k after ++ high) ∙ ap (option_or (cost_at q low)) (others_cost q other after high ∙ sym (others_cost q other before high))
            ∙ sym (lookup_in_two (is_at (network_cmp q)) low (at_cost k before ++ high))
      ] refl

-- ---- by its place

pub none_in_order : AreInOrder []
unfolding IsStrictlySortedBy
none_in_order = tt

less_at : (es : Entries) → AreInOrder es → (i j : ℕ) (e : Prefix × ℕ) → i < j → j < length es → network_cmp (get_or es i e).0 (get_or es j e).0 ≡ Less
less_at es ordered i j e lt in_range =
    let key : Prefix × ℕ → Prefix = λ x. x.0 in
    let first = get_or-map key es i e e.0 (omega arith) in
    let second = get_or-map key es j e e.0 in_range in
    (λ k. network_cmp (sym first k) (sym second k)) ∙ Less-from_sorted network_cmp (map key es) i j e.0 ordered lt (omega (arith, length-map es key))

keys_two : (xs ys : Entries) → keys_of (xs ++ ys) ≡ keys_of xs ++ keys_of ys
keys_two [] ys = refl
keys_two (x ∷ xs) ys = ap (λ ks. x.0 ∷ ks) (keys_two xs ys)

all_without : (P : Prefix → Type 0) (xs : List Prefix) (k : Prefix) (ys : List Prefix) → AllByRecursion P (xs ++ k ∷ ys) → AllByRecursion P (xs ++ ys)
all_without P [] k ys h = h.1
all_without P (x ∷ xs) k ys h = (h.0, all_without P xs k ys h.1)

sorted_without : (xs : List Prefix) (k : Prefix) (ys : List Prefix) → IsStrictlySortedBy network_cmp (xs ++ k ∷ ys) → IsStrictlySortedBy network_cmp (xs ++ ys)
unfolding IsStrictlySortedBy
sorted_without [] k ys h = h.1
sorted_without (x ∷ xs) k ys h = (all_without (λ e. network_cmp x e ≡ Less) xs k ys h.0, sorted_without xs k ys h.1)

keys_inserted : (es : Entries) (at : ℕ) (e : Prefix × ℕ) → keys_of (insert es at e) ≡ insert (keys_of es) at e.0
keys_inserted es zero e = refl
keys_inserted [] (suc at) e = refl
keys_inserted (x ∷ es) (suc at) e = ap (λ ks. x.0 ∷ ks) (keys_inserted es at e)

-- what an edit at the network's place makes
pub record IsEdited (es : Entries) (k : Prefix) (cost : Option ℕ) (new : Entries) : Type 0 where
  pub put : (q : Prefix) → cost_at q new ≡ cond (is_at (network_cmp k) q) cost (cost_at q es)
  pub in_order : AreInOrder new

module _ (es : Entries) (ordered : AreInOrder es) (k : Prefix) where
  module _ (at : ℕ) (place : IsNetworkAt es k at) where
    abbrev low : Entries
    low = take at es

    abbrev high : Entries
    high = drop (suc at) es

    below : cost_at k low ≡ None
    below = none_of k Greater refl low (λ j e lt.
        let less : j < at = omega (arith, length-take at es) in
        ap (λ (x : Prefix × ℕ). network_cmp k x.0) (get_or-take at es j e less) ∙ ap (λ (p : Prefix). network_cmp p (get_or es j e).0) (sym (place.here e))
        ∙ turned (get_or es j e).0 (get_or es at e).0 (less_at es ordered j at e less place.in_range))

    above : cost_at k high ≡ None
    above = none_of k Less refl high (λ j e lt.
        let within : suc at + j < length es = omega (arith, length-drop (suc at) es) in
        ap (λ (x : Prefix × ℕ). network_cmp k x.0) (get_or-drop (suc at) es j e) ∙ ap (λ (p : Prefix). network_cmp p (get_or es (suc at + j) e).0) (sym (place.here e))
        ∙ less_at es ordered at (suc at + j) e (omega arith) within)

    abbrev own : Prefix × ℕ
    own = get_or es at (k, 0)

    whole : es ≡ low ++ ((k, own.1) ∷ high)
    whole =
        sym (take-append-drop at es) ∙ ap (λ (ys : Entries). low ++ ys) (subst (λ (n : ℕ). drop at es ≡ own ∷ drop n es) (add-one at) (drop_more es at (k, 0) place.in_range))
        ∙ (λ i. low ++ ((place.here (k, 0) i, own.1) ∷ high))

    pub was_set : (cost : ℕ) → IsEdited es k (Some cost) (set es at (k, cost))
    was_set cost =
        let split : set es at (k, cost) ≡ low ++ ((k, cost) ∷ high) = set_split es at (k, cost) place.in_range in
        record {
          put = λ q. ap (cost_at q) split ∙ put_changed k low high below above (Some own.1) (Some cost) q ∙ ap (λ (xs : Entries). cond (is_at (network_cmp k) q) (Some cost) (cost_at q xs)) (sym whole);
          in_order = subst (IsStrictlySortedBy network_cmp)
              (ap keys_of whole ∙ keys_two low ((k, own.1) ∷ high) ∙ sym (keys_two low ((k, cost) ∷ high)) ∙ ap keys_of (sym split)) ordered;
        }

    pub was_removed : IsEdited es k None (remove es at)
    was_removed = record {
      put = λ q. put_changed k low high below above (Some own.1) None q ∙ ap (λ (xs : Entries). cond (is_at (network_cmp k) q) None (cost_at q xs)) (sym whole);
      in_order = subst (IsStrictlySortedBy network_cmp) (sym (keys_two low high))
          (sorted_without (keys_of low) k (keys_of high) (subst (IsStrictlySortedBy network_cmp) (ap keys_of whole ∙ keys_two low ((k, own.1) ∷ high)) ordered));
    }

  module _ (at : ℕ) (gap : IsGapFor es k at) where
    abbrev before : Entries
    before = take at es

    abbrev after : Entries
    after = drop at es

    none_before : cost_at k before ≡ None
    none_before = none_of k Greater refl before (λ j e lt.
        let less : j < at = omega (arith, length-take at es) in
        ap (λ (x : Prefix × ℕ). network_cmp k x.0) (get_or-take at es j e less) ∙ turned (get_or es j e).0 k (gap.apart.0 j e (omega (arith, gap.in_range)) less))

    none_after : cost_at k after ≡ None
    none_after = none_of k Less refl after (λ j e lt.
        let within : at + j < length es = omega (arith, length-drop at es) in
        ap (λ (x : Prefix × ℕ). network_cmp k x.0) (get_or-drop at es j e) ∙ turned_back (get_or es (at + j) e).0 k (gap.apart.1 (at + j) e (omega arith) within))

    all : es ≡ before ++ after
    all = sym (take-append-drop at es)

    pub was_inserted : (cost : ℕ) → IsEdited es k (Some cost) (insert es at (k, cost))
    was_inserted cost =
        let key : Prefix × ℕ → Prefix = λ x. x.0 in
        record {
          put = λ q. put_changed k before after none_before none_after None (Some cost) q ∙ ap (λ (xs : Entries). cond (is_at (network_cmp k) q) (Some cost) (cost_at q xs)) (sym all);
          in_order = subst (IsStrictlySortedBy network_cmp) (sym (keys_inserted es at (k, cost))) (sorted_insert network_total (keys_of es) at k ordered (
            λ j p within less. ap (λ (x : Prefix). network_cmp x k) (get_or-map key es j (p, 0) p (omega (arith, gap.in_range))) ∙ gap.apart.0 j (p, 0) within less,
            λ j p low within. ap (λ (x : Prefix). network_cmp x k) (get_or-map key es j (p, 0) p (omega (arith, length-map es key))) ∙ gap.apart.1 j (p, 0) low (omega (arith, length-map es key)),
          ));
        }

    -- it was not there
    pub was_absent : IsEdited es k None es
    was_absent = record {
      put = λ q. ap (cost_at q) all ∙ put_changed k before after none_before none_after None None q ∙ ap (λ (xs : Entries). cond (is_at (network_cmp k) q) None (cost_at q xs)) (sym all);
      in_order = ordered;
    }

  -- ---- at the end

  -- all of them come before it
  pub gap_behind : (last : Prefix × ℕ) → 0 < length es → last ≡ get_or es (length es - 1) last → network_cmp last.0 k ≡ Less → IsGapFor es k (length es)
  gap_behind last some at less = record {
    in_range = omega arith;
    apart = (
      λ j e within low. elim (cases_lt j (length es - 1)) [
        | inl before ↦ network_total.trans (get_or es j e).0 (get_or es (length es - 1) e).0 k (less_at es ordered j (length es - 1) e before (omega (arith, some))) (ending e)
        | inr same ↦ subst (λ (n : ℕ). network_cmp (get_or es n e).0 k ≡ Less) (omega (arith, same, within, some)) (ending e)
      ],
      λ j e high within. absurd (omega (arith, high, within)),
    );
  }
    where
      ending : (e : Prefix × ℕ) → network_cmp (get_or es (length es - 1) e).0 k ≡ Less
      ending e = subst (λ (x : Prefix × ℕ). network_cmp x.0 k ≡ Less) (at ∙ get_or_default es (length es - 1) last e (omega (arith, some))) less

  pub gap_of_none : length es ≡ 0 → IsGapFor es k (length es)
  gap_of_none none = record {
    in_range = omega arith;
    apart = (λ j e within low. absurd (omega (arith, none, within)), λ j e high within. absurd (omega (arith, high, within)));
  }

  -- ---- a search

  searchable : IsNonDecreasingBy (λ e. ordering_index (network_cmp e.0 k)) es
  searchable = searchable_from_sorted network_total (λ e. e.0) es k (λ j e low high. ap is_lt (turned (get_or es j e).0 (get_or es (j + 1) e).0 (less_at es ordered j (j + 1) e (omega arith) high)))

  -- it ends at the network, or where that would go
  pub searched : (r : Result ℕ ℕ) → IsSearchInRange r (length es) → IsBinarySearchResult (λ e. network_cmp e.0 k) es r → record { found : IfOk r (IsNetworkAt es k); absent : IfErr r (IsGapFor es k) }
  searched (Ok at) in_range equal = record { found = record { in_range = in_range; here = λ e. network_exact _ _ (equal e) }; absent = tt }
  searched (Err at) in_range split = record { found = tt; absent = record { in_range = in_range; apart = split searchable } }

-- ---- what an edit of the list that is kept makes of the networks

module _ (items es : Entries) (same : items ≡ es) (ordered : AreInOrder items) (k : Prefix) (cost : Option ℕ) where
  in_order : AreInOrder es
  in_order = subst AreInOrder same ordered

  edited : (o : Option ℕ) → cost ≡ o → (new made : Entries) → new ≡ made → IsEdited es k o made → IsEdited es k cost new
  edited o is new made e by = subst (IsEdited es k cost) (sym e) (subst (λ (c : Option ℕ). IsEdited es k c made) (sym is) by)

  pub removed : cost ≡ None → (at : ℕ) → IsNetworkAt es k at → (new : Entries) → new ≡ remove items at → IsEdited es k cost new
  removed none at place new e = edited None none new (remove es at) (e ∙ ap (λ (xs : Entries). remove xs at) same) (was_removed es in_order k at place)

  pub stayed : cost ≡ None → (at : ℕ) → IsGapFor es k at → IsEdited es k cost es
  stayed none at gap = edited None none es es refl (was_absent es in_order k at gap)

  pub written : (c : ℕ) → cost ≡ Some c → (at : ℕ) → IsNetworkAt es k at → IsEdited es k cost (set items at (k, c))
  written c some at place = edited (Some c) some (set items at (k, c)) (set es at (k, c)) (ap (λ (xs : Entries). set xs at (k, c)) same) (was_set es in_order k at place c)

  pub inserted : (c : ℕ) → cost ≡ Some c → (at : ℕ) → IsGapFor es k at → (new : Entries) → new ≡ insert items at (k, c) → IsEdited es k cost new
  inserted c some at gap new e = edited (Some c) some new (insert es at (k, c)) (e ∙ ap (λ (xs : Entries). insert xs at (k, c)) same) (was_inserted es in_order k at gap c)

-- ---- networks given one by one

pub map_keys : {A : Type 0} (f : Prefix → A) (es : Entries) → map (λ (e : Prefix × ℕ). f e.0) es ≡ map f (keys_of es)
map_keys f [] = refl
map_keys f (e ∷ es) = ap (λ ys. f e.0 ∷ ys) (map_keys f es)

pub made_none : (networks : RangeNetworksValue) → networks.entries ≡ [] → AreMadeOf [] networks
made_none networks none = record {
  there = λ p c. absurd (no_element p c);
  costs = λ p c is. let wrong : None ≡ Some c = ap (cost_at p) (sym none) ∙ is in absurd cc;
}

pub made_more : (came : Entries) (k : Prefix) (cost : ℕ) (old new : RangeNetworksValue) → AreMadeOf came old → IsPutIn old k (Some cost) new → AreMadeOf (came ++ (k, cost) ∷ []) new
made_more came k cost old new made put = record {
  there = λ p c. elim (is_at (network_cmp k) p) as (λ b. is_at (network_cmp k) p ≡ b → (n : ℕ) × (cost_at p new.entries ≡ Some n)) [
    | true ↦ λ tied. (cost, put p ∙ ap (λ (b : Bool). cond b (Some cost) (cost_at p old.entries)) tied)
    | false ↦ λ apart. elim (Contains-append_cases (keys_of came) (k ∷ []) p (subst (λ (ks : List Prefix). Contains ks p) (keys_two came ((k, cost) ∷ [])) c)) [
      | inl was ↦ let had = made.there p was in (had.0, put p ∙ ap (λ (b : Bool). cond b (Some cost) (cost_at p old.entries)) apart ∙ had.1)
      | inr here ↦
          let same : p ≡ k = only_item k p here in
          let tied : is_at (network_cmp k) p ≡ true = subst (λ (q : Prefix). is_at (network_cmp k) q ≡ true) (sym same) ((eq_by_cmp_equiv network_total).refl k) in
          absurd (let wrong : true ≡ false = sym tied ∙ apart in cc)
    ]
  ] refl;
  costs = λ p c is. elim (is_at (network_cmp k) p) as (λ b. is_at (network_cmp k) p ≡ b → Contains (came ++ (k, cost) ∷ []) (p, c)) [
    | true ↦ λ tied.
        let same : k ≡ p = tells_apart network_exact k p tied in
        let worth : cost ≡ c = some_same (sym (put p ∙ ap (λ (b : Bool). cond b (Some cost) (cost_at p old.entries)) tied) ∙ is) in
        Contains-append_right came ((k, cost) ∷ []) (p, c) (subst (λ (x : Prefix × ℕ). Contains ((k, cost) ∷ []) x) (λ i. (same i, worth i)) (first_element (k, cost) []))
    | false ↦ λ apart. Contains-append_left came ((k, cost) ∷ []) (p, c) (made.costs p c (sym (put p ∙ ap (λ (b : Bool). cond b (Some cost) (cost_at p old.entries)) apart) ∙ is))
  ] refl;
}
  where
    some_same : {x y : ℕ} → Some x ≡ Some y → x ≡ y
    some_same e = cc
