-- The effect of a second on a database, and when its used part stays.
use Rattle.std.proofs.Common.{◌≡◌, ◌≢◌, ℕ, zero, suc, ◌+◌, ◌<◌, Bool, true, false, cond, T, List, [], ◌∷◌, length, map, get_or, Option, Some, None, count_by, refl, sym, ap, subst, ◌∙◌, arith}
use Rattle.std.specs.Prelude.{◌&&◌, ◌==◌, nat_lt, min, option_map, option_and_then}
use Rattle.std.specs.Ordering.{eq_by_cmp, is_lt}
use Rattle.std.specs.Cmp.{tied_itself}
use Rattle.std.specs.FinMap.{entries, get, empty, find, is_sorted, entries_sorted, get-entries, get-from_sorted, get-empty, same_map}
use Rattle.std.specs.FinMap.Entries.{below_all}
use Rattle.std.proofs.lemmas.Bool.Decides.{nat_tests}
use Rattle.std.proofs.lemmas.List.Sums.{sum_by-cons}
use Rattle.ospf_types.specs.declared.key.Key.{Key}
use Rattle.ospf_types.specs.Keys.{key_cmp}
use Rattle.ospf_types.specs.Lsa.{Lsa, Body, MaxAge}
use Rattle.ospf_types.proofs.Orders.{key_total, key_exact}
use Rattle.lsdb.specs.Databases.{Database, aged, all_aged, comes_to_max_age}
use Rattle.lsdb.specs.Contents.{contents_of, NoneComes}
use Rattle.event_state.proofs.Sorted.{find_at}

abbrev pub later : Key × Lsa → Key × Lsa
later e = (e.0, aged e.1)

below_later : (k : Key) (es : List (Key × Lsa)) → below_all key_cmp k (map later es) ≡ below_all key_cmp k es
below_later k [] = refl
below_later k (e ∷ es) = ap (λ (b : Bool). is_lt (key_cmp k e.0) && b) (below_later k es)

pub sorted_later : (es : List (Key × Lsa)) → is_sorted key_cmp (map later es) ≡ is_sorted key_cmp es
sorted_later [] = refl
sorted_later (e ∷ es) = ap (λ (b : Bool). b && is_sorted key_cmp (map later es)) (below_later e.0 es) ∙ ap (λ (b : Bool). below_all key_cmp e.0 es && b) (sorted_later es)

find_later : (q : Key) (es : List (Key × Lsa)) → find key_cmp q (map later es) ≡ option_map aged (find key_cmp q es)
find_later q [] = refl
find_later q (e ∷ es) =
    elim (eq_by_cmp key_cmp q e.0) as (λ b. cond b (Some (aged e.1)) (find key_cmp q (map later es)) ≡ option_map aged (cond b (Some e.1) (find key_cmp q es))) [
      | true ↦ refl
      | false ↦ find_later q es
    ]

-- each key has its LSA a second later
pub get-all_aged : (d : Database) (q : Key) → get (all_aged d) q ≡ option_map aged (get d q)
get-all_aged d q =
    get-from_sorted key_cmp (map later (entries d)) q (subst T (sym (sorted_later (entries d))) (entries_sorted d))
    ∙ find_later q (entries d) ∙ ap (option_map aged) (sym (get-entries d q))

pub all_aged_empty : all_aged empty ≡ empty
all_aged_empty = same_map key_total key_exact (all_aged empty) empty (λ q. get-all_aged empty q ∙ ap (option_map aged) (get-empty key_cmp q) ∙ sym (get-empty key_cmp q))

-- ---- what is used of one LSA

stays_below : (age : ℕ) → (age + 1 == MaxAge) ≡ false → nat_lt (min (age + 1) MaxAge) MaxAge ≡ nat_lt age MaxAge
stays_below age h = grind (arith, nat_tests)

pub contents_aged : (l : Lsa) → comes_to_max_age l ≡ false → contents_of (aged l) ≡ contents_of l
contents_aged l h = ap (λ (b : Bool). cond b (Some (l.header.options, l.body)) None) (stays_below l.header.age h)

comes_below : (age : ℕ) → (age + 1 == MaxAge) ≡ true → (nat_lt age MaxAge ≡ true) × (nat_lt (min (age + 1) MaxAge) MaxAge ≡ false)
comes_below age h = (grind (arith, nat_tests), grind (arith, nat_tests))

contents_come : (l : Lsa) → comes_to_max_age l ≡ true → contents_of (aged l) ≢ contents_of l
contents_come l h same =
    let b = comes_below l.header.age h in
    let gone : contents_of (aged l) ≡ None = ap (λ (b : Bool). cond b (Some (l.header.options, l.body)) None) b.1 in
    let there : contents_of l ≡ Some (l.header.options, l.body) = ap (λ (b : Bool). cond b (Some (l.header.options, l.body)) None) b.0 in
    let e : ◌≡◌ {A = Option (ℕ × Body)} None (Some (l.header.options, l.body)) = sym gone ∙ same ∙ there in
    absurd cc

-- ---- what is used of a database

abbrev one_if : Bool → ℕ
one_if b = cond b 1 0

count_cons : (l : Lsa) (ls : List Lsa) → count_by comes_to_max_age (l ∷ ls) ≡ one_if (comes_to_max_age l) + count_by comes_to_max_age ls
count_cons l ls = sum_by-cons (λ (x : Lsa). cond (comes_to_max_age x) 1 0) l ls

abbrev lsas : List (Key × Lsa) → List Lsa
lsas es = map (λ (e : Key × Lsa). e.1) es

counted_one : (q : Key) (es : List (Key × Lsa)) (l : Lsa) → find key_cmp q es ≡ Some l → comes_to_max_age l ≡ true → 0 < count_by comes_to_max_age (lsas es)
counted_one q [] l e h = absurd cc
counted_one q (f ∷ es) l e h =
    let split = count_cons f.1 (lsas es) in
    elim (eq_by_cmp key_cmp q f.0) as (λ b. cond b (Some f.1) (find key_cmp q es) ≡ Some l → 0 < count_by comes_to_max_age (lsas (f ∷ es))) [
      | true ↦ λ is. let same : f.1 ≡ l = cc in
          let one : one_if (comes_to_max_age f.1) ≡ 1 = ap one_if (ap comes_to_max_age same ∙ h) in
          omega (arith, split, one)
      | false ↦ λ is. omega (arith, split, counted_one q es l is h)
    ] e

-- where no LSA comes to MaxAge, what is used of each stays
pub none_same : (d : Database) (q : Key) → NoneComes d → option_and_then contents_of (get (all_aged d) q) ≡ option_and_then contents_of (get d q)
none_same d q none =
    ap (option_and_then contents_of) (get-all_aged d q)
    ∙ elim (get d q) as (λ o. get d q ≡ o → option_and_then contents_of (option_map aged o) ≡ option_and_then contents_of o) [
      | None ↦ λ e. refl
      | Some l ↦ λ e. elim (comes_to_max_age l) as (λ t. comes_to_max_age l ≡ t → contents_of (aged l) ≡ contents_of l) [
        | true ↦ λ h. absurd (omega (arith, none, counted_one q (entries d) l (sym (get-entries d q) ∙ e) h))
        | false ↦ λ h. contents_aged l h
      ] refl
    ] refl

count_none : (es : List (Key × Lsa)) → ((i : ℕ) (f : Key × Lsa) → i < length es → comes_to_max_age (get_or es i f).1 ≡ false) → count_by comes_to_max_age (lsas es) ≡ 0
count_none [] none = refl
count_none (e ∷ es) none =
    let zeros : one_if (comes_to_max_age e.1) ≡ 0 = ap one_if (none zero e (omega arith)) in
    omega (arith, count_cons e.1 (lsas es), zeros, count_none es (λ i f lt. none (suc i) f (omega arith)))

-- and where what is used of each stays, no LSA comes to MaxAge
pub same_none : (d : Database) → ((q : Key) → option_and_then contents_of (get (all_aged d) q) ≡ option_and_then contents_of (get d q)) → NoneComes d
same_none d same =
    count_none (entries d) (λ i f lt.
    let e : Key × Lsa = get_or (entries d) i f in
    let found : get d e.0 ≡ Some e.1 = get-entries d e.0 ∙ find_at key_cmp key_total (entries d) i e.0 f (entries_sorted d) lt (tied_itself key_total e.0) in
    let stays : contents_of (aged e.1) ≡ contents_of e.1 = sym (ap (option_and_then contents_of) (get-all_aged d e.0 ∙ ap (option_map aged) found)) ∙ same e.0 ∙ ap (option_and_then contents_of) found in
    elim (comes_to_max_age e.1) as (λ t. comes_to_max_age e.1 ≡ t → t ≡ false) [
      | true ↦ λ h. absurd (contents_come e.1 h stays)
      | false ↦ λ h. refl
    ] refl)

pub none_empty : NoneComes empty
none_empty = same_none empty (λ q. ap (λ (d : Database). option_and_then contents_of (get d q)) all_aged_empty)
