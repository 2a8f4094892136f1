-- The columns of a database: what a row has, and what a change of the columns makes of the rows.
use Rattle.std.proofs.Common.{◌≡◌, ℕ, zero, suc, ◌+◌, ◌-◌, ◌<◌, List, [], ◌∷◌, ◌++◌, length, map, get_or, set, take, Some, refl, sym, ap, ◌∙◌, arith}
use Rattle.std.specs.Prelude.{slice_get, swap_remove}
use Rattle.std.specs.Map.{keys_of}
use Rattle.std.proofs.lemmas.List.{take-map, map-set, get_or-map, length-map, length-set, length-take-le}
use Rattle.indexmap.specs.IndexMap.{set_value_at}
use Rattle.ospf_types.specs.declared.key.Key.{Key}
use Rattle.ospf_types.specs.Lsa.{Lsa}
use Rattle.lsa_codec.specs.Readers.{with_age}
use Rattle.lsdb.specs.Columns.{present}

abbrev pub Entry : Type 0
Entry = Key × Lsa

abbrev pub age_in : Entry → ℕ
age_in e = e.1.header.age

pub length_present : (es : List Entry) (ages : List ℕ) → length ages ≡ length es → length (present es ages) ≡ length es
length_present [] ages same = refl
length_present (e ∷ es) [] same = absurd (omega arith)
length_present (e ∷ es) (age ∷ ages) same = ap suc (length_present es ages (omega arith))

pub keys_present : (es : List Entry) (ages : List ℕ) → length ages ≡ length es → keys_of (present es ages) ≡ keys_of es
keys_present [] ages same = refl
keys_present (e ∷ es) [] same = absurd (omega arith)
keys_present (e ∷ es) (age ∷ ages) same = ap (λ (ks : List Key). e.0 ∷ ks) (keys_present es ages (omega arith))

pub ages_present : (es : List Entry) (ages : List ℕ) → length ages ≡ length es → map age_in (present es ages) ≡ ages
ages_present [] [] same = refl
ages_present [] (age ∷ ages) same = absurd (omega arith)
ages_present (e ∷ es) [] same = absurd (omega arith)
ages_present (e ∷ es) (age ∷ ages) same = ap (λ (more : List ℕ). age ∷ more) (ages_present es ages (omega arith))

pub present_at : (es : List Entry) (ages : List ℕ) (i : ℕ) (k : Key) (l : Lsa) (age : ℕ) → slice_get es i ≡ Some (k, l) → slice_get ages i ≡ Some age → slice_get (present es ages) i ≡ Some (k, with_age l age)
present_at [] ages i k l age e a = absurd cc
present_at (f ∷ es) [] i k l age e a = absurd cc
present_at (f ∷ es) (b ∷ ages) zero k l age e a =
    let same : f ≡ (k, l) = cc in
    let old : b ≡ age = cc in
    (λ i. Some ((same i).0, with_age (same i).1 (old i)))
present_at (f ∷ es) (b ∷ ages) (suc i) k l age e a = present_at es ages i k l age e a

pub present-push : (es : List Entry) (ages : List ℕ) (k : Key) (l : Lsa) (age : ℕ) → length ages ≡ length es → present (es ++ (k, l) ∷ []) (ages ++ age ∷ []) ≡ present es ages ++ (k, with_age l age) ∷ []
present-push [] [] k l age same = refl
present-push [] (b ∷ ages) k l age same = absurd (omega arith)
present-push (e ∷ es) [] k l age same = absurd (omega arith)
present-push (e ∷ es) (b ∷ ages) k l age same = ap (λ (fs : List Entry). (e.0, with_age e.1 b) ∷ fs) (present-push es ages k l age (omega arith))

pub present-set_value_at : (es : List Entry) (ages : List ℕ) (i : ℕ) (l : Lsa) (age : ℕ) → present (set_value_at es i l) (set ages i age) ≡ set_value_at (present es ages) i (with_age l age)
present-set_value_at [] ages i l age = refl
present-set_value_at (e ∷ es) [] zero l age = refl
present-set_value_at (e ∷ es) [] (suc i) l age = refl
present-set_value_at (e ∷ es) (b ∷ ages) zero l age = refl
present-set_value_at (e ∷ es) (b ∷ ages) (suc i) l age = ap (λ (fs : List Entry). (e.0, with_age e.1 b) ∷ fs) (present-set_value_at es ages i l age)

pub same_value : (es : List Entry) (i : ℕ) (k : Key) (l : Lsa) → slice_get es i ≡ Some (k, l) → set_value_at es i l ≡ es
same_value [] i k l e = refl
same_value (f ∷ es) zero k l e = let same : f ≡ (k, l) = cc in (λ i. (f.0, (sym same i).1) ∷ es)
same_value (f ∷ es) (suc i) k l e = ap (λ (fs : List Entry). f ∷ fs) (same_value es i k l e)

-- another age in a row
pub present-set_age : (es : List Entry) (ages : List ℕ) (i : ℕ) (k : Key) (l : Lsa) (age : ℕ) → slice_get es i ≡ Some (k, l) → present es (set ages i age) ≡ set_value_at (present es ages) i (with_age l age)
present-set_age es ages i k l age here = ap (λ (fs : List Entry). present fs (set ages i age)) (sym (same_value es i k l here)) ∙ present-set_value_at es ages i l age

present-take : (n : ℕ) (es : List Entry) (ages : List ℕ) → present (take n es) (take n ages) ≡ take n (present es ages)
present-take zero es ages = refl
present-take (suc n) [] ages = refl
present-take (suc n) (e ∷ es) [] = refl
present-take (suc n) (e ∷ es) (b ∷ ages) = ap (λ (fs : List Entry). (e.0, with_age e.1 b) ∷ fs) (present-take n es ages)

present-set : (es : List Entry) (ages : List ℕ) (i : ℕ) (e : Entry) (age : ℕ) → present (set es i e) (set ages i age) ≡ set (present es ages) i (e.0, with_age e.1 age)
present-set [] ages i e age = refl
present-set (f ∷ es) [] zero e age = refl
present-set (f ∷ es) [] (suc i) e age = refl
present-set (f ∷ es) (b ∷ ages) zero e age = refl
present-set (f ∷ es) (b ∷ ages) (suc i) e age = ap (λ (fs : List Entry). (f.0, with_age f.1 b) ∷ fs) (present-set es ages i e age)

pub get_or-present : (es : List Entry) (ages : List ℕ) (i : ℕ) (d e : Entry) (age : ℕ) → length ages ≡ length es → i < length es → get_or (present es ages) i d ≡ ((get_or es i e).0, with_age (get_or es i e).1 (get_or ages i age))
get_or-present [] ages i d e age same lt = absurd (omega arith)
get_or-present (f ∷ es) [] i d e age same lt = absurd (omega arith)
get_or-present (f ∷ es) (b ∷ ages) zero d e age same lt = refl
get_or-present (f ∷ es) (b ∷ ages) (suc i) d e age same lt = get_or-present es ages i d e age (omega arith) (omega arith)

-- the last row in place of one
pub present-swap_remove : (es : List Entry) (ages : List ℕ) (i : ℕ) (d e : Entry) (age : ℕ) → length ages ≡ length es → i < length es → present (swap_remove es i e) (swap_remove ages i age) ≡ swap_remove (present es ages) i d
present-swap_remove es ages i d e age same lt =
    let n = length es - 1 in
    let last = get_or es n e in
    ap (λ m. present (take n (set es i last)) (take (m - 1) (set ages i (get_or ages (m - 1) age)))) same
    ∙ present-take n (set es i last) (set ages i (get_or ages n age))
    ∙ ap (take n) (present-set es ages i last (get_or ages n age))
    ∙ ap (λ (f : Entry). take n (set (present es ages) i f)) (sym (get_or-present es ages n d e age same (omega arith)))
    ∙ ap (λ m. take (m - 1) (set (present es ages) i (get_or (present es ages) (m - 1) d))) (sym (length_present es ages same))

pub swap_remove-map : {X Y : Type 0} (f : X → Y) (xs : List X) (i : ℕ) (d : X) (e : Y) → i < length xs → map f (swap_remove xs i d) ≡ swap_remove (map f xs) i e
swap_remove-map {X} {Y} f xs i d e lt =
    let n = length xs - 1 in
    sym (take-map f n (set xs i (get_or xs n d)))
    ∙ ap (take n) (map-set f xs i (get_or xs n d))
    ∙ ap (λ (y : Y). take n (set (map f xs) i y)) (sym (get_or-map f xs n d e (omega arith)))
    ∙ ap (λ m. take (m - 1) (set (map f xs) i (get_or (map f xs) (m - 1) e))) (sym (length-map xs f))

pub length-swap_remove : {X : Type 0} (xs : List X) (i : ℕ) (d : X) → i < length xs → length (swap_remove xs i d) + 1 ≡ length xs
length-swap_remove xs i d lt =
    let n = length xs - 1 in
    let all = set xs i (get_or xs n d) in
    omega (arith, lt, length-take-le n all (omega (arith, length-set xs i (get_or xs n d))))
