-- The map that the columns of a database give, and the changes that keep them as they have to be.
use Rattle.std.proofs.Common.{◌≡◌, ℕ, zero, suc, ◌+◌, ◌-◌, ◌<◌, ◌≤◌, Bool, true, false, cond, List, [], ◌∷◌, ◌++◌, length, map, get_or, set, take, Option, Some, None, refl, sym, ap, subst, ◌∙◌, arith}
use Rattle.std.specs.Prelude.{◌↔◌, slice_get, swap_remove, position, is_some, nat_lt, option_and_then, IfSome, if◌then◌else◌}
use Rattle.std.specs.Option.{option_map_or}
use Rattle.std.specs.List.{AllByRecursion, IsDistinct}
use Rattle.std.specs.Map.{keys_of}
use Rattle.std.specs.FinMap.{find, get, insert, remove, len, from_entries, from_entries_push}
use Rattle.std.proofs.lemmas.List.{length-map, map-append, length-append, length-set}
use Rattle.std.specs.Prelude.{All}
use Rattle.std.proofs.lemmas.List.Elements.{All-from_recursion, recursion_from_All, All-set, All-take, All-push}
use Rattle.std.proofs.lemmas.List.Quantifiers.{position-Some}
use Rattle.std.proofs.lemmas.Option.{slice_get-get_or, get_or_from_slice_get, slice_get_within, slice_get_read}
use Rattle.indexmap.specs.IndexMap.{insert_entry, set_value_at, swap_remove_by}
use Rattle.indexmap.proofs.MapLemmas.{Found-position, Missing-position, insert_entry-first, insert_entry-absent, swap_remove-default}
use Rattle.ospf_types.specs.declared.key.Key.{Key}
use Rattle.ospf_types.specs.Keys.{key_cmp}
use Rattle.ospf_types.specs.Lsa.{Lsa, MaxAge, key_of}
use Rattle.ospf_types.proofs.Orders.{key_total, key_exact}
use Rattle.lsa_codec.specs.Readers.{with_age}
use Rattle.lsa_codec.specs.Spelling.{IsLegal}
use Rattle.lsa_codec.proofs.Ages.{IsLegal-with_age}
use Rattle.lsdb.specs.Databases.{Database, changed_at, aged_out, purge_refusal_of}
use Rattle.lsdb.specs.declared.refusal.PurgeRefusal.TheVariants as purge
use Rattle.lsdb.specs.Columns.{present, is_key, IsOwn, AreColumns}
use Rattle.lsdb.specs.Contents.{IsDatabaseSound, contents_of, used_at}
use Rattle.lsdb.proofs.KeyTests.{equals, equals_key, equals_all, key_same}
use Rattle.lsdb.proofs.Entries.{find-insert_entry, get_is, inserted, len_is, find_at, find_missing, swapped}
use Rattle.lsdb.proofs.Rows.{Entry, length_present, keys_present, present_at, present-push, present-set_value_at, present-set_age, get_or-present, present-swap_remove, swap_remove-map, length-swap_remove}

abbrev pub map_of : List Entry → Database
map_of rows = from_entries rows

found_own : (rows : List Entry) (q : Key) (l : Lsa) → AllByRecursion IsOwn rows → find key_cmp q rows ≡ Some l → (q ≡ key_of l) × IsLegal l
found_own [] q l own e = absurd cc
found_own (r ∷ rows) q l own e =
    elim (is_key q r.0) as (λ b. is_key q r.0 ≡ b → cond b (Some r.1) (find key_cmp q rows) ≡ Some l → (q ≡ key_of l) × IsLegal l) [
      | true ↦ λ t is. let same : r.1 ≡ l = cc in (key_same q r.0 t ∙ own.0.0 ∙ ap key_of same, subst IsLegal same own.0.1)
      | false ↦ λ t is. found_own rows q l own.1 is
    ] refl e

-- a value in the row of its key
set_own : (rows : List Entry) (i : ℕ) (k : Key) (l : Lsa) → slice_get (keys_of rows) i ≡ Some k → IsOwn (k, l) → AllByRecursion IsOwn rows → AllByRecursion IsOwn (set_value_at rows i l)
set_own [] i k l at fits own = tt
set_own (r ∷ rows) zero k l at fits own = let same : r.0 ≡ k = cc in ((same ∙ fits.0, fits.1), own.1)
set_own (r ∷ rows) (suc i) k l at fits own = (own.0, set_own rows i k l at fits own.1)

-- the key at its place
key_at : (ks : List Key) (q : Key) (i : ℕ) → position (is_key q) ks ≡ Some i → slice_get ks i ≡ Some q
key_at ks q i at =
    let found = position-Some (is_key q) ks i q at in
    slice_get-get_or ks i q found.0 ∙ ap Some (sym (key_same q (get_or ks i q) found.1))

key_of_row : (es : List Entry) (i : ℕ) (k : Key) (l : Lsa) → slice_get es i ≡ Some (k, l) → slice_get (keys_of es) i ≡ Some k
key_of_row [] i k l row = absurd cc
key_of_row (e ∷ es) zero k l row = cc
key_of_row (e ∷ es) (suc i) k l row = key_of_row es i k l row

keys_set : (rows : List Entry) (i : ℕ) (l : Lsa) → keys_of (set_value_at rows i l) ≡ keys_of rows
keys_set [] i l = refl
keys_set (r ∷ rows) zero l = refl
keys_set (r ∷ rows) (suc i) l = ap (λ (ks : List Key). r.0 ∷ ks) (keys_set rows i l)

length_set : (rows : List Entry) (i : ℕ) (l : Lsa) → length (set_value_at rows i l) ≡ length rows
length_set [] i l = refl
length_set (r ∷ rows) zero l = refl
length_set (r ∷ rows) (suc i) l = ap suc (length_set rows i l)

set_rows : (rows : List Entry) (i : ℕ) (k : Key) (l : Lsa) → position (is_key k) (keys_of rows) ≡ Some i → map_of (set_value_at rows i l) ≡ insert (map_of rows) k l
set_rows rows i k l at =
    ap map_of (sym (insert_entry-first is_key k l rows i (Found-position (is_key k) rows i at).first))
    ∙ inserted key_total key_exact rows (insert_entry is_key rows k l) k l (find-insert_entry key_total key_exact k l rows)

pub get_or-default : (xs : List ℕ) (i d e : ℕ) → i < length xs → get_or xs i d ≡ get_or xs i e
get_or-default [] i d e lt = absurd (omega arith)
get_or-default (x ∷ xs) zero d e lt = refl
get_or-default (x ∷ xs) (suc i) d e lt = get_or-default xs i d e (omega arith)

pub entry_at : (es : List Entry) (i : ℕ) → i < length es → (e : Entry) × (slice_get es i ≡ Some e)
entry_at [] i lt = absurd (omega arith)
entry_at (e ∷ es) zero lt = (e, refl)
entry_at (e ∷ es) (suc i) lt = entry_at es i (omega arith)

module _ {es : List Entry} {ages kinds routers : List ℕ} {limit : ℕ} (c : AreColumns es ages kinds routers limit) where
  pub unique_present : IsDistinct is_key (keys_of (present es ages))
  unique_present = subst (IsDistinct is_key) (sym (keys_present es ages c.a_row_each)) c.unique

  place_present : (q : Key) (r : Option ℕ) → position (is_key q) (keys_of es) ≡ r → position (is_key q) (keys_of (present es ages)) ≡ r
  place_present q r at = ap (position (is_key q)) (keys_present es ages c.a_row_each) ∙ at

  pub len_columns : len (map_of (present es ages)) ≡ length es
  len_columns = len_is key_total key_exact (present es ages) unique_present ∙ length_present es ages c.a_row_each

  pub row_within : (q : Key) (i : ℕ) → position (is_key q) (keys_of es) ≡ Some i → i < length es
  row_within q i at = omega (arith, (position-Some (is_key q) (keys_of es) i q at).0, length-map es (λ (e : Entry). e.0))

  -- what the row of a key has
  pub at_row : (q : Key) (i : ℕ) (k : Key) (l : Lsa) (age : ℕ) → position (is_key q) (keys_of es) ≡ Some i → slice_get es i ≡ Some (k, l) → slice_get ages i ≡ Some age → get (map_of (present es ages)) q ≡ Some (with_age l age)
  at_row q i k l age at row old = get_is key_total key_exact (present es ages) q ∙ find_at key_total key_exact (present es ages) q i (k, with_age l age) (place_present q (Some i) at) (present_at es ages i k l age row old)

  -- a key with no row
  pub no_row : (q : Key) → position (is_key q) (keys_of es) ≡ None → get (map_of (present es ages)) q ≡ None
  no_row q none = get_is key_total key_exact (present es ages) q ∙ find_missing key_total key_exact (present es ages) q (place_present q None none)

  -- the same, of a place found by `==`
  place_found : (q : Key) (r : Option ℕ) → r ≡ position (equals q) (keys_of es) → position (is_key q) (keys_of es) ≡ r
  place_found q r at = ap (λ test. position test (keys_of es)) (sym (equals_key q)) ∙ sym at

  pub looked_up : (q : Key) (i : ℕ) (k : Key) (l : Lsa) (age : ℕ) → Some i ≡ position (equals q) (keys_of es) → slice_get es i ≡ Some (k, l) → age ≡ get_or ages i age → get (map_of (present es ages)) q ≡ Some (with_age l age)
  looked_up q i k l age at row old =
      at_row q i k l age (place_found q (Some i) at) row (slice_get_read ages (length ages) i age refl (omega (arith, c.a_row_each, slice_get_within es i (k, l) row)) old)

  pub not_there : (q : Key) → None ≡ position (equals q) (keys_of es) → get (map_of (present es ages)) q ≡ None
  not_there q none = no_row q (place_found q None none)

  pub has_row : (q : Key) (i : ℕ) (at : position (is_key q) (keys_of es) ≡ Some i) → get (map_of (present es ages)) q ≡ Some (with_age (entry_at es i (row_within q i at)).0.1 (get_or ages i 0))
  has_row q i at =
      let lt = row_within q i at in
      let e = entry_at es i lt in
      at_row q i e.0.0 e.0.1 (get_or ages i 0) at e.1 (slice_get-get_or ages i 0 (omega (arith, lt, c.a_row_each)))

  pub sound_columns : IsDatabaseSound (map_of (present es ages))
  sound_columns = record {
    under_own_key = λ k l e. (found_own (present es ages) k l c.own (sym (get_is key_total key_exact (present es ages) k) ∙ e)).0;
    legal = λ k l e. (found_own (present es ages) k l c.own (sym (get_is key_total key_exact (present es ages) k) ∙ e)).1;
  }

  own_at : (i : ℕ) (e : Entry) → i < length es → IsOwn ((get_or es i e).0, with_age (get_or es i e).1 (get_or ages i 0))
  own_at i e lt = subst IsOwn (get_or-present es ages i e e 0 c.a_row_each lt) (All-from_recursion IsOwn (present es ages) c.own i e (omega (arith, lt, length_present es ages c.a_row_each)))

  pub age_within : (i : ℕ) → i < length es → get_or ages i 0 ≤ MaxAge
  age_within i lt = (own_at i (entry_at es i lt).0 lt).1.age

  pub age_read : (i : ℕ) (k : Key) (l : Lsa) (age : ℕ) → slice_get es i ≡ Some (k, l) → age ≡ get_or ages i age → age ≤ MaxAge
  age_read i k l age row old =
      let lt : i < length es = slice_get_within es i (k, l) row in
      subst (λ n. n ≤ MaxAge) (get_or-default ages i 0 age (omega (arith, lt, c.a_row_each)) ∙ sym old) (age_within i lt)

  -- the LSA in place of the one in the row of its key
  module _ (i : ℕ) (l : Lsa) (at : position (is_key (key_of l)) (keys_of es) ≡ Some i) where
    pub replaced : IsLegal l → AreColumns (set_value_at es i l) (set ages i l.header.age) kinds routers limit
    replaced legal = record {
      unique = subst (IsDistinct is_key) (sym (keys_set es i l)) c.unique;
      a_row_each = length-set ages i l.header.age ∙ c.a_row_each ∙ sym (length_set es i l);
      own = subst (AllByRecursion IsOwn) (sym (present-set_value_at es ages i l l.header.age))
          (set_own (present es ages) i (key_of l) l (key_at (keys_of (present es ages)) (key_of l) i (place_present (key_of l) (Some i) at)) (refl, legal) c.own);
      kinds_are = c.kinds_are ∙ ap (map (λ (k : Key). k.kind)) (sym (keys_set es i l));
      routers_are = c.routers_are ∙ ap (map (λ (k : Key). k.router)) (sym (keys_set es i l));
      within = subst (λ n. n ≤ limit) (sym (length_set es i l)) c.within;
      few = c.few;
    }

    pub map_replaced : map_of (present (set_value_at es i l) (set ages i l.header.age)) ≡ insert (map_of (present es ages)) (key_of l) l
    map_replaced = ap map_of (present-set_value_at es ages i l l.header.age) ∙ set_rows (present es ages) i (key_of l) l (place_present (key_of l) (Some i) at)

    pub keys_replaced : keys_of (set_value_at es i l) ≡ keys_of es
    keys_replaced = keys_set es i l

  -- another age in the row of a key
  module _ (i : ℕ) (q k : Key) (l : Lsa) (age : ℕ) (at : position (is_key q) (keys_of es) ≡ Some i) (row : slice_get es i ≡ Some (k, l)) where
    pub aged_at : age ≤ MaxAge → AreColumns es (set ages i age) kinds routers limit
    aged_at young =
        let lt = row_within q i at in
        let same : get_or es i (k, l) ≡ (k, l) = get_or_from_slice_get es i (k, l) (k, l) row in
        let own : IsOwn (k, with_age l (get_or ages i 0)) = subst (λ (e : Entry). IsOwn (e.0, with_age e.1 (get_or ages i 0))) same (own_at i (k, l) lt) in
        let both : Some k ≡ Some q = sym (key_of_row es i k l row) ∙ key_at (keys_of es) q i at in
        let key : k ≡ q = cc in
        record {
          unique = c.unique;
          a_row_each = length-set ages i age ∙ c.a_row_each;
          own = subst (AllByRecursion IsOwn) (sym (present-set_age es ages i k l age row))
              (set_own (present es ages) i q (with_age l age) (key_at (keys_of (present es ages)) q i (place_present q (Some i) at)) (sym key ∙ own.0, IsLegal-with_age (with_age l (get_or ages i 0)) age own.1 young) c.own);
          kinds_are = c.kinds_are;
          routers_are = c.routers_are;
          within = c.within;
          few = c.few;
        }

    pub map_aged_at : map_of (present es (set ages i age)) ≡ insert (map_of (present es ages)) q (with_age l age)
    map_aged_at = ap map_of (present-set_age es ages i k l age row) ∙ set_rows (present es ages) i q (with_age l age) (place_present q (Some i) at)

  -- the LSA in a row of its own
  module _ (l : Lsa) where
    pub appended : IsLegal l → length es < limit → IsDistinct is_key (keys_of (es ++ (key_of l, l) ∷ []))
        → AreColumns (es ++ (key_of l, l) ∷ []) (ages ++ l.header.age ∷ []) (kinds ++ l.header.kind ∷ []) (routers ++ l.header.router ∷ []) limit
    appended legal room unique = record {
      unique = unique;
      a_row_each = length-append ages (l.header.age ∷ []) ∙ ap (λ n. n + 1) c.a_row_each ∙ sym (length-append es ((key_of l, l) ∷ []));
      own = subst (AllByRecursion IsOwn) (sym (present-push es ages (key_of l) l l.header.age c.a_row_each))
          (recursion_from_All IsOwn (present es ages ++ (key_of l, l) ∷ []) (All-push IsOwn (present es ages) (key_of l, l) (All-from_recursion IsOwn (present es ages) c.own) (refl, legal)));
      kinds_are = ap (λ (ks : List ℕ). ks ++ l.header.kind ∷ []) c.kinds_are ∙ sym (map-append (λ (k : Key). k.kind) (keys_of es) (key_of l ∷ [])) ∙ ap (map (λ (k : Key). k.kind)) (sym (map-append (λ (e : Entry). e.0) es ((key_of l, l) ∷ [])));
      routers_are = ap (λ (ks : List ℕ). ks ++ l.header.router ∷ []) c.routers_are ∙ sym (map-append (λ (k : Key). k.router) (keys_of es) (key_of l ∷ [])) ∙ ap (map (λ (k : Key). k.router)) (sym (map-append (λ (e : Entry). e.0) es ((key_of l, l) ∷ [])));
      within = omega (arith, room, length-append es ((key_of l, l) ∷ []));
      few = c.few;
    }

    pub map_appended : get (map_of (present es ages)) (key_of l) ≡ None → map_of (present (es ++ (key_of l, l) ∷ []) (ages ++ l.header.age ∷ [])) ≡ insert (map_of (present es ages)) (key_of l) l
    map_appended none =
        ap map_of (present-push es ages (key_of l) l l.header.age c.a_row_each)
        ∙ from_entries_push key_total key_exact (present es ages) (key_of l) l (sym (get_is key_total key_exact (present es ages) (key_of l)) ∙ none)

    pub keys_appended : keys_of (es ++ (key_of l, l) ∷ []) ≡ keys_of es ++ key_of l ∷ []
    keys_appended = map-append (λ (e : Entry). e.0) es ((key_of l, l) ∷ [])

  -- the last row in place of one
  module _ (i : ℕ) (q k : Key) (l : Lsa) (age : ℕ) (at : position (is_key q) (keys_of es) ≡ Some i) (row : slice_get es i ≡ Some (k, l)) (old : slice_get ages i ≡ Some age) where
    removal : IsDistinct is_key (keys_of (swap_remove (present es ages) i (k, with_age l age))) × (map_of (swap_remove (present es ages) i (k, with_age l age)) ≡ remove (map_of (present es ages)) q)
    removal = swapped key_total key_exact (present es ages) q i (k, with_age l age) unique_present (place_present q (Some i) at) (present_at es ages i k l age row old)

    after : present (swap_remove es i (k, l)) (swap_remove ages i age) ≡ swap_remove (present es ages) i (k, with_age l age)
    after = present-swap_remove es ages i (k, with_age l age) (k, l) age c.a_row_each (row_within q i at)

    pub keys_removed : keys_of (swap_remove es i (k, l)) ≡ swap_remove (keys_of es) i q
    keys_removed = swap_remove-map (λ (e : Entry). e.0) es i (k, l) q (row_within q i at)

    pub map_removed : map_of (present (swap_remove es i (k, l)) (swap_remove ages i age)) ≡ remove (map_of (present es ages)) q
    map_removed = ap map_of after ∙ removal.1

    own_all : (n : ℕ) (e : Entry) → n < length (present es ages) → All IsOwn (take n (set (present es ages) i (get_or (present es ages) n e)))
    own_all n e lt =
        let own = All-from_recursion IsOwn (present es ages) c.own in
        All-take IsOwn n (set (present es ages) i (get_or (present es ages) n e)) (All-set IsOwn (present es ages) i (get_or (present es ages) n e) (own n e lt) own)

    pub removed_columns : (kind router : ℕ) → AreColumns (swap_remove es i (k, l)) (swap_remove ages i age) (swap_remove kinds i kind) (swap_remove routers i router) limit
    removed_columns kind router =
        let lt = row_within q i at in
        let keys_lt : i < length (keys_of es) = omega (arith, lt, length-map es (λ (e : Entry). e.0)) in
        let present_lt : i < length (present es ages) = omega (arith, lt, length_present es ages c.a_row_each) in
        record {
          unique = subst (IsDistinct is_key) (swap_remove-map (λ (e : Entry). e.0) (present es ages) i (k, with_age l age) q present_lt ∙ ap (λ (ks : List Key). swap_remove ks i q) (keys_present es ages c.a_row_each) ∙ sym keys_removed) removal.0;
          a_row_each = omega (arith, c.a_row_each, lt, length-swap_remove es i (k, l) lt, length-swap_remove ages i age (omega (arith, lt, c.a_row_each)));
          own = subst (AllByRecursion IsOwn) (sym after) (recursion_from_All IsOwn (swap_remove (present es ages) i (k, with_age l age)) (own_all (length (present es ages) - 1) (k, with_age l age) (omega arith)));
          kinds_are = ap (λ (ks : List ℕ). swap_remove ks i kind) c.kinds_are ∙ sym (swap_remove-map (λ (k : Key). k.kind) (keys_of es) i q kind keys_lt) ∙ ap (map (λ (k : Key). k.kind)) (sym keys_removed);
          routers_are = ap (λ (ks : List ℕ). swap_remove ks i router) c.routers_are ∙ sym (swap_remove-map (λ (k : Key). k.router) (keys_of es) i q router keys_lt) ∙ ap (map (λ (k : Key). k.router)) (sym keys_removed);
          within = omega (arith, c.within, length-swap_remove es i (k, l) lt);
          few = c.few;
        }

-- ---- what the calls make of the columns

unlike : {X : Type 0} (b : Bool) (x : X) → (b ≡ false) ↔ (cond b (Some x) None ≡ None)
unlike true x = (λ e. absurd cc, λ e. absurd cc)
unlike false x = (λ e. refl, λ e. refl)

pub not_some : {X : Type 0} (o : Option X) → false ≡ is_some o → o ≡ None
not_some None e = refl
not_some (Some x) e = absurd cc

pub swap_remove_found : (ks : List Key) (q : Key) (i : ℕ) → position (is_key q) ks ≡ Some i → swap_remove_by (is_key q) ks ≡ swap_remove ks i q
swap_remove_found [] q i at = absurd cc
swap_remove_found (k ∷ ks) q i at = ap (λ (o : Option ℕ). option_map_or (λ i. swap_remove (k ∷ ks) i k) o (k ∷ ks)) at ∙ swap_remove-default (k ∷ ks) i k q (omega arith)

module _ {es : List Entry} {ages kinds routers : List ℕ} {limit : ℕ} (c : AreColumns es ages kinds routers limit) where
  pub is_found : (q : Key) → is_some (position (is_key q) (keys_of es)) ≡ is_some (get (map_of (present es ages)) q)
  is_found q =
      elim (position (is_key q) (keys_of es)) as (λ o. position (is_key q) (keys_of es) ≡ o → is_some o ≡ is_some (get (map_of (present es ages)) q)) [
        | None ↦ λ at. ap is_some (sym (no_row c q at))
        | Some i ↦ λ at. ap is_some (sym (has_row c q i at))
      ] refl

  module _ (q : Key) (i : ℕ) (at : position (is_key q) (keys_of es) ≡ Some i) where
    abbrev pub row : (e : Entry) × (slice_get es i ≡ Some e)
    row = entry_at es i (row_within c q i at)

    pub aged_columns : AreColumns es (set ages i MaxAge) kinds routers limit
    aged_columns = aged_at c i q row.0.0 row.0.1 MaxAge at row.1 (omega arith)

    pub map_aged : map_of (present es (set ages i MaxAge)) ≡ aged_out (map_of (present es ages)) q
    map_aged =
        map_aged_at c i q row.0.0 row.0.1 MaxAge at row.1
        ∙ ap (changed_at (map_of (present es ages)) q (λ l. with_age l MaxAge)) (sym (has_row c q i at))

    pub has_age : (age : ℕ) → age ≡ get_or ages i age → get (map_of (present es ages)) q ≡ Some (with_age row.0.1 age)
    has_age age old = at_row c q i row.0.0 row.0.1 age at row.1 (slice_get_read ages (length ages) i age refl (omega (arith, row_within c q i at, c.a_row_each)) old)

    pub is_unused : (age : ℕ) → age ≡ get_or ages i age → (nat_lt age MaxAge ≡ false) ↔ (used_at (map_of (present es ages)) q ≡ None)
    is_unused age old = subst (λ (o : Option Lsa). (nat_lt age MaxAge ≡ false) ↔ (option_and_then contents_of o ≡ None)) (sym (has_age age old)) (unlike (nat_lt age MaxAge) (row.0.1.header.options, row.0.1.body))

    pub refuses : (age : ℕ) → age ≡ get_or ages i age → purge_refusal_of (get (map_of (present es ages)) q) ≡ if nat_lt age MaxAge then Some purge.NotMaxAge else None
    refuses age old = ap purge_refusal_of (has_age age old)

    module _ (r : Option Entry) (new : List Entry) (ages_new kinds_new routers_new : List ℕ) (age kind router : ℕ) (out : r ≡ slice_get es i) (left : IfSome r (λ e. new ≡ swap_remove es i e))
        (ages_left : ages_new ≡ swap_remove ages i age) (age_out : age ≡ get_or ages i age) (kinds_left : kinds_new ≡ swap_remove kinds i kind) (routers_left : routers_new ≡ swap_remove routers i router) where
      rows_left : new ≡ swap_remove es i row.0
      rows_left = subst (λ o. IfSome o (λ e. new ≡ swap_remove es i e)) (out ∙ row.1) left

      age_there : slice_get ages i ≡ Some age
      age_there = slice_get_read ages (length ages) i age refl (omega (arith, row_within c q i at, c.a_row_each)) age_out

      pub purged_columns : AreColumns new ages_new kinds_new routers_new limit
      purged_columns =
          subst (λ (t : List Entry × (List ℕ × (List ℕ × List ℕ))). AreColumns t.0 t.1.0 t.1.1.0 t.1.1.1 limit) (λ j. (sym rows_left j, (sym ages_left j, (sym kinds_left j, sym routers_left j))))
          (removed_columns c i q row.0.0 row.0.1 age at row.1 age_there kind router)

      pub map_purged : map_of (present new ages_new) ≡ remove (map_of (present es ages)) q
      map_purged = (λ j. map_of (present (rows_left j) (ages_left j))) ∙ map_removed c i q row.0.0 row.0.1 age at row.1 age_there

      pub keys_purged : keys_of new ≡ swap_remove_by (is_key q) (keys_of es)
      keys_purged = ap keys_of rows_left ∙ keys_removed c i q row.0.0 row.0.1 age at row.1 age_there ∙ sym (swap_remove_found (keys_of es) q i at)

  module _ (l : Lsa) (legal : IsLegal l) (absent : position (is_key (key_of l)) (keys_of es) ≡ None) (new : List Entry) (ages_old ages_new kinds_old kinds_new routers_old routers_new : List ℕ) (key : Key) (age : ℕ)
      (key_is : key ≡ key_of l) (age_is : age ≡ l.header.age) (rows_are : new ≡ insert_entry equals es key l)
      (ages_were : ages_old ≡ ages) (ages_are : ages_new ≡ ages_old ++ age ∷ []) (kinds_were : kinds_old ≡ kinds) (kinds_are : kinds_new ≡ kinds_old ++ key.kind ∷ [])
      (routers_were : routers_old ≡ routers) (routers_are : routers_new ≡ routers_old ++ key.router ∷ []) where
    rows_grown : new ≡ es ++ (key_of l, l) ∷ []
    rows_grown = rows_are ∙ (λ j. insert_entry (equals_all j) es (key_is j) l) ∙ insert_entry-absent is_key (key_of l) l es (Missing-position (is_key (key_of l)) es absent).absent

    ages_grown : ages_new ≡ ages ++ l.header.age ∷ []
    ages_grown = ages_are ∙ (λ j. ages_were j ++ age_is j ∷ [])

    pub grown_columns : length es < limit → IsDistinct equals (keys_of new) → AreColumns new ages_new kinds_new routers_new limit
    grown_columns room unique =
        subst (λ (t : List Entry × (List ℕ × (List ℕ × List ℕ))). AreColumns t.0 t.1.0 t.1.1.0 t.1.1.1 limit)
        (λ j. (sym rows_grown j, (sym ages_grown j, (sym (kinds_are ∙ (λ i. kinds_were i ++ (key_is i).kind ∷ [])) j, sym (routers_are ∙ (λ i. routers_were i ++ (key_is i).router ∷ [])) j))))
        (appended c l legal room (subst (λ (ks : List Key). IsDistinct is_key ks) (ap keys_of rows_grown) (subst (λ eq. IsDistinct eq (keys_of new)) equals_all unique)))

    pub map_grown : map_of (present new ages_new) ≡ insert (map_of (present es ages)) (key_of l) l
    map_grown = (λ j. map_of (present (rows_grown j) (ages_grown j))) ∙ map_appended c l (no_row c (key_of l) absent)

    pub keys_grown : keys_of new ≡ keys_of es ++ key_of l ∷ []
    keys_grown = ap keys_of rows_grown ∙ keys_appended c l
