-- The Area IDs of each configuration have an order.
use Rattle.std.proofs.Common.{◌≡◌, ◌∙◌, ℕ, Bool, true, false, cond, T, List, [], ◌∷◌, map, Some, Ordering, refl, sym, ap}
use Rattle.std.specs.Prelude.{◌==◌, ◌&&◌, ◌||◌, Option, is_some}
use Rattle.std.specs.declared.cmp.Ordering.TheVariants.{Less, Equal, Greater}
use Rattle.std.specs.Cmp.{nat_cmp_total, nat_eq_equiv, eq_by_cmp_equiv, unsigned_ties}
use Rattle.std.specs.FinMap.{FinMap, find, entries, entries_sorted, from_entries, get-from_entries, is_sorted, contains_key, contains_key-keys, nat_cmp-IsAntisymmetric}
use Rattle.std.specs.FinMap.Entries.{below_all}
use Rattle.std.specs.List.{AllByRecursion, list_any}
use Rattle.std.specs.List.Sorted.{IsStrictlySortedBy}
use Rattle.std.specs.Map.{keys_of}
use Rattle.std.specs.Ordering.{eq_by_cmp, is_lt, nat_cmp}
use Rattle.std.proofs.lemmas.Map.Views.{Contains-from_any, list_any-from_Contains, tells_apart}
use Rattle.ospf_types.specs.declared.config.AreaConfig.{AreaConfig}
use Rattle.event_core.specs.Listings.{AreAreaIds}
use Rattle.event_core.proofs.Listings.{has_place}

-- ---- the keys of a map are in order

front : (a b : Bool) → T (a && b) → T a
front true b both = tt
front false b both = both

rest : (a b : Bool) → T (a && b) → T b
rest true b both = both
rest false b both = absurd both

less : (o : Ordering) → T (is_lt o) → o ≡ Less
less Less lt = refl
less Equal lt = absurd lt
less Greater lt = absurd lt

below : {X : Type 0} (id : ℕ) (es : List (ℕ × X)) → T (below_all nat_cmp id es) → AllByRecursion (λ k. nat_cmp id k ≡ Less) (keys_of es)
below id [] all = tt
below id (e ∷ es) all = (less (nat_cmp id e.0) (front _ _ all), below id es (rest _ _ all))

in_order : {X : Type 0} (es : List (ℕ × X)) → T (is_sorted nat_cmp es) → IsStrictlySortedBy nat_cmp (keys_of es)
unfolding IsStrictlySortedBy
in_order [] sorted = tt
in_order (e ∷ es) sorted = (below e.0 es (front _ _ sorted), in_order es (rest _ _ sorted))

-- ---- the areas by their Area IDs

abbrev marked : List AreaConfig → List (ℕ × Unit {0})
marked areas = map (λ (a : AreaConfig). (a.id, tt)) areas

abbrev by_id : List AreaConfig → FinMap nat_cmp (Unit {0})
by_id areas = from_entries (marked areas)

some_or : (b : Bool) (o : Option (Unit {0})) → is_some (cond b (Some tt) o) ≡ (b || is_some o)
some_or true o = refl
some_or false o = refl

same_id : (n m : ℕ) → eq_by_cmp nat_cmp n m ≡ (m == n)
same_id n m = sym (unsigned_ties n m) ∙ nat_eq_equiv.symm n m

found : (areas : List AreaConfig) (id : ℕ) → is_some (find nat_cmp id (marked areas)) ≡ list_any (λ (a : AreaConfig). a.id == id) areas
found [] id = refl
found (a ∷ areas) id = some_or (eq_by_cmp nat_cmp id a.id) (find nat_cmp id (marked areas)) ∙ (λ i. same_id id a.id i || found areas id i)

has_key : (areas : List AreaConfig) (id : ℕ) → contains_key (by_id areas) id ≡ list_any (λ (a : AreaConfig). a.id == id) areas
has_key areas id = ap is_some (get-from_entries nat_cmp_total (marked areas) id) ∙ found areas id

pub some_ids : (areas : List AreaConfig) → (ids : List ℕ) × AreAreaIds areas ids
some_ids areas =
    let m = by_id areas in (
      keys_of (entries m),
      record {
        ascending = in_order (entries m) (entries_sorted m);
        same = λ id. (
          λ has. has_place areas id ∙ sym (has_key areas id) ∙ contains_key-keys m id ∙ list_any-from_Contains (eq_by_cmp_equiv nat_cmp_total) id (keys_of (entries m)) has,
          λ some. Contains-from_any (tells_apart nat_cmp-IsAntisymmetric) id (keys_of (entries m)) (sym (contains_key-keys m id) ∙ has_key areas id ∙ sym (has_place areas id) ∙ some),
        );
      },
    )
