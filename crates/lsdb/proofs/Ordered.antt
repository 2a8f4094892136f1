-- The order of a database's rows has each key of its map, once.
use Rattle.std.proofs.Common.{◌≡◌, ℕ, true, List, Option, Contains, sym, subst, ◌∙◌}
use Rattle.std.specs.Prelude.{IsSome}
use Rattle.std.specs.FinMap.{get}
use Rattle.std.specs.Map.{keys_of, lookup}
use Rattle.std.proofs.lemmas.Map.Made.{AllPairs-from_IsDistinct}
use Rattle.std.proofs.lemmas.Map.Views.{Contains-keys_from_lookup, IsSome-lookup_from_Contains}
use Rattle.ospf_types.specs.declared.key.Key.{Key}
use Rattle.ospf_types.specs.Keys.{key_cmp}
use Rattle.ospf_types.specs.Lsa.{Lsa}
use Rattle.ospf_types.proofs.Orders.{key_total, key_exact}
use Rattle.lsdb.specs.Columns.{is_key, present, database_of, AreColumns}
use Rattle.lsdb.specs.Contents.{IsOrder}
use Rattle.lsdb.proofs.KeyTests.{key_laws, key_same}
use Rattle.lsdb.proofs.Entries.{find-lookup, get_is}
use Rattle.lsdb.proofs.Rows.{Entry, keys_present}
use Rattle.lsdb.proofs.Stored.{map_of}

module _ {es : List Entry} {ages kinds routers : List ℕ} {limit : ℕ} (c : AreColumns es ages kinds routers limit) where
  found : (k : Key) → get (map_of (present es ages)) k ≡ lookup (is_key k) (present es ages)
  found k = get_is key_total key_exact (present es ages) k ∙ find-lookup key_cmp k (present es ages)

  keys_are : keys_of (present es ages) ≡ keys_of es
  keys_are = keys_present es ages c.a_row_each

  pub is_order : IsOrder (database_of es ages limit)
  is_order = record {
    there = λ k. (
      λ among. subst (λ (o : Option Lsa). IsSome o) (sym (found k)) (IsSome-lookup_from_Contains key_laws k (present es ages) (subst (λ (ks : List Key). Contains ks k) (sym keys_are) among)),
      λ some. subst (λ (ks : List Key). Contains ks k) keys_are (Contains-keys_from_lookup key_same k (present es ages) (subst (λ (o : Option Lsa). IsSome o) (found k) some)),
    );
    once = AllPairs-from_IsDistinct (λ a b. (key_same a b, λ e. subst (λ x. is_key a x ≡ true) e (key_laws.refl a))) (keys_of es) c.unique;
  }
