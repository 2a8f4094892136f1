-- The LSAs of a database: each is under a key, and what is used of it is its body where it is
-- usable.
use Rattle.std.proofs.Common.{◌≡◌, ℕ, ◌<◌, Bool, true, false, cond, T, List, [], ◌∷◌, Option, Some, None, Ordering, refl, sym, ap, ◌∙◌, ⊎_elim, arith}
use Rattle.std.specs.Prelude.{◌&&◌, nat_lt, option_and_then}
use Rattle.std.specs.declared.cmp.Ordering.TheVariants.{Less, Equal, Greater}
use Rattle.std.specs.Ordering.{is_lt, ordering_reverse}
use Rattle.std.specs.Cmp.{IsTotalOrder}
use Rattle.std.specs.List.{Contains}
use Rattle.std.specs.FinMap.{find, is_sorted, entries, values, get, entries_sorted, get-entries}
use Rattle.std.specs.FinMap.Entries.{below_all}
use Rattle.std.proofs.lemmas.Bool.Decides.{nat_tests}
use Rattle.std.proofs.lemmas.Cmp.{tied_itself}
use Rattle.std.proofs.lemmas.Map.Made.{Contains-values_of, Contains-from_values_of}
use Rattle.std.proofs.lemmas.Map.Views.{Contains-from_lookup, tells_apart}
use Rattle.ospf_types.specs.declared.key.Key.{Key}
use Rattle.ospf_types.specs.Keys.{key_cmp}
use Rattle.ospf_types.specs.Lsa.{Lsa, Body, MaxAge, IsUsable}
use Rattle.ospf_types.proofs.Elements.{no_element, first_or_later}
use Rattle.ospf_types.proofs.Maps.{find-lookup}
use Rattle.ospf_types.proofs.Orders.{key_total, key_exact}
use Rattle.lsdb.specs.Contents.{contents_of}
use Rattle.lsdb.specs.Databases.{Database}
use Rattle.area_trees.specs.Areas.{body_at}

-- ---- entries in the order of their keys

front : (a b : Bool) → T (a && b) → T a
front true b p = tt
front false b p = p

rest : (a b : Bool) → T (a && b) → T b
rest true b p = p
rest false b p = absurd p

less : (o : Ordering) → T (is_lt o) → o ≡ Less
less Less p = refl
less Equal p = absurd p
less Greater p = absurd p

module _ {K X : Type 0} {R : K → K → Ordering} (o : IsTotalOrder R) where
  below : (k : K) (es : List (K × X)) (e : K × X) → T (below_all R k es) → Contains es e → R k e.0 ≡ Less
  below k [] e all h = absurd (no_element e h)
  below k (f ∷ es) e all h =
      ⊎_elim (λ (is : e ≡ f). ap (λ (x : K × X). R k x.0) is ∙ less _ (front _ _ all)) (λ (c : Contains es e). below k es e (rest _ _ all) c) (first_or_later f e es h)

  -- what is found at the key of an entry is its value
  found : (es : List (K × X)) (e : K × X) → T (is_sorted R es) → Contains es e → find R e.0 es ≡ Some e.1
  found [] e sorted h = absurd (no_element e h)
  found (f ∷ es) e sorted h =
      ⊎_elim
      (λ (is : e ≡ f). let tie : R e.0 f.0 ≡ Equal = ap (λ (x : K × X). R e.0 x.0) (sym is) ∙ tied_itself o e.0 in rw tie (ap (λ (x : K × X). Some x.1) (sym is)))
      (λ (c : Contains es e).
      let later : R e.0 f.0 ≡ Greater = o.antisymm e.0 f.0 ∙ ap ordering_reverse (below f.0 es e (front _ _ sorted) c) in
      rw later (found es e (rest _ _ sorted) c))
      (first_or_later f e es h)

-- ---- LSAs

-- an LSA of a database is under some key
pub under_key : (d : Database) (l : Lsa) → Contains (values d) l → (k : Key) × (get d k ≡ Some l)
under_key d l h =
    let w = Contains-from_values_of (entries d) l h in
    (w.0, get-entries d w.0 ∙ found key_total (entries d) (w.0, l) (entries_sorted d) w.1)

pub among_values : (d : Database) (k : Key) (l : Lsa) → get d k ≡ Some l → Contains (values d) l
among_values d k l e =
    Contains-values_of (entries d) k l (Contains-from_lookup (tells_apart key_exact) k l (entries d) (sym (find-lookup key_cmp k (entries d)) ∙ sym (get-entries d k) ∙ e))

younger : (age : ℕ) → nat_lt age MaxAge ≡ true → age < MaxAge
younger age t = grind (arith, nat_tests)

not_aged : (age : ℕ) → age < MaxAge → nat_lt age MaxAge ≡ true
not_aged age lt = grind (arith, nat_tests)

abbrev body_of : Option (ℕ × Body) → Option Body
body_of None = None
body_of (Some used) = Some used.1

-- the LSA of which a body is used
used_from : (o : Option Lsa) (b : Body) → body_of (option_and_then contents_of o) ≡ Some b → (l : Lsa) × (o ≡ Some l) × IsUsable l × (l.body ≡ b)
used_from None b e = absurd cc
used_from (Some l) b e =
    elim (nat_lt l.header.age MaxAge) as (λ t. nat_lt l.header.age MaxAge ≡ t → body_of (cond t (Some (l.header.options, l.body)) None) ≡ Some b → (m : Lsa) × (Some l ≡ Some m) × IsUsable m × (m.body ≡ b)) [
      | true ↦ λ t is. let same : l.body ≡ b = cc in (l, refl, younger l.header.age t, same)
      | false ↦ λ t is. absurd cc
    ] refl e

-- a body that is used belongs to a usable LSA under the key
pub held_by : (d : Database) (key : Key) (b : Body) → body_at d key ≡ Some b → (l : Lsa) × (get d key ≡ Some l) × IsUsable l × (l.body ≡ b)
held_by d key b e = used_from (get d key) b e

-- and the body of a usable LSA is used
pub used_of : (d : Database) (key : Key) (l : Lsa) → get d key ≡ Some l → IsUsable l → body_at d key ≡ Some l.body
used_of d key l e lt =
    ap (λ (o : Option Lsa). body_of (option_and_then contents_of o)) e ∙ ap (λ t. body_of (cond t (Some (l.header.options, l.body)) None)) (not_aged l.header.age lt)
