-- Sets of network-LSAs, as lists of Link State ID and Advertising Router.
use Rattle.std.proofs.Common.{◌≡◌, ℕ, ◌<◌, ◌≤◌, ◌^◌, Bool, true, false, List, [], ◌∷◌, ◌++◌, map, Ordering, refl, sym, ap, subst, ◌∙◌, arith}
use Rattle.std.specs.Prelude.{◌↔◌, IsTrue}
use Rattle.std.specs.BTreeMap.Range.{IsLeBy}
use Rattle.std.specs.BTreeSet.{BTreeSet, contains, Updates, IsKeyRangeOf}
use Rattle.std.specs.declared.ops.Bound.TheVariants.{Included}
use Rattle.std.specs.Ordering.{nat_cmp, ordering_then, eq_by_cmp, is_lt}
use Rattle.std.specs.Cmp.{IsTotalOrder, nat_cmp_total}
use Rattle.std.specs.List.{Contains, All}
use Rattle.std.proofs.lemmas.Cmp.{on_total, then_total}
use Rattle.std.proofs.lemmas.List.Elements.{All-contains}
use Rattle.std.proofs.lemmas.Map.Lookups.{CmpEqualImpliesEq, exact_pairs, exact_unsigned}
use Rattle.std.proofs.lemmas.Map.Views.{btree_set_contains_iff, tells_apart}
use Rattle.ospf_types.proofs.Elements.{mapped_element, mapped_from}
use Rattle.area_trees.specs.Areas.{IsGreatestRouter}
use Rattle.area_trees.specs.declared.networks.NetworkLsa.{NetworkLsa}

abbrev pub lsa : ℕ → ℕ → NetworkLsa
lsa id router = record { id = id; router = router }

abbrev pub lsa_cmp : NetworkLsa → NetworkLsa → Ordering
lsa_cmp a b = ordering_then (nat_cmp a.id b.id) (nat_cmp a.router b.router)

abbrev pub pairs : List NetworkLsa → List (ℕ × ℕ)
pairs = map (λ (l : NetworkLsa). (l.id, l.router))

lsa_total : IsTotalOrder lsa_cmp
lsa_total = then_total (on_total (λ l. l.id) nat_cmp_total) (on_total (λ l. l.router) nat_cmp_total)

lsa_exact : CmpEqualImpliesEq lsa_cmp
lsa_exact a b h = ap (λ (p : ℕ × ℕ). lsa p.0 p.1) (exact_pairs nat_cmp nat_cmp exact_unsigned exact_unsigned (a.id, a.router) (b.id, b.router) h)

-- an LSA that is listed is a key
pub key_of_pair : (ls : List NetworkLsa) (id router : ℕ) → Contains (pairs ls) (id, router) → Contains ls (lsa id router)
key_of_pair ls id router c =
    let from = mapped_from (λ (l : NetworkLsa). (l.id, l.router)) ls (id, router) c in
    subst (Contains ls) (ap (λ (p : ℕ × ℕ). lsa p.0 p.1) from.2) from.1

-- the set as a list
pub in_pairs : (s : BTreeSet NetworkLsa) (id router : ℕ) → Contains (pairs s.keys) (id, router) ↔ IsTrue (contains lsa_cmp s (lsa id router))
in_pairs s id router =
    let iff = btree_set_contains_iff lsa_total lsa_exact s (lsa id router) in (
      λ c. iff.1 (key_of_pair s.keys id router c),
      λ t. mapped_element (λ (l : NetworkLsa). (l.id, l.router)) s.keys (lsa id router) (iff.0 t),
    )

-- ---- what is between the first and the last of one Link State ID

le_by_id : (a b : NetworkLsa) → IsLeBy lsa_cmp a b → a.id ≤ b.id
le_by_id a b le = grind (arith, le)

le_by_router : (id m n : ℕ) → m ≤ n → IsLeBy lsa_cmp (lsa id m) (lsa id n)
le_by_router id m n le = grind (arith, le)

not_less : (id m n : ℕ) → is_lt (lsa_cmp (lsa id m) (lsa id n)) ≡ false → n ≤ m
not_less id m n le = grind (arith, le)

module _ (s : BTreeSet NetworkLsa) (small : All (λ (l : NetworkLsa). l.router < 2 ^ 32) s.keys) (id : ℕ) (first last : NetworkLsa) (first_is : first ≡ lsa id 0) (last_is : last ≡ lsa id 4294967295) (part : List NetworkLsa) (between : IsKeyRangeOf lsa_cmp (Included first) (Included last) s part) where
  range : IsKeyRangeOf lsa_cmp (Included (lsa id 0)) (Included (lsa id 4294967295)) s part
  range = subst (λ (b : NetworkLsa × NetworkLsa). IsKeyRangeOf lsa_cmp (Included b.0) (Included b.1) s part) (λ i. (first_is i, last_is i)) between

  pub none_there : part ≡ [] → (router : ℕ) → Contains (pairs s.keys) (id, router) → ⊥
  none_there none router c =
      let bound : router < 2 ^ 32 = All-contains (λ (l : NetworkLsa). l.router < 2 ^ 32) s.keys (lsa id router) small (key_of_pair s.keys id router c) in
      let gone = range.5 none (lsa id router) (le_by_router id 0 router (omega arith), le_by_router id router 4294967295 (omega (arith, bound))) in
      let there : true ≡ false = sym ((in_pairs s id router).0 c) ∙ gone in
      cc

  pub last_greatest : (t : List NetworkLsa) (k : NetworkLsa) → part ≡ t ++ k ∷ [] → IsGreatestRouter (pairs s.keys) id k.router
  last_greatest t k is =
      let in_range = range.3 k t is in
      let same : k.id ≡ id = omega (arith, le_by_id (lsa id 0) k in_range.0.0, le_by_id k (lsa id 4294967295) in_range.0.1) in (
        (in_pairs s id k.router).1 (subst (λ (n : ℕ). IsTrue (contains lsa_cmp s (lsa n k.router))) same in_range.1),
        λ other c.
            let bound : other < 2 ^ 32 = All-contains (λ (l : NetworkLsa). l.router < 2 ^ 32) s.keys (lsa id other) small (key_of_pair s.keys id other c) in
            let below = range.4 k t is (lsa id other) (le_by_router id 0 other (omega arith), le_by_router id other 4294967295 (omega (arith, bound))) ((in_pairs s id other).0 c) in
            not_less id k.router other (subst (λ (n : ℕ). is_lt (lsa_cmp (lsa n k.router) (lsa id other)) ≡ false) same below),
      )

-- ---- a set in which one network-LSA is put or of which it is taken

module _ (s n : BTreeSet NetworkLsa) (id router : ℕ) (l : NetworkLsa) (l_is : l ≡ lsa id router) (b : Bool) (updates : Updates lsa_cmp s n l b) where
  updated : Updates lsa_cmp s n (lsa id router) b
  updated = subst (λ (k : NetworkLsa). Updates lsa_cmp s n k b) l_is updates

  pub updated_own : (test : Bool) (P : Type 0) → test ≡ b → IsTrue test ↔ P → Contains (pairs n.keys) (id, router) ↔ P
  updated_own test P is tells =
      let own : contains lsa_cmp n (lsa id router) ≡ test = updated.1 ∙ sym is in
      (λ c. tells.0 (subst IsTrue own ((in_pairs n id router).0 c)), λ p. (in_pairs n id router).1 (subst IsTrue (sym own) (tells.1 p)))

  pub updated_others : (was : List (ℕ × ℕ)) → pairs s.keys ≡ was → (other at : ℕ) → ((id ≡ other) × (router ≡ at) → ⊥) → Contains (pairs n.keys) (other, at) ↔ Contains was (other, at)
  updated_others was view_is other at apart =
      let differs : eq_by_cmp lsa_cmp (lsa id router) (lsa other at) ≡ false =
      elim (eq_by_cmp lsa_cmp (lsa id router) (lsa other at)) as (λ t. eq_by_cmp lsa_cmp (lsa id router) (lsa other at) ≡ t → t ≡ false) [
        | true ↦ λ is. let same = tells_apart lsa_exact (lsa id router) (lsa other at) is in absurd (apart (ap (λ (l : NetworkLsa). l.id) same, ap (λ (l : NetworkLsa). l.router) same))
        | false ↦ λ is. refl
      ] refl in
      let same : contains lsa_cmp n (lsa other at) ≡ contains lsa_cmp s (lsa other at) = updated.2 (lsa other at) differs in (
        λ c. subst (λ (ps : List (ℕ × ℕ)). Contains ps (other, at)) view_is ((in_pairs s other at).1 (subst IsTrue same ((in_pairs n other at).0 c))),
        λ c. (in_pairs n other at).1 (subst IsTrue (sym same) ((in_pairs s other at).0 (subst (λ (ps : List (ℕ × ℕ)). Contains ps (other, at)) (sym view_is) c))),
      )
