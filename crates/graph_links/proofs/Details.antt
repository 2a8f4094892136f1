-- The Link Data of the ends at a vertex, ascending without duplicates.
use Rattle.std.proofs.Common.{◌≡◌, ℕ, ◌+◌, ◌<◌, Bool, true, false, cond, eqb, List, [], ◌∷◌, ◌++◌, length, get_or, drop, map, Option, Some, None, Ordering, refl, sym, ap, subst, ◌∙◌, append_assoc, arith}
use Rattle.std.specs.Prelude.{◌↔◌, ◌==◌}
use Rattle.std.specs.declared.cmp.Ordering.TheVariants.{Less, Equal, Greater}
use Rattle.std.specs.List.{Contains, dedup, dedup_from}
use Rattle.std.specs.List.Sorted.{IsSorted, IsStrictlySortedBy}
use Rattle.std.specs.Ordering.{nat_cmp, ordering_then, ordering_reverse, is_lt}
use Rattle.std.specs.Cmp.{nat_cmp_total}
use Rattle.std.proofs.lemmas.Bool.Decides.{nat_tests}
use Rattle.std.proofs.lemmas.Cmp.{tied_itself}
use Rattle.std.proofs.lemmas.List.{get_or-map, get_or_default, drop_more, length-map}
use Rattle.std.proofs.lemmas.List.Kept.{Contains-dedup_nat, Contains-from_dedup}
use Rattle.std.proofs.lemmas.Map.Keys.{Less-from_sorted, IsStrictlyIncreasing-dedup, sorted_from_strictly_increasing}
use Rattle.std.proofs.lemmas.Map.Lookups.{exact_unsigned}
use Rattle.ospf_types.specs.declared.entry.Vertex.{Vertex}
use Rattle.ospf_types.specs.Vertices.{vertex_cmp}
use Rattle.ospf_types.proofs.Elements.{mapped_element, mapped_from}
use Rattle.ospf_types.proofs.OneBest.{same_list}
use Rattle.graph_links.specs.declared.link_end.LinkEnd.{LinkEnd}
use Rattle.graph_links.specs.EndOrder.{end_cmp}
use Rattle.graph_links.specs.Pairs.{AreDetailsTo, is_last}
use Rattle.graph_links.proofs.EndOrders.{vertex_total}

-- the rest of the numbers, without duplicates, after this one
abbrev pub rest_of : Option ℕ → List ℕ → List ℕ
rest_of None xs = dedup eqb xs
rest_of (Some m) [] = []
rest_of (Some m) (x ∷ xs) = cond (m == x) (rest_of (Some x) xs) (x ∷ rest_of (Some x) xs)

equal_either_way : (m n : ℕ) → eqb n m ≡ (m == n)
equal_either_way m n = grind (arith, nat_tests)

rest_from : (x : ℕ) (xs : List ℕ) → dedup_from eqb x xs ≡ x ∷ rest_of (Some x) xs
rest_from x [] = refl
rest_from x (y ∷ ys) =
    ap (λ (b : Bool). cond b (dedup_from eqb x ys) (x ∷ dedup_from eqb y ys)) (equal_either_way x y)
    ∙ elim (x == y) as (λ b. x == y ≡ b → cond b (dedup_from eqb x ys) (x ∷ dedup_from eqb y ys) ≡ x ∷ cond b (rest_of (Some y) ys) (y ∷ rest_of (Some y) ys)) [
      | true ↦ λ t. let same : x ≡ y = grind (arith, nat_tests) in rest_from x ys ∙ ap (λ (m : ℕ). x ∷ rest_of (Some m) ys) same
      | false ↦ λ t. ap (λ (rest : List ℕ). x ∷ rest) (rest_from y ys)
    ] refl

-- one number more
rest_step : (last : Option ℕ) (x : ℕ) (xs : List ℕ) → rest_of last (x ∷ xs) ≡ cond (is_last last x) (rest_of (Some x) xs) (x ∷ rest_of (Some x) xs)
rest_step None x xs = rest_from x xs
rest_step (Some m) x xs = refl

with_rest : (b : Bool) (before rest : List ℕ) (x : ℕ) → cond b before (before ++ x ∷ []) ++ rest ≡ before ++ cond b rest (x ∷ rest)
with_rest true before rest x = refl
with_rest false before rest x = append_assoc before (x ∷ []) rest

-- a number that is added, unless it was added last, leaves the whole unchanged
pub rest_added : (before : List ℕ) (last : Option ℕ) (x : ℕ) (xs whole : List ℕ) → before ++ rest_of last (x ∷ xs) ≡ whole → cond (is_last last x) before (before ++ x ∷ []) ++ rest_of (Some x) xs ≡ whole
rest_added before last x xs whole h = with_rest (is_last last x) before (rest_of (Some x) xs) x ∙ ap (λ (rest : List ℕ). before ++ rest) (sym (rest_step last x xs)) ∙ h

-- of two ends at one vertex, in order, the second has no lesser Link Data
not_lesser : (a b : LinkEnd) → a.to ≡ b.to → end_cmp a b ≡ Less → is_lt (nat_cmp b.detail a.detail) ≡ false
not_lesser a b same less =
    let tie : vertex_cmp a.to b.to ≡ Equal = ap (λ (v : Vertex). vertex_cmp v b.to) same ∙ tied_itself vertex_total b.to in
    let second : ordering_then Equal (ordering_then (nat_cmp a.detail b.detail) (nat_cmp a.metric b.metric)) ≡ Less = subst (λ (o : Ordering). ordering_then o (ordering_then (nat_cmp a.detail b.detail) (nat_cmp a.metric b.metric)) ≡ Less) tie less in
    elim (nat_cmp a.detail b.detail) as (λ o. nat_cmp a.detail b.detail ≡ o → ordering_then o (nat_cmp a.metric b.metric) ≡ Less → is_lt (nat_cmp b.detail a.detail) ≡ false) [
      | Less ↦ λ e h. ap is_lt (nat_cmp_total.antisymm b.detail a.detail ∙ ap ordering_reverse e)
      | Equal ↦ λ e h. ap is_lt (nat_cmp_total.antisymm b.detail a.detail ∙ ap ordering_reverse e)
      | Greater ↦ λ e h. absurd cc
    ] refl second

-- the Link Data of ends at one vertex, in order, do not fall
details_sorted : (v : Vertex) (es : List LinkEnd) → IsStrictlySortedBy end_cmp es → ((e : LinkEnd) → Contains es e → e.to ≡ v) → IsSorted nat_cmp (map (λ (e : LinkEnd). e.detail) es)
details_sorted v es sorted at k d low high =
    let n = length-map es (λ (e : LinkEnd). e.detail) in
    let lt : k + 1 < length es = omega arith in
    let none : LinkEnd = record { to = v; detail = d; metric = 0 } in
    let a : LinkEnd = get_or es k none in
    let b : LinkEnd = get_or es (k + 1) none in
    let same : a.to ≡ b.to = at a (k, omega arith, get_or_default es k a none (omega arith)) ∙ sym (at b (k + 1, lt, get_or_default es (k + 1) b none lt)) in
    ap (λ (x : ℕ). is_lt (nat_cmp x (get_or (map (λ (e : LinkEnd). e.detail) es) k d))) (get_or-map (λ (e : LinkEnd). e.detail) es (k + 1) none d lt)
    ∙ ap (λ (x : ℕ). is_lt (nat_cmp b.detail x)) (get_or-map (λ (e : LinkEnd). e.detail) es k none d (omega arith))
    ∙ not_lesser a b same (Less-from_sorted end_cmp es k (k + 1) none sorted (omega arith) lt)

-- of the ends at a vertex, each Link Data once is all that the vertex has there
pub details_of_ends : (v : Vertex) (all es : List LinkEnd) → IsStrictlySortedBy end_cmp es → ((e : LinkEnd) → Contains es e ↔ (Contains all e × (e.to ≡ v))) → AreDetailsTo v all (dedup eqb (map (λ (e : LinkEnd). e.detail) es))
details_of_ends v all es sorted exact = record {
  ascending = IsStrictlyIncreasing-dedup (map (λ (e : LinkEnd). e.detail) es) (details_sorted v es sorted (λ e c. ((exact e).0 c).1));
  same = λ address. (
    λ c. let from = mapped_from (λ (e : LinkEnd). e.detail) es address (Contains-from_dedup eqb (map (λ (e : LinkEnd). e.detail) es) address c) in
        let here = (exact from.0).0 from.1 in
        (from.0, here.0, here.1, from.2),
    λ end. subst (Contains (dedup eqb (map (λ (e : LinkEnd). e.detail) es))) end.3
        (Contains-dedup_nat (map (λ (e : LinkEnd). e.detail) es) end.0.detail (mapped_element (λ (e : LinkEnd). e.detail) es end.0 ((exact end.0).1 (end.1, end.2)))),
  );
}

-- there is one list of them
pub one_list_of_details : (v : Vertex) (ends : List LinkEnd) (xs ys : List ℕ) → AreDetailsTo v ends xs → AreDetailsTo v ends ys → xs ≡ ys
one_list_of_details v ends xs ys p q =
    same_list nat_cmp_total exact_unsigned xs ys (sorted_from_strictly_increasing xs p.ascending) (sorted_from_strictly_increasing ys q.ascending)
    (λ address. (λ c. (q.same address).1 ((p.same address).0 c), λ c. (p.same address).1 ((q.same address).0 c)))

-- the loop that adds each one time, one end on
pub rest_on : (before after : List ℕ) (last : Option ℕ) (es : List LinkEnd) (i : ℕ) (none : LinkEnd) (whole : List ℕ) → i < length es
    → before ++ rest_of last (map (λ (e : LinkEnd). e.detail) (drop i es)) ≡ whole
    → after ≡ cond (is_last last (get_or es i none).detail) before (before ++ (get_or es i none).detail ∷ [])
    → after ++ rest_of (Some (get_or es i none).detail) (map (λ (e : LinkEnd). e.detail) (drop (i + 1) es)) ≡ whole
rest_on before after last es i none whole lt h is =
    let next : before ++ rest_of last ((get_or es i none).detail ∷ map (λ (e : LinkEnd). e.detail) (drop (i + 1) es)) ≡ whole =
    ap (λ (rest : List LinkEnd). before ++ rest_of last (map (λ (e : LinkEnd). e.detail) rest)) (sym (drop_more es i none lt)) ∙ h in
    ap (λ (xs : List ℕ). xs ++ rest_of (Some (get_or es i none).detail) (map (λ (e : LinkEnd). e.detail) (drop (i + 1) es))) is
    ∙ rest_added before last (get_or es i none).detail (map (λ (e : LinkEnd). e.detail) (drop (i + 1) es)) whole next
