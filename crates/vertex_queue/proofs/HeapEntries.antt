-- The contents of a queue's heap, and the entry that leaves it first.
use borrow.Author.Tests.{eq-eqb}
use Rattle.std.proofs.Common.{◌≡◌, ◌≢◌, ◌⊎◌, inl, inr, ℕ, zero, suc, ◌+◌, ◌*◌, ◌%◌, ◌<◌, Bool, true, false, cond, List, [], ◌∷◌, Option, Some, None, refl, sym, ap, subst, ◌∙◌, arith}
use Rattle.std.specs.Prelude.{nat_eq}
use Rattle.std.specs.BinaryHeap.{IsHeap, IsUpperBound}
use Rattle.std.specs.Cmp.{eq_by_cmp_equiv, nat_cmp_is, ranked}
use Rattle.std.specs.FinMap.{empty, get, get-empty, same_map}
use Rattle.std.specs.List.{Contains}
use Rattle.std.specs.List.Sorted.{IsPermutation}
use Rattle.std.specs.Ordering.{eq_by_cmp, is_lt, nat_cmp, ordering_reverse, ordering_then}
use Rattle.std.specs.declared.cmp.Ordering.{Ordering}
use Rattle.std.specs.declared.cmp.Ordering.TheVariants.{Less, Equal, Greater}
use Rattle.std.specs.declared.cmp.Reverse.{Reverse}
use Rattle.std.proofs.lemmas.List.Elements.{All-contains, All-from_recursion, Contains-append_right, Contains-append_cases}
use Rattle.std.proofs.lemmas.List.Sorted.{Contains-permutation}
use Rattle.std.proofs.lemmas.Map.Views.{tells_apart}
use Rattle.ospf_types.specs.declared.entry.Vertex.{Vertex}
use Rattle.ospf_types.specs.declared.entry.Vertex.TheVariants.{Router, Network}
use Rattle.ospf_types.specs.Vertices.{vertex_cmp}
use Rattle.vertex_queue.specs.declared.waiting.Waiting.{Waiting}
use Rattle.vertex_queue.specs.Queues.{Queue, kind_and_number, queue_cmp, rank, IsFirstWaiting}
use Rattle.vertex_queue.specs.Heaps.{IsHeapEntryAt, vertex_of_kind, waiting_vertex, heap_cmp, Has, AreQueue, IsStale, HoldsOthers}
use Rattle.ospf_types.proofs.VertexOrder.{vertex_total, vertex_exact}
use Rattle.vertex_queue.proofs.QueueOrder.{queue_total}

abbrev pub Heap : Type 0
Heap = List (Reverse Waiting)

abbrev pub held_at : Waiting → Reverse Waiting
held_at w = record { 0 = w }

-- ---- an entry is of one vertex

even : (r d : ℕ) → r ≡ 2 * d → nat_eq (r % 2) 0 ≡ true
even r d is = let none : r % 2 ≡ 0 = omega (arith, is) in eq-eqb (r % 2) 0 none

odd : (r d : ℕ) → r ≡ 2 * d + 1 → nat_eq (r % 2) 0 ≡ false
odd r d is = let one : r % 2 ≡ 1 = omega (arith, is) in ap (λ n. nat_eq n 0) one

pub vertex_is : (w : Waiting) (v : Vertex) (d : ℕ) → IsHeapEntryAt w v d → v ≡ waiting_vertex w
vertex_is w (Network n) d here = ap Network (sym here.1) ∙ ap (λ b. vertex_of_kind b w.number) (sym (even w.rank d here.0))
vertex_is w (Router r) d here = ap Router (sym here.1) ∙ ap (λ b. vertex_of_kind b w.number) (sym (odd w.rank d here.0))

-- ---- what goes in

contains_first : {X : Type 0} (x : X) (xs : List X) → Contains (x ∷ xs) x
contains_first x xs = (0, omega arith, refl)

pushed : (hs ks : Heap) (x : Reverse Waiting) (v : Vertex) (d : ℕ) → IsPermutation (x ∷ hs) ks → Has hs v d → Has ks v d
pushed hs ks x v d moved has = (has.0, has.1, Contains-permutation (x ∷ hs) ks (held_at has.0) moved (Contains-append_right (x ∷ []) hs (held_at has.0) has.2))

-- where the heap has grown
pub grown : (q : Queue) (hs ks : Heap) (x : Reverse Waiting) → AreQueue q hs → IsPermutation (x ∷ hs) ks → IsHeap heap_cmp ks → AreQueue q ks
grown q hs ks x before moved ordered = record { in_order = ordered; held = λ v d waits. pushed hs ks x v d moved (before.held v d waits) }

-- where a vertex also waits at another distance
pub put_there : (q r : Queue) (hs ks : Heap) (x : Waiting) (v : Vertex) (d : ℕ) → AreQueue q hs → IsHeapEntryAt x v d → IsPermutation (held_at x ∷ hs) ks → IsHeap heap_cmp ks
    → ((u : Vertex) → get r u ≡ cond (eq_by_cmp vertex_cmp u v) (Some d) (get q u)) → AreQueue r ks
put_there q r hs ks x v d before here moved ordered after = record {
  in_order = ordered;
  held = λ u e waits.
      elim (eq_by_cmp vertex_cmp u v) as (λ b. eq_by_cmp vertex_cmp u v ≡ b → Some e ≡ cond b (Some d) (get q u) → Has ks u e) [
        | true ↦ λ same is.
            let there : e ≡ d = cc in
            let put : Has ks v d = (x, here, Contains-permutation (held_at x ∷ hs) ks (held_at x) moved (contains_first (held_at x) hs)) in
            subst (λ (w : Vertex). Has ks w e) (sym (tells_apart vertex_exact u v same)) (subst (Has ks v) (sym there) put)
        | false ↦ λ other is. pushed hs ks (held_at x) u e moved (before.held u e (sym is))
      ] refl (sym waits ∙ after u);
}

-- ---- what comes out

only : (x w : Reverse Waiting) → Contains (x ∷ []) w → x.0 ≡ w.0
only x w (zero, lt, is) = ap (λ (r : Reverse Waiting). r.0) is
only x w (suc k, lt, is) = absurd (omega arith)

popped : (hs ks : Heap) (x : Waiting) (v : Vertex) (d : ℕ) → IsPermutation hs (held_at x ∷ ks) → Has hs v d → IsHeapEntryAt x v d ⊎ Has ks v d
popped hs ks x v d moved has =
    elim (Contains-append_cases (held_at x ∷ []) ks (held_at has.0) (Contains-permutation hs (held_at x ∷ ks) (held_at has.0) moved has.2)) as (λ _. IsHeapEntryAt x v d ⊎ Has ks v d) [
      | inl here ↦ inl (subst (λ (w : Waiting). IsHeapEntryAt w v d) (sym (only (held_at x) (held_at has.0) here)) has.1)
      | inr there ↦ inr (has.0, has.1, there)
    ]

-- what no longer waits is no loss
pub dropped : (q : Queue) (hs ks : Heap) (x : Waiting) → AreQueue q hs → IsPermutation hs (held_at x ∷ ks) → IsHeap heap_cmp ks → IsStale q x → AreQueue q ks
dropped q hs ks x before moved ordered stale = record {
  in_order = ordered;
  held = λ v d waits. elim (popped hs ks x v d moved (before.held v d waits)) [ inl here ↦ absurd (stale v d here waits) | inr there ↦ there ];
}

-- what is left when one comes out
pub others : (q : Queue) (hs ks : Heap) (x : Waiting) (v : Vertex) (d : ℕ) → AreQueue q hs → IsPermutation hs (held_at x ∷ ks) → IsHeap heap_cmp ks → IsHeapEntryAt x v d → HoldsOthers q v ks
others q hs ks x v d before moved ordered at = record {
  in_order = ordered;
  held = λ u e waits other. elim (popped hs ks x u e moved (before.held u e waits)) [
    | inl here ↦ absurd (other (vertex_is x u e here ∙ sym (vertex_is x v d at)))
    | inr there ↦ there
  ];
}

-- ---- the heap's order belongs to the queue, the other way round

by_parts : (x y e d : ℕ) (rest : Ordering) → (e < d → x < y) → (d < e → y < x) → (e ≡ d → rest ≡ nat_cmp x y) → nat_cmp x y ≡ ordering_then (nat_cmp e d) rest
by_parts x y e d rest less more same =
    elim (nat_cmp e d) as (λ r. r ≡ nat_cmp e d → nat_cmp x y ≡ ordering_then r rest) [
      | Less ↦ λ is. sym (nat_cmp_is x y Less (less (ranked e d Less is)))
      | Equal ↦ λ is. sym (same (ranked e d Equal is))
      | Greater ↦ λ is. sym (nat_cmp_is x y Greater (more (ranked e d Greater is)))
    ] refl

then_settled : (a n : Ordering) → ordering_then (ordering_then a Less) n ≡ ordering_then a Less
then_settled Less n = refl
then_settled Equal n = refl
then_settled Greater n = refl

then_passed : (a n : Ordering) → ordering_then (ordering_then a Greater) n ≡ ordering_then a Greater
then_passed Less n = refl
then_passed Equal n = refl
then_passed Greater n = refl

then_none : (a n : Ordering) → ordering_then (ordering_then a Equal) n ≡ ordering_then a n
then_none Less n = refl
then_none Equal n = refl
then_none Greater n = refl

-- by rank and number
by_rank : (w v : Vertex) (e d : ℕ) → ordering_then (nat_cmp (rank w e) (rank v d)) (nat_cmp (kind_and_number w).1 (kind_and_number v).1) ≡ queue_cmp (e, w) (d, v)
by_rank (Network n) (Network m) e d =
    ap (λ o. ordering_then o (nat_cmp n m)) (by_parts (2 * e) (2 * d) e d Equal (λ lt. omega (arith, lt)) (λ gt. omega (arith, gt)) (λ is. nat_cmp_is (2 * e) (2 * d) Equal (omega (arith, is))))
    ∙ then_none (nat_cmp e d) (nat_cmp n m)
by_rank (Router n) (Router m) e d =
    ap (λ o. ordering_then o (nat_cmp n m)) (by_parts (2 * e + 1) (2 * d + 1) e d Equal (λ lt. omega (arith, lt)) (λ gt. omega (arith, gt)) (λ is. nat_cmp_is (2 * e + 1) (2 * d + 1) Equal (omega (arith, is))))
    ∙ then_none (nat_cmp e d) (nat_cmp n m)
by_rank (Network n) (Router m) e d =
    ap (λ o. ordering_then o (nat_cmp n m)) (by_parts (2 * e) (2 * d + 1) e d Less (λ lt. omega (arith, lt)) (λ gt. omega (arith, gt)) (λ is. nat_cmp_is (2 * e) (2 * d + 1) Less (omega (arith, is))))
    ∙ then_settled (nat_cmp e d) (nat_cmp n m)
by_rank (Router n) (Network m) e d =
    ap (λ o. ordering_then o (nat_cmp n m)) (by_parts (2 * e + 1) (2 * d) e d Greater (λ lt. omega (arith, lt)) (λ gt. omega (arith, gt)) (λ is. nat_cmp_is (2 * e + 1) (2 * d) Greater (omega (arith, is))))
    ∙ then_passed (nat_cmp e d) (nat_cmp n m)

-- a place is compared last
less_before_places : (a b c : Ordering) → ordering_then a b ≡ Less → is_lt (ordering_then a (ordering_then b c)) ≡ true
less_before_places Less b c is = refl
less_before_places Equal Less c is = refl
less_before_places Equal Equal c is = absurd cc
less_before_places Equal Greater c is = absurd cc
less_before_places Greater b c is = absurd cc

comes_after : (x y : Waiting) (v w : Vertex) (d e : ℕ) → IsHeapEntryAt x v d → IsHeapEntryAt y w e → queue_cmp (d, v) (e, w) ≡ Greater → is_lt (heap_cmp (held_at x) (held_at y)) ≡ true
comes_after x y v w d e here there after =
    less_before_places (nat_cmp y.rank x.rank) (nat_cmp y.number x.number) (nat_cmp y.place x.place)
    ((λ i. ordering_then (nat_cmp (there.0 i) (here.0 i)) (nat_cmp (there.1 i) (here.1 i)))
    ∙ by_rank w v e d ∙ queue_total.antisymm (e, w) (d, v) ∙ ap ordering_reverse after)

-- the greatest of the heap is first, if it waits
pub first_of : (q : Queue) (hs : Heap) (x : Waiting) (v : Vertex) (d : ℕ) → AreQueue q hs → IsUpperBound heap_cmp (held_at x) hs → IsHeapEntryAt x v d → get q v ≡ Some d → IsFirstWaiting q v d
first_of q hs x v d before greatest here waits = record {
  waits = waits;
  none_before = λ w e there after.
      let has : Has hs w e = before.held w e there in
      let not_less : is_lt (heap_cmp (held_at x) (held_at has.0)) ≡ false =
      All-contains (λ y. is_lt (heap_cmp (held_at x) y) ≡ false) hs (held_at has.0) (All-from_recursion (λ y. is_lt (heap_cmp (held_at x) y) ≡ false) hs greatest) has.2 in
      let less : is_lt (heap_cmp (held_at x) (held_at has.0)) ≡ true = comes_after x has.0 v w d e here has.1 after in
      absurd cc;
}

-- where the heap is empty, nothing waits
pub none_waits : (q : Queue) → AreQueue q [] → q ≡ empty
none_waits q are = same_map vertex_total vertex_exact q empty (λ v. absent v (get q v) refl ∙ sym (get-empty vertex_cmp v))
  where
    nothing : (w : Reverse Waiting) → Contains [] w → ⊥
    nothing w (k, lt, is) = omega arith

    absent : (v : Vertex) (o : Option ℕ) → get q v ≡ o → get q v ≡ None
    absent v None is = is
    absent v (Some d) is = let has : Has [] v d = are.held v d is in absurd (nothing (held_at has.0) has.2)

pub nothing_waits : (hs : Heap) → IsHeap heap_cmp hs → AreQueue empty hs
nothing_waits hs ordered = record {
  in_order = ordered;
  held = λ v d waits. let none : None ≡ Some d = sym (get-empty vertex_cmp v) ∙ waits in absurd cc;
}

-- ---- one is taken

pub taken : (q r : Queue) (v : Vertex) (ks : Heap) → HoldsOthers q v ks → ((u : Vertex) → get r u ≡ cond (eq_by_cmp vertex_cmp u v) None (get q u)) → AreQueue r ks
taken q r v ks left after = record {
  in_order = left.in_order;
  held = λ u e waits.
      elim (eq_by_cmp vertex_cmp u v) as (λ b. eq_by_cmp vertex_cmp u v ≡ b → Some e ≡ cond b None (get q u) → Has ks u e) [
        | true ↦ λ here is. absurd cc
        | false ↦ λ here is. left.held u e (sym is) (λ same. apart u v here same)
      ] refl (sym waits ∙ after u);
}
  where
    apart : (v w : Vertex) → eq_by_cmp vertex_cmp v w ≡ false → v ≡ w → ⊥
    apart v w here same = let tied : eq_by_cmp vertex_cmp v w ≡ true = subst (λ (w : Vertex). eq_by_cmp vertex_cmp v w ≡ true) same ((eq_by_cmp_equiv vertex_total).refl v) in cc
