-- The ends at a vertex stand together in a list of ends in order.
use Rattle.std.proofs.Common.{◌≡◌, ◌≢◌, ℕ, ◌+◌, ◌-◌, ◌<◌, ◌≤◌, Bool, true, false, List, length, get_or, drop, refl, sym, ap, subst, ◌∙◌, ◌⊎◌, inl, inr, ⊎_elim, Ordering, arith}
use Rattle.std.specs.Prelude.{◌↔◌}
use Rattle.std.specs.declared.cmp.Ordering.TheVariants.{Less, Equal, Greater}
use Rattle.std.specs.List.{Contains, slice_range}
use Rattle.std.specs.List.Sorted.{IsStrictlySortedBy, IsPartitionPoint, IsPartitionedBy}
use Rattle.std.specs.Ordering.{nat_cmp, ordering_then, ordering_reverse, is_lt, is_le}
use Rattle.std.proofs.lemmas.Bool.{cases_lt}
use Rattle.std.proofs.lemmas.Cmp.{tied_itself}
use Rattle.std.proofs.lemmas.List.{get_or-take, get_or-drop, get_or_default, length-take-le, length-drop}
use Rattle.std.proofs.lemmas.Map.Keys.{Less-from_sorted, sorted_from_all_adjacent}
use Rattle.ospf_types.specs.declared.entry.Vertex.{Vertex}
use Rattle.ospf_types.specs.Vertices.{vertex_cmp}
use Rattle.graph_links.specs.declared.link_end.LinkEnd.{LinkEnd}
use Rattle.graph_links.specs.EndOrder.{end_cmp, listed_end}
use Rattle.graph_links.proofs.EndOrders.{vertex_total, vertex_exact, end_total}

-- an end that comes before another is not at a greater vertex
pub before : (a b : LinkEnd) → end_cmp a b ≡ Less → (vertex_cmp a.to b.to ≡ Less) ⊎ (a.to ≡ b.to)
before a b less =
    elim (vertex_cmp a.to b.to) as (λ o. vertex_cmp a.to b.to ≡ o → ordering_then o (ordering_then (nat_cmp a.detail b.detail) (nat_cmp a.metric b.metric)) ≡ Less → (vertex_cmp a.to b.to ≡ Less) ⊎ (a.to ≡ b.to)) [
      | Less ↦ λ e h. inl e
      | Equal ↦ λ e h. inr (vertex_exact a.to b.to e)
      | Greater ↦ λ e h. absurd cc
    ] refl less

less_of : (o : Ordering) → is_lt o ≡ true → o ≡ Less
less_of Less h = refl
less_of Equal h = absurd cc
less_of Greater h = absurd cc

not_less_of : (o : Ordering) → is_lt o ≡ false → o ≢ Less
not_less_of Less h e = absurd cc
not_less_of Equal h e = absurd cc
not_less_of Greater h e = absurd cc

not_greater_of : (o : Ordering) → is_le o ≡ true → o ≢ Greater
not_greater_of Less h e = absurd cc
not_greater_of Equal h e = absurd cc
not_greater_of Greater h e = absurd cc

greater_of : (o : Ordering) → is_le o ≡ false → o ≡ Greater
greater_of Less h = absurd cc
greater_of Equal h = absurd cc
greater_of Greater h = refl

-- a test that passes on to what comes before cuts the list in two
parted : (p : LinkEnd → Bool) → ((a b : LinkEnd) → end_cmp a b ≡ Less → p b ≡ true → p a ≡ true) → (xs : List LinkEnd) → IsStrictlySortedBy end_cmp xs → IsPartitionedBy p xs
parted p earlier xs sorted i j d le below passes =
    ⊎_elim
    (λ (lt : i < j). earlier (get_or xs i d) (get_or xs j d) (Less-from_sorted end_cmp xs i j d sorted lt below) passes)
    (λ (ge : j ≤ i). let same : j ≡ i = omega arith in subst (λ (k : ℕ). p (get_or xs k d) ≡ true) same passes)
    (cases_lt i j)

module _ (v : Vertex) where
  -- the end is at a lesser vertex
  abbrev pub is_below : LinkEnd → Bool
  is_below e = is_lt (vertex_cmp e.to v)

  -- the end is at a lesser vertex or at this one
  abbrev pub is_up_to : LinkEnd → Bool
  is_up_to e = is_le (vertex_cmp e.to v)

  below_earlier : (a b : LinkEnd) → end_cmp a b ≡ Less → is_below b ≡ true → is_below a ≡ true
  below_earlier a b less below =
      ⊎_elim
      (λ (l : vertex_cmp a.to b.to ≡ Less). ap is_lt (vertex_total.trans a.to b.to v l (less_of (vertex_cmp b.to v) below)))
      (λ (e : a.to ≡ b.to). ap (λ (w : Vertex). is_lt (vertex_cmp w v)) e ∙ below)
      (before a b less)

  up_to_later : (a b : LinkEnd) → vertex_cmp a.to b.to ≡ Less → (o : Ordering) → vertex_cmp b.to v ≡ o → is_le o ≡ true → is_up_to a ≡ true
  up_to_later a b less Less e h = ap is_le (vertex_total.trans a.to b.to v less e)
  up_to_later a b less Equal e h = ap (λ (w : Vertex). is_le (vertex_cmp a.to w)) (sym (vertex_exact b.to v e)) ∙ ap is_le less
  up_to_later a b less Greater e h = absurd cc

  up_to_earlier : (a b : LinkEnd) → end_cmp a b ≡ Less → is_up_to b ≡ true → is_up_to a ≡ true
  up_to_earlier a b less up_to =
      ⊎_elim
      (λ (l : vertex_cmp a.to b.to ≡ Less). up_to_later a b l (vertex_cmp b.to v) refl up_to)
      (λ (e : a.to ≡ b.to). ap (λ (w : Vertex). is_le (vertex_cmp w v)) e ∙ up_to)
      (before a b less)

  pub parted_below : (xs : List LinkEnd) → IsStrictlySortedBy end_cmp xs → IsPartitionedBy is_below xs
  parted_below xs sorted = parted is_below below_earlier xs sorted

  pub parted_up_to : (xs : List LinkEnd) → IsStrictlySortedBy end_cmp xs → IsPartitionedBy is_up_to xs
  parted_up_to xs sorted = parted is_up_to up_to_earlier xs sorted

  -- up to this place the ends are at lesser vertices
  abbrev pub IsFirst : List LinkEnd → ℕ → Type 0
  IsFirst xs i = IsPartitionPoint (λ (e : LinkEnd). vertex_cmp e.to v ≡ Less) (λ (e : LinkEnd). vertex_cmp e.to v ≢ Less) xs i

  -- from this place on they are at greater ones
  abbrev pub IsPast : List LinkEnd → ℕ → Type 0
  IsPast xs i = IsPartitionPoint (λ (e : LinkEnd). vertex_cmp e.to v ≢ Greater) (λ (e : LinkEnd). vertex_cmp e.to v ≡ Greater) xs i

  pub first_of_tests : (xs : List LinkEnd) (i : ℕ) → IsPartitionPoint (λ (e : LinkEnd). is_below e ≡ true) (λ (e : LinkEnd). is_below e ≡ false) xs i → IsFirst xs i
  first_of_tests xs i h = (λ k d low high. less_of (vertex_cmp (get_or xs k d).to v) (h.0 k d low high), λ k d low high. not_less_of (vertex_cmp (get_or xs k d).to v) (h.1 k d low high))

  pub past_of_tests : (xs : List LinkEnd) (i : ℕ) → IsPartitionPoint (λ (e : LinkEnd). is_up_to e ≡ true) (λ (e : LinkEnd). is_up_to e ≡ false) xs i → IsPast xs i
  past_of_tests xs i h = (λ k d low high. not_greater_of (vertex_cmp (get_or xs k d).to v) (h.0 k d low high), λ k d low high. greater_of (vertex_cmp (get_or xs k d).to v) (h.1 k d low high))

  module _ (xs : List LinkEnd) (first past : ℕ) (within : first ≤ length xs) (short : past ≤ length xs) (low : IsFirst xs first) (high : IsPast xs past) where
    -- the first place does not come after the last
    pub ordered : first ≤ past
    ordered = ⊎_elim
        (λ (lt : past < first). let less = low.0 past (listed_end 0) (omega arith) lt in let greater = high.1 past (listed_end 0) (omega arith) (omega arith) in absurd cc)
        (λ (ge : first ≤ past). ge)
        (cases_lt past first)

    neither : (o : Ordering) → o ≢ Less → o ≢ Greater → o ≡ Equal
    neither Less l g = absurd (l refl)
    neither Equal l g = refl
    neither Greater l g = absurd (g refl)

    -- what is between the two places
    between : List LinkEnd
    between = slice_range xs first past

    length_between : length (slice_range xs first past) ≡ past - first
    length_between = let l = length-drop first xs in length-take-le (past - first) (drop first xs) (omega arith)

    get_between : (k : ℕ) (d : LinkEnd) → k < past - first → get_or (slice_range xs first past) k d ≡ get_or xs (first + k) d
    get_between k d lt = get_or-take (past - first) (drop first xs) k d lt ∙ get_or-drop first xs k d

    pub between_from : (e : LinkEnd) → Contains (slice_range xs first past) e → Contains xs e × (e.to ≡ v)
    between_from e c =
        let l = length_between in
        let lt : c.0 < past - first = omega (arith, c.1) in
        let at : get_or xs (first + c.0) e ≡ e = sym (get_between c.0 e lt) ∙ c.2 in
        let here : vertex_cmp (get_or xs (first + c.0) e).to v ≡ Equal = neither (vertex_cmp (get_or xs (first + c.0) e).to v) (low.1 (first + c.0) e (omega arith) (omega arith)) (high.0 (first + c.0) e (omega arith) (omega arith)) in
        ((first + c.0, omega arith, at), sym (ap (λ (x : LinkEnd). x.to) at) ∙ vertex_exact (get_or xs (first + c.0) e).to v here)

    pub from_between : (e : LinkEnd) → Contains xs e → e.to ≡ v → Contains (slice_range xs first past) e
    from_between e c at =
        let l = length_between in
        let tie : vertex_cmp (get_or xs c.0 e).to v ≡ Equal = ap (λ (x : LinkEnd). vertex_cmp x.to v) c.2 ∙ ap (λ (w : Vertex). vertex_cmp w v) at ∙ tied_itself vertex_total v in
        let from : first ≤ c.0 = ⊎_elim (λ (lt : c.0 < first). let less = low.0 c.0 e (omega arith) lt in absurd cc) (λ (ge : first ≤ c.0). ge) (cases_lt c.0 first) in
        let to : c.0 < past = ⊎_elim (λ (lt : c.0 < past). lt) (λ (ge : past ≤ c.0). let greater = high.1 c.0 e ge c.1 in absurd cc) (cases_lt c.0 past) in
        let k : first + (c.0 - first) ≡ c.0 = omega arith in
        (c.0 - first, omega arith, get_between (c.0 - first) e (omega arith) ∙ ap (λ (n : ℕ). get_or xs n e) k ∙ c.2)

    -- they are the ends at the vertex
    pub between_exact : (e : LinkEnd) → Contains (slice_range xs first past) e ↔ (Contains xs e × (e.to ≡ v))
    between_exact e = (between_from e, λ h. from_between e h.0 h.1)

    pub between_in_order : IsStrictlySortedBy end_cmp xs → IsStrictlySortedBy end_cmp (slice_range xs first past)
    between_in_order sorted = sorted_from_all_adjacent end_total (slice_range xs first past) (listed_end 0) (λ k below.
        let l = length_between in
        let here = get_between k (listed_end 0) (omega arith) in
        let next = get_between (k + 1) (listed_end 0) (omega arith) in
        ap (λ (e : LinkEnd). end_cmp e (get_or (slice_range xs first past) (k + 1) (listed_end 0))) here
        ∙ ap (λ (e : LinkEnd). end_cmp (get_or xs (first + k) (listed_end 0)) e) next
        ∙ Less-from_sorted end_cmp xs (first + k) (first + (k + 1)) (listed_end 0) sorted (omega arith) (omega arith))

  -- ---- the ends at the vertex, passed one by one from the first

  -- no end before this place is at a greater vertex
  abbrev pub ArePassed : List LinkEnd → ℕ → Type 0
  ArePassed xs i = (k : ℕ) (d : LinkEnd) → k < i → vertex_cmp (get_or xs k d).to v ≢ Greater

  pub passed_first : (xs : List LinkEnd) (i : ℕ) → IsFirst xs i → ArePassed xs i
  passed_first xs i first k d lt greater = let less = first.0 k d (omega arith) lt in absurd cc

  pub passed_more : (xs : List LinkEnd) (i : ℕ) (d : LinkEnd) → i < length xs → (get_or xs i d).to ≡ v → ArePassed xs i → ArePassed xs (i + 1)
  passed_more xs i d within at passed k e lt greater =
      ⊎_elim (λ (before_it : k < i). passed k e before_it greater)
      (λ (ge : i ≤ k).
      let same : k ≡ i = omega (arith, ge, lt) in
      let here : get_or xs k e ≡ get_or xs i d = ap (λ (n : ℕ). get_or xs n e) same ∙ sym (get_or_default xs i d e within) in
      let tie : vertex_cmp (get_or xs k e).to v ≡ Equal = ap (λ (x : LinkEnd). vertex_cmp x.to v) here ∙ ap (λ (w : Vertex). vertex_cmp w v) at ∙ tied_itself vertex_total v in
      absurd cc)
      (cases_lt k i)

  greater_than : (o : Ordering) → o ≢ Less → o ≢ Equal → o ≡ Greater
  greater_than Less l e = absurd (l refl)
  greater_than Equal l e = absurd (e refl)
  greater_than Greater l e = refl

  -- what comes after an end at a greater vertex is at one too
  above : (a b : LinkEnd) → end_cmp a b ≡ Less → vertex_cmp a.to v ≡ Greater → vertex_cmp b.to v ≡ Greater
  above a b less greater =
      ⊎_elim
      (λ (l : vertex_cmp a.to b.to ≡ Less).
      let from : vertex_cmp v a.to ≡ Less = vertex_total.antisymm v a.to ∙ ap ordering_reverse greater in
      vertex_total.antisymm b.to v ∙ ap ordering_reverse (vertex_total.trans v a.to b.to from l))
      (λ (e : a.to ≡ b.to). subst (λ (w : Vertex). vertex_cmp w v ≡ Greater) e greater)
      (before a b less)

  -- so where none is left, or the next is at another vertex, all of them are passed
  pub all_passed : (xs : List LinkEnd) (first i : ℕ) → IsStrictlySortedBy end_cmp xs → IsFirst xs first → first ≤ i → ArePassed xs i → (i < length xs → (get_or xs i (listed_end 0)).to ≢ v) → IsPast xs i
  all_passed xs first i sorted low from passed other = (
    λ k d zero lt. passed k d lt,
    λ k d ge within.
        let lt : i < length xs = omega (arith, ge, within) in
        let here : vertex_cmp (get_or xs i d).to v ≡ Greater = greater_than (vertex_cmp (get_or xs i d).to v) (low.1 i d from lt) (λ tie. other lt (ap (λ (x : LinkEnd). x.to) (get_or_default xs i (listed_end 0) d lt) ∙ vertex_exact (get_or xs i d).to v tie)) in
        ⊎_elim (λ (behind : i < k). above (get_or xs i d) (get_or xs k d) (Less-from_sorted end_cmp xs i k d sorted behind within) here)
        (λ (le : k ≤ i). let same : i ≡ k = omega (arith, ge, le) in subst (λ (n : ℕ). vertex_cmp (get_or xs n d).to v ≡ Greater) same here)
        (cases_lt i k),
  )
