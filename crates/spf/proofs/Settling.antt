-- A vertex that was neither moved nor stale is settled: its least links are as before, so its next
-- hops are right if those of their tails stayed.
use Rattle.std.proofs.Common.{◌≡◌, ◌≢◌, ℕ, ◌+◌, List, Option, Some, None, sym, ap, subst, ◌∙◌, ◌⊎◌, inl, inr, arith}
use Rattle.std.specs.Prelude.{◌↔◌}
use Rattle.std.specs.List.{Contains}
use Rattle.ospf_types.specs.declared.entry.Vertex.{Vertex}
use Rattle.ospf_types.specs.declared.entry.Vertex.TheVariants.{Router}
use Rattle.ospf_types.specs.declared.hop.NextHop.{NextHop}
use Rattle.ospf_types.specs.declared.label.Label.{Label}
use Rattle.ospf_types.specs.Distances.{Links}
use Rattle.vertex_queue.proofs.Elements.{cases_vertex, cases_contains}
use Rattle.spf.specs.Trees.{AreLinks, AreDistances, IsShortestLink, IsGiven, AreUnions}
use Rattle.spf.specs.Repairs.{AreGone, AreCome, IsReset, IsSet, AreMoved, IsEmptyQueue, IsQueued, AreToldLost, AreHeadsQueued, AreRightOrQueued}
use Rattle.spf.proofs.Values.{root_zero, distances_relaxed}
use Rattle.spf.proofs.Hops.{gives_more}

-- what one family is given over some least links, another is given over others
pub given_more : (A B : Links) (root : ℕ) (near far : Vertex → Option ℕ) (sets more : Vertex → NextHop → Type 0) (to : Vertex) (h : NextHop)
    → ((from : Vertex) (cost : ℕ) (label : Label) → IsShortestLink A near from to cost label → IsShortestLink B far from to cost label)
    → ((from : Vertex) (cost : ℕ) (label : Label) → IsShortestLink A near from to cost label → from ≢ Router root → (g : NextHop) → sets from g → more from g)
    → IsGiven A root near sets to h → IsGiven B root far more to h
given_more A B root near far sets more to h least kept given = record {
  from = given.from;
  cost = given.cost;
  label = given.label;
  least = least given.from given.cost given.label given.least;
  gives = gives_more root sets more given.from to given.label h (kept given.from given.cost given.label given.least) given.gives;
}

-- Where the heads of the links of the vertex that is taken become stale if they are as near, all
-- are stale.
pub told_taken : {after come : Links} {root : ℕ} (distance queue new more : Vertex → Option ℕ) (moved all stale wider : List Vertex) (v : Vertex) (k : ℕ) → AreHeadsQueued after come root distance queue moved stale → IsSet distance new v k
    → ((w : Vertex) → Contains moved w → Contains all w) → Contains all v → ((w : Vertex) → Contains all w → (w ≡ v) ⊎ Contains moved w)
    → ((w : Vertex) → Contains stale w → Contains wider w)
    → ((w : Vertex) → w ≢ v → IsQueued queue w → IsQueued more w)
    → ((to : Vertex) (cost : ℕ) (label : Label) → after v to cost label → to ≢ Router root → new to ≡ Some (k + cost) → Contains wider to ⊎ (Contains all to ⊎ IsQueued more to))
    → AreHeadsQueued after come root new more all wider
told_taken {after} {come} {root} distance queue new more moved all stale wider v k before set grows v_in only widens stays tells = record {
  told = λ from to cost label other least cause. elim (cases_vertex to v) [
    | inl same ↦ inr (inl (subst (λ w. Contains all w) (sym same) v_in))
    | inr to_other ↦ elim (cases_vertex from v) [
      | inl same ↦
          let equal : Some k ≡ Some least.near = sym set.here ∙ ap new (sym same) ∙ least.tail in
          let number : least.near ≡ k = cc in
          tells to cost label (subst (λ w. after w to cost label) same least.taken) other (least.head ∙ ap (λ n. Some (n + cost)) number)
      | inr from_other ↦
          let was : IsShortestLink after distance from to cost label = record { taken = least.taken; near = least.near; tail = sym (set.elsewhere from from_other) ∙ least.tail; head = sym (set.elsewhere to to_other) ∙ least.head } in
          elim (before.told from to cost label other was (earlier from cost label to from_other cause)) [
            | inl s ↦ inl (widens to s)
            | inr (inl m) ↦ inr (inl (grows to m))
            | inr (inr q) ↦ inr (inr (stays to to_other q))
          ]
    ]
  ];
}
  where
    earlier : (from : Vertex) (cost : ℕ) (label : Label) (to : Vertex) → from ≢ v → come from to cost label ⊎ Contains all from → come from to cost label ⊎ Contains moved from
    earlier from cost label to other (inl came) = inl came
    earlier from cost label to other (inr m) = elim (only from m) [ inl same ↦ absurd (other same) | inr was ↦ inr was ]

module _ {before after gone come : Links} {root : ℕ} {had_root has_root : Type 0} {old start distance queue : Vertex → Option ℕ} {lost moved stale : List Vertex}
    (are_gone : AreGone before after gone) (are_come : AreCome before after come start) (links_before : AreLinks before root had_root) (links : AreLinks after root has_root)
    (were : AreDistances before root had_root old) (are : AreDistances after root has_root distance)
    (reset : IsReset root has_root old lost start) (ended : AreMoved start distance moved)
    (told_lost : AreToldLost after gone root old lost stale) (told : AreHeadsQueued after come root distance queue moved stale) (none : IsEmptyQueue queue) where
  -- what was not moved and is reached was not lost, and has its old distance
  unmoved : (v : Vertex) (d : ℕ) → v ≢ Router root → distance v ≡ Some d → (Contains moved v → ⊥) → (Contains lost v → ⊥) × (distance v ≡ old v)
  unmoved v d other at still =
      let same = ended.same v still in
      let kept : Contains lost v → ⊥ = λ gone. let differ : Some d ≡ None = sym at ∙ same ∙ reset.blank v other gone in cc in
      (kept, same ∙ reset.kept v other kept)

  -- nothing is queued
  not_queued : (v : Vertex) → IsQueued queue v → ⊥
  not_queued v q = let differ : Some q.0 ≡ None = sym q.1 ∙ none v in cc

  module _ (to : Vertex) (d : ℕ) (other : to ≢ Router root) (at : distance to ≡ Some d) (still : Contains moved to → ⊥) (fresh : Contains stale to → ⊥) where
    -- A least link of before is one after: it did not go, its tail was not lost, and a nearer tail
    -- would have moved its head.
    pub still_least : (from : Vertex) (cost : ℕ) (label : Label) → IsShortestLink before old from to cost label → IsShortestLink after distance from to cost label
    still_least from cost label least = elim (are_gone.went from to cost label least.taken) [
      | inr went ↦ absurd (fresh (told_lost.went from to cost label other (record { taken = went; near = least.near; tail = least.tail; head = least.head })))
      | inl stands ↦ record { taken = stands; near = least.near; tail = tail stands; head = head }
    ]
      where
        head : distance to ≡ Some (least.near + cost)
        head = (unmoved to d other at still).1 ∙ least.head

        tail : after from to cost label → distance from ≡ Some least.near
        tail stands = elim (cases_vertex from (Router root)) [
          | inl is_root ↦
              let has = (links.out_of_root to cost label (subst (λ w. after w to cost label) is_root stands)).has in
              let had = (links_before.out_of_root to cost label (subst (λ w. before w to cost label) is_root least.taken)).has in
              ap distance is_root ∙ root_zero are has ∙ sym (root_zero were had) ∙ ap old (sym is_root) ∙ least.tail
          | inr from_other ↦ elim (cases_contains lost from) [
            | inl gone ↦ absurd (fresh (told_lost.led from to cost label least.near (least.near + cost) gone stands other least.tail least.head (omega arith)))
            | inr kept ↦ elim (cases_contains moved from) [
              | inr unmoved_tail ↦ ended.same from unmoved_tail ∙ reset.kept from from_other kept ∙ least.tail
              | inl moved_tail ↦
                  let e = ended.reached from moved_tail in
                  let nearer = ended.nearer from least.near e.0 moved_tail (reset.kept from from_other kept ∙ least.tail) e.1 in
                  let over = (distances_relaxed are).relaxed from to cost label e.0 stands other e.1 in
                  let equal : Some over.number ≡ Some (least.near + cost) = sym over.is ∙ head in
                  let number : over.number ≡ least.near + cost = cc in
                  absurd (omega (arith, over.most))
            ]
          ]
        ]

    -- A least link after is one of before: it did not come, and its tail was not moved.
    pub was_least : (from : Vertex) (cost : ℕ) (label : Label) → IsShortestLink after distance from to cost label → IsShortestLink before old from to cost label
    was_least from cost label least = record { taken = stood; near = least.near; tail = tail; head = sym (unmoved to d other at still).1 ∙ least.head }
      where
        untold : come from to cost label ⊎ Contains moved from → ⊥
        untold cause = elim (told.told from to cost label other least cause) [ inl s ↦ fresh s | inr (inl m) ↦ still m | inr (inr q) ↦ not_queued to q ]

        stood : before from to cost label
        stood = elim (are_come.came from to cost label least.near least.taken (sym (ended.same from (λ m. untold (inr m))) ∙ least.tail)) [ inl was ↦ was | inr came ↦ absurd (untold (inl came)) ]

        tail : old from ≡ Some least.near
        tail = elim (cases_vertex from (Router root)) [
          | inl is_root ↦
              let has = (links.out_of_root to cost label (subst (λ w. after w to cost label) is_root least.taken)).has in
              let had = (links_before.out_of_root to cost label (subst (λ w. before w to cost label) is_root stood)).has in
              ap old is_root ∙ root_zero were had ∙ sym (root_zero are has) ∙ ap distance (sym is_root) ∙ least.tail
          | inr from_other ↦ sym (unmoved from least.near from_other least.tail (λ m. untold (inr m))).1 ∙ least.tail
        ]

  -- Where the sets of reached vertices are unchanged, the set of a vertex that was neither moved
  -- nor stale is what its least links give it.
  pub right_where_fresh : (sets now : Vertex → NextHop → Type 0) → AreUnions before root old sets
      → ((v : Vertex) (d : ℕ) → distance v ≡ Some d → (h : NextHop) → now v h ↔ sets v h)
      → (to : Vertex) (d : ℕ) → distance to ≡ Some d → to ≢ Router root → (Contains moved to → ⊥) → (Contains stale to → ⊥)
      → (h : NextHop) → now to h ↔ IsGiven after root distance now to h
  right_where_fresh sets now unions same to d at other still fresh h = (
    λ x. given_more before after root old distance sets now to h (still_least to d other at still fresh)
        (λ from cost label least not_root g. let stays = still_least to d other at still fresh from cost label least in (same from stays.near stays.tail g).1)
        ((unions.union to d (sym (unmoved to d other at still).1 ∙ at) other h).0 ((same to d at h).0 x)),
    λ given. (same to d at h).1 ((unions.union to d (sym (unmoved to d other at still).1 ∙ at) other h).1
        (given_more after before root distance old now sets to h (was_least to d other at still fresh) (λ from cost label least not_root g. (same from least.near least.tail g).0) given)),
  )

  -- Where all that was moved or is stale is queued, each other set is right.
  pub right_at_start : (sets now : Vertex → NextHop → Type 0) (again : Vertex → Option ℕ) → AreUnions before root old sets
      → ((v : Vertex) (d : ℕ) → distance v ≡ Some d → (h : NextHop) → now v h ↔ sets v h)
      → ((v : Vertex) (d : ℕ) → distance v ≡ Some d → v ≢ Router root → Contains moved v ⊎ Contains stale v → IsQueued again v)
      → AreRightOrQueued after root distance again now
  right_at_start sets now again unions same waits = record {
    right = λ to d at other. elim (cases_contains moved to) [
      | inl m ↦ inl (waits to d at other (inl m))
      | inr still ↦ elim (cases_contains stale to) [
        | inl s ↦ inl (waits to d at other (inr s))
        | inr fresh ↦ inr (right_where_fresh sets now unions same to d at other still fresh)
      ]
    ];
  }
