-- How the distances after are found: from those that are kept, by taking the nearest queued vertex
-- again and again.
use Rattle.std.proofs.Common.{◌≡◌, ◌≢◌, ℕ, ◌+◌, ◌<◌, ◌≤◌, List, [], Option, Some, None, refl, sym, ap, subst, ◌∙◌, ◌⊎◌, inl, inr, arith}
use Rattle.std.specs.List.{Contains}
use Rattle.ospf_types.specs.declared.entry.Vertex.{Vertex}
use Rattle.ospf_types.specs.declared.entry.Vertex.TheVariants.{Router}
use Rattle.ospf_types.specs.declared.label.Label.{Label}
use Rattle.ospf_types.specs.Distances.{Links}
use Rattle.vertex_queue.proofs.Elements.{cases_vertex, cases_contains}
use Rattle.spf.specs.Trees.{AreLinks, IsInLimit, HasPathWithin, AreRelaxed, AreReal, AreDistances, rank}
use Rattle.spf.specs.Repairs.{AreHeld, IsReset, IsSet, AreMoved, AreFair, IsQueuedOffer, AreForward, IsEmptyQueue}
use Rattle.ospf_types.proofs.Elements.{no_element}
use Rattle.spf.proofs.Values.{none_within, distances_from_local}
use Rattle.spf.proofs.Ranks.{rank_grows, rank_falls}
use Rattle.spf.proofs.LostVertices.{path_more, path_to_root, kept_path}

-- an equal value under another name
pub within_same : (x y : Option ℕ) (limit : ℕ) → x ≡ y → IsInLimit x limit → IsInLimit y limit
within_same x y limit same within = record { number = within.number; is = sym same ∙ within.is; most = within.most }

-- a value within a limit is within a greater one
pub within_more : (x : Option ℕ) (low high : ℕ) → low ≤ high → IsInLimit x low → IsInLimit x high
within_more x low high most within = record { number = within.number; is = within.is; most = omega (arith, within.most) }

-- a reached vertex from which the search starts: the root, or one that was reached and is not lost
pub data Starts (root : ℕ) (has_root : Type 0) (old : Vertex → Option ℕ) (lost : List Vertex) (v : Vertex) (d : ℕ) : Type 0 where
  AsRoot : (is_root : v ≡ Router root) (has : has_root) (zero : d ≡ 0) → Starts root has_root old lost v d
  AsKept : (other : v ≢ Router root) (kept : Contains lost v → ⊥) (was : old v ≡ Some d) → Starts root has_root old lost v d

module _ {root : ℕ} {has_root : Type 0} {old distance : Vertex → Option ℕ} {lost : List Vertex} (flag : has_root ⊎ (has_root → ⊥)) (reset : IsReset root has_root old lost distance) where
  -- a value is there or not
  no_distance : (v : Vertex) (d : ℕ) → distance v ≡ Some d → distance v ≡ None → ⊥
  no_distance v d at none = let same : Some d ≡ None = sym at ∙ none in cc

  -- each vertex with a distance at the start is the root, or was reached and is not lost
  pub starts : (v : Vertex) (d : ℕ) → distance v ≡ Some d → Starts root has_root old lost v d
  starts v d at = elim (cases_vertex v (Router root)) [
    | inl is_root ↦ elim flag [
      | inl has ↦ let same : Some 0 ≡ Some d = sym (reset.rooted has) ∙ ap distance (sym is_root) ∙ at in AsRoot is_root has cc
      | inr has_not ↦ absurd (no_distance v d at (ap distance is_root ∙ reset.rootless has_not))
    ]
    | inr other ↦ elim (cases_contains lost v) [
      | inl gone ↦ absurd (no_distance v d at (reset.blank v other gone))
      | inr kept ↦ AsKept other kept (sym (reset.kept v other kept) ∙ at)
    ]
  ]

  -- each distance from which the search starts belongs to a path after, or more
  pub real_at_start : {after : Links} → AreLinks after root has_root → AreHeld after root old lost [] → AreReal after root has_root distance
  real_at_start {after} links held = record { real = λ v d at. path_of v d (starts v d at) }
    where
      path_of : (v : Vertex) (d : ℕ) → Starts root has_root old lost v d → HasPathWithin after root has_root v d
      path_of v d (AsRoot is_root has zero) = subst (λ w. HasPathWithin after root has_root w d) (sym is_root) (path_to_root after root has_root d has)
      path_of v d (AsKept other kept was) = kept_path links held v d was other kept

module _ {link : Links} {root : ℕ} {has_root : Type 0} where
  -- what is offered is the cost of a path, or more
  pub offer_real : (distance : Vertex → Option ℕ) → AreReal link root has_root distance → (to : Vertex) (k : ℕ) → IsQueuedOffer link root distance to k → HasPathWithin link root has_root to k
  offer_real distance real to k offer =
      subst (λ n. HasPathWithin link root has_root to n) (sym offer.sum) (path_more link root has_root offer.from to offer.cost offer.near offer.label (real.real offer.from offer.near offer.tail) offer.taken offer.other)

  -- a queue stays real by such offers
  pub queue_real : (distance queue more : Vertex → Option ℕ) → AreReal link root has_root distance → AreReal link root has_root queue
      → ((v : Vertex) (k : ℕ) → more v ≡ Some k → (queue v ≡ Some k) ⊎ IsQueuedOffer link root distance v k) → AreReal link root has_root more
  queue_real distance queue more real queued from = record {
    real = λ v k at. elim (from v k at) [ inl was ↦ queued.real v k was | inr offer ↦ offer_real distance real v k offer ];
  }

  -- and the distances do when what was queued is taken
  pub real_taken : (distance queue new : Vertex → Option ℕ) (v : Vertex) (k : ℕ) → AreReal link root has_root distance → AreReal link root has_root queue → queue v ≡ Some k → IsSet distance new v k → AreReal link root has_root new
  real_taken distance queue new v k real queued waits set = record {
    real = λ w d at. elim (cases_vertex w v) [
      | inl same ↦
          let equal : Some k ≡ Some d = sym set.here ∙ ap new (sym same) ∙ at in
          let number : k ≡ d = cc in
          subst (λ u. HasPathWithin link root has_root u d) (sym same) (subst (λ n. HasPathWithin link root has_root v n) number (queued.real v k waits))
      | inr other ↦ real.real w d (sym (set.elsewhere w other) ∙ at)
    ];
  }

-- The vertex that is taken is nearer than it was. What else was queued stays so, or nearer, and
-- each link out of the vertex is offered: then the links stay fair.
pub fair_taken : {link : Links} {root : ℕ} (distance queue new more : Vertex → Option ℕ) (v : Vertex) (k : ℕ) → AreFair link root distance queue → queue v ≡ Some k → IsSet distance new v k
    → ((d : ℕ) → distance v ≡ Some d → k ≤ d)
    → ((w : Vertex) (e : ℕ) → w ≢ v → queue w ≡ Some e → IsInLimit (more w) e)
    → ((to : Vertex) (cost : ℕ) (label : Label) → link v to cost label → to ≢ Router root → IsInLimit (new to) (k + cost) ⊎ IsInLimit (more to) (k + cost))
    → AreFair link root new more
fair_taken {link} {root} distance queue new more v k fair waits set nearer stays offered = record {
  fair = λ from to cost label d taken other at. elim (cases_vertex from v) [
    | inl same ↦
        let equal : Some k ≡ Some d = sym set.here ∙ ap new (sym same) ∙ at in
        let number : k ≡ d = cc in
        subst (λ n. IsInLimit (new to) (n + cost) ⊎ IsInLimit (more to) (n + cost)) number (offered to cost label (subst (λ w. link w to cost label) same taken) other)
    | inr from_other ↦ kept to (d + cost) (fair.fair from to cost label d taken other (sym (set.elsewhere from from_other) ∙ at))
  ];
}
  where
    -- what was reached or queued within a limit is so still
    kept : (to : Vertex) (limit : ℕ) → IsInLimit (distance to) limit ⊎ IsInLimit (queue to) limit → IsInLimit (new to) limit ⊎ IsInLimit (more to) limit
    kept to limit c = elim (cases_vertex to v) [
      | inl same ↦ inl (record {
        number = k;
        is = ap new same ∙ set.here;
        most = elim c [
          | inl reached ↦ omega (arith, nearer reached.number (ap distance (sym same) ∙ reached.is), reached.most)
          | inr queued ↦
              let equal : Some k ≡ Some queued.number = sym waits ∙ ap queue (sym same) ∙ queued.is in
              let number : k ≡ queued.number = cc in
              omega (arith, queued.most)
        ];
      })
      | inr other ↦ elim c [
        | inl reached ↦ inl (within_same (distance to) (new to) limit (sym (set.elsewhere to other)) reached)
        | inr queued ↦ inr (within_more (more to) queued.number limit queued.most (stays to queued.number other queued.is))
      ]
    ]

module _ {link : Links} {root : ℕ} {has_root : Type 0} (links : AreLinks link root has_root) where
  -- Where the vertex of least rank is taken, and what is put is offered over its links, nothing
  -- queued has a lesser rank than what was taken.
  pub forward_taken : (distance queue new more : Vertex → Option ℕ) (taken all : List Vertex) (v : Vertex) (k : ℕ) → AreForward distance queue taken → queue v ≡ Some k → IsSet distance new v k
      → ((w : Vertex) (e : ℕ) → queue w ≡ Some e → rank v k ≤ rank w e)
      → ((w : Vertex) (e : ℕ) → more w ≡ Some e → (queue w ≡ Some e) ⊎ ((cost : ℕ) × (label : Label) × link v w cost label × (k + cost ≤ e)))
      → ((w : Vertex) → Contains all w → (w ≡ v) ⊎ Contains taken w)
      → AreForward new more all
  forward_taken distance queue new more taken all v k before waits set least put only = record {
    forward = λ done w d e in_all at queued.
        let after_v : rank v k ≤ rank w e = elim (put w e queued) [ inl was ↦ least w e was | inr o ↦ omega (arith, rank_grows links v w o.0 o.1 k e o.2 o.3) ] in
        elim (cases_vertex done v) [
          | inl same ↦
              let equal : Some k ≡ Some d = sym set.here ∙ ap new (sym same) ∙ at in
              let number : k ≡ d = cc in
              subst (λ u. rank u d ≤ rank w e) (sym same) (subst (λ n. rank v n ≤ rank w e) number after_v)
          | inr other ↦ elim (only done in_all) [
            | inl same ↦ absurd (other same)
            | inr earlier ↦ omega (arith, before.forward done v d k earlier (sym (set.elsewhere done other) ∙ at) waits)
          ]
        ];
  }

  -- So no link out of the vertex that is taken leads nearer to one that was taken before: none is
  -- taken twice.
  pub none_nearer : (distance queue : Vertex → Option ℕ) (taken : List Vertex) (v done : Vertex) (k d cost : ℕ) (label : Label) → AreForward distance queue taken → queue v ≡ Some k → Contains taken done → distance done ≡ Some d
      → link v done cost label → d ≤ k + cost
  none_nearer distance queue taken v done k d cost label before waits in_taken at over =
      rank_falls done d (k + cost) (omega (arith, before.forward done v d k in_taken at waits, rank_grows links v done cost label k (k + cost) over (omega arith)))

-- nothing is taken at the start
pub forward_at_start : (distance queue : Vertex → Option ℕ) → AreForward distance queue []
forward_at_start distance queue = record { forward = λ done v d k in_taken. absurd (no_element done in_taken) }

-- nothing is moved at the start
pub moved_at_start : (start : Vertex → Option ℕ) → AreMoved start start []
moved_at_start start = record { reached = λ v m. absurd (no_element v m); nearer = λ v d e m. absurd (no_element v m); same = λ v none. refl }

-- A vertex that is taken, not moved before and queued below its distance, is moved.
pub moved_taken : (start distance new : Vertex → Option ℕ) (moved all : List Vertex) (v : Vertex) (k : ℕ) → AreMoved start distance moved → (Contains moved v → ⊥) → IsSet distance new v k
    → ((d : ℕ) → distance v ≡ Some d → k < d)
    → ((w : Vertex) → Contains moved w → Contains all w) → Contains all v → ((w : Vertex) → Contains all w → (w ≡ v) ⊎ Contains moved w)
    → AreMoved start new all
moved_taken start distance new moved all v k before fresh set less grows v_in only = record {
  reached = λ w m. elim (cases_vertex w v) [
    | inl same ↦ (k, ap new same ∙ set.here)
    | inr other ↦ let was = before.reached w (earlier w m other) in (was.0, set.elsewhere w other ∙ was.1)
  ];
  nearer = λ w d e m at_start at. elim (cases_vertex w v) [
    | inl same ↦
        let equal : Some k ≡ Some e = sym set.here ∙ ap new (sym same) ∙ at in
        let number : k ≡ e = cc in
        omega (arith, less d (before.same v fresh ∙ ap start (sym same) ∙ at_start))
    | inr other ↦ before.nearer w d e (earlier w m other) at_start (sym (set.elsewhere w other) ∙ at)
  ];
  same = λ w none. elim (cases_vertex w v) [
    | inl is_v ↦ absurd (none (subst (λ u. Contains all u) (sym is_v) v_in))
    | inr other ↦ set.elsewhere w other ∙ before.same w (λ m. none (grows w m))
  ];
}
  where
    earlier : (w : Vertex) → Contains all w → w ≢ v → Contains moved w
    earlier w m other = elim (only w m) [ inl same ↦ absurd (other same) | inr was ↦ was ]

-- with nothing queued, fair links are relaxed
pub relaxed_at_end : {link : Links} {root : ℕ} (distance queue : Vertex → Option ℕ) → IsEmptyQueue queue → AreFair link root distance queue → AreRelaxed link root distance
relaxed_at_end distance queue none fair = record {
  relaxed = λ from to cost label d taken other at. elim (fair.fair from to cost label d taken other at) [
    | inl reached ↦ reached
    | inr queued ↦ absurd (none_within (queue to) (d + cost) (none to) queued)
  ];
}

-- and the values are the distances
pub distances_at_end : {link : Links} {root : ℕ} {has_root : Type 0} (distance queue : Vertex → Option ℕ) → (has_root → distance (Router root) ≡ Some 0) → IsEmptyQueue queue → AreFair link root distance queue → AreReal link root has_root distance
    → AreDistances link root has_root distance
distances_at_end {link} {root} {has_root} distance queue rooted none fair real = distances_from_local link root has_root distance rooted (relaxed_at_end distance queue none fair) real
