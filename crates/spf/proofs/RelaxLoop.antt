-- Relaxing: the invariant of the loop holds in each round, and gives the distances at the end.
use Rattle.std.proofs.Common.{◌≡◌, ◌≢◌, ℕ, ◌+◌, List, [], Option, Some, sym, ap, subst, ◌∙◌, ◌⊎◌, inl, inr, arith}
use Rattle.std.specs.List.{Contains}
use Rattle.ospf_types.specs.declared.entry.Vertex.{Vertex}
use Rattle.ospf_types.specs.declared.entry.Vertex.TheVariants.{Router}
use Rattle.ospf_types.specs.declared.label.Label.{Label}
use Rattle.ospf_types.specs.Distances.{Links}
use Rattle.vertex_queue.specs.VertexSet.{IsAdded}
use Rattle.vertex_queue.proofs.Elements.{cases_contains, cases_vertex}
use Rattle.spf.specs.Trees.{AreLinks, IsInLimit, AreReal, AreDistances}
use Rattle.spf.specs.Parts.{StartsAt, AreStarted}
use Rattle.spf.specs.Repairs.{AreCome, IsReset, IsQueuedOffer, IsEmptyQueue}
use Rattle.spf.specs.Loops.{AreLosingSupport, IsQueueOpened, AreRelaxing, IsLinkQueued, IsVertexPopped}
use Rattle.spf.proofs.Values.{root_zero, distances_relaxed}
use Rattle.ospf_types.proofs.Elements.{no_element}
use Rattle.spf.proofs.QueuedDistances.{Starts, AsRoot, AsKept, starts, within_same, real_at_start, offer_real, forward_at_start, moved_at_start, queue_real, real_taken, fair_taken, forward_taken, none_nearer, moved_taken, distances_at_end}
use Rattle.spf.proofs.Settling.{told_taken}

-- a vertex from which the search starts
starts_at : {root : ℕ} {has_root : Type 0} {old : Vertex → Option ℕ} {lost : List Vertex} (v : Vertex) (d : ℕ) → Starts root has_root old lost v d → StartsAt root has_root old lost v d
starts_at v d (AsRoot is_root has zero) = inl (is_root, has, zero)
starts_at v d (AsKept other kept was) = inr (other, kept, was)

module _ {after come : Links} {root : ℕ} {has_root : Type 0} {old start : Vertex → Option ℕ} {lost : List Vertex}
    (links : AreLinks after root has_root) (flag : has_root ⊎ (has_root → ⊥)) (s : AreStarted after come root has_root old lost) (reset : IsReset root has_root old lost start) where
  start_real : AreReal after root has_root start
  start_real = real_at_start flag reset links s.held

  -- With the queue open the search begins.
  pub relax_started : {queue : Vertex → Option ℕ} {stale : List Vertex} → IsQueueOpened after come root lost start queue stale → AreRelaxing after come root has_root start start queue [] stale
  relax_started {queue} {stale} o = record {
    rooted = reset.rooted;
    real = start_real;
    queued_real = record { real = λ to k at. offer_real start start_real to k (o.offered to k at) };
    fair = record {
      fair = λ from to cost label d taken other at. elim (cases_contains lost to) [
        | inl gone ↦ inr (o.into_lost from to cost label d gone other taken at)
        | inr kept ↦ elim (s.fair from to cost label d taken other (starts_at from d (starts flag reset from d at))) [
          | inl came ↦ o.over_new from to cost label d came other at
          | inr stood ↦ elim stood [
            | inl gone ↦ absurd (kept gone)
            | inr within ↦ inl (within_same (old to) (start to) (d + cost) (sym (reset.kept to other kept)) within)
          ]
        ]
      ];
    };
    less = o.less;
    other = λ v k at. (o.offered v k at).other;
    forward = forward_at_start start queue;
    apart = λ v k none. absurd (no_element v none);
    ended = moved_at_start start;
    moved_other = λ v none. absurd (no_element v none);
    told = record {
      told = λ from to cost label other least cause. elim cause [
        | inl came ↦ inl (o.tells from to cost label came other least)
        | inr none ↦ absurd (no_element from none)
      ];
    };
  }

-- Where nothing is suspected any more, the search may start.
pub started : {before after gone come : Links} {root : ℕ} {had_root has_root : Type 0} {old start : Vertex → Option ℕ} {lost told : List Vertex}
    → AreLinks before root had_root → AreDistances before root had_root old → AreCome before after come start → AreLosingSupport before after gone root had_root has_root old lost [] told → IsReset root has_root old lost start
    → AreStarted after come root has_root old lost
started {before = before} {root = root} {has_root = has_root} {old = old} {start = start} {lost = lost} links were changes l reset = record {
  held = l.held;
  reached = l.reached;
  fair = λ from to cost label d taken other s. elim (changes.came from to cost label d taken (at_start from d s)) [ inr came ↦ inl came | inl stood ↦ inr (inr (over_old from to cost label d stood other s)) ];
}
  where
    at_start : (v : Vertex) (d : ℕ) → StartsAt root has_root old lost v d → start v ≡ Some d
    at_start v d (inl r) = ap start r.0 ∙ reset.rooted r.1 ∙ ap Some (sym r.2)
    at_start v d (inr k) = reset.kept v k.0 k.1 ∙ k.2

    over_old : (from to : Vertex) (cost : ℕ) (label : Label) (d : ℕ) → before from to cost label → to ≢ Router root → StartsAt root has_root old lost from d → IsInLimit (old to) (d + cost)
    over_old from to cost label d stood other (inl r) =
        let out = links.out_of_root to cost label (subst (λ w. before w to cost label) r.0 stood) in
        (distances_relaxed were).relaxed from to cost label d stood other (ap old r.0 ∙ root_zero were out.has ∙ ap Some (sym r.2))
    over_old from to cost label d stood other (inr k) = (distances_relaxed were).relaxed from to cost label d stood other k.2

-- and once the queue is open it has started
pub relax_start : {before after gone come : Links} {root : ℕ} {had_root has_root : Type 0} {old start queue : Vertex → Option ℕ} {lost stale told : List Vertex}
    → AreLinks before root had_root → AreLinks after root has_root → has_root ⊎ (has_root → ⊥) → AreDistances before root had_root old → AreCome before after come start
    → AreLosingSupport before after gone root had_root has_root old lost [] told → IsReset root has_root old lost start → IsQueueOpened after come root lost start queue stale
    → AreRelaxing after come root has_root start start queue [] stale
relax_start links_before links flag were changes l reset o = relax_started links flag (started links_before were changes l reset) reset o

module _ {after come : Links} {root : ℕ} {has_root : Type 0} {start distance queue : Vertex → Option ℕ} {moved stale : List Vertex}
    (n : AreRelaxing after come root has_root start distance queue moved stale) where
  -- what is queued was not moved
  pub fresh : (v : Vertex) (k : ℕ) → queue v ≡ Some k → Contains moved v → ⊥
  fresh v k waits m = n.apart v k m waits

  -- with nothing queued the distances are those after
  pub relax_end : IsEmptyQueue queue → AreDistances after root has_root distance
  relax_end none = distances_at_end distance queue n.rooted none n.fair n.real

  module _ (links : AreLinks after root has_root) (new more : Vertex → Option ℕ) (all wider : List Vertex) (v : Vertex) (k : ℕ) (t : IsVertexPopped after root distance queue new more stale wider v k) (added : IsAdded moved all v) where
    -- what is put is offered by the vertex that is taken
    put_offered : (w : Vertex) (e : ℕ) → IsLinkQueued after root new v k w e → IsQueuedOffer after root new w e
    put_offered w e p = record { from = v; cost = p.cost; label = p.label; taken = p.taken; near = k; tail = t.set.here; other = p.other; sum = p.sum }

    -- the distances stay real
    new_real : AreReal after root has_root new
    new_real = real_taken distance queue new v k n.real n.queued_real t.waits t.set

    -- what is put was not moved: no link leads nearer to what was taken
    put_fresh : (w : Vertex) (e : ℕ) → IsLinkQueued after root new v k w e → Contains all w → ⊥
    put_fresh w e p m = elim (cases_vertex w v) [
      | inl same ↦ omega (arith, p.nearer k (ap new same ∙ t.set.here), p.sum)
      | inr other ↦ elim (added.only w m) [
        | inl same ↦ other same
        | inr was ↦
            let d = n.ended.reached w was in
            omega (arith, p.sum, p.nearer d.0 (t.set.elsewhere w other ∙ d.1), none_nearer links distance queue moved v w k d.0 p.cost p.label n.forward t.waits was d.1 p.taken)
      ]
    ]

    -- each round keeps the invariant
    pub relax_taken : AreRelaxing after come root has_root start new more all wider
    relax_taken = record {
      rooted = λ has. t.set.elsewhere (Router root) (λ same. n.other v k t.waits (sym same)) ∙ n.rooted has;
      real = new_real;
      queued_real = queue_real new queue more new_real n.queued_real (λ w e at. elim (t.put w e at) [ inl was ↦ inl was.1 | inr p ↦ inr (put_offered w e p) ]);
      fair = fair_taken distance queue new more v k n.fair t.waits t.set (λ d at. omega (arith, n.less v k d t.waits at)) t.keeps t.offered;
      less = λ w e d at at_w. elim (t.put w e at) [
        | inl was ↦ n.less w e d was.1 (sym (t.set.elsewhere w was.0) ∙ at_w)
        | inr p ↦ p.nearer d at_w
      ];
      other = λ w e at. elim (t.put w e at) [ inl was ↦ n.other w e was.1 | inr p ↦ p.other ];
      forward = forward_taken links distance queue new more moved all v k n.forward t.waits t.set t.least
          (λ w e at. elim (t.put w e at) [ inl was ↦ inl was.1 | inr p ↦ inr (p.cost, p.label, p.taken, omega (arith, p.sum)) ])
          added.only;
      apart = λ w e m at. elim (t.put w e at) [
        | inr p ↦ put_fresh w e p m
        | inl was ↦ elim (added.only w m) [ inl same ↦ was.0 same | inr earlier ↦ n.apart w e earlier was.1 ]
      ];
      ended = moved_taken start distance new moved all v k n.ended (fresh v k t.waits) t.set (λ d at. n.less v k d t.waits at) added.grows added.here added.only;
      moved_other = λ w m. elim (added.only w m) [ inr was ↦ n.moved_other w was | inl same ↦ subst (λ u. u ≢ Router root) (sym same) (n.other v k t.waits) ];
      told = told_taken distance queue new more moved all stale wider v k n.told t.set added.grows added.here added.only t.widens
          (λ w other q. let within = t.keeps w q.0 other q.1 in (within.number, within.is))
          (λ to cost label taken other at. inl (t.tells to cost label taken other at));
    }
