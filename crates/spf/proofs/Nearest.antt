-- The distances after, from the start of their search to its end.
use Rattle.std.proofs.Common.{◌≡◌, ◌≢◌, ℕ, ◌+◌, ◌-◌, ◌<◌, ◌≤◌, List, [], ◌∷◌, ◌++◌, length, Option, Some, None, refl, sym, ap, subst, ◌∙◌, ◌⊎◌, inl, inr, arith}
use Rattle.std.specs.List.{Contains}
use Rattle.std.specs.FinMap.{get, insert, remove, empty, len, get-empty}
use Rattle.ospf_types.specs.declared.entry.Vertex.{Vertex}
use Rattle.ospf_types.specs.declared.entry.Vertex.TheVariants.{Router, Network}
use Rattle.ospf_types.specs.declared.label.Label.{Label}
use Rattle.ospf_types.specs.Distances.{Links, IsDistance}
use Rattle.ospf_types.specs.Vertices.{vertex_cmp}
use Rattle.vertex_graph.specs.GraphLink.{GraphLink}
use Rattle.vertex_graph.specs.Graphs.{GraphValue, graph_view, LinksOf, HasRoot}
use Rattle.vertex_queue.specs.Queues.{Queue, IsFirstWaiting, rank as queue_rank}
use Rattle.vertex_queue.proofs.Ranks.{first_has_least_rank}
use Rattle.vertex_queue.specs.VertexSet.{HasNoDoubles}
use Rattle.vertex_queue.specs.Maps.{DistanceMap}
use Rattle.vertex_queue.proofs.Counting.{no_doubles_nil, no_doubles_push}
use Rattle.vertex_queue.proofs.Elements.{added_end, cases_vertex}
use Rattle.vertex_queue.proofs.VertexMaps.{set_here, set_elsewhere, gone_here, gone_elsewhere}
use Rattle.spf.specs.Trees.{AreLinks, rank}
use Rattle.spf.specs.Repairs.{IsReset, IsQueuedOffer}
use Rattle.spf.specs.Loops.{IsQueueOpened, AreRelaxing, IsVertexPopped}
use Rattle.spf.specs.Changes.{Among, link_value}
use Rattle.spf.specs.Offers.{OverReached, OutOf, Into, AreMade}
use Rattle.spf.specs.Parts.{AreStarted, IsStaleNow, IsRelaxedTo}
use Rattle.spf.proofs.AreaLinks.{area_links}
use Rattle.spf.proofs.GraphVertices.{IsThere, root_or_not, reached_there, no_more}
use Rattle.spf.proofs.RelaxLoop.{relax_started, relax_taken, fresh}
use Rattle.spf.proofs.Offering.{made_both}
use Rattle.spf.proofs.Taken.{queued_distance}
use Rattle.spf.proofs.Values.{none_within}

-- ---- the start

-- nothing is in an empty queue
abbrev pub no_queue : Queue
no_queue = empty

none_queued : (v : Vertex) (k : ℕ) → get no_queue v ≡ Some k → ⊥
none_queued v k at = let both : Some k ≡ None = sym at ∙ get-empty vertex_cmp v in cc

-- the offers at the start, over links into what is lost and over added links
abbrev AtStart : Links → ℕ → (Vertex → Option ℕ) → List Vertex → List GraphLink → Vertex → ℕ → Type 0
AtStart after root start lost came v e = Into after root start lost v e ⊎ OverReached root start came v e

module _ {after : Links} {root : ℕ} {has_root : Type 0} {old start queue more : Vertex → Option ℕ} {lost stale wide wider : List Vertex} (came : List GraphLink)
    (links : (l : GraphLink) → Contains came l → after l.from l.to l.cost l.label) (reset : IsReset root has_root old lost start)
    (into : AreMade (Into after root start lost) start (get no_queue) queue stale wide) (over : AreMade (OverReached root start came) start queue more wide wider) where
  made : AreMade (AtStart after root start lost came) start (get no_queue) more stale wider
  made = made_both {first = Into after root start lost} {second = OverReached root start came} {all = AtStart after root start lost came} into over (λ v e offer. offer) (λ v e offer. inl offer) (λ v e offer. inr offer)

  -- an offer over an added link
  over_came : (from to : Vertex) (cost : ℕ) (label : Label) (d : ℕ) → Among came from to cost label → start from ≡ Some d → to ≢ Router root → AtStart after root start lost came to (d + cost)
  over_came from to cost label d c at other = inr (link_value from to cost label, d, c, at, (refl, other, refl))

  offer_at_start : (to : Vertex) (k : ℕ) → AtStart after root start lost came to k → IsQueuedOffer after root start to k
  offer_at_start to k (inl o) = record { from = o.0; cost = o.1; label = o.2; taken = o.5; near = o.3; tail = o.6; other = o.7; sum = o.8 }
  offer_at_start to k (inr o) =
      let l = o.0 in
      record { from = l.from; cost = l.cost; label = l.label; taken = subst (λ v. after l.from v l.cost l.label) (sym o.4.0) (links l o.2); near = o.1; tail = o.3; other = o.4.1; sum = o.4.2 }

  -- With both made the queue is open.
  pub opened : IsQueueOpened after (Among came) root lost start more wider
  opened = record {
    into_lost = λ from to cost label d gone other taken at. elim (made.offered to (d + cost) (inl (from, cost, label, d, gone, taken, at, other, refl))) [
      | inl reached ↦ absurd (none_within (start to) (d + cost) (reset.blank to other gone) reached)
      | inr queued ↦ queued
    ];
    over_new = λ from to cost label d c other at. made.offered to (d + cost) (over_came from to cost label d c at other);
    offered = λ to k at. elim (made.put to k at) [ inl none ↦ absurd (none_queued to k none) | inr new ↦ offer_at_start to k new.0 ];
    less = λ v k d at at_start. elim (made.put v k at) [ inl none ↦ absurd (none_queued v k none) | inr new ↦ new.1 d at_start ];
    tells = λ from to cost label c other least. made.tells to (least.near + cost) (over_came from to cost label least.near c least.tail other) least.head;
  }

  -- what is stale then was so, or an added link leads there
  pub stale_at_start : (v : Vertex) → Contains wider v → Contains stale v ⊎ ((from : Vertex) × (cost : ℕ) × (label : Label) × Among came from v cost label)
  stale_at_start v c = elim (made.why v c) [
    | inl was ↦ inl was
    | inr new ↦ elim new.1 [
      | inl o ↦ let both : None ≡ Some new.0 = sym (reset.blank v o.7 o.4) ∙ new.2 in absurd cc
      | inr o ↦ let l = o.0 in inr (l.from, l.cost, l.label, subst (λ u. Among came l.from u l.cost l.label) (sym o.4.0) o.2)
    ]
  ]

  pub widens_at_start : (v : Vertex) → Contains stale v → Contains wider v
  widens_at_start = made.widens

-- ---- a round

-- the queue's rank belongs to the tree
same_rank : (v : Vertex) (k : ℕ) → queue_rank v k ≡ rank v k
same_rank (Router r) k = refl
same_rank (Network n) k = refl

module _ (queue : Queue) (v : Vertex) (k : ℕ) (first : IsFirstWaiting queue v k) where
  least_first : (w : Vertex) (e : ℕ) → get queue w ≡ Some e → rank v k ≤ rank w e
  least_first w e waits = omega (arith, first_has_least_rank queue v w k e first waits, same_rank v k, same_rank w e)

  -- what is first is taken
  pub taken : (link : Links) (root : ℕ) (distances new : DistanceMap) (rest more : Queue) {stale wider : List Vertex} → rest ≡ remove queue v → new ≡ insert distances v k → AreMade (OutOf link root v k) (get new) (get rest) (get more) stale wider → IsVertexPopped link root (get distances) (get queue) (get new) (get more) stale wider v k
  taken link root distances new rest more rest_is new_is a = record {
    waits = first.waits;
    least = least_first;
    set = record {
      here = ap (λ (m : DistanceMap). get m v) new_is ∙ set_here distances v k;
      elsewhere = λ w other. ap (λ (m : DistanceMap). get m w) new_is ∙ set_elsewhere distances v w k other;
    };
    keeps = λ w e other waits. a.keeps w e (ap (λ (m : Queue). get m w) rest_is ∙ gone_elsewhere queue v w other ∙ waits);
    put = λ w e at. elim (a.put w e at) [
      | inl was ↦ elim (cases_vertex w v) [
        | inl same ↦ let both : Some e ≡ None = sym was ∙ ap (λ (m : Queue). get m w) rest_is ∙ ap (get (remove queue v)) same ∙ gone_here queue v in absurd cc
        | inr other ↦ inl (other, sym (gone_elsewhere queue v w other) ∙ sym (ap (λ (m : Queue). get m w) rest_is) ∙ was)
      ]
      | inr offer ↦
          let o = offer.0 in
          inr (record { cost = o.0; label = o.1; taken = o.2; other = o.3; sum = o.4; nearer = offer.1 })
    ];
    offered = λ to cost label is other. a.offered to (k + cost) (cost, label, is, other, refl);
    widens = a.widens;
    tells = λ to cost label is other at. a.tells to (k + cost) (cost, label, is, other, refl) at;
  }

-- ---- the whole search

-- While distances are sought: what holds of them, of those that moved and of what is stale.
pub record AreSought (g : GraphValue) (came : List GraphLink) (start : DistanceMap) (stale : List Vertex) (distances : DistanceMap) (queue : Queue) (moved wider : List Vertex) : Type 0 where
  pub relaxing : AreRelaxing (LinksOf g) (Among came) g.root (HasRoot g) (get start) (get distances) (get queue) moved wider
  pub apart : HasNoDoubles moved
  pub widens : (v : Vertex) → Contains stale v → Contains wider v
  pub why : (v : Vertex) → Contains wider v → IsStaleNow g came stale moved v

module _ (g : GraphValue) (came : List GraphLink) where
  graph_links : AreLinks (LinksOf g) g.root (HasRoot g)
  graph_links = area_links (graph_view g)

  -- at the start
  pub sought_at_start : {old : Vertex → Option ℕ} {stale wide wider : List Vertex} (lost cleared offered moved : List Vertex) (start : DistanceMap) (none queue more : Queue) (root : ℕ)
      → cleared ≡ lost → offered ≡ lost → none ≡ empty → moved ≡ [] → root ≡ g.root
      → AreStarted (LinksOf g) (Among came) g.root (HasRoot g) old lost → ((l : GraphLink) → Contains came l → LinksOf g l.from l.to l.cost l.label) → IsReset g.root (HasRoot g) old cleared (get start)
      → AreMade (Into (LinksOf g) g.root (get start) offered) (get start) (get none) (get queue) stale wide → AreMade (OverReached root (get start) came) (get start) (get queue) (get more) wide wider
      → AreSought g came start stale start more moved wider
  sought_at_start {old} {stale} {wide} {wider} lost cleared offered moved start none queue more root cleared_is offered_is none_is moved_is root_is s links reset_cleared into_offered over_root =
      subst (λ (vs : List Vertex). AreSought g came start stale start more vs wider) (sym moved_is) (record {
        relaxing = relax_started graph_links (root_or_not g) s reset (opened came links reset into over);
        apart = no_doubles_nil;
        widens = widens_at_start came links reset into over;
        why = λ v c. elim (stale_at_start came links reset into over v c) [ inl was ↦ inl was | inr new ↦ inr (inl new) ];
      })
    where
      reset : IsReset g.root (HasRoot g) old lost (get start)
      reset = subst (λ (vs : List Vertex). IsReset g.root (HasRoot g) old vs (get start)) cleared_is reset_cleared

      into : AreMade (Into (LinksOf g) g.root (get start) lost) (get start) (get no_queue) (get queue) stale wide
      into =
          subst (λ (q : Queue). AreMade (Into (LinksOf g) g.root (get start) lost) (get start) (get q) (get queue) stale wide) none_is
          (subst (λ (vs : List Vertex). AreMade (Into (LinksOf g) g.root (get start) vs) (get start) (get none) (get queue) stale wide) offered_is into_offered)

      over : AreMade (OverReached g.root (get start) came) (get start) (get queue) (get more) wide wider
      over = subst (λ (r : ℕ). AreMade (OverReached r (get start) came) (get start) (get queue) (get more) wide wider) root_is over_root

  module _ {start distances : DistanceMap} {queue : Queue} {stale wide moved : List Vertex} (s : AreSought g came start stale distances queue moved wide) where
    -- each that moved is a vertex of the graph
    moved_there : (v : Vertex) → Contains moved v → IsThere g v
    moved_there v m = let at = s.relaxing.ended.reached v m in reached_there g s.relaxing.real v at.0 at.1 (s.relaxing.moved_other v m)

    -- so no more moved than the graph has
    pub moved_most : length moved ≤ len g.ends
    moved_most = no_more g moved s.apart moved_there

    module _ (v : Vertex) (k : ℕ) (first : IsFirstWaiting queue v k) where
      -- what is taken has not moved
      pub unmoved : Contains moved v → ⊥
      unmoved = fresh s.relaxing v k first.waits

      -- and is queued at its distance
      pub taken_right : IsDistance (LinksOf g) g.root (HasRoot g) v k
      taken_right = queued_distance s.relaxing v k first.waits (least_first queue v k first)

      -- a round
      pub sought_more : (new : DistanceMap) (rest more : Queue) (all : List Vertex) {wider : List Vertex} → all ≡ moved ++ v ∷ [] → rest ≡ remove queue v → new ≡ insert distances v k → AreMade (OutOf (LinksOf g) g.root v k) (get new) (get rest) (get more) wide wider → AreSought g came start stale new more all wider
      sought_more new rest more all {wider} all_is rest_is new_is a = subst (λ (vs : List Vertex). AreSought g came start stale new more vs wider) (sym all_is) (record {
        relaxing = relax_taken s.relaxing graph_links (get new) (get more) (moved ++ v ∷ []) wider v k (taken queue v k first (LinksOf g) g.root distances new rest more rest_is new_is a) (added_end v moved);
        apart = no_doubles_push moved v s.apart unmoved;
        widens = λ w c. a.widens w (s.widens w c);
        why = λ w c. elim (a.why w c) [
          | inl was ↦ elim (s.why w was) [
            | inl before ↦ inl before
            | inr later ↦ elim later [
              | inl over ↦ inr (inl over)
              | inr out ↦ inr (inr (out.0, out.1, out.2, out.3, (added_end v moved).grows out.0 out.4))
            ]
          ]
          | inr new ↦ let o = new.1 in inr (inr (v, o.0, o.1, o.2, (added_end v moved).here))
        ];
      })

  -- at the end
  pub relax_leaves : {old : Vertex → Option ℕ} {stale wider moved : List Vertex} (lost cleared : List Vertex) (start distances : DistanceMap) (queue : Queue)
      → cleared ≡ lost → IsReset g.root (HasRoot g) old cleared (get start) → queue ≡ empty → AreSought g came start stale distances queue moved wider → IsRelaxedTo g came old (get distances) lost stale wider moved
  relax_leaves {old} {wider = wider} {moved = moved} lost cleared start distances queue cleared_is reset none s = record {
    start = start;
    reset = subst (λ (vs : List Vertex). IsReset g.root (HasRoot g) old vs (get start)) cleared_is reset;
    relaxing = subst (λ (q : Vertex → Option ℕ). AreRelaxing (LinksOf g) (Among came) g.root (HasRoot g) (get start) (get distances) q moved wider) (λ i v. (ap (λ (q : Queue). get q v) none ∙ get-empty vertex_cmp v) i) s.relaxing;
    apart = s.apart;
    widens = s.widens;
    why = s.why;
  }

-- what is left to move falls
pub fewer_left : (all moved more : ℕ) → more ≡ moved + 1 → more ≤ all → all - more < all - moved
fewer_left all moved more one most = omega arith
