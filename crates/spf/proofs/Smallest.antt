-- A tree of one link, built step by step, and left when the link goes: each record of the loops can
-- be met.
use Rattle.std.proofs.Common.{◌≡◌, ◌≢◌, ℕ, zero, suc, ◌+◌, List, [], ◌∷◌, Option, Some, None, refl, sym, ap, subst, ◌∙◌, ◌⊎◌, inl, inr, arith}
use Rattle.std.specs.Prelude.{◌↔◌}
use Rattle.std.specs.List.{Contains}
use Rattle.ospf_types.specs.declared.entry.Vertex.{Vertex}
use Rattle.ospf_types.specs.declared.entry.Vertex.TheVariants.{Router, Network}
use Rattle.ospf_types.specs.declared.hop.NextHop.{NextHop}
use Rattle.ospf_types.specs.declared.hop.NextHop.TheVariants as hop
use Rattle.ospf_types.specs.declared.label.Label.{Label}
use Rattle.ospf_types.specs.declared.label.Label.TheVariants.{Over}
use Rattle.ospf_types.specs.Distances.{Links, FirstOnly}
use Rattle.vertex_queue.proofs.Elements.{added_front}
use Rattle.spf.specs.Trees.{AreLinks, IsTree, IsGiven}
use Rattle.spf.specs.Repairs.{IsReset}
use Rattle.spf.specs.Loops.{AreLosingSupport, AreRelaxing, IsQueueOpened, IsVertexPopped, AreUpdatingNextHops, IsUpdated}
use Rattle.ospf_types.proofs.Elements.{no_element, first_element}
use Rattle.spf.proofs.Whole.{NoLinks, no_distances, blank_tree, no_links}
use Rattle.spf.proofs.Building.{none_went, none_lost, root_came}
use Rattle.spf.proofs.LoseSupportLoop.{lose_support_start, lose_support_lost}
use Rattle.spf.proofs.RelaxLoop.{relax_start, relax_taken}
use Rattle.spf.proofs.UpdateNextHopsLoop.{update_next_hops_taken}
use Rattle.spf.proofs.Repaired.{update_next_hops_opened, tree_after}

-- the one link, from router 0 to router 1
abbrev one_link : Links
one_link from to cost label = (from ≡ Router 0) × (to ≡ Router 1) × (cost ≡ 1) × (label ≡ Over 7)

-- it is such as the tree needs
links : AreLinks one_link 0 (Unit {0})
links = record {
  out_of_router = λ router to cost label t. omega (arith, t.2);
  out_of_network = λ network to cost label t. let e = t.0 in absurd cc;
  out_of_root = λ to cost label t. record { has = tt; interface = 7; labelled = t.3 };
}

-- the distances from which the search starts
abbrev start : Vertex → Option ℕ
start (Router zero) = Some 0
start (Router (suc n)) = None
start (Network n) = None

-- what is queued first
abbrev queue : Vertex → Option ℕ
queue (Router zero) = None
queue (Router (suc zero)) = Some 1
queue (Router (suc (suc n))) = None
queue (Network n) = None

-- the distances after
abbrev distance : Vertex → Option ℕ
distance (Router zero) = Some 0
distance (Router (suc zero)) = Some 1
distance (Router (suc (suc n))) = None
distance (Network n) = None

-- nothing queued
abbrev empty : Vertex → Option ℕ
empty v = None

-- router 1 is queued alone, at 1
only_queued : (v : Vertex) (k : ℕ) → queue v ≡ Some k → (v ≡ Router 1) × (k ≡ 1)
only_queued (Router zero) k e = absurd cc
only_queued (Router (suc zero)) k e = (refl, cc)
only_queued (Router (suc (suc n))) k e = absurd cc
only_queued (Network n) k e = absurd cc

-- the root starts alone, at 0
only_started : (v : Vertex) (k : ℕ) → start v ≡ Some k → (v ≡ Router 0) × (k ≡ 0)
only_started (Router zero) k e = (refl, cc)
only_started (Router (suc n)) k e = absurd cc
only_started (Network n) k e = absurd cc

-- nothing else has a distance at the start
unset : (v : Vertex) → v ≢ Router 0 → start v ≡ None
unset (Router zero) other = absurd (other refl)
unset (Router (suc n)) other = refl
unset (Network n) other = refl

-- nothing but router 1 gets another distance
same_elsewhere : (v : Vertex) → v ≢ Router 1 → distance v ≡ start v
same_elsewhere (Router zero) other = refl
same_elsewhere (Router (suc zero)) other = absurd (other refl)
same_elsewhere (Router (suc (suc n))) other = refl
same_elsewhere (Network n) other = refl

-- the two routers differ
differ : Router 1 ≡ Router 0 → ⊥
differ e = cc

-- nothing was reached before
reset : IsReset 0 (Unit {0}) no_distances [] start
reset = record { rooted = λ has. refl; rootless = λ none. absurd (none tt); blank = λ v other none. absurd (no_element v none); kept = λ v other kept. unset v other }

-- the link was added, and is offered
opened : IsQueueOpened one_link one_link 0 [] start queue []
opened = record {
  into_lost = λ from to cost label d none. absurd (no_element to none);
  over_new = λ from to cost label d t other at.
      let zero_d : d ≡ 0 = (only_started from d at).1 in
      inr (record { number = 1; is = ap queue t.1; most = omega (arith, t.2) });
  offered = λ to k at.
      let w = only_queued to k at in
      record { from = Router 0; cost = 1; label = Over 7; taken = (refl, w.0, refl, refl); near = 0; tail = refl; other = λ e. differ (sym w.0 ∙ e); sum = w.1 };
  less = λ v k d at at_start. absurd (differ (sym (only_queued v k at).0 ∙ (only_started v d at_start).0));
  tells = λ from to cost label t other least. absurd (differ (sym t.1 ∙ (only_started to (least.near + cost) least.head).0));
}

-- relaxing begins
begun : AreRelaxing one_link one_link 0 (Unit {0}) start start queue [] []
begun = relax_start (no_links 0) links (inl tt) (blank_tree 0).distances (root_came one_link 0 (Unit {0}) one_link start (inl tt) reset (λ to cost label t. t)) (none_lost one_link 0 (Unit {0})) reset opened

-- router 1 is taken
taken : IsVertexPopped one_link 0 start queue distance empty [] [] (Router 1) 1
taken = record {
  waits = refl;
  least = λ w e at. let i = only_queued w e at in rw i.0 (rw i.1 (omega arith));
  set = record { here = refl; elsewhere = same_elsewhere };
  keeps = λ w e other at. absurd (other (only_queued w e at).0);
  put = λ w e at. absurd cc;
  offered = λ to cost label t. absurd (differ t.0);
  widens = λ w c. c;
  tells = λ to cost label t. absurd (differ t.0);
}

-- and relaxing ends
ended : AreRelaxing one_link one_link 0 (Unit {0}) start distance empty (Router 1 ∷ []) []
ended = relax_taken begun links distance empty (Router 1 ∷ []) [] (Router 1) 1 taken (added_front (Router 1) [])

-- no next hops
abbrev blank : Vertex → NextHop → Type 0
blank v h = ⊥

-- the next hops after
abbrev hops : Vertex → NextHop → Type 0
hops (Router zero) h = ⊥
hops (Router (suc zero)) h = h ≡ hop.Peer 7
hops (Router (suc (suc n))) h = ⊥
hops (Network n) h = ⊥

-- the update of next hops begins
opened_hops : AreUpdatingNextHops one_link 0 distance queue blank blank [] []
opened_hops = update_next_hops_opened (no_links 0) links (blank_tree 0) (none_lost one_link 0 (Unit {0})) reset ended (λ v. refl) (none_went one_link 0 (Unit {0})) (root_came one_link 0 (Unit {0}) one_link start (inl tt) reset (λ to cost label t. t))
    (λ v c. c) blank queue (λ v d at h. (λ x. x, λ x. x)) waits (λ v k at. let w = only_queued v k at in (rw w.0 (rw w.1 refl), λ e. differ (sym w.0 ∙ e)))
  where
    waits : (v : Vertex) (d : ℕ) → distance v ≡ Some d → v ≢ Router 0 → Contains (Router 1 ∷ []) v ⊎ Contains [] v → (k : ℕ) × (queue v ≡ Some k)
    waits (Router zero) d at other c = absurd (other refl)
    waits (Router (suc zero)) d at other c = (1, refl)
    waits (Router (suc (suc n))) d at other c = absurd cc
    waits (Network n) d at other c = absurd cc

-- the link gives its interface
given_peer : (h : NextHop) → IsGiven one_link 0 distance blank (Router 1) h → h ≡ hop.Peer 7
given_peer h g = elim g.gives [
  | inl w ↦ subst (λ (l : Label). FirstOnly (Router 1) l h) g.least.taken.3 w.1
  | inr w ↦ absurd (w.0 g.least.taken.0)
]

-- router 1 is written
updated : IsUpdated one_link 0 distance queue empty blank hops [] (Router 1 ∷ []) (Router 1) 1
updated = record {
  waits = refl;
  least = λ w e at. let i = only_queued w e at in rw i.0 (rw i.1 (omega arith));
  union = λ h. (λ x. record { from = Router 0; cost = 1; label = Over 7; least = record { taken = (refl, refl, refl, refl); near = 0; tail = refl; head = refl }; gives = inl (refl, x) }, given_peer h);
  elsewhere = others;
  keeps = λ w other q. absurd (other (only_queued w q.0 q.1).0);
  put = λ w e at. absurd cc;
  heads = inl (first_element (Router 1) [], λ to cost label other least. absurd (differ least.taken.0));
  widens = λ w none. absurd (no_element w none);
  writes = λ w c. inr (written w c, λ same. (same (hop.Peer 7)).0 refl);
}
  where
    others : (w : Vertex) → w ≢ Router 1 → (h : NextHop) → hops w h ↔ blank w h
    others (Router zero) other h = (λ x. x, λ x. x)
    others (Router (suc zero)) other h = absurd (other refl)
    others (Router (suc (suc n))) other h = (λ x. x, λ x. x)
    others (Network n) other h = (λ x. x, λ x. x)

    written : (w : Vertex) → Contains (Router 1 ∷ []) w → w ≡ Router 1
    written w c = elim ((added_front (Router 1) []).only w c) [ inl same ↦ same | inr none ↦ absurd (no_element w none) ]

-- and the tree belongs to the link
tree : IsTree one_link 0 (Unit {0}) distance hops
tree = tree_after (no_links 0) links (blank_tree 0) (none_lost one_link 0 (Unit {0})) reset ended (λ v. refl) (update_next_hops_taken opened_hops links empty hops (Router 1 ∷ []) (Router 1 ∷ []) (Router 1) 1 updated (added_front (Router 1) [])) (λ v. refl) (λ h x. x) (λ to none h x. x)

-- the link goes again: its head is suspected
abbrev suspected : List Vertex
suspected = Router 1 ∷ []

-- router 1 is suspected alone
only_suspect : (v : Vertex) → Contains suspected v → v ≡ Router 1
only_suspect v c = elim ((added_front (Router 1) []).only v c) [ inl same ↦ same | inr none ↦ absurd (no_element v none) ]

-- losing support begins
losing_support : AreLosingSupport one_link NoLinks one_link 0 (Unit {0}) (Unit {0}) distance [] suspected suspected
losing_support = lose_support_start tree.distances (record { went = λ from to cost label t. inr t }) suspected suspected
    (λ from to cost label other least. let here : Contains suspected to = rw least.taken.1 (first_element (Router 1) []) in (here, here))
    (λ v c. rw (only_suspect v c) (record { number = 1; at = refl; other = differ }))

-- router 1 is lost
lost : AreLosingSupport one_link NoLinks one_link 0 (Unit {0}) (Unit {0}) distance suspected [] suspected
lost = lose_support_lost tree.distances [] suspected [] suspected [] suspected suspected (Router 1) losing_support (added_front (Router 1) []) (record {
  unsupported = λ d at s. absurd s.taken;
  adds = added_front (Router 1) [];
  waits = λ w c. c;
  widens = λ w c. c;
  led = λ to cost label d e t. absurd t;
  only = λ w c. inl c;
})

-- and has no distance
reset_again : IsReset 0 (Unit {0}) distance suspected start
reset_again = record { rooted = λ has. refl; rootless = λ none. absurd (none tt); blank = λ v other c. unset v other; kept = λ v other kept. kept_none v other kept }
  where
    kept_none : (v : Vertex) → v ≢ Router 0 → (Contains suspected v → ⊥) → start v ≡ distance v
    kept_none (Router zero) other kept = refl
    kept_none (Router (suc zero)) other kept = absurd (kept (first_element (Router 1) []))
    kept_none (Router (suc (suc n))) other kept = refl
    kept_none (Network n) other kept = refl

-- the links after
no_links_again : AreLinks NoLinks 0 (Unit {0})
no_links_again = record { out_of_router = λ router to cost label t. absurd t; out_of_network = λ network to cost label t. absurd t; out_of_root = λ to cost label t. absurd t }

-- nothing is offered, so relaxing ends at once
relax_again : AreRelaxing NoLinks NoLinks 0 (Unit {0}) start start empty [] suspected
relax_again = relax_start links no_links_again (inl tt) tree.distances (record { came = λ from to cost label d t. absurd t }) lost reset_again (record {
  into_lost = λ from to cost label d c other t. absurd t;
  over_new = λ from to cost label d t. absurd t;
  offered = λ to k at. absurd cc;
  less = λ v k d at. absurd cc;
  tells = λ from to cost label t. absurd t;
})

-- and nothing is queued for its next hops: the root stays alone
root_alone : IsTree NoLinks 0 (Unit {0}) start blank
root_alone = tree_after links no_links_again tree lost reset_again relax_again (λ v. refl) opened_again (λ v. refl) (λ h x. x) (λ to none h x. x)
  where
    none_reached : (v : Vertex) (d : ℕ) → start v ≡ Some d → v ≢ Router 0 → ⊥
    none_reached v d at other = other (only_started v d at).0

    same : (v : Vertex) (d : ℕ) → start v ≡ Some d → (h : NextHop) → blank v h ↔ hops v h
    same (Router zero) d at h = (λ x. x, λ x. x)
    same (Router (suc n)) d at h = absurd cc
    same (Network n) d at h = absurd cc

    opened_again : AreUpdatingNextHops NoLinks 0 start empty blank blank [] []
    opened_again = update_next_hops_opened links no_links_again tree lost reset_again relax_again (λ v. refl) (record { went = λ from to cost label t. inr t }) (record { came = λ from to cost label d t. absurd t })
        (λ v c. c) blank empty same (λ v d at other c. absurd (none_reached v d at other)) (λ v k at. absurd cc)
