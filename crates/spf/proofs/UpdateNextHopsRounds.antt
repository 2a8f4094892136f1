-- The update of next hops as a whole: how it starts, what each round keeps, and what it leaves.
use Rattle.std.proofs.Common.{◌≡◌, ◌≢◌, ℕ, ◌+◌, ◌-◌, ◌≤◌, List, [], ◌∷◌, ◌++◌, length, true, false, cond, Option, Some, None, refl, sym, ap, subst, ◌∙◌, ◌⊎◌, inl, inr, arith, length-append, append_assoc, append-nil}
use Rattle.std.specs.Prelude.{◌↔◌}
use Rattle.std.specs.Ordering.{eq_by_cmp}
use Rattle.std.specs.FinMap.{get, empty, remove, len, find, entries, get-entries, get-empty, len-entries}
use Rattle.std.specs.List.{Contains}
use Rattle.std.specs.Map.{keys_of}
use Rattle.std.proofs.lemmas.List.Elements.{Contains-append_left, Contains-append_right, Contains-append_cases, Contains-push, Contains-push_cases}
use Rattle.std.proofs.lemmas.Map.Entries.{length-keys_of}
use Rattle.std.proofs.lemmas.Map.Views.{tells_apart}
use Rattle.ospf_types.specs.declared.entry.Vertex.{Vertex}
use Rattle.ospf_types.specs.declared.entry.Vertex.TheVariants.{Router, Network}
use Rattle.ospf_types.specs.declared.hop.NextHop.{NextHop}
use Rattle.ospf_types.specs.Vertices.{vertex_cmp}
use Rattle.ospf_types.proofs.Elements.{no_element, first_element, later_element}
use Rattle.vertex_graph.specs.Graphs.{GraphValue, LinksOf, graph_view}
use Rattle.vertex_queue.specs.Queues.{Queue, IsFirstWaiting}
use Rattle.vertex_queue.specs.Queues as queue
use Rattle.vertex_queue.proofs.Ranks.{first_has_least_rank}
use Rattle.ospf_types.proofs.VertexOrder.{vertex_exact}
use Rattle.vertex_queue.specs.VertexSet.{HasNoDoubles}
use Rattle.vertex_queue.specs.Maps.{DistanceMap, HopMap}
use Rattle.vertex_queue.proofs.Counting.{no_longer, no_doubles_nil, no_doubles_push}
use Rattle.vertex_queue.proofs.Elements.{cases_contains, added_end, cases_vertex}
use Rattle.vertex_queue.proofs.VertexMaps.{gone_here, gone_elsewhere}
use Rattle.spf.specs.HandedOn.{IsOfSome, ArePut, IsReachedAt, IsLeastHead, AreBlanked, IsSettled, IsAmidst}
use Rattle.spf.specs.Loops.{IsUpdated}
use Rattle.spf.specs.Parts.{hops_of, AreUnsettled, IsTakenBy, AreSettled}
use Rattle.spf.specs.Repairs.{IsQueued}
use Rattle.spf.specs.Trees.{IsGiven, rank}
use Rattle.spf.proofs.AreaLinks.{area_links}
use Rattle.spf.proofs.UpdateNextHopsLoop.{update_next_hops_start, update_next_hops_taken, update_next_hops_end}
use Rattle.spf.proofs.QueuePuts.{put_both}
use Rattle.spf.proofs.Settling.{given_more}

-- ---- how many vertices are taken at most

-- what is found is among the vertices
key_of : (es : List (Vertex × ℕ)) (v : Vertex) (d : ℕ) → find vertex_cmp v es ≡ Some d → Contains (keys_of es) v
key_of [] v d found = absurd cc
key_of (e ∷ es) v d found =
    elim (eq_by_cmp vertex_cmp v e.0) as (λ b. eq_by_cmp vertex_cmp v e.0 ≡ b → cond b (Some e.1) (find vertex_cmp v es) ≡ Some d → Contains (e.0 ∷ keys_of es) v) [
      | true ↦ λ tied here. subst (λ (u : Vertex). Contains (e.0 ∷ keys_of es) u) (sym (tells_apart vertex_exact v e.0 tied)) (first_element e.0 (keys_of es))
      | false ↦ λ apart rest. later_element e.0 v (keys_of es) (key_of es v d rest)
    ] refl found

-- no more different vertices than have a distance
pub few_reached : (m : DistanceMap) (vs : List Vertex) → HasNoDoubles vs → ((v : Vertex) → Contains vs v → (d : ℕ) × (get m v ≡ Some d)) → length vs ≤ len m
few_reached m vs apart reached = omega (
  arith,
  no_longer vs (keys_of (entries m)) apart (λ v c. let at = reached v c in key_of (entries m) v at.0 (sym (get-entries m v) ∙ at.1)),
  length-keys_of (entries m),
  len-entries m,
)

-- ---- what is queued

-- both ranks are one
same_rank : (v : Vertex) (d : ℕ) → queue.rank v d ≡ rank v d
same_rank (Router r) d = refl
same_rank (Network n) d = refl

least_of : (q : Queue) (v w : Vertex) (k e : ℕ) → IsFirstWaiting q v k → get q w ≡ Some e → rank v k ≤ rank w e
least_of q v w k e first at = omega (arith, first_has_least_rank q v w k e first at, same_rank v k, same_rank w e)

-- what waits once the first was taken waited before, and is another
module _ (q : Queue) (v : Vertex) where
  taken_out : (w : Vertex) (e : ℕ) → get (remove q v) w ≡ Some e → (w ≢ v) × (get q w ≡ Some e)
  taken_out w e at = elim (cases_vertex w v) [
    | inl same ↦ let differ : None ≡ Some e = sym (gone_here q v) ∙ ap (get (remove q v)) (sym same) ∙ at in absurd cc
    | inr other ↦ (other, sym (gone_elsewhere q v w other) ∙ at)
  ]

  still_waits : (w : Vertex) → w ≢ v → IsQueued (get q) w → IsQueued (get (remove q v)) w
  still_waits w other waits = (waits.0, gone_elsewhere q v w other ∙ waits.1)

-- why a vertex is taken does not change where more is written
taken_wider : (g : GraphValue) (moved stale written wider : List Vertex) (v : Vertex) → ((w : Vertex) → Contains written w → Contains wider w) → IsTakenBy g moved stale written v → IsTakenBy g moved stale wider v
taken_wider g moved stale written wider v widens (inl m) = inl m
taken_wider g moved stale written wider v widens (inr (inl s)) = inr (inl s)
taken_wider g moved stale written wider v widens (inr (inr w)) = inr (inr (w.0, w.1, w.2, w.3, widens w.0 w.4))

-- vertices and root under other names
pub put_named : (distance : Vertex → Option ℕ) (root other : ℕ) (xs ys : List Vertex) (before after : Vertex → Option ℕ) → root ≡ other → xs ≡ ys → ArePut distance (IsOfSome xs (IsReachedAt root distance)) before after → ArePut distance (IsOfSome ys (IsReachedAt other distance)) before after
put_named distance root other xs ys before after same_root same p =
    subst (λ (r : ℕ). ArePut distance (IsOfSome ys (IsReachedAt r distance)) before after) same_root (subst (λ (vs : List Vertex). ArePut distance (IsOfSome vs (IsReachedAt root distance)) before after) same p)

-- ---- the start

module _ {g : GraphValue} {distance : Vertex → Option ℕ} {old mid : HopMap} {lost moved stale blanked : List Vertex}
    (u : AreUnsettled g distance (hops_of old) lost moved stale) (b : AreBlanked distance lost old mid blanked) where
  -- what is reached keeps its next hops
  kept_reached : (w : Vertex) (d : ℕ) → distance w ≡ Some d → (h : NextHop) → hops_of mid w h ↔ hops_of old w h
  kept_reached w d at h =
      let is : get mid w ≡ get old w = b.kept w (λ c. let differ : Some d ≡ None = sym at ∙ ((b.exact w).0 c).1 in absurd cc) in
      (λ x. (x.0, sym is ∙ x.1, x.2), λ x. (x.0, is ∙ x.1, x.2))

  -- and so does what its least links give it
  kept_given : (w : Vertex) (h : NextHop) → IsGiven (LinksOf g) g.root distance (hops_of old) w h ↔ IsGiven (LinksOf g) g.root distance (hops_of mid) w h
  kept_given w h = (
    given_more (LinksOf g) (LinksOf g) g.root distance distance (hops_of old) (hops_of mid) w h (λ from cost label least. least) (λ from cost label least other x. (kept_reached from least.near least.tail x).1),
    given_more (LinksOf g) (LinksOf g) g.root distance distance (hops_of mid) (hops_of old) w h (λ from cost label least. least) (λ from cost label least other x. (kept_reached from least.near least.tail x).0),
  )

  -- a vertex has no next hops that it did not have
  had_before : (v : Vertex) (h : NextHop) → hops_of mid v h → hops_of old v h
  had_before v h x = elim (cases_contains blanked v) [
    | inl c ↦ let differ : Some x.0 ≡ None = sym x.1 ∙ b.blank v c in absurd cc
    | inr none ↦ (x.0, sym (b.kept v none) ∙ x.1, x.2)
  ]

  -- the root has none, and neither has what is not reached
  blank_root : (h : NextHop) → hops_of mid (Router g.root) h → ⊥
  blank_root h x = u.root h (had_before (Router g.root) h x)

  blank_unreached : (v : Vertex) → distance v ≡ None → (h : NextHop) → hops_of mid v h → ⊥
  blank_unreached v none h x =
      let written : Contains blanked v = (b.exact v).1 (u.blank v h none (had_before v h x), none) in
      let differ : Some x.0 ≡ None = sym x.1 ∙ b.blank v written in
      cc

  -- what moved or is stale is put into the queue
  abbrev pub Due : Vertex → Type 0
  Due v = IsOfSome moved (IsReachedAt g.root distance) v ⊎ IsOfSome stale (IsReachedAt g.root distance) v

  -- that is not the root, and is due to be taken
  due_reached : (v : Vertex) → Due v → v ≢ Router g.root
  due_reached v (inl w) = w.2.1.other
  due_reached v (inr w) = w.2.1.other

  why_due : (v : Vertex) (written : List Vertex) → Due v → IsTakenBy g moved stale written v
  why_due v written (inl w) = inl (subst (λ (x : Vertex). Contains moved x) (sym w.2.0) w.1)
  why_due v written (inr w) = inr (inl (subst (λ (x : Vertex). Contains stale x) (sym w.2.0) w.1))

  -- Nothing is taken, and what moved or is stale waits.
  pub amidst_start : (before between waiting : Queue) (start sets : ℕ) → before ≡ empty → sets ≡ length blanked
      → ArePut distance (IsOfSome moved (IsReachedAt g.root distance)) (get before) (get between) → ArePut distance (IsOfSome stale (IsReachedAt g.root distance)) (get between) (get waiting)
      → IsAmidst g distance (hops_of mid) (hops_of mid) waiting blanked moved stale blanked start start sets
  amidst_start before between waiting start sets none counted first second = record {
    taken = [];
    set = [];
    updating = update_next_hops_start distance (get waiting) (hops_of mid) (record {
      right = λ to d at other. elim (u.right to d at other) [
        | inl (inl m) ↦ inl (put.all to (inl (to, m, (refl, record { number = d; at = at; other = other }))))
        | inl (inr s) ↦ inl (put.all to (inr (to, s, (refl, record { number = d; at = at; other = other }))))
        | inr same ↦ inr (λ h.
            let here = kept_reached to d at h in
            let given = kept_given to h in
            (λ x. given.0 ((same h).0 (here.0 x)), λ y. here.1 ((same h).1 (given.1 y))))
      ];
    }) (λ v k at. let due = only v k at in (due.1, due_reached v due.0));
    whole = sym (append-nil blanked);
    unreached = λ v c. ((b.exact v).0 c).1;
    apart = no_doubles_nil;
    written_apart = b.apart;
    count = omega arith;
    counted = counted;
    moved_taken = λ v r m. inr (put.all v (inl (v, m, (refl, r))));
    why_taken = λ v c. absurd (no_element v c);
    why_queued = λ v k at. why_due v blanked (only v k at).0;
  }
    where
      put : ArePut distance Due (get before) (get waiting)
      put = put_both distance (get before) (get between) (get waiting) (IsOfSome moved (IsReachedAt g.root distance)) (IsOfSome stale (IsReachedAt g.root distance)) first second

      only : (v : Vertex) (k : ℕ) → get waiting v ≡ Some k → Due v × (distance v ≡ Some k)
      only v k at = elim (put.only v k at) [
        | inl was ↦ let differ : None ≡ Some k = sym (get-empty {X = ℕ} vertex_cmp v) ∙ ap (λ (q : Queue). get q v) (sym none) ∙ was in absurd cc
        | inr due ↦ due
      ]

-- ---- a round

module _ {g : GraphValue} {distance : Vertex → Option ℕ} {begun now : Vertex → NextHop → Type 0} {waiting : Queue} {blanked moved stale written : List Vertex} {start number sets : ℕ}
    (a : IsAmidst g distance begun now waiting blanked moved stale written start number sets) where
  -- what was taken is reached
  taken_reached : (v : Vertex) → Contains a.taken v → (d : ℕ) × (distance v ≡ Some d)
  taken_reached v c = let r = a.updating.reached v c in (r.number, r.at)

  module _ (v : Vertex) (k : ℕ) (waits : get waiting v ≡ Some k) where
    -- a vertex that waits was not taken
    not_taken : Contains a.taken v → ⊥
    not_taken c = a.updating.apart v k c waits

    -- and not written
    pub not_written_yet : Contains written v → ⊥
    not_written_yet c = elim (Contains-append_cases blanked a.set v (subst (λ (vs : List Vertex). Contains vs v) a.whole c)) [
      | inl blank ↦ let differ : Some k ≡ None = sym (a.updating.queued v k waits).0 ∙ a.unreached v blank in cc
      | inr set ↦ not_taken (a.updating.within v set)
    ]

    -- with it, what was taken is reached, and nothing twice
    more_reached : (w : Vertex) → Contains (a.taken ++ v ∷ []) w → (d : ℕ) × (distance w ≡ Some d)
    more_reached w c = elim (Contains-push_cases a.taken v w c) [
      | inl was ↦ taken_reached w was
      | inr same ↦ (k, ap distance (sym same) ∙ (a.updating.queued v k waits).0)
    ]

    more_apart : HasNoDoubles (a.taken ++ v ∷ [])
    more_apart = no_doubles_push a.taken v a.apart not_taken

  module _ {more : Queue} {new : Vertex → NextHop → Type 0} {wider : List Vertex} (v : Vertex) (k : ℕ) (first : IsFirstWaiting waiting v k) (between : Queue) (out : between ≡ remove waiting v)
      (s : IsSettled (LinksOf g) g.root distance between more now new written wider v) where
    -- what waits between
    between_waits : (w : Vertex) (e : ℕ) → get between w ≡ Some e → (w ≢ v) × (get waiting w ≡ Some e)
    between_waits w e at = taken_out waiting v w e (ap (λ (q : Queue). get q w) (sym out) ∙ at)

    waits_between : (w : Vertex) → w ≢ v → IsQueued (get waiting) w → IsQueued (get between) w
    waits_between w other waits = let still = still_waits waiting v w other waits in (still.0, ap (λ (q : Queue). get q w) out ∙ still.1)

    -- the set is written
    updated_written : (((h : NextHop) → new v h ↔ now v h) → ⊥) → ArePut distance (IsLeastHead (LinksOf g) g.root distance v) (get between) (get more)
        → IsUpdated (LinksOf g) g.root distance (get waiting) (get more) now new a.set (a.set ++ v ∷ []) v k
    updated_written other put = record {
      waits = first.waits;
      least = λ w e at. least_of waiting v w k e first at;
      union = s.union;
      elsewhere = s.elsewhere;
      keeps = λ w apart waits. put.keeps w (waits_between w apart waits);
      put = λ w e at. elim (put.only w e at) [
        | inl was ↦ inl (between_waits w e was)
        | inr due ↦ inr (record { cost = due.0.0.0; label = due.0.0.1; least = due.0.0.2; other = due.0.1; at = due.1 }, Contains-push a.set v)
      ];
      heads = inl (Contains-push a.set v, λ to cost label apart least. put.all to ((cost, label, least), apart));
      widens = λ w c. Contains-append_left a.set (v ∷ []) w c;
      writes = λ w c. elim (Contains-push_cases a.set v w c) [ inl was ↦ inl was | inr same ↦ inr (sym same, other) ];
    }

    -- or it stays
    updated_same : ((h : NextHop) → new v h ↔ now v h) → more ≡ between → IsUpdated (LinksOf g) g.root distance (get waiting) (get more) now new a.set a.set v k
    updated_same same stays = record {
      waits = first.waits;
      least = λ w e at. least_of waiting v w k e first at;
      union = s.union;
      elsewhere = s.elsewhere;
      keeps = λ w apart waits. let still = waits_between w apart waits in (still.0, ap (λ (q : Queue). get q w) stays ∙ still.1);
      put = λ w e at. inl (between_waits w e (ap (λ (q : Queue). get q w) (sym stays) ∙ at));
      heads = inr same;
      widens = λ w c. c;
      writes = λ w c. inl c;
    }

    -- either way the round keeps what holds
    round_with : (set : List Vertex) (taken_now written_now : ℕ) → IsUpdated (LinksOf g) g.root distance (get waiting) (get more) now new a.set set v k → wider ≡ blanked ++ set → HasNoDoubles wider → taken_now ≡ number + 1 → written_now ≡ length wider
        → IsAmidst g distance begun new more blanked moved stale wider start taken_now written_now
    round_with set taken_now written_now t whole apart count counted = record {
      taken = a.taken ++ v ∷ [];
      set = set;
      updating = update_next_hops_taken a.updating (area_links (graph_view g)) (get more) new (a.taken ++ v ∷ []) set v k t (added_end v a.taken);
      whole = whole;
      unreached = a.unreached;
      apart = more_apart v k first.waits;
      written_apart = apart;
      count = omega (arith, count, a.count, length-append a.taken (v ∷ []));
      counted = counted;
      moved_taken = λ w r m. elim (a.moved_taken w r m) [
        | inl was ↦ inl (Contains-append_left a.taken (v ∷ []) w was)
        | inr waits ↦ elim (cases_vertex w v) [ inl same ↦ inl (subst (λ (u : Vertex). Contains (a.taken ++ v ∷ []) u) (sym same) (Contains-push a.taken v)) | inr other ↦ inr (t.keeps w other waits) ]
      ];
      why_taken = λ w c. elim (Contains-push_cases a.taken v w c) [
        | inl was ↦ taken_wider g moved stale written wider w widens (a.why_taken w was)
        | inr same ↦ subst (λ (u : Vertex). IsTakenBy g moved stale wider u) same (taken_wider g moved stale written wider v widens (a.why_queued v k first.waits))
      ];
      why_queued = λ w e at. elim (t.put w e at) [
        | inl was ↦ taken_wider g moved stale written wider w widens (a.why_queued w e was.1)
        | inr again ↦ inr (inr (v, again.0.cost, again.0.label, again.0.least.taken, in_wider v again.1))
      ];
    }
      where
        in_wider : (w : Vertex) → Contains set w → Contains wider w
        in_wider w c = subst (λ (vs : List Vertex). Contains vs w) (sym whole) (Contains-append_right blanked set w c)

        widens : (w : Vertex) → Contains written w → Contains wider w
        widens w c = elim (Contains-append_cases blanked a.set w (subst (λ (vs : List Vertex). Contains vs w) a.whole c)) [
          | inl blank ↦ subst (λ (vs : List Vertex). Contains vs w) (sym whole) (Contains-append_left blanked set w blank)
          | inr was ↦ in_wider w (t.widens w was)
        ]

    -- Each round keeps what holds.
    pub amidst_round : (taken_now written_now : ℕ) → taken_now ≡ number + 1 → written_now ≡ length wider → IsAmidst g distance begun new more blanked moved stale wider start taken_now written_now
    amidst_round taken_now written_now count counted = elim s.outcome [
      | inl w ↦ round_with (a.set ++ v ∷ []) taken_now written_now (updated_written w.1 w.2) (w.0 ∙ ap (λ (vs : List Vertex). vs ++ v ∷ []) a.whole ∙ append_assoc blanked a.set (v ∷ []))
          (subst HasNoDoubles (sym w.0) (no_doubles_push written v a.written_apart (not_written_yet v k first.waits))) count counted
      | inr w ↦ round_with a.set taken_now written_now (updated_same w.1 w.2) (w.0 ∙ a.whole) (subst HasNoDoubles (sym w.0) a.written_apart) count counted
    ]

-- ---- how long it goes on

module _ {g : GraphValue} (m : DistanceMap) {begun now : Vertex → NextHop → Type 0} {waiting : Queue} {blanked moved stale written : List Vertex} {start number sets : ℕ}
    (a : IsAmidst g (get m) begun now waiting blanked moved stale written start number sets) where
  -- no more is taken than is reached
  pub taken_few : number ≤ start + len m
  taken_few = omega (arith, a.count, few_reached m a.taken a.apart (taken_reached a))

  -- while a vertex waits, less
  pub taken_fewer : (v : Vertex) (k : ℕ) → get waiting v ≡ Some k → number + 1 ≤ start + len m
  taken_fewer v k waits = omega (arith, a.count, few_reached m (a.taken ++ v ∷ []) (more_apart a v k waits) (more_reached a v k waits), length-append a.taken (v ∷ []))

-- ---- the end

module _ {g : GraphValue} {distance : Vertex → Option ℕ} {old mid : HopMap} {now : Vertex → NextHop → Type 0} {waiting : Queue} {lost moved stale blanked written : List Vertex} {start number sets : ℕ}
    (u : AreUnsettled g distance (hops_of old) lost moved stale) (b : AreBlanked distance lost old mid blanked) (a : IsAmidst g distance (hops_of mid) now waiting blanked moved stale written start number sets) where
  -- what is written was blanked at the start, or was written since
  blank_or_set : (v : Vertex) → Contains written v → Contains blanked v ⊎ Contains a.set v
  blank_or_set v c = Contains-append_cases blanked a.set v (subst (λ (vs : List Vertex). Contains vs v) a.whole c)

  blank_written : (v : Vertex) → Contains blanked v → Contains written v
  blank_written v c = subst (λ (vs : List Vertex). Contains vs v) (sym a.whole) (Contains-append_left blanked a.set v c)

  set_written : (v : Vertex) → Contains a.set v → Contains written v
  set_written v c = subst (λ (vs : List Vertex). Contains vs v) (sym a.whole) (Contains-append_right blanked a.set v c)

  -- With nothing left waiting, the tree belongs to the links.
  pub amidst_end : waiting ≡ empty → AreSettled g distance (hops_of old) now lost moved stale written (number - start)
  amidst_end none = record {
    tree = update_next_hops_end a.updating (area_links (graph_view g)) u.distances (λ v. ap (λ (q : Queue). get q v) none ∙ get-empty {X = ℕ} vertex_cmp v) (blank_root u b) (blank_unreached u b);
    taken = a.taken;
    count = omega (arith, a.count);
    taken_apart = a.apart;
    why = a.why_taken;
    taken_reached = a.updating.reached;
    moved_taken = λ v r m. elim (a.moved_taken v r m) [
      | inl c ↦ c
      | inr waits ↦ let differ : None ≡ Some waits.0 = sym (get-empty {X = ℕ} vertex_cmp v) ∙ ap (λ (q : Queue). get q v) (sym none) ∙ waits.1 in absurd cc
    ];
    written_apart = a.written_apart;
    written_for = λ v c. elim (blank_or_set v c) [
      | inl blank ↦ inl ((b.exact v).0 blank)
      | inr set ↦
          let in_taken = a.updating.within v set in
          let at = a.updating.reached v in_taken in
          inr (
            in_taken,
            λ same. a.updating.changed v set (λ h.
                let kept = kept_reached u b v at.number at.at h in
                (λ x. kept.1 ((same h).0 x), λ y. (same h).1 (kept.0 y))),
          )
    ];
    lost_written = λ v c unreached. blank_written v ((b.exact v).1 (c, unreached));
    unwritten = λ v not_in h.
        let here = a.updating.unwritten v (λ c. not_in (set_written v c)) h in
        let is : get mid v ≡ get old v = b.kept v (λ c. not_in (blank_written v c)) in
        (λ x. let y = here.0 x in (y.0, sym is ∙ y.1, y.2), λ y. here.1 (y.0, is ∙ y.1, y.2));
  }
