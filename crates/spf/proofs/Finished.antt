-- What relaxing and the update of next hops come to.
use Rattle.std.proofs.Common.{◌≡◌, ◌≢◌, ℕ, ◌+◌, ◌-◌, ◌≤◌, List, [], ◌∷◌, false, length, map, Option, refl, sym, ap, subst, ◌∙◌, ◌⊎◌, inl, inr, arith}
use Rattle.std.specs.Prelude.{◌↔◌}
use Rattle.std.specs.FinMap.{get}
use Rattle.std.specs.List.{Contains}
use Rattle.std.specs.List.Sorted.{IsStrictlySortedBy}
use Rattle.ospf_types.specs.declared.entry.Vertex.{Vertex}
use Rattle.ospf_types.specs.declared.entry.Vertex.TheVariants.{Router}
use Rattle.ospf_types.specs.Vertices.{vertex_cmp}
use Rattle.ospf_types.proofs.Elements.{mapped_element, mapped_from}
use Rattle.vertex_graph.specs.GraphLink.{GraphLink}
use Rattle.vertex_graph.specs.Graphs.{GraphValue}
use Rattle.vertex_queue.specs.Maps.{DistanceMap}
use Rattle.vertex_queue.specs.Differing.{IsFarther, IsNearer}
use Rattle.spf.specs.Parts.{AreLost, IsRelaxedTo, AreSettled, hops_of}
use Rattle.spf.specs.TreeValues.{TreeValue, IsTreeOf, IsTreeBefore, IsBegun, Differs, IsVertexChangedBy, AreChanged, IsBounded, IsWorkDone, IsRepairCarriedOut, tree_of}
use Rattle.spf.proofs.Idle.{idle}
use Rattle.spf.proofs.CarriedOut.{tree_after, bounded, work_done, changed_by}

-- The vertices taken in both parts are those moved, and those taken in the third.
counted : (moved near taken : ℕ) → near ≡ moved → near ≤ taken → moved + (taken - near) ≡ taken
counted moved near taken all more = omega arith

-- What relaxing and the update of next hops leave, once a repair is begun.
pub carried_out : {g : GraphValue} {gone come : List GraphLink} {t : TreeValue} (u : TreeValue) {lost stale wider moved written : List Vertex} {near taken hop_sets : ℕ} → IsBegun g gone come t lost stale
    → IsRelaxedTo g come (get t.distances) (get u.distances) lost stale wider moved → AreSettled g (get u.distances) (hops_of t.hops) (hops_of u.hops) lost moved wider written (taken - near)
    → near ≡ length moved → near ≤ taken → hop_sets ≡ length written → u.spent ≡ t.spent → IsRepairCarriedOut g come t u lost stale moved written taken hop_sets
carried_out {g} {gone} {come} {t} u {lost} {stale} {wider} {moved} {written} {near} {taken} {hop_sets} b n s all more wrote kept = record {
  tree = tree_after u b.before b.losses n s (kept ∙ b.before.fresh);
  bounded = λ went d. let is = bounded u d.before d.losses n s in subst (λ k. IsBounded g went come t k hop_sets) total (subst (λ k. IsBounded g went come t (length moved + (taken - near)) k) (sym wrote) is);
  idle = λ d none. let no = idle [] come u d.before d.losses n s refl none in (sym total ∙ no.0, wrote ∙ no.1);
  work = let is = work_done u b.before b.losses n s in subst (λ k. IsWorkDone g t u k hop_sets) total (subst (λ k. IsWorkDone g t u (length moved + (taken - near)) k) (sym wrote) is);
  differ = changed_by u b.before b.losses n s;
}
  where
    total : length moved + (taken - near) ≡ taken
    total = counted (length moved) near taken all more

-- A repair is begun after the vertices that lost their support are found, in the old tree.
pub begun : {g : GraphValue} {gone come : List GraphLink} (i t : TreeValue) {slice : List GraphLink} {lost stale : List Vertex} → i ≡ t → slice ≡ come → IsTreeBefore g gone come t → AreLost g gone come (get i.distances) lost stale → IsBegun g gone slice t lost stale
begun {g} {gone} {come} i t {slice} {lost} {stale} view same before losses =
    subst (λ (links : List GraphLink). IsBegun g gone links t lost stale) (sym same) (record { before = before; losses = subst (λ (w : TreeValue). AreLost g gone come (get w.distances) lost stale) view losses })

-- a vertex with its distance
abbrev pub with_distance : DistanceMap → Vertex → Vertex × Option ℕ
with_distance distances v = (v, get distances v)

-- what was remembered with another distance than it has
farther_is : (remembered : List (Vertex × Option ℕ)) (vertices : List Vertex) (old new : DistanceMap) → remembered ≡ map (with_distance old) vertices → (v : Vertex) → IsFarther remembered new v ↔ (Contains vertices v × (get new v ≢ get old v))
farther_is remembered vertices old new all v = (
  λ far.
      let c = subst (λ (ps : List (Vertex × Option ℕ)). Contains ps (v, far.0)) all far.1 in
      let w = mapped_from (with_distance old) vertices (v, far.0) c in
      let same : w.0 ≡ v = ap (λ (p : Vertex × Option ℕ). p.0) w.2 in
      let at : get old w.0 ≡ far.0 = ap (λ (p : Vertex × Option ℕ). p.1) w.2 in
      (subst (λ u. Contains vertices u) same w.1, λ e. far.2 (e ∙ ap (get old) (sym same) ∙ at)),
  λ c. (get old v, subst (λ (ps : List (Vertex × Option ℕ)). Contains ps (v, get old v)) (sym all) (mapped_element (with_distance old) vertices v c.0), c.1),
)

-- The vertices listed as changed are those that differ.
pub listed : (root : ℕ) (t u : TreeValue) (lost moved written changed : List Vertex) (remembered : List (Vertex × Option ℕ)) → remembered ≡ map (with_distance t.distances) (Router root ∷ lost)
    → ((v : Vertex) → Contains changed v ↔ (IsFarther remembered u.distances v ⊎ (IsNearer moved lost v ⊎ Contains written v)))
    → ((v : Vertex) → IsVertexChangedBy root t u lost moved written v ↔ Differs t u v) → (v : Vertex) → Contains changed v ↔ Differs t u v
listed root t u lost moved written changed remembered all exact differ v =
    let far = farther_is remembered (Router root ∷ lost) t.distances u.distances all v in (
      λ c. (differ v).0 (elim ((exact v).0 c) [ inl f ↦ inl (far.0 f) | inr other ↦ inr other ]),
      λ d. (exact v).1 (elim ((differ v).1 d) [ inl f ↦ inl (far.1 f) | inr other ↦ inr other ]),
    )

-- the tree with the vertices that were listed
abbrev pub with_changed : TreeValue → List Vertex → TreeValue
with_changed u changed = record { distances = u.distances; hops = u.hops; changed = changed; spent = u.spent }

-- is one as before
pub listed_tree : {g : GraphValue} (u : TreeValue) (changed : List Vertex) → IsTreeOf g u → IsTreeOf g (with_changed u changed)
listed_tree u changed is = record { fresh = is.fresh; tree = is.tree }

-- and the work is the same
pub listed_work : {g : GraphValue} {t : TreeValue} (u : TreeValue) (changed : List Vertex) {taken hop_sets : ℕ} → IsWorkDone g t u taken hop_sets → IsWorkDone g t (with_changed u changed) taken hop_sets
listed_work u changed work = record {
  taken_least = work.taken_least;
  taken_twice_most = work.taken_twice_most;
  written = work.written;
  written_apart = work.written_apart;
  written_exact = work.written_exact;
  sets_are = work.sets_are;
}

-- a repair is begun of the distances and the next hops of a tree
pub bare_begun : {g : GraphValue} {gone come : List GraphLink} (t : TreeValue) {lost stale : List Vertex} → IsBegun g gone come t lost stale → IsBegun g gone come (tree_of t.distances t.hops) lost stale
bare_begun t b = record { before = record { fresh = refl; links = b.before.links; tree = b.before.tree; came = b.before.came }; losses = b.losses }

-- what it comes to is what it comes to of the tree
carried_out_of : {g : GraphValue} {come : List GraphLink} (t u : TreeValue) {lost stale moved written : List Vertex} {taken hop_sets : ℕ} → u.spent ≡ false
    → IsRepairCarriedOut g come (tree_of t.distances t.hops) (tree_of u.distances u.hops) lost stale moved written taken hop_sets → IsRepairCarriedOut g come t u lost stale moved written taken hop_sets
carried_out_of t u fresh r = record {
  tree = record { fresh = fresh; tree = r.tree.tree };
  bounded = λ gone b. let is = r.bounded gone (bare_begun t b) in record { taken_most = is.taken_most; sets_most = is.sets_most };
  idle = λ b none. r.idle (bare_begun t b) none;
  work = record {
    taken_least = r.work.taken_least;
    taken_twice_most = r.work.taken_twice_most;
    written = r.work.written;
    written_apart = r.work.written_apart;
    written_exact = r.work.written_exact;
    sets_are = r.work.sets_are;
  };
  differ = r.differ;
}

-- what the tree is seen as, and the added links, given another way
pub carried_out_at : {g : GraphValue} {slice come : List GraphLink} (i t u : TreeValue) {lost stale moved written : List Vertex} {taken hop_sets : ℕ} → i ≡ t → slice ≡ come → u.spent ≡ false
    → IsRepairCarriedOut g slice (tree_of i.distances i.hops) (tree_of u.distances u.hops) lost stale moved written taken hop_sets → IsRepairCarriedOut g come t u lost stale moved written taken hop_sets
carried_out_at {g} {slice} {come} i t u {lost} {stale} {moved} {written} {taken} {hop_sets} view same fresh r =
    subst (λ (links : List GraphLink). IsRepairCarriedOut g links t u lost stale moved written taken hop_sets) same (subst (λ (w : TreeValue). IsRepairCarriedOut g slice w u lost stale moved written taken hop_sets) view (carried_out_of i u fresh r))

-- The list has the vertices that differ, where the root and what was lost were remembered as the
-- tree was.
pub changed_list : (i t u : TreeValue) (root at_root : ℕ) (lost at_lost left moved written changed : List Vertex) (remembered slice : List (Vertex × Option ℕ)) → i ≡ t → at_root ≡ root → at_lost ≡ lost → left ≡ lost → slice ≡ remembered
    → remembered ≡ map (with_distance i.distances) (Router at_root ∷ at_lost) → IsStrictlySortedBy vertex_cmp changed
    → ((v : Vertex) → Contains changed v ↔ (IsFarther slice u.distances v ⊎ (IsNearer moved left v ⊎ Contains written v)))
    → ((v : Vertex) → IsVertexChangedBy root t u lost moved written v ↔ Differs t u v) → AreChanged t (with_changed u changed) changed
changed_list i t u root at_root lost at_lost left moved written changed remembered slice view is_root are_lost still_lost same all in_order exact differ = record {
  in_order = in_order;
  exact = listed root t u lost moved written changed slice (same ∙ all ∙ (λ j. map (with_distance (view j).distances) (Router (is_root j) ∷ are_lost j)))
      (subst (λ (vs : List Vertex). (v : Vertex) → Contains changed v ↔ (IsFarther slice u.distances v ⊎ (IsNearer moved vs v ⊎ Contains written v))) still_lost exact) differ;
}
