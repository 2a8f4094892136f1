-- The graph that rows stand for, and what it is after a change of them.
use Rattle.std.proofs.Common.{◌≡◌, ◌⊎◌, inl, inr, ⊎_elim, ℕ, suc, ◌+◌, Bool, true, false, cond, ◌≤◌, List, [], ◌∷◌, length, map, Option, Some, None, is_some, refl, sym, ap, subst, ◌∙◌, arith}
use Rattle.std.specs.Prelude.{◌↔◌, Contains, IsSome, IsTrue, option_map}
use Rattle.std.specs.FinMap.{find, get, same_map, len, contains_key, from_entries, get-from_entries, len-empty, len-insert}
use Rattle.std.specs.List.{AllByRecursion, IsDistinct}
use Rattle.std.specs.Map.{keys_of}
use Rattle.std.proofs.lemmas.Map.Keys.{IsDistinct-head, IsDistinct-tail}
use Rattle.std.proofs.lemmas.Bool.{false≢true}
use Rattle.ospf_types.proofs.Elements.{no_element, first_element}
use Rattle.ospf_types.specs.declared.entry.Vertex.{Vertex}
use Rattle.ospf_types.specs.declared.entry.Vertex.TheVariants.{Router, Network}
use Rattle.ospf_types.specs.declared.label.Label.{Label}
use Rattle.ospf_types.specs.Distances.{Links}
use Rattle.ospf_types.specs.Vertices.{vertex_cmp}
use Rattle.graph_links.specs.declared.link_end.LinkEnd.{LinkEnd}
use Rattle.graph_links.specs.declared.link.GraphLink.{GraphLink}
use Rattle.graph_links.specs.declared.link.Up.{Up}
use Rattle.graph_links.specs.declared.row.Row.{Row}
use Rattle.vertex_graph.specs.Graphs.{GraphValue, link_of, LinksOf, HasRoot, AreLinksFrom, AreLinksTo, HasEnds, HasFewRouters, AreExact, max_routers}
use Rattle.graph_links.specs.Pairs.{AreApart, Names}
use Rattle.vertex_graph.specs.Rows.{graph_of, AreRows}
use Rattle.graph_links.specs.Sides.{Leading, RowList, row_ends, ends_or, LinksBy, AreOut, AreInto, IsRow, IsFreshRow, AreMissing, AreRowsBy}
use Rattle.graph_links.specs.Sides.{AreRowsChanged}
use Rattle.vertex_graph.specs.Stagings.{AreTouched}
use Rattle.graph_links.proofs.EndOrders.{vertex_total, vertex_exact}
use Rattle.vertex_graph.proofs.PairLinks.{links_by}
use Rattle.vertex_graph.proofs.PairLinks.{pair_of_link}
use Rattle.vertex_graph.proofs.Untouched.{IsAlike, untouched_by_ends, untouched_by_ups}
use Rattle.graph_links.proofs.VertexTests.{is_vertex, found_mapped}

abbrev ends_entries : RowList → List (Vertex × List LinkEnd)
ends_entries = map (λ (p : Vertex × Row). (p.0, p.1.ends.items))

-- the graph leads where its rows do
pub get_graph : (root : ℕ) (rows : RowList) (ups : List Up) (v : Vertex) → get (graph_of root rows ups).ends v ≡ row_ends rows v
get_graph root rows ups v = get-from_entries vertex_total (ends_entries rows) v ∙ found_mapped (λ (row : Row). row.ends.items) rows v

-- a vertex that is none of these is not found
missing : (v : Vertex) (es : List (Vertex × List LinkEnd)) → AllByRecursion (λ k. is_vertex v k ≡ false) (keys_of es) → find vertex_cmp v es ≡ None
missing v [] none = refl
missing v (e ∷ es) none = ap (λ b. cond b (Some e.1) (find vertex_cmp v es)) none.0 ∙ missing v es none.1

-- there are as many vertices as entries, if none occurs twice
len_is : (es : List (Vertex × List LinkEnd)) → IsDistinct is_vertex (keys_of es) → len (from_entries {R = vertex_cmp} es) ≡ length es
len_is [] unique = len-empty vertex_cmp (List LinkEnd)
len_is (e ∷ es) unique =
    let absent : contains_key (from_entries {R = vertex_cmp} es) e.0 ≡ false = ap is_some (get-from_entries vertex_total es e.0 ∙ missing e.0 es (IsDistinct-head is_vertex e.0 (keys_of es) unique)) in
    let rest = len_is es (IsDistinct-tail is_vertex e.0 (keys_of es) unique) in
    len-insert vertex_total (from_entries es) e.0 e.1 ∙ ap (λ b. cond b (len (from_entries {R = vertex_cmp} es)) (len (from_entries {R = vertex_cmp} es) + 1)) absent ∙ ap (λ n. n + 1) rest ∙ omega arith

same_keys : (rows : RowList) → keys_of (ends_entries rows) ≡ keys_of rows
same_keys [] = refl
same_keys (p ∷ rows) = ap (λ (ks : List Vertex). p.0 ∷ ks) (same_keys rows)

same_length : (rows : RowList) → length (ends_entries rows) ≡ length rows
same_length [] = refl
same_length (p ∷ rows) = ap (λ n. suc n) (same_length rows)

pub len_graph : (root : ℕ) (rows : RowList) (ups : List Up) → IsDistinct is_vertex (keys_of rows) → len (graph_of root rows ups).ends ≡ length rows
len_graph root rows ups unique = len_is (ends_entries rows) (subst (λ (ks : List Vertex). IsDistinct is_vertex ks) (sym (same_keys rows)) unique) ∙ same_length rows

-- ---- rows

abbrev AreSame : Links → Links → Type 0
AreSame Here There = (v w : Vertex) (cost : ℕ) (label : Label) → Here v w cost label ↔ There v w cost label

same_alike : (Here There : Links) → AreSame Here There → (v : Vertex) → IsAlike Here There v
same_alike Here There same v = record { out = same v; into = λ w. same w v }

out_alike : (Here There : Links) (v : Vertex) → IsAlike Here There v → (links : List GraphLink) → AreOut Here v links → AreOut There v links
out_alike Here There v alike links are l = (
  λ c. let here = (are l).0 c in (here.0, subst (λ u. There u l.to l.cost l.label) (sym here.0) ((alike.out l.to l.cost l.label).0 (subst (λ u. Here u l.to l.cost l.label) here.0 here.1))),
  λ there. (are l).1 (there.0, subst (λ u. Here u l.to l.cost l.label) (sym there.0) ((alike.out l.to l.cost l.label).1 (subst (λ u. There u l.to l.cost l.label) there.0 there.1))),
)

into_alike : (Here There : Links) (v : Vertex) → IsAlike Here There v → (links : List GraphLink) → AreInto Here v links → AreInto There v links
into_alike Here There v alike links are l = (
  λ c. let here = (are l).0 c in (here.0, subst (λ u. There l.from u l.cost l.label) (sym here.0) ((alike.into l.from l.cost l.label).0 (subst (λ u. Here l.from u l.cost l.label) here.0 here.1))),
  λ there. (are l).1 (there.0, subst (λ u. Here l.from u l.cost l.label) (sym there.0) ((alike.into l.from l.cost l.label).1 (subst (λ u. There l.from u l.cost l.label) there.0 there.1))),
)

row_alike : (Here There : Links) (v : Vertex) → IsAlike Here There v → (row : Row) → IsRow Here v row → IsRow There v row
row_alike Here There v alike row is = record {
  out = out_alike Here There v alike row.out.items is.out;
  into = into_alike Here There v alike row.into.items is.into;
  out_cheap = is.out_cheap;
  into_cheap = is.into_cheap;
  out_once = is.out_once;
  into_once = is.into_once;
}

turned : (Here There : Links) → AreSame Here There → AreSame There Here
turned Here There same v w cost label = ((same v w cost label).1, (same v w cost label).0)

-- what a change leaves of a vertex that it does not touch
abbrev pub IsUntouched : Leading → Leading → Links → Links → List Vertex → Type 0
IsUntouched before after Was Is touched = (v : Vertex) → (Contains touched v → ⊥) → (after v ≡ before v) × IsAlike Was Is v

module _ (root : ℕ) (rows rows_new : RowList) (ups ups_new : List Up) (after : Leading) (touched : List Vertex) where
  abbrev Was : Links
  Was = LinksBy root ups (row_ends rows)

  abbrev Is : Links
  Is = LinksBy root ups_new after

  module _ (untouched : IsUntouched (row_ends rows) after Was Is touched) (changed : AreRowsChanged after Is touched rows rows_new) where
    fresh_leads : (v : Vertex) (o : Option Row) → IsFreshRow after Is v o → option_map (λ (row : Row). row.ends.items) o ≡ after v
    fresh_leads v None is = sym is
    fresh_leads v (Some row) is = sym is.0

    -- the rows lead where they should
    pub leads : (v : Vertex) → row_ends rows_new v ≡ after v
    leads v =
        ⊎_elim (λ (t : Contains touched v × IsFreshRow after Is v (find vertex_cmp v rows_new)). fresh_leads v (find vertex_cmp v rows_new) t.1)
        (λ (u : (Contains touched v → ⊥) × (find vertex_cmp v rows_new ≡ find vertex_cmp v rows)). ap (option_map (λ (row : Row). row.ends.items)) u.1 ∙ sym (untouched v u.0).0) (changed v)

    abbrev Old : GraphValue
    Old = graph_of root rows ups

    abbrev New : GraphValue
    New = graph_of root rows_new ups_new

    pub leads_new : (v : Vertex) → get New.ends v ≡ after v
    leads_new v = get_graph root rows_new ups_new v ∙ leads v

    module _ (old : AreRows root rows ups) (has : HasEnds New) where
      old_same : AreSame (LinksOf Old) Was
      old_same = links_by Old old.ends (row_ends rows) (get_graph root rows ups)

      new_same : AreSame (LinksOf New) Is
      new_same = links_by New has after leads_new

      new_row : (v : Vertex) (row : Row) → find vertex_cmp v rows_new ≡ Some row → IsRow Is v row
      new_row v row at =
          ⊎_elim (λ (t : Contains touched v × IsFreshRow after Is v (find vertex_cmp v rows_new)). (subst (IsFreshRow after Is v) at t.1).1)
          (λ (u : (Contains touched v → ⊥) × (find vertex_cmp v rows_new ≡ find vertex_cmp v rows)).
          row_alike Was Is v (untouched v u.0).1 row (row_alike (LinksOf Old) Was v (same_alike (LinksOf Old) Was old_same v) row (old.right v row (sym u.1 ∙ at))))
          (changed v)

      -- each row has the links of its vertex in the new graph
      pub changed_rows : HasFewRouters New → AreRows root rows_new ups_new
      changed_rows few = record {
        right = λ v row at. row_alike Is (LinksOf New) v (same_alike Is (LinksOf New) (turned (LinksOf New) Is new_same) v) row (new_row v row at);
        few = few;
        ends = has;
      }

      touched_or_not : (v : Vertex) → Contains touched v ⊎ (Contains touched v → ⊥)
      touched_or_not v =
          ⊎_elim (λ (t : Contains touched v × IsFreshRow after Is v (find vertex_cmp v rows_new)). inl t.0)
          (λ (u : (Contains touched v → ⊥) × (find vertex_cmp v rows_new ≡ find vertex_cmp v rows)). inr u.0) (changed v)

      -- the links that are missing of the touched vertices are all that are
      pub changed_exact : (gone came : List GraphLink) → AreMissing touched Was Is gone → AreMissing touched Is Was came → AreApart gone → AreApart came → AreExact Old New gone came
      changed_exact gone came went brought went_once came_once = record {
        went_once = went_once;
        came_once = came_once;
        went = λ l. let old_is = old_same l.from l.to l.cost l.label in let new_is = new_same l.from l.to l.cost l.label in (
          λ c. let h = (went l).0 c in (old_is.1 h.1, λ n. h.2 (new_is.0 n)),
          λ h. ⊎_elim (λ (t : Contains touched l.from). (went l).1 (t, old_is.0 h.0, λ n. h.1 (new_is.1 n)))
              (λ (u : Contains touched l.from → ⊥). absurd (h.1 (new_is.1 (((untouched l.from u).1.out l.to l.cost l.label).0 (old_is.0 h.0))))) (touched_or_not l.from),
        );
        came = λ l. let old_is = old_same l.from l.to l.cost l.label in let new_is = new_same l.from l.to l.cost l.label in (
          λ c. let h = (brought l).0 c in (new_is.1 h.1, λ n. h.2 (old_is.0 n)),
          λ h. ⊎_elim (λ (t : Contains touched l.from). (brought l).1 (t, new_is.0 h.0, λ n. h.1 (old_is.1 n)))
              (λ (u : Contains touched l.from → ⊥). absurd (h.1 (old_is.1 (((untouched l.from u).1.out l.to l.cost l.label).1 (new_is.0 h.0))))) (touched_or_not l.from),
        );
      }

-- the rows that a graph has belong to its links
pub rows_right : (root : ℕ) (rows : RowList) (ups : List Up) → AreRows root rows ups → AreRowsBy root ups rows
rows_right root rows ups old v row at =
    let g = graph_of root rows ups in
    let same : AreSame (LinksOf g) (LinksBy root ups (row_ends rows)) = links_by g old.ends (row_ends rows) (get_graph root rows ups) in
    row_alike (LinksOf g) (LinksBy root ups (row_ends rows)) v (same_alike (LinksOf g) (LinksBy root ups (row_ends rows)) same v) row (old.right v row at)

-- ---- the two kinds of change

pub ends_untouched : (root : ℕ) (rows : RowList) (ups : List Up) (after : Leading) (touched : List Vertex) → AreTouched (row_ends rows) after touched → IsUntouched (row_ends rows) after (LinksBy root ups (row_ends rows)) (LinksBy root ups after) touched
ends_untouched root rows ups after touched are v apart = (are.own v apart, untouched_by_ends root ups (row_ends rows) after touched are v apart)

pub ups_untouched : (root : ℕ) (rows : RowList) (ups ups_new : List Up) (touched : List Vertex) → Contains touched (Router root) → ((v : Vertex) → Names (ends_or (row_ends rows (Router root))) v → Contains touched v)
    → IsUntouched (row_ends rows) (row_ends rows) (LinksBy root ups (row_ends rows)) (LinksBy root ups_new (row_ends rows)) touched
ups_untouched root rows ups ups_new touched own named v apart = (refl, untouched_by_ups root ups ups_new (row_ends rows) touched own named v apart)

-- graphs that lead alike
module _ (g h : GraphValue) (alike : (v : Vertex) → get h.ends v ≡ get g.ends v) where
  pub ends_alike : HasEnds g → HasEnds h
  ends_alike has = record {
    in_order = λ v ends is. has.in_order v ends (sym (alike v) ∙ is);
    listed = λ n ends e is there. has.listed n ends e (sym (alike (Network n)) ∙ is) there;
  }

  pub few_alike : HasFewRouters g → HasFewRouters h
  few_alike few routers apart are = few routers apart (λ r c. subst IsSome (alike (Router r)) (are r c))

  pub map_alike : h.ends ≡ g.ends
  map_alike = same_map vertex_total vertex_exact h.ends g.ends alike

-- ---- what a caller sees

-- the graph with no vertex
pub no_rows : (root : ℕ) → AreRows root [] []
no_rows root =
    let none : (v : Vertex) → get (graph_of root [] []).ends v ≡ None = get_graph root [] [] in
    record {
      right = λ v row at. absurd (none≢some row at);
      few = λ routers apart are. no_routers routers (λ r c. not_there (Router r) none (are r c));
      ends = record {
        in_order = λ v ends is. absurd (none≢some ends (sym (none v) ∙ is));
        listed = λ n ends e is there. absurd (none≢some ends (sym (none (Network n)) ∙ is));
      };
    }
  where
    none≢some : {X : Type 0} (x : X) → None ≡ Some x → ⊥
    none≢some x e = false≢true (ap is_some e)

    not_there : (v : Vertex) → ((v : Vertex) → get (graph_of root [] []).ends v ≡ None) → IsSome (get (graph_of root [] []).ends v) → ⊥
    not_there v none is = false≢true (subst IsSome (none v) is)

    no_routers : (routers : List ℕ) → ((r : ℕ) → Contains routers r → ⊥) → length routers ≤ max_routers
    no_routers [] nobody = omega arith
    no_routers (r ∷ rs) nobody = absurd (nobody r (first_element r rs))

-- the root is there where a row is
pub root_there : (g : GraphValue) (b : Bool) → b ≡ is_some (get g.ends (Router g.root)) → IsTrue b ↔ HasRoot g
root_there g b is = (
  λ t. let found = some_ends (get g.ends (Router g.root)) (sym is ∙ t) in (0, map link_of found.0, (found.0, found.1, refl, refl)),
  λ there. is ∙ ap is_some there.2.1,
)
  where
    some_ends : (o : Option (List LinkEnd)) → is_some o ≡ true → (ends : List LinkEnd) × (o ≡ Some ends)
    some_ends None e = absurd (false≢true e)
    some_ends (Some ends) e = (ends, refl)

-- a vertex that is not there has no links
pub no_links_from : (g : GraphValue) → HasEnds g → (v : Vertex) → get g.ends v ≡ None → AreLinksFrom g v []
no_links_from g has v none l = (
  λ c. absurd (no_element l c),
  λ h. let pair = pair_of_link g has l.from l.to l.cost l.label h.1 in absurd (false≢true (ap is_some (sym none ∙ ap (get g.ends) (sym h.0) ∙ pair.2))),
)

pub no_links_to : (g : GraphValue) → HasEnds g → (v : Vertex) → get g.ends v ≡ None → AreLinksTo g v []
no_links_to g has v none l = (
  λ c. absurd (no_element l c),
  λ h. let pair = pair_of_link g has l.from l.to l.cost l.label h.1 in absurd (false≢true (ap is_some (sym none ∙ ap (get g.ends) (sym h.0) ∙ pair.3))),
)

pub same_some : {X Y : Type 0} (f : X → Y) (o : Option X) → is_some o ≡ is_some (option_map f o)
same_some f None = refl
same_some f (Some x) = refl
