-- The graph after each of the two kinds of change.
use Rattle.std.proofs.Common.{◌≡◌, ℕ, List, [], refl, sym, subst, ◌∙◌}
use Rattle.std.specs.Prelude.{Contains}
use Rattle.std.specs.FinMap.{get}
use Rattle.ospf_types.specs.declared.entry.Vertex.{Vertex}
use Rattle.ospf_types.specs.declared.entry.Vertex.TheVariants.{Router}
use Rattle.graph_links.specs.declared.link.GraphLink.{GraphLink}
use Rattle.graph_links.specs.declared.link.Up.{Up}
use Rattle.vertex_graph.specs.Graphs.{GraphValue, Handed, HasEnds, AreFewAfter, IsReplaced, AreExact}
use Rattle.graph_links.specs.Pairs.{AreApart, Names}
use Rattle.vertex_graph.specs.Rows.{graph_of, AreRows}
use Rattle.graph_links.specs.Sides.{RowList, StagedList, row_ends, ends_after, ends_or, LinksBy, AreMissing, IsInOrder}
use Rattle.graph_links.specs.Sides.{AreRowsChanged}
use Rattle.vertex_graph.specs.Stagings.{IsHandedIn, AreTouched}
use Rattle.vertex_graph.proofs.Changed.{get_graph, IsUntouched, leads_new, changed_rows, changed_exact, ends_untouched, ups_untouched, ends_alike, few_alike, map_alike}
use Rattle.vertex_graph.proofs.HandedIn.{graph_in_order, handed_in_order, handed_ends, handed_few, handed_replaced}

-- a graph's vertices lead to ends in order
pub rows_in_order : (root : ℕ) (rows : RowList) (ups : List Up) → AreRows root rows ups → IsInOrder (row_ends rows)
rows_in_order root rows ups old = graph_in_order (graph_of root rows ups) (row_ends rows) (get_graph root rows ups) old.ends

pub staged_in_order : (root : ℕ) (rows : RowList) (ups : List Up) (staged : StagedList) (handed : List Handed) → AreRows root rows ups → IsHandedIn (row_ends rows) (ends_after rows staged) handed → IsInOrder (ends_after rows staged)
staged_in_order root rows ups staged handed old h = handed_in_order (graph_of root rows ups) (row_ends rows) (ends_after rows staged) handed old.ends (get_graph root rows ups) h

pub unstaged_in_order : (root : ℕ) (rows : RowList) (ups : List Up) (staged : StagedList) → AreRows root rows ups → staged ≡ [] → IsInOrder (ends_after rows staged)
unstaged_in_order root rows ups staged old none = subst (λ (s : StagedList). IsInOrder (ends_after rows s)) (sym none) (rows_in_order root rows ups old)

-- ---- other interfaces

module _ (root : ℕ) (rows rows_new : RowList) (ups ups_new was is : List Up) (staged : StagedList) (touched : List Vertex) (old : AreRows root rows ups) (was_are : was ≡ ups) (is_are : is ≡ ups_new) (none : staged ≡ [])
    (own : Contains touched (Router root)) (named : (v : Vertex) → Names (ends_or (row_ends rows (Router root))) v → Contains touched v) (changed : AreRowsChanged (ends_after rows staged) (LinksBy root is (ends_after rows staged)) touched rows rows_new) where
  abbrev Old : GraphValue
  Old = graph_of root rows ups

  abbrev New : GraphValue
  New = graph_of root rows_new ups_new

  ups_stay : IsUntouched (row_ends rows) (row_ends rows) (LinksBy root ups (row_ends rows)) (LinksBy root ups_new (row_ends rows)) touched
  ups_stay = ups_untouched root rows ups ups_new touched own named

  ups_change : AreRowsChanged (row_ends rows) (LinksBy root ups_new (row_ends rows)) touched rows rows_new
  ups_change = subst (λ (t : StagedList × List Up). AreRowsChanged (ends_after rows t.0) (LinksBy root t.1 (ends_after rows t.0)) touched rows rows_new) (λ i. (none i, is_are i)) changed

  ups_lead : (v : Vertex) → get New.ends v ≡ get Old.ends v
  ups_lead v = leads_new root rows rows_new ups ups_new (row_ends rows) touched ups_stay ups_change v ∙ sym (get_graph root rows ups v)

  ups_ends : HasEnds New
  ups_ends = ends_alike Old New ups_lead old.ends

  pub ups_rows : AreRows root rows_new ups_new
  ups_rows = changed_rows root rows rows_new ups ups_new (row_ends rows) touched ups_stay ups_change old ups_ends (few_alike Old New ups_lead old.few)

  pub ups_map : New.ends ≡ Old.ends
  ups_map = map_alike Old New ups_lead

  pub ups_exact : (gone came : List GraphLink) → AreMissing touched (LinksBy root was (row_ends rows)) (LinksBy root is (ends_after rows staged)) gone
      → AreMissing touched (LinksBy root is (ends_after rows staged)) (LinksBy root was (row_ends rows)) came → AreApart gone → AreApart came → AreExact Old New gone came
  ups_exact gone came went brought went_once came_once =
      let Both : StagedList × (List Up × List Up) → Type 0 = λ t.
      AreMissing touched (LinksBy root t.1.0 (row_ends rows)) (LinksBy root t.1.1 (ends_after rows t.0)) gone × AreMissing touched (LinksBy root t.1.1 (ends_after rows t.0)) (LinksBy root t.1.0 (row_ends rows)) came in
      let both : Both ([], (ups, ups_new)) = subst Both (λ i. (none i, (was_are i, is_are i))) (went, brought) in
      changed_exact root rows rows_new ups ups_new (row_ends rows) touched ups_stay ups_change old ups_ends gone came both.0 both.1 went_once came_once

-- ---- other LSAs

module _ (root : ℕ) (rows rows_new : RowList) (ups was : List Up) (staged : StagedList) (touched : List Vertex) (handed : List Handed) (old : AreRows root rows ups) (was_are : was ≡ ups)
    (h : IsHandedIn (row_ends rows) (ends_after rows staged) handed) (touches : AreTouched (row_ends rows) (ends_after rows staged) touched) (changed : AreRowsChanged (ends_after rows staged) (LinksBy root was (ends_after rows staged)) touched rows rows_new)
    (few : AreFewAfter (graph_of root rows ups) handed) where
  abbrev Before : GraphValue
  Before = graph_of root rows ups

  abbrev After : GraphValue
  After = graph_of root rows_new ups

  ends_stay : IsUntouched (row_ends rows) (ends_after rows staged) (LinksBy root ups (row_ends rows)) (LinksBy root ups (ends_after rows staged)) touched
  ends_stay = ends_untouched root rows ups (ends_after rows staged) touched touches

  ends_change : AreRowsChanged (ends_after rows staged) (LinksBy root ups (ends_after rows staged)) touched rows rows_new
  ends_change = subst (λ (us : List Up). AreRowsChanged (ends_after rows staged) (LinksBy root us (ends_after rows staged)) touched rows rows_new) was_are changed

  ends_lead : (v : Vertex) → get After.ends v ≡ ends_after rows staged v
  ends_lead = leads_new root rows rows_new ups ups (ends_after rows staged) touched ends_stay ends_change

  ends_are : HasEnds After
  ends_are = handed_ends Before (row_ends rows) (ends_after rows staged) handed old.ends (get_graph root rows ups) h After ends_lead

  pub ends_rows : AreRows root rows_new ups
  ends_rows =
      changed_rows root rows rows_new ups ups (ends_after rows staged) touched ends_stay ends_change old ends_are
      (handed_few Before (row_ends rows) (ends_after rows staged) handed old.ends (get_graph root rows ups) h After ends_lead few)

  pub ends_replaced : IsReplaced Before After handed
  ends_replaced = handed_replaced Before (row_ends rows) (ends_after rows staged) handed old.ends (get_graph root rows ups) h After ends_lead refl refl

  pub ends_exact : (gone came : List GraphLink) → AreMissing touched (LinksBy root was (row_ends rows)) (LinksBy root was (ends_after rows staged)) gone
      → AreMissing touched (LinksBy root was (ends_after rows staged)) (LinksBy root was (row_ends rows)) came → AreApart gone → AreApart came → AreExact Before After gone came
  ends_exact gone came went brought went_once came_once =
      let Both : List Up → Type 0 = λ us.
      AreMissing touched (LinksBy root us (row_ends rows)) (LinksBy root us (ends_after rows staged)) gone × AreMissing touched (LinksBy root us (ends_after rows staged)) (LinksBy root us (row_ends rows)) came in
      let both : Both ups = subst Both was_are (went, brought) in
      changed_exact root rows rows_new ups ups (ends_after rows staged) touched ends_stay ends_change old ends_are gone came both.0 both.1 went_once came_once
