-- The removed and added links of a graph, by the rows before and after.
--   own_links: what the rows have are links out of their vertices
--   taken_missing, brought_missing: the links that were removed and added are those that are only
--     in one graph
--   fresh_once: no vertex has two fresh rows
use Rattle.std.proofs.Common.{◌≡◌, ◌≢◌, ℕ, List, [], map, Option, Some, None, refl, sym, ap, subst}
use Rattle.std.specs.Prelude.{Contains, option_map}
use Rattle.std.specs.FinMap.{find}
use Rattle.std.specs.List.{AllPairs}
use Rattle.std.proofs.lemmas.List.Elements.{All-contains}
use Rattle.ospf_types.specs.declared.entry.Vertex.{Vertex}
use Rattle.ospf_types.specs.Distances.{Links}
use Rattle.ospf_types.specs.Vertices.{vertex_cmp}
use Rattle.ospf_types.proofs.Elements.{no_element, mapped_element, mapped_from}
use Rattle.graph_links.specs.declared.link_end.LinkEnd.{LinkEnd}
use Rattle.graph_links.specs.declared.row_update.RowUpdate.{RowUpdate}
use Rattle.graph_links.specs.declared.link.GraphLink.{GraphLink}
use Rattle.graph_links.specs.declared.link.Up.{Up}
use Rattle.graph_links.specs.declared.row.Row.{Row}
use Rattle.graph_links.specs.Pairs.{AreApart}
use Rattle.graph_links.specs.Sides.{AreFresh, AreMissing, AreOfFresh, AreOut, AreOwn, AreRowsBy, IsBrought, IsFreshRow, IsRow, IsLinkRemoved, Leading, LinksBy, RowList, ends_or, out_of, row_ends}
use Rattle.graph_links.proofs.Apart.{apart_nil}
use Rattle.graph_links.proofs.PairAlike.{pair_names}

-- just the links out of a vertex, without duplicates
abbrev AreAllOut : Links → Vertex → List GraphLink → Type 0
AreAllOut Link_of v links = AreOut Link_of v links × AreApart links

-- a vertex that is not there leads nowhere
none_out : (root : ℕ) (ups : List Up) (leading : Leading) (v : Vertex) → leading v ≡ None → AreAllOut (LinksBy root ups leading) v []
none_out root ups leading v none = (
  λ l. (
    λ c. absurd (no_element l c),
    λ h.
        let link = subst (λ (u : Vertex). LinksBy root ups leading u l.to l.cost l.label) h.0 h.1 in
        let named = pair_names root ups v l.to (ends_or (leading v)) (ends_or (leading l.to)) l.cost l.label link in
        absurd (no_element named.0 (subst (λ (o : Option (List LinkEnd)). Contains (ends_or o) named.0) none named.1)),
  ),
  apart_nil,
)

row_out : (root : ℕ) (ups : List Up) (leading : Leading) (v : Vertex) (o : Option Row) → ((row : Row) → o ≡ Some row → IsRow (LinksBy root ups leading) v row) → (o ≡ None → leading v ≡ None) → AreAllOut (LinksBy root ups leading) v (out_of o)
row_out root ups leading v None some none = none_out root ups leading v (none refl)
row_out root ups leading v (Some row) some none = let is = some row refl in (is.out, is.out_once)

fresh_out : (root : ℕ) (ups : List Up) (leading : Leading) (v : Vertex) (o : Option Row) → IsFreshRow leading (LinksBy root ups leading) v o → AreAllOut (LinksBy root ups leading) v (out_of o)
fresh_out root ups leading v None is = none_out root ups leading v is
fresh_out root ups leading v (Some row) is = (is.1.out, is.1.out_once)

module _ (root root_new : ℕ) (ups ups_new : List Up) (rows : RowList) (after : Leading) (touched : List Vertex) (fresh : List RowUpdate) where
  abbrev Was : Links
  Was = LinksBy root ups (row_ends rows)

  abbrev Is : Links
  Is = LinksBy root_new ups_new after

  module _ (right : AreRowsBy root ups rows) (are : AreFresh after Is touched fresh) where
    before : (v : Vertex) → AreAllOut Was v (out_of (find vertex_cmp v rows))
    before v = row_out root ups (row_ends rows) v (find vertex_cmp v rows) (right v) (λ none. ap (option_map (λ (row : Row). row.ends.items)) none)

    now : (f : RowUpdate) → Contains fresh f → AreAllOut Is f.vertex (out_of f.row)
    now f there = fresh_out root_new ups_new after f.vertex f.row (All-contains (λ (g : RowUpdate). IsFreshRow after Is g.vertex g.row) fresh f are.rows there)

    pub own_links : AreOwn rows fresh
    own_links f there =
        let was = before f.vertex in
        let is = now f there in
        ((was.1, λ l c. ((was.0 l).0 c).0), (is.1, λ l c. ((is.0 l).0 c).0))

    touched_by : (f : RowUpdate) → Contains fresh f → Contains touched f.vertex
    touched_by f there = subst (λ (vs : List Vertex). Contains vs f.vertex) are.each (mapped_element (λ (g : RowUpdate). g.vertex) fresh f there)

    fresh_of : (v : Vertex) → Contains touched v → (f : RowUpdate) × Contains fresh f × (f.vertex ≡ v)
    fresh_of v there = mapped_from (λ (g : RowUpdate). g.vertex) fresh v (subst (λ (vs : List Vertex). Contains vs v) (sym are.each) there)

    pub taken_missing : (gone : List GraphLink) → AreOfFresh (IsLinkRemoved rows) fresh gone → AreMissing touched Was Is gone
    taken_missing gone of l = (
      λ c.
          let h = (of l).0 c in
          let was = ((before h.0.vertex).0 l).0 h.2.0 in
          (subst (Contains touched) (sym was.0) (touched_by h.0 h.1), was.1, λ is. h.2.1 (((now h.0 h.1).0 l).1 (was.0, is))),
      λ h.
          let f = fresh_of l.from h.0 in
          (of l).1 (f.0, f.1, (((before f.0.vertex).0 l).1 (sym f.2, h.1), λ c. h.2 (((now f.0 f.1).0 l).0 c).1)),
    )

    pub brought_missing : (came : List GraphLink) → AreOfFresh (IsBrought rows) fresh came → AreMissing touched Is Was came
    brought_missing came of l = (
      λ c.
          let h = (of l).0 c in
          let is = ((now h.0 h.1).0 l).0 h.2.0 in
          (subst (Contains touched) (sym is.0) (touched_by h.0 h.1), is.1, λ was. h.2.1 (((before h.0.vertex).0 l).1 (is.0, was))),
      λ h.
          let f = fresh_of l.from h.0 in
          (of l).1 (f.0, f.1, (((now f.0 f.1).0 l).1 (sym f.2, h.1), λ c. h.2 (((before f.0.vertex).0 l).0 c).1)),
    )

    pub fresh_once : AllPairs (λ v w. v ≢ w) touched → AllPairs (λ v w. v ≢ w) (map (λ (f : RowUpdate). f.vertex) fresh)
    fresh_once once = subst (λ (vs : List Vertex). AllPairs (λ v w. v ≢ w) vs) (sym are.each) once
