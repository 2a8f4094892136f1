use Rattle.std.proofs.Common.{◌≡◌, ◌≢◌, List, map, sym, subst}
use Rattle.std.specs.List.{AllPairs}
use Rattle.ospf_types.specs.declared.entry.Vertex.{Vertex}
use Rattle.graph_links.specs.declared.row_update.RowUpdate.{RowUpdate}
use Rattle.graph_links.specs.Sides.{AreFresh, AreOfFresh, AreOwn, IsBrought, IsLinkRemoved}
use Rattle.graph_links.proofs.Missing.{own_links, taken_missing, brought_missing, fresh_once}
use Rattle.graph_links.proofs.Placing.{placed_changed}
use Rattle.vertex_graph.specs.Changes.{leading_after, links_after}
use Rattle.vertex_graph.proofs.change.GraphChange.make.Goals as goal

pub changed_links-requires : goal.changed_links-requires
changed_links-requires c =
    let b = c.requires.before in
    let rows = c.args.rows.now.entries in
    let after = leading_after c.args.self.now rows in
    let fresh : List RowUpdate = c.row_updates.new.room.fresh.items in
    subst (AreOwn rows) (sym c.as_slice-2.ensures.value) (own_links b.0 c.args.self.now.local.root b.1 c.args.self.now.local.interfaces.now rows after c.as_slice.result.now fresh b.2 c.in_ok-row_updates.ensures)

pub returns-clause-changed : goal.returns-clause-changed
returns-clause-changed c =
    let after = leading_after c.args.self.now c.args.rows.now.entries in
    let Is = links_after c.args.self.now c.args.rows.now.entries in
    let fresh : List RowUpdate = c.row_updates.new.room.fresh.items in
    placed_changed after Is c.args.self.now.staging.now.touched.items fresh c.args.rows.now.entries c.commit.new.rows.entries
    (subst (λ (vs : List Vertex). AreFresh after Is vs fresh) c.as_slice.ensures.value c.in_ok-row_updates.ensures) c.in_ok-commit.ensures.placed

pub returns-clause-gone : goal.returns-clause-gone
returns-clause-gone c root ups right =
    let rows = c.args.rows.now.entries in
    let after = leading_after c.args.self.now rows in
    let fresh : List RowUpdate = c.row_updates.new.room.fresh.items in
    let Is = links_after c.args.self.now rows in
    let are = subst (λ (vs : List Vertex). AreFresh after Is vs fresh) c.as_slice.ensures.value c.in_ok-row_updates.ensures in
    let gone = c.in_ok-changes.changes.gone.items in
    taken_missing root c.args.self.now.local.root ups c.args.self.now.local.interfaces.now rows after c.args.self.now.staging.now.touched.items fresh right are gone (subst (λ (fs : List RowUpdate). AreOfFresh (IsLinkRemoved rows) fs gone) c.as_slice-2.ensures.value c.in_ok-changes.ensures.gone)

pub returns-clause-came : goal.returns-clause-came
returns-clause-came c root ups right =
    let rows = c.args.rows.now.entries in
    let after = leading_after c.args.self.now rows in
    let fresh : List RowUpdate = c.row_updates.new.room.fresh.items in
    let Is = links_after c.args.self.now rows in
    let are = subst (λ (vs : List Vertex). AreFresh after Is vs fresh) c.as_slice.ensures.value c.in_ok-row_updates.ensures in
    let came = c.in_ok-changes.changes.came.items in
    brought_missing root c.args.self.now.local.root ups c.args.self.now.local.interfaces.now rows after c.args.self.now.staging.now.touched.items fresh right are came (subst (λ (fs : List RowUpdate). AreOfFresh (IsBrought rows) fs came) c.as_slice-2.ensures.value c.in_ok-changes.ensures.came)

-- no vertex is touched twice
touched_once : (touched lent : List Vertex) → lent ≡ touched → AllPairs (λ v w. v ≢ w) touched → AllPairs (λ v w. v ≢ w) lent
touched_once touched lent same once = subst (λ (vs : List Vertex). AllPairs (λ v w. v ≢ w) vs) (sym same) once

-- nor has one two fresh rows
rows_once : (fresh lent : List RowUpdate) → lent ≡ fresh → AllPairs (λ v w. v ≢ w) (map (λ (f : RowUpdate). f.vertex) fresh) → AllPairs (λ v w. v ≢ w) (map (λ (f : RowUpdate). f.vertex) lent)
rows_once fresh lent same once = subst (λ (fs : List RowUpdate). AllPairs (λ v w. v ≢ w) (map (λ (f : RowUpdate). f.vertex) fs)) (sym same) once

pub returns-clause-gone_once : goal.returns-clause-gone_once
returns-clause-gone_once c =
    let b = c.requires.before in
    let rows = c.args.rows.now.entries in
    let after = leading_after c.args.self.now rows in
    let fresh : List RowUpdate = c.row_updates.new.room.fresh.items in
    c.in_ok-changes.ensures.gone_once (rows_once fresh c.as_slice-2.result.now c.as_slice-2.ensures.value
    (fresh_once b.0 c.args.self.now.local.root b.1 c.args.self.now.local.interfaces.now rows after c.as_slice.result.now fresh b.2 c.in_ok-row_updates.ensures (touched_once c.args.self.now.staging.now.touched.items c.as_slice.result.now c.as_slice.ensures.value c.requires.once)))

pub returns-clause-came_once : goal.returns-clause-came_once
returns-clause-came_once c =
    let b = c.requires.before in
    let rows = c.args.rows.now.entries in
    let after = leading_after c.args.self.now rows in
    let fresh : List RowUpdate = c.row_updates.new.room.fresh.items in
    c.in_ok-changes.ensures.came_once (rows_once fresh c.as_slice-2.result.now c.as_slice-2.ensures.value
    (fresh_once b.0 c.args.self.now.local.root b.1 c.args.self.now.local.interfaces.now rows after c.as_slice.result.now fresh b.2 c.in_ok-row_updates.ensures (touched_once c.args.self.now.staging.now.touched.items c.as_slice.result.now c.as_slice.ensures.value c.requires.once)))
