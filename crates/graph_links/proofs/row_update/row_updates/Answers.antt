use Rattle.std.proofs.Common.{◌≡◌, sym, subst, ◌∙◌}
use Rattle.ospf_types.specs.declared.entry.Vertex.{Vertex}
use Rattle.ospf_types.specs.Distances.{Links}
use Rattle.graph_links.specs.declared.row_update.RowUpdate.{RowUpdate}
use Rattle.graph_links.specs.Sides.{Leading, ends_in, IsFreshRow, LinksIn}
use Rattle.graph_links.proofs.Placing.{fresh_none, fresh_more, fresh_all}
use Rattle.graph_links.proofs.row_update.row_updates.Goals as goal

pub loop-vertex-init : goal.loop-vertex-init
loop-vertex-init c = fresh_none (ends_in c.args.side) (LinksIn c.args.side) c.clear.new.self.items c.clear.ensures.items

-- the row of a vertex that goes by another name
own_row : (leading : Leading) (Link_of : Links) (f : RowUpdate) (v : Vertex) → f.vertex ≡ v → IsFreshRow leading Link_of v f.row → IsFreshRow leading Link_of f.vertex f.row
own_row leading Link_of f v same row = subst (λ (w : Vertex). IsFreshRow leading Link_of w f.row) (sym same) row

pub loop-vertex-preserved : goal.loop-vertex-preserved
loop-vertex-preserved c =
    fresh_more (ends_in c.args.side) (LinksIn c.args.side) c.args.vertices.now c.loop-vertex.vertex-index c.vertex-item.result c.loop-vertex.room.fresh.items c.push.new.self.items _
    c.loop-vertex-test.true c.loop-vertex.invariant (c.in_ok-one.ensures.vertex ∙ c.vertex-item.is) (own_row (ends_in c.args.side) (LinksIn c.args.side) _ _ c.in_ok-one.ensures.vertex c.in_ok-one.ensures.row) c.in_ok-push.ensures.items

pub returns : goal.returns
returns c = fresh_all (ends_in c.args.side) (LinksIn c.args.side) c.args.vertices.now c.loop-vertex.vertex-index c.loop-vertex.room.fresh.items c.loop-vertex-test.false c.loop-vertex.invariant
