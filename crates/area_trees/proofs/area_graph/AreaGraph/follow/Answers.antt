use Rattle.std.proofs.Common.{List, sym, ap, subst}
use Rattle.std.proofs.lemmas.Result.{on_ok_weaker}
use Rattle.ospf_types.specs.declared.entry.Vertex.{Vertex}
use Rattle.vertex_graph.specs.Graphs.{Handed, handed_of}
use Rattle.area_trees.specs.Areas.{AreaGraphValue, AreNetworksOf, AreStanding, IsGraphOf}
use Rattle.area_trees.proofs.AreaGraphs.{apart_handed, graph_after, few_after}
use Rattle.area_trees.proofs.area_graph.AreaGraph.follow.Goals as goal

pub follow-requires : goal.follow-requires
follow-requires c =
    let before = c.requires.before in
    (before.0, subst (λ (v : AreaGraphValue). AreNetworksOf before.0 v.networks) (sym c.self.view_is) before.1.networks, before.2)

pub replace_all-requires-clause-apart : goal.replace_all-requires-clause-apart
replace_all-requires-clause-apart c =
    let d = c.args.database.now.lsas in
    let vs = c.list_vertices.new.vertices.items in
    let hs = handed_of c.as_slice-2.result.now in
    let all = subst (λ (p : List Vertex × List Handed). AreStanding d p.0 p.1) (λ i. (c.as_slice.ensures.value i, ap handed_of (sym c.as_slice-2.ensures.value) i)) c.in_ok-lsas.ensures in
    apart_handed d vs hs c.in_ok-list_vertices.ensures.in_order all

pub replace_all-requires-clause-few : goal.replace_all-requires-clause-few
replace_all-requires-clause-few c =
    let d = c.args.database.now.lsas in
    let vs = c.list_vertices.new.vertices.items in
    let hs = handed_of c.as_slice-2.result.now in
    let all = subst (λ (p : List Vertex × List Handed). AreStanding d p.0 p.1) (λ i. (c.as_slice.ensures.value i, ap handed_of (sym c.as_slice-2.ensures.value) i)) c.in_ok-lsas.ensures in
    let old : AreaGraphValue = record { graph = c.self.inside.graph; networks = c.self.inside.networks } in
    let before = c.requires.before in
    let was = subst (IsGraphOf before.0) (sym c.self.view_is) before.1 in
    few_after before.0 d c.args.keys.now before.2 vs c.in_ok-list_vertices.ensures.exact hs all old was c.args.database.now.limit c.len.ensures.within c.requires.few

pub returns-clause-right : goal.returns-clause-right
returns-clause-right c =
    let d = c.args.database.now.lsas in
    let vs = c.list_vertices.new.vertices.items in
    let hs = handed_of c.as_slice-2.result.now in
    let all = subst (λ (p : List Vertex × List Handed). AreStanding d p.0 p.1) (λ i. (c.as_slice.ensures.value i, ap handed_of (sym c.as_slice-2.ensures.value) i)) c.in_ok-lsas.ensures in
    let old : AreaGraphValue = record { graph = c.self.inside.graph; networks = c.self.inside.networks } in
    let before = c.requires.before in
    let was = subst (IsGraphOf before.0) (sym c.self.view_is) before.1 in
    on_ok_weaker c.replace_all.result (λ replaced. graph_after before.0 d c.args.keys.now before.2 vs c.in_ok-list_vertices.ensures.exact hs all old was c.replace_all.new.self replaced c.follow.new.self c.in_ok-follow.ensures) c.replace_all.ensures.replaced
