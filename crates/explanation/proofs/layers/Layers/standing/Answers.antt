use Rattle.std.proofs.Common.{None, Some, sym, subst, inl}
use Rattle.intra.specs.Inputs.{AreaValue, HasTree}
use Rattle.area_trees.specs.Areas.{IsStandingKey}
use Rattle.explanation.specs.Layers.{IsKeyIn}
use Rattle.explanation.proofs.layers.Layers.standing.Goals as goal

pub lsa_for_vertex-requires : goal.lsa_for_vertex-requires
lsa_for_vertex-requires c =
    let t = subst HasTree (sym c.area-in-Some.view_is) (c.requires.trees c.in-Some.area.now c.in-Some.ensures.some.0) in
    (t.0, t.1, t.2)

pub returns-in-Some-lsa_for_vertex : goal.returns-in-Some-lsa_for_vertex
returns-in-Some-lsa_for_vertex c =
    inl (c.in-Some.area.now, c.in-Some.ensures.some, subst (λ (a : AreaValue). IsKeyIn a c.args.vertex (Some c.key.result)) c.area-in-Some.view_is (subst (IsStandingKey c.area-in-Some.inside.database.now.lsas c.args.vertex) (sym c.key.ensures.value) c.in-Some-lsa_for_vertex.ensures.key, (c.in-Some-lsa_for_vertex.lsa.now.body, c.in-Some-lsa_for_vertex.ensures.body)))

pub returns-in-None-lsa_for_vertex : goal.returns-in-None-lsa_for_vertex
returns-in-None-lsa_for_vertex c =
    inl (c.in-Some.area.now, c.in-Some.ensures.some, subst (λ (a : AreaValue). IsKeyIn a c.args.vertex None) c.area-in-Some.view_is c.in-None-lsa_for_vertex.ensures.body)
