use Rattle.std.proofs.Common.{ap, ◌∙◌, inl}
use Rattle.intra.specs.Inputs.{AreaValue, distance_at}
use Rattle.explanation.proofs.layers.Layers.distance.Goals as goal

pub returns-in-Some-clause-value : goal.returns-in-Some-clause-value
returns-in-Some-clause-value c =
    inl (c.in-Some.area.now, c.in-Some.ensures.some, c.distance.ensures.value ∙ ap (λ (a : AreaValue). distance_at a c.args.vertex) c.area-in-Some.view_is)
