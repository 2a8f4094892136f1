use Rattle.std.proofs.Common.{◌≡◌, List, None, Some, refl, sym, subst, ◌∙◌, inl, inr}
use Rattle.ospf_types.specs.declared.hop.Path.{Path}
use Rattle.explanation.specs.Outside.{AreTracesWithin, GivesRoute}
use Rattle.explanation.proofs.TraceLists.{adds_none}
use Rattle.explanation.proofs.layers.Layers.push_route.Goals as goal

pub returns-in_default-internal : goal.returns-in_default-internal
returns-in_default-internal c =
    adds_none (GivesRoute c.args.self c.args.by.now) c.args.traces.now.items (inr (λ area e route. let wrong : None ≡ Some e = c.in_default-internal.ensures.value ∙ route.1 in absurd cc, refl))

pub returns : goal.returns
returns c =
    let w = c.args.self in
    let by = c.args.by.now in
    let within = c.in_ok-within.within.items in
    let are = subst (λ (paths : List Path). AreTracesWithin w c.in-Area.area by paths within) c.as_slice.ensures.value c.in_ok-within.ensures in
    (within, inl (c.in-Area.area, c.in-Some.entry.now, (c.in-Area.is, sym c.in-Some.ensures.value), are), c.in_ok-append.ensures.items)
