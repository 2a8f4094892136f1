use Rattle.std.proofs.Common.{rules, [], ◌∷◌, ap, ◌∙◌, inl, inr, refl}
use Rattle.ospf_types.specs.declared.entry.Vertex.{Vertex}
use Rattle.explanation.specs.declared.trace.TraceNode.TheVariants as place
use Rattle.explanation.specs.declared.trace.Step.{Step}
use Rattle.explanation.specs.declared.trace.Trace.{Trace}
use Rattle.explanation.specs.Traces.{GivesOwn, last_from}
use Rattle.explanation.proofs.TraceLists.{adds_none}
use Rattle.explanation.proofs.layers.Layers.push_own.Goals as goal

pub returns : goal.returns
returns c =
    let last = c.last_step-last.ensures ∙ ap (λ (v : Vertex). last_from (place.Vertex v) c.args.offer.now) c.vertex.ensures in
    let t : Trace = record { path = c.args.path.now; steps = c.in_ok-steps.steps } in (
      t ∷ [],
      inl (t, ((c.is_over.ensures.0 (search rules), c.in_ok-steps.ensures.items ∙ ap (λ (s : Step). s ∷ []) last), refl), refl),
      c.in_ok-push.ensures.items,
    )

pub returns-then-not-is_over : goal.returns-then-not-is_over
returns-then-not-is_over c = adds_none (GivesOwn c.args.self c.args.area c.args.offer.now c.args.path.now) c.args.traces.now.items (inr (λ over. let t = c.is_over.ensures.1 over in let n = c.if-not-is_over.true in absurd cc, refl))
