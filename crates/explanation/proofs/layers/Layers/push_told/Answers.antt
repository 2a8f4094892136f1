use Rattle.std.proofs.Common.{rules, ℕ, List, [], ◌∷◌, ◌++◌, Some, ap, sym, subst, ◌∙◌, inl, inr, refl}
use Rattle.std.specs.Prelude.{Contains}
use Rattle.ospf_types.specs.declared.entry.Vertex.{Vertex}
use Rattle.ospf_types.specs.declared.hop.Path.{Path}
use Rattle.explanation.specs.declared.trace.TraceNode.TheVariants as place
use Rattle.explanation.specs.declared.trace.Step.{Step}
use Rattle.explanation.specs.declared.trace.Trace.{Trace}
use Rattle.explanation.specs.Outside.{GivesTold, IsToldStep}
use Rattle.explanation.specs.Traces.{last_from}
use Rattle.explanation.proofs.Rivals.{some_same}
use Rattle.explanation.proofs.TraceLists.{adds_none}
use Rattle.explanation.proofs.layers.Layers.push_told.Goals as goal

pub returns-in_default-told_step : goal.returns-in_default-told_step
returns-in_default-told_step c =
    let told = c.args.told in
    adds_none (GivesTold c.args.self told.area told.offer.now told.paths.now c.args.within.now) c.args.traces.now.items
    (inr (
      λ leads.
          let over = leads.0 in
          let same = some_same over.0 c.in-Some.border (sym over.2 ∙ c.in-Some.is) in
          absurd (c.in_default-told_step.ensures.none over.1 (subst (λ (border : ℕ). IsToldStep c.args.self told.area border told.offer.now.source.key.router over.1) same over.3)),
      refl,
    ))

pub returns : goal.returns
returns c =
    let o = c.args.told.offer.now in
    let path : Path = record { hop = c.args.within.now.hop; advertiser = Some o.source.key.router } in
    let told = c.in-Some-told_step.step in
    let among : Contains c.args.told.paths.now path = c.has_path.ensures.0 (search rules) in
    let last = c.last_step.ensures ∙ ap (λ (v : Vertex). last_from (place.Vertex v) o) c.vertex.ensures in
    let whole = c.in_ok-push-2.ensures.items
    ∙ ap (λ (steps : List Step). steps ++ c.last_step.result ∷ []) c.in_ok-push.ensures.items
    ∙ ap (λ (s : Step). (c.in_ok-steps.steps.items ++ told ∷ []) ++ s ∷ []) last in
    let t : Trace = record { path = path; steps = c.push-2.new.self } in (
      t ∷ [],
      inl (
        t,
        (
          record {
            border = c.in-Some.border;
            steps = c.in_ok-steps.steps.items;
            told = told;
            border_is = c.in-Some.is;
            path_is = refl;
            steps_are = c.in_ok-steps.ensures;
            told_is = c.in-Some-told_step.ensures.some;
            whole = whole;
          },
          among,
        ),
        refl,
      ),
      c.in_ok-push-3.ensures.items,
    )

pub returns-then-not-has_path : goal.returns-then-not-has_path
returns-then-not-has_path c =
    let told = c.args.told in
    adds_none (GivesTold c.args.self told.area told.offer.now told.paths.now c.args.within.now) c.args.traces.now.items (inr (
      λ leads.
          let t = c.has_path.ensures.1 leads.1 in
          let n = c.if-not-has_path.true in
          absurd cc,
      refl,
    ))
