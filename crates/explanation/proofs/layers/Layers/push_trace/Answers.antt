use Rattle.std.proofs.Common.{rules, [], ◌∷◌, subst, sym, ◌∙◌, inl, inr, refl}
use Rattle.explanation.specs.declared.trace.Trace.{Trace}
use Rattle.explanation.specs.Traces.{AreSteps, GivesTo}
use Rattle.explanation.proofs.NoSteps.{no_items, none_there, some_items}
use Rattle.explanation.proofs.TraceLists.{adds_none}
use Rattle.explanation.proofs.layers.Layers.push_trace.Goals as goal

pub returns-then-is_empty : goal.returns-then-is_empty
returns-then-is_empty c =
    let t = c.args.target in
    let areas = c.args.self.areas.now in
    let none = no_items c.in_ok-steps.steps (sym c.is_empty.ensures ∙ c.if-is_empty.true) in
    adds_none (GivesTo areas t.area t.vertex t.advertiser t.on.now c.args.path.now) c.args.traces.now.items
    (inr (λ leads. none_there areas c.requires t.area t.vertex c.args.path.now.hop (subst (AreSteps areas t.area t.vertex c.args.path.now.hop) none c.in_ok-steps.ensures) leads.1.0 leads.1.1 leads.1.2, refl))

pub returns : goal.returns
returns c =
    let t : Trace = record { path = c.args.path.now; steps = c.extend_from_slice.new.self } in (
      t ∷ [],
      inl (
        t,
        (
          record {
            names = search rules;
            steps = c.in_ok-steps.steps.items;
            steps_are = c.in_ok-steps.ensures;
            some = some_items c.in_ok-steps.steps (sym c.is_empty.ensures ∙ c.if-is_empty.false);
            whole = c.in_ok-extend_from_slice.ensures.items;
          },
          refl,
        ),
        refl,
      ),
      c.in_ok-push.ensures.items,
    )
