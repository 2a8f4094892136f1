use Rattle.std.proofs.Common.{rules, sym, subst, List, [], ◌∷◌, ◌++◌, Some, refl, ap, ◌∙◌, inl, inr}
use Rattle.std.specs.Prelude.{Contains}
use Rattle.ospf_types.specs.declared.hop.NextHop.{NextHop}
use Rattle.explanation.specs.declared.trace.Step.{Step}
use Rattle.explanation.specs.declared.trace.Trace.{Trace}
use Rattle.explanation.specs.Outside.{GivesOnward, external_path}
use Rattle.explanation.proofs.TraceLists.{adds_none}
use Rattle.explanation.proofs.forward.push_onward.Goals as goal

pub returns : goal.returns
returns c =
    let o = c.args.forwarded.offer.now in
    let inner = c.args.inner.now.steps.items in
    let whole = c.in_ok-push.ensures.items
    ∙ ap (λ (steps : List Step). steps ++ c.last_step.result ∷ []) (c.in_ok-steps.ensures.items ∙ c.deref.ensures.value)
    ∙ ap (λ (s : Step). inner ++ s ∷ []) c.last_step.ensures in
    let t : Trace = record { path = record { hop = c.toward.result; advertiser = Some o.source.key.router }; steps = c.push.new.self } in (
      t ∷ [],
      inl (t, (ap (external_path o) c.toward.ensures, c.has_path.ensures.0 (search rules), whole), refl),
      c.in_ok-push-2.ensures.items,
    )

pub returns-then-not-has_path : goal.returns-then-not-has_path
returns-then-not-has_path c =
    let f = c.args.forwarded in
    adds_none (GivesOnward f.address f.offer.now f.paths.now c.args.network c.args.inner.now) c.args.traces.now.items (inr (
      λ has.
          let t = c.has_path.ensures.1 (subst (λ (h : NextHop). Contains f.paths.now (external_path f.offer.now h)) (sym c.toward.ensures) has) in
          let n = c.if-not-has_path.true in
          absurd cc,
      refl,
    ))
