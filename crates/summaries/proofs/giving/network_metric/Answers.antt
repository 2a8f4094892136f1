-- No stub area, or another network than the default route of one that is sent networks.
use Rattle.std.proofs.Common.{◌≡◌, Bool, true, false, not, Option, Some, refl, sym, subst, ◌∙◌, inl, inr}
use Rattle.std.specs.Prelude.{◌↔◌}
use Rattle.ospf_types.specs.declared.config.Stub.{Stub}
use Rattle.ospf_types.specs.Summaries.{IsGreatest, default_route}
use Rattle.summaries.specs.Giving.{GivesIn, IsNetworkDueIn}
use Rattle.summaries.proofs.giving.network_metric.Goals as goal
use Rattle.summaries.proofs.giving.network_metric.Goals.{in-Some+else-is_default+else-not-stub, in_default}

is_sent : (b : Bool) → not b ≡ false → b ≡ true
is_sent true is = refl
is_sent false is = absurd (let wrong : true ≡ false = is in cc)

pub returns : goal.returns
returns c = λ v of m.
    let metric = c.metric_into.result in
    let given : (metric ≡ Some m) ↔ IsGreatest (GivesIn v c.args.area.now.id c.args.network) m = (λ is. (of m).0 (sym c.metric_into.ensures ∙ is), λ g. c.metric_into.ensures ∙ (of m).1 g) in
    elim c.match-area.branch [
      | in-Some+else-is_default+else-not-stub w ↦
          let other : c.args.network ≡ default_route → ⊥ = λ same. let wrong : true ≡ false = sym (w.is_default.ensures.value.1 same) ∙ w.if-is_default.false in absurd cc in
          subst (λ (stub : Option Stub). (metric ≡ Some m) ↔ IsNetworkDueIn v c.args.area.now.id stub c.args.network m) (sym w.in-Some.is) (
            λ is. inr (other, is_sent w.in-Some.stub.summaries w.if-not-stub.false, given.0 is),
            λ due. elim due [ inl own ↦ absurd (other own.0) | inr told ↦ given.1 told.2 ],
          )
      | in_default w ↦ subst (λ (stub : Option Stub). (metric ≡ Some m) ↔ IsNetworkDueIn v c.args.area.now.id stub c.args.network m) (sym w.in_default.is) given
    ]
