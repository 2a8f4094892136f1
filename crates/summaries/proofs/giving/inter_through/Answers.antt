-- The area that the entry leads through, by the routes that are kept.
use Rattle.std.proofs.Common.{◌≡◌, Option, Some, ap, subst, ◌∙◌}
use Rattle.std.specs.Prelude.{◌↔◌}
use Rattle.std.specs.FinMap.{get}
use Rattle.ospf_types.specs.declared.entry.Entry.{Entry}
use Rattle.ospf_types.specs.declared.key.Dest.TheVariants.{Net}
use Rattle.summaries.specs.declared.giving.Through.{Through}
use Rattle.summaries.specs.Inputs.{SummaryInputsValue}
use Rattle.summaries.specs.Candidates.{LeadsThrough}
use Rattle.summaries.proofs.giving.inter_through.Goals as goal

pub returns : goal.returns
returns c =
    let kept = c.get.ensures.value ∙ ap (λ (w : SummaryInputsValue). get w.inter.entries (Net c.args.network)) c.inputs.view_is in
    subst (λ (o : Option Entry). (t : Through) → (c.finite.result ≡ Some t) ↔ LeadsThrough o t) kept c.finite.ensures
