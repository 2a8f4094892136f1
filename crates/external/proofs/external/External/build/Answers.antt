-- All that there is was named and affected.
use Rattle.std.proofs.Common.{List, sym, subst}
use Rattle.std.specs.List.{Contains}
use Rattle.ospf_types.specs.declared.key.Dest.{Dest}
use Rattle.ospf_types.specs.declared.key.Dest.TheVariants.{Router}
use Rattle.external.proofs.Right.{external_right}
use Rattle.external.proofs.external.External.build.Goals as goal

pub update_results-requires : goal.update_results-requires
update_results-requires c =
    c.in_ok-affected.ensures c.as_slice.result.now
    (λ r preference h offered. subst (λ (ds : List Dest). Contains ds (Router r)) (sym c.as_slice.ensures.value) (c.in_ok-routers.ensures r preference h offered))

pub returns-clause-right : goal.returns-clause-right
returns-clause-right c = λ s are. external_right s c.args.inputs.now c.update_results.new.self c.in_ok-update_results.ensures.kept are
