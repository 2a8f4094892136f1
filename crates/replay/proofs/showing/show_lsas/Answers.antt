use Rattle.std.proofs.Common.{ap, sym}
use Rattle.std.specs.List.{flat_map}
use Rattle.replay.specs.Lines.{lsa_line}
use Rattle.replay.specs.declared.buffer.PrintError.TheVariants as stop
use Rattle.replay.specs.Stops.{stop_of}
use Rattle.replay.proofs.Written.{err_as}
use Rattle.replay.proofs.Wholes.{lsa_whole}
use Rattle.replay.proofs.Paging.{adding_none, adding_more, adding_part, adding_stopped}
use Rattle.replay.proofs.showing.show_lsas.Goals as goal

pub loop-scope-init : goal.loop-scope-init
loop-scope-init g c = adding_none _ _ _ _ (ap (flat_map (lsa_line c.args.format)) (sym c.into_iter-scope-iterator.ensures.into_iter_gives.0))

pub loop-scope-preserved : goal.loop-scope-preserved
loop-scope-preserved g c = adding_more _ _ _ _ _ _ _ _ _ _ _ c.loop-scope.invariant (ap (flat_map (lsa_line c.args.format)) c.in-Some.ensures.steps.0) c.in_ok-put_lsa.ensures (lsa_whole c.args.format (c.in-Some.scope, c.in-Some.lsa)) c.in_ok-flush_if_full.ensures.ok

pub returns-in_err-put_lsa-clause-err : goal.returns-in_err-put_lsa-clause-err
returns-in_err-put_lsa-clause-err g c = λ whole. err_as _ c.from_residual.result stop.Memory c.from_residual.ensures.1 (adding_part _ _ _ _ _ _ whole c.loop-scope.invariant)

pub returns-in_err-flush_if_full-clause-err : goal.returns-in_err-flush_if_full-clause-err
returns-in_err-flush_if_full-clause-err g c =
    λ whole. err_as _ c.from_residual-in_err-flush_if_full.result (stop_of c.in_err-flush_if_full.field-0.0) c.from_residual-in_err-flush_if_full.ensures.1
    (adding_stopped (stop_of c.in_err-flush_if_full.field-0.0) _ _ _ _ _ _ _ _ _ _ whole c.loop-scope.invariant (ap (flat_map (lsa_line c.args.format)) c.in-Some.ensures.steps.0) c.in_ok-put_lsa.ensures (lsa_whole c.args.format (c.in-Some.scope, c.in-Some.lsa)) c.in_err-flush_if_full.ensures.err)
