use Rattle.std.proofs.Common.{◌++◌, string_bytes, ap, ◌∙◌}
use Rattle.replay.specs.Stops.{stop_of}
use Rattle.replay.specs.declared.buffer.PrintError.TheVariants as stop
use Rattle.replay.proofs.Written.{err_as}
use Rattle.replay.proofs.Paging.{adding_none, adding_more, adding_part, adding_stopped, line_next}
use Rattle.change_log.specs.Lines.{line_of}
use Rattle.change_log.specs.Changes.{change_to, network_change}
use Rattle.change_log.proofs.Texts.{line_whole, mapped_lines}
use Rattle.change_log.proofs.showing.show_networks.Goals as goal

pub loop-prefix-init : goal.loop-prefix-init
loop-prefix-init g c = adding_none _ _ _ _ (mapped_lines c.args.at.now.number c.args.at.now.wanted (network_change c.args.table.now.items) c.args.networks.now)

pub loop-prefix-preserved : goal.loop-prefix-preserved
loop-prefix-preserved g c =
    let next = line_next (λ p. line_of c.args.at.now.number c.args.at.now.wanted (network_change c.args.table.now.items p)) c.args.networks.now c.loop-prefix.prefix-index c.prefix-item.result c.loop-prefix-test.true c.prefix-item.is in
    let put = c.in_ok-put_network.ensures ∙ ap (λ o. string_bytes c.loop-prefix.buffer ++ line_of c.args.at.now.number c.args.at.now.wanted (change_to c.prefix-item.result o)) c.get.ensures in
    adding_more _ _ _ _ _ _ _ _ _ _ _ c.loop-prefix.invariant next put (line_whole c.args.at.now.number c.args.at.now.wanted (network_change c.args.table.now.items c.prefix-item.result)) c.in_ok-flush_if_full.ensures.ok

pub returns-in_err-put_network-clause-err : goal.returns-in_err-put_network-clause-err
returns-in_err-put_network-clause-err g c = λ whole. err_as _ c.from_residual.result stop.Memory c.from_residual.ensures.1 (adding_part _ _ _ _ _ _ whole c.loop-prefix.invariant)

pub returns-in_err-flush_if_full-clause-err : goal.returns-in_err-flush_if_full-clause-err
returns-in_err-flush_if_full-clause-err g c =
    let next = line_next (λ p. line_of c.args.at.now.number c.args.at.now.wanted (network_change c.args.table.now.items p)) c.args.networks.now c.loop-prefix.prefix-index c.prefix-item.result c.loop-prefix-test.true c.prefix-item.is in
    let put = c.in_ok-put_network.ensures ∙ ap (λ o. string_bytes c.loop-prefix.buffer ++ line_of c.args.at.now.number c.args.at.now.wanted (change_to c.prefix-item.result o)) c.get.ensures in
    λ whole. err_as _ c.from_residual-in_err-flush_if_full.result (stop_of c.in_err-flush_if_full.field-0.0) c.from_residual-in_err-flush_if_full.ensures.1
    (adding_stopped (stop_of c.in_err-flush_if_full.field-0.0) _ _ _ _ _ _ _ _ _ _ whole c.loop-prefix.invariant next put (line_whole c.args.at.now.number c.args.at.now.wanted (network_change c.args.table.now.items c.prefix-item.result)) c.in_err-flush_if_full.ensures.err)
