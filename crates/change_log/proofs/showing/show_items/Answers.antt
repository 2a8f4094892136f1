use Rattle.std.proofs.Common.{ap, sym, ◌∙◌}
use Rattle.std.specs.List.{flat_map}
use Rattle.std.specs.FinMap.{entries}
use Rattle.replay.specs.Stops.{stop_of}
use Rattle.replay.specs.declared.buffer.PrintError.TheVariants as stop
use Rattle.replay.proofs.Written.{err_as}
use Rattle.replay.proofs.Paging.{adding_none, adding_more, adding_part, adding_stopped}
use Rattle.change_log.specs.Lines.{line_of}
use Rattle.change_log.specs.Changes.{item_set}
use Rattle.change_log.proofs.Texts.{line_whole, mapped_lines}
use Rattle.change_log.proofs.showing.show_items.Goals as goal

pub loop-prefix-init : goal.loop-prefix-init
loop-prefix-init g c =
    adding_none _ _ _ _
    (mapped_lines c.args.at.now.number c.args.at.now.wanted item_set (entries c.args.table.now.items)
    ∙ ap (flat_map (λ e. line_of c.args.at.now.number c.args.at.now.wanted (item_set e))) (sym (c.into_iter-prefix-iterator.ensures.into_iter_gives ∙ c.items-prefix-items.ensures.all)))

pub loop-prefix-preserved : goal.loop-prefix-preserved
loop-prefix-preserved g c =
    adding_more _ _ _ _ _ _ _ _ _ _ _ c.loop-prefix.invariant (ap (flat_map (λ e. line_of c.args.at.now.number c.args.at.now.wanted (item_set e))) c.in-Some.ensures.steps) c.in_ok-put_network.ensures
    (line_whole c.args.at.now.number c.args.at.now.wanted (item_set (c.in-Some.prefix, c.in-Some.item.now))) c.in_ok-flush_if_full.ensures.ok

pub returns-in_err-put_network-clause-err : goal.returns-in_err-put_network-clause-err
returns-in_err-put_network-clause-err g c = λ whole. err_as _ c.from_residual.result stop.Memory c.from_residual.ensures.1 (adding_part _ _ _ _ _ _ whole c.loop-prefix.invariant)

pub returns-in_err-flush_if_full-clause-err : goal.returns-in_err-flush_if_full-clause-err
returns-in_err-flush_if_full-clause-err g c =
    λ whole. err_as _ c.from_residual-in_err-flush_if_full.result (stop_of c.in_err-flush_if_full.field-0.0) c.from_residual-in_err-flush_if_full.ensures.1
    (adding_stopped (stop_of c.in_err-flush_if_full.field-0.0) _ _ _ _ _ _ _ _ _ _ whole c.loop-prefix.invariant (ap (flat_map (λ e. line_of c.args.at.now.number c.args.at.now.wanted (item_set e))) c.in-Some.ensures.steps) c.in_ok-put_network.ensures
    (line_whole c.args.at.now.number c.args.at.now.wanted (item_set (c.in-Some.prefix, c.in-Some.item.now))) c.in_err-flush_if_full.ensures.err)
