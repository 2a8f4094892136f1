-- From no routes all may differ.
use Rattle.std.proofs.Common.{List, false, map, sym, ap, subst, ◌∙◌}
use Rattle.std.specs.FinMap.{empty}
use Rattle.ospf_types.specs.declared.key.Dest.TheVariants.{Net}
use Rattle.ospf_types.specs.declared.prefix.Prefix.{Prefix}
use Rattle.active_ranges.specs.Active.{AreRangesOf}
use Rattle.active_ranges.specs.Grouped.{NetworksByRange}
use Rattle.active_ranges.proofs.Following.{no_ranges, all_differ}
use Rattle.active_ranges.proofs.Grouped.{ranges_value}
use Rattle.active_ranges.proofs.active.ActiveRanges.build.Goals as goal

pub update-requires : goal.update-requires
update-requires c =
    let areas = c.args.areas.now in
    let listed = c.as_slice-2.ensures.value ∙ c.in_ok-dests.ensures ∙ ap (λ (ps : List Prefix). map Net ps) c.as_slice.ensures.value in
    let differ = all_differ c.args.intra.now.entries c.in_ok-networks.networks.items c.as_slice-2.result.now listed c.in_ok-networks.ensures.exact in
    let blank = subst (λ (rs : NetworksByRange). AreRangesOf areas empty (ranges_value rs false)) (sym c.new.ensures.empty) (no_ranges areas) in
    record { before = (empty, blank, differ) }
