use Rattle.std.proofs.Common.{ap}
use Rattle.intra.proofs.KeptSources.{none_kept}
use Rattle.intra.proofs.SourceMaps.{sources_map}
use Rattle.intra.proofs.area_index.AreaIndex.new.Goals as goal

pub invariant_of-result : goal.invariant_of-result
invariant_of-result c = none_kept (sources_map c.with_hasher-2.result.entries) (ap sources_map c.with_hasher-2.ensures.empty)
