-- The greatest of what the parts give.
use Rattle.summaries.proofs.GivenParts.{greatest_of}
use Rattle.summaries.proofs.giving.network_given.Goals as goal

pub returns : goal.returns
returns c = λ area.
    greatest_of c.args.inputs.now area c.args.network _ _ _ _ c.intra_through.result c.inter_through.result c.intra_through.ensures c.inter_through.ensures (c.none.ensures.none area)
    (c.with-intra.ensures.greatest area) (c.with-own.ensures.greatest area) (c.with_ranges.ensures area)
