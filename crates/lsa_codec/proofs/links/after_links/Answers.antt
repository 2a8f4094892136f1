use Rattle.std.proofs.Common.{sym, ◌∙◌}
use Rattle.lsa_codec.proofs.Checksums.{from_place}
use Rattle.lsa_codec.proofs.Walks.{walk_stuck, walk_done, left_more, left_ends}
use Rattle.lsa_codec.proofs.links.after_links.Goals as goal

pub loop-preserved : goal.loop-preserved
loop-preserved c =
    rw (from_place c.link_size.result c.loop.rest.now, c.link_size.ensures) (left_more c.args.count c.loop.counter c.loop.rest.now _ c.loop-test.true (sym c.is_whole.ensures ∙ c.if-not-is_whole.false) c.loop.invariant)

pub returns-then-not-is_whole : goal.returns-then-not-is_whole
returns-then-not-is_whole c =
    left_ends _ _ _ (walk_stuck c.args.count c.loop.counter c.loop.rest.now c.loop-test.true (sym c.is_whole.ensures ∙ c.if-not-is_whole.true)) c.loop.invariant

pub returns : goal.returns
returns c = left_ends _ _ _ (walk_done c.args.count c.loop.counter c.loop.rest.now c.loop-test.false) c.loop.invariant
