use Rattle.std.proofs.Common.{sym, ◌∙◌}
use Rattle.lsa_codec.specs.Faults.{has_reserved_entry, has_wrong_mask, is_unknown}
use Rattle.lsa_codec.proofs.Checksums.{from_place}
use Rattle.lsa_codec.proofs.Walks.{walk_stuck, walk_done, any_more, any_ends, met_more, met_ends, left_more, left_ends, cut_short, counted}
use Rattle.lsa_codec.proofs.links.links_findings.Goals as goal

pub loop-preserved : goal.loop-preserved
loop-preserved c =
    let whole = sym c.is_whole.ensures ∙ c.if-not-is_whole.false in
    let n = c.args.count in
    let i = c.loop.counter in
    let rest = c.loop.rest.now in
    let lt = c.loop-test.true in
    let found = c.with_link-found.ensures in
    rw (from_place c.link_size.result c.loop.rest.now, c.link_size.ensures) (record {
      reserved = rw found.reserved (any_more has_reserved_entry n i rest _ _ lt whole c.loop.invariant.reserved);
      mask = rw found.mask (any_more has_wrong_mask n i rest _ _ lt whole c.loop.invariant.mask);
      link_type = rw found.link_type (any_more is_unknown n i rest _ _ lt whole c.loop.invariant.link_type);
      met = met_more n i rest _ lt whole c.loop.invariant.met;
      left = left_more n i rest _ lt whole c.loop.invariant.left;
    })

pub returns-then-not-is_whole : goal.returns-then-not-is_whole
returns-then-not-is_whole c =
    let stuck = walk_stuck c.args.count c.loop.counter c.loop.rest.now c.loop-test.true (sym c.is_whole.ensures ∙ c.if-not-is_whole.true) in
    record {
      reserved = any_ends has_reserved_entry _ _ _ _ stuck c.loop.invariant.reserved;
      mask = any_ends has_wrong_mask _ _ _ _ stuck c.loop.invariant.mask;
      link_type = any_ends is_unknown _ _ _ _ stuck c.loop.invariant.link_type;
      shape = cut_short _ _ _ c.loop-test.true (met_ends _ _ _ _ stuck c.loop.invariant.met);
    }

pub returns : goal.returns
returns c =
    let all = walk_done c.args.count c.loop.counter c.loop.rest.now c.loop-test.false in
    record {
      reserved = any_ends has_reserved_entry _ _ _ _ all c.loop.invariant.reserved;
      mask = any_ends has_wrong_mask _ _ _ _ all c.loop.invariant.mask;
      link_type = any_ends is_unknown _ _ _ _ all c.loop.invariant.link_type;
      shape = rw c.is_empty.ensures (counted c.loop.counter c.args.count _ c.loop.rest.now c.loop-test.false c.loop.auto.counter-end (met_ends _ _ _ _ all c.loop.invariant.met) (left_ends _ _ _ all c.loop.invariant.left));
    }
