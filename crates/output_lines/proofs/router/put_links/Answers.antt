use Rattle.std.proofs.Common.{arith}
use Rattle.output_lines.proofs.Walked.{links_begin, link_whole, link_put, links_end, links_counted}
use Rattle.output_lines.proofs.router.put_links.Goals as goal

pub loop-place-init : goal.loop-place-init
loop-place-init c = links_begin _ _ _ c.requires

pub put_link-requires : goal.put_link-requires
put_link-requires c = link_whole _ _ _ _ _ c.loop-place-test.true c.loop-place.invariant

pub link_size-requires : goal.link_size-requires
link_size-requires c = omega (arith, link_whole _ _ _ _ _ c.loop-place-test.true c.loop-place.invariant)

pub slice_bounds-rest-count : goal.slice_bounds-rest-count
slice_bounds-rest-count c =
    omega (arith, c.link_size.ensures, link_whole _ _ _ _ _ c.loop-place-test.true c.loop-place.invariant)

pub slice_bounds-rest-start : goal.slice_bounds-rest-start
slice_bounds-rest-start c =
    omega (arith, c.link_size.ensures, link_whole _ _ _ _ _ c.loop-place-test.true c.loop-place.invariant)

pub loop-place-preserved : goal.loop-place-preserved
loop-place-preserved c =
    link_put _ _ _ _ _ _ _ c.loop-place-test.true c.link_size.ensures c.loop-place.invariant c.in_ok-put_link.ensures

pub returns : goal.returns
returns c =
    links_counted c.args.count c.args.links.now _ _ _ c.requires c.in_ok-put_number.ensures (links_end _ _ _ _ _ c.loop-place-test.false c.loop-place.invariant)
