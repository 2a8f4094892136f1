use Rattle.std.proofs.Common.{sym, ◌∙◌, arith}
use Rattle.lsa_codec.proofs.Checksums.{from_place}
use Rattle.lsa_codec.proofs.Left.{next_link, link_next, first_goes}
use Rattle.lsa_codec.proofs.links.LinksIterator.next.Goals as goal

pub link_size-requires : goal.link_size-requires
link_size-requires c =
    let next = next_link c.self.inside.left c.self.inside.rest.now (omega (arith, c.if-self-eq0.false)) c.self.invariant in
    omega (arith, next.whole)

pub slice_bounds-self-count : goal.slice_bounds-self-count
slice_bounds-self-count c =
    let next = next_link c.self.inside.left c.self.inside.rest.now (omega (arith, c.if-self-eq0.false)) c.self.invariant in
    omega (arith, next.whole, c.link_size.ensures)

pub slice_bounds-self-start : goal.slice_bounds-self-start
slice_bounds-self-start c =
    let next = next_link c.self.inside.left c.self.inside.rest.now (omega (arith, c.if-self-eq0.false)) c.self.invariant in
    omega (arith, next.whole, c.link_size.ensures)

pub front_link-requires : goal.front_link-requires
front_link-requires c =
    let next = next_link c.self.inside.left c.self.inside.rest.now (omega (arith, c.if-self-eq0.false)) c.self.invariant in
    omega (arith, next.whole)

pub invariant_of-self : goal.invariant_of-self
invariant_of-self c =
    let next = next_link c.self.inside.left c.self.inside.rest.now (omega (arith, c.if-self-eq0.false)) c.self.invariant in
    rw (from_place c.link_size.result c.self.inside.rest.now, c.link_size.ensures) next.there

pub returns-clause-steps : goal.returns-clause-steps
returns-clause-steps c =
    let next = next_link c.self.inside.left c.self.inside.rest.now (omega (arith, c.if-self-eq0.false)) c.self.invariant in
    sym c.self.view_is ∙ link_next c.self.inside.left c.link_size.result c.self.inside.rest.now c.front_link.result next c.link_size.ensures c.front_link.ensures

pub returns-clause-goes : goal.returns-clause-goes
returns-clause-goes c =
    let next = next_link c.self.inside.left c.self.inside.rest.now (omega (arith, c.if-self-eq0.false)) c.self.invariant in
    let steps = sym c.self.view_is ∙ link_next c.self.inside.left c.link_size.result c.self.inside.rest.now c.front_link.result next c.link_size.ensures c.front_link.ensures in
    first_goes _ _ _ steps
