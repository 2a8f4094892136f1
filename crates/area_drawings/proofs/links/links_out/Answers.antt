use Rattle.std.proofs.Common.{List, [], sym, subst}
use Rattle.area_drawings.specs.declared.drawing.DrawnLink.{DrawnLink}
use Rattle.graph_links.proofs.Apart.{Apart, apart_nil}
use Rattle.area_drawings.proofs.WholeLinks.{AreDrawnOf, none_drawn, drawn_more, all_out}
use Rattle.area_drawings.proofs.links.links_out.Goals as goal

pub loop-link-init : goal.loop-link-init
loop-link-init c =
    let stands = c.args.stands.now in
    subst (λ (ls : List DrawnLink). AreDrawnOf stands c.args.from [] ls × Apart ls) (sym c.new-links.ensures.items) (none_drawn stands c.args.from, apart_nil)

pub loop-link-preserved : goal.loop-link-preserved
loop-link-preserved c =
    let added = c.in_ok-add_link.ensures in (
      drawn_more c.args.stands.now c.args.from c.links_from-link-items.result.now c.loop-link.link-index c.link-item.result c.loop-link.links.items c.add_link.new.links.items
          c.loop-link-test.true c.link-item.is c.loop-link.invariant.0 added.exact,
      added.each_once c.loop-link.invariant.1,
    )

pub returns-clause-exact : goal.returns-clause-exact
returns-clause-exact c =
    all_out c.args.tree.now.area.graph c.args.stands.now c.args.from c.links_from-link-items.result.now c.loop-link.link-index c.loop-link.links.items
    c.links_from-link-items.ensures.exact c.loop-link-test.false c.loop-link.invariant.0
