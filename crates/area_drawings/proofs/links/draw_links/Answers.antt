use Rattle.std.proofs.Common.{◌≡◌, ◌≢◌, ◌++◌, ◌+◌, List, [], take, sym, ap, subst, ◌∙◌}
use Rattle.std.specs.Prelude.{◌↔◌, Contains}
use Rattle.std.specs.List.{AllPairs}
use Rattle.ospf_types.specs.declared.entry.Vertex.TheVariants.{Router}
use Rattle.area_drawings.specs.declared.drawing.DrawnLink.{DrawnLink}
use Rattle.graph_links.proofs.Apart.{Apart, apart_nil}
use Rattle.spf.specs.HandedOn.{IsOfSome}
use Rattle.area_drawings.specs.declared.stands.Stand.{Stand}
use Rattle.area_drawings.specs.Links.{IsLinkOut}
use Rattle.area_drawings.proofs.WholeLinks.{AreOutOf, none_out, row_more, row_apart, all_between}
use Rattle.area_drawings.proofs.links.draw_links.Goals as goal

pub loop-from-init : goal.loop-from-init
loop-from-init c =
    let g = c.args.tree.now.area.graph in
    let stands = c.args.stands.now in
    subst (λ (ls : List DrawnLink). AreOutOf g stands [] ls × Apart ls) (sym c.new-links.ensures.items) (none_out g stands, apart_nil)

pub loop-from-preserved : goal.loop-from-preserved
loop-from-preserved c =
    let blank : Stand = record { reached = record { vertex = Router 0; distance = 0 }; place = record { column = 0; row = 0 } } in
    let g = c.args.tree.now.area.graph in
    let stands = c.args.stands.now in
    let i = c.loop-from.from-index in
    let old = c.loop-from.links.items in
    let row = c.in_ok-row.row.items in
    let grown : c.extend_from_slice.new.self.items ≡ old ++ row = c.in_ok-extend_from_slice.ensures.items ∙ ap (λ (ls : List DrawnLink). old ++ ls) c.deref.ensures.value in
    subst
    (λ (ls : List DrawnLink). ((k : DrawnLink) → Contains ls k ↔ IsOfSome (take (i + 1) stands) (IsLinkOut g stands) k) × AllPairs (λ j k. j ≢ k) ls)
    (sym grown) (
      row_more g stands i blank old row c.loop-from-test.true c.loop-from.invariant.0 c.in_ok-row.ensures.exact,
      row_apart g stands i blank old row c.requires c.loop-from-test.true c.loop-from.invariant.0 c.in_ok-row.ensures.exact c.loop-from.invariant.1 c.in_ok-row.ensures.each_once,
    )

pub returns-clause-exact : goal.returns-clause-exact
returns-clause-exact c = all_between c.args.tree.now.area.graph c.args.stands.now c.loop-from.from-index c.loop-from.links.items c.loop-from-test.false c.loop-from.invariant.0
