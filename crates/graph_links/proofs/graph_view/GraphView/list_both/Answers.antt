use Rattle.std.proofs.Common.{◌≡◌, ◌≢◌, Bool, true, false, List, [], length, refl, sym, ap, subst, ◌∙◌, arith}
use Rattle.std.specs.Prelude.{◌↔◌, ◌==◌, Contains}
use Rattle.std.proofs.lemmas.Bool.{false≢true}
use Rattle.std.proofs.lemmas.Bool.Decides.{nat_tests}
use Rattle.std.proofs.lemmas.List.{nil_from_length}
use Rattle.ospf_types.specs.declared.entry.Vertex.{Vertex}
use Rattle.graph_links.specs.declared.link_end.LinkEnd.{LinkEnd}
use Rattle.graph_links.specs.declared.vertex_pair.VertexPair.{VertexPair}
use Rattle.graph_links.specs.Pairs.{AddsBetween, AreAllAt, KeepsLinksApart}
use Rattle.graph_links.specs.Sides.{ends_in, ends_or, LinksIn, IsOutTo, IsIntoFrom}
use Rattle.graph_links.proofs.Linking.{as_listed, none_into, none_out, none_listed, some_at}
use Rattle.graph_links.proofs.graph_view.GraphView.list_both.Goals.{In_ok-list_links-2}
use Rattle.graph_links.proofs.graph_view.GraphView.list_both.Goals as goal

-- the ends of the other that are at the vertex, by another name of the list of all
found : (v : Vertex) (back here all : List LinkEnd) → here ≡ all → ((e : LinkEnd) → Contains back e ↔ (Contains here e × (e.to ≡ v))) → (e : LinkEnd) → Contains back e ↔ (Contains all e × (e.to ≡ v))
found v back here all same exact = subst (λ (es : List LinkEnd). (e : LinkEnd) → Contains back e ↔ (Contains es e × (e.to ≡ v))) same exact

none : (es : List LinkEnd) (test : Bool) → test ≡ (length es == 0) → test ≡ true → es ≡ []
none es test is empty = nil_from_length es (grind (arith, nat_tests))

some : (es : List LinkEnd) (test : Bool) → test ≡ (length es == 0) → test ≡ false → es ≢ []
some es test is other empty = false≢true (sym other ∙ is ∙ ap (λ (fs : List LinkEnd). length fs == 0) empty)

pub returns-then-is_empty-clause-out : goal.returns-then-is_empty-clause-out
returns-then-is_empty-clause-out c =
    let side = c.args.self in
    let v = c.args.own.vertex in
    let to = c.args.to.now in
    let back : List LinkEnd = c.ends_at-back.result.now in
    none_listed c.args.row.now.out.items (λ l. IsOutTo (LinksIn side) v l to)
    (none_out side.local.root side.local.interfaces.now (ends_in side) v to back (none back c.is_empty.result c.is_empty.ensures c.if-is_empty.true)
    (found v back c.ends_or_empty.result.now (ends_or (ends_in side to)) (c.ends_or_empty.ensures ∙ ap ends_or c.find-place.ensures) c.ends_at-back.ensures.exact))

pub returns-then-is_empty-clause-into : goal.returns-then-is_empty-clause-into
returns-then-is_empty-clause-into c =
    let side = c.args.self in
    let v = c.args.own.vertex in
    let to = c.args.to.now in
    let back : List LinkEnd = c.ends_at-back.result.now in
    none_listed c.args.row.now.into.items (λ l. IsIntoFrom (LinksIn side) v l to)
    (none_into side.local.root side.local.interfaces.now (ends_in side) v to back (none back c.is_empty.result c.is_empty.ensures c.if-is_empty.true)
    (found v back c.ends_or_empty.result.now (ends_or (ends_in side to)) (c.ends_or_empty.ensures ∙ ap ends_or c.find-place.ensures) c.ends_at-back.ensures.exact))

-- the ends that are at the other, by another name of it
own : (all ends : List LinkEnd) (to named : Vertex) → named ≡ to → AreAllAt to all ends → AreAllAt named all ends
own all ends to named is at = subst (λ (w : Vertex). AreAllAt w all ends) (sym is) at

there : (c : In_ok-list_links-2) → AreAllAt c.args.own.vertex (ends_or (ends_in c.args.self c.args.to.now)) c.ends_at-back.result.now
there c =
    let v = c.args.own.vertex in
    let back : List LinkEnd = c.ends_at-back.result.now in
    let all : List LinkEnd = ends_or (ends_in c.args.self c.args.to.now) in
    some_at v all back c.ends_at-back.ensures.in_order (found v back c.ends_or_empty.result.now all (c.ends_or_empty.ensures ∙ ap ends_or c.find-place.ensures) c.ends_at-back.ensures.exact)
    (some back c.is_empty.result c.is_empty.ensures c.if-is_empty.false)

pub returns-clause-out : goal.returns-clause-out
returns-clause-out c =
    let side = c.args.self in
    let v = c.args.own.vertex in
    let to = c.args.to.now in
    let leading = ends_in side in
    as_listed side.local.root side.local.interfaces.now leading v to v c.vertex.result (ends_or (leading v)) (ends_or (leading to)) c.args.row.now.out.items c.list_links.new.links.items refl c.vertex.ensures refl refl
    (c.in_ok-list_links.ensures.listed (ends_or (leading v)) (ends_or (leading to)) (own (ends_or (leading v)) c.args.own.ends.now to c.vertex.result c.vertex.ensures c.requires.own) (there c))

pub returns-clause-into : goal.returns-clause-into
returns-clause-into c =
    let side = c.args.self in
    let v = c.args.own.vertex in
    let to = c.args.to.now in
    let leading = ends_in side in
    let listed = subst (λ (p : VertexPair). AddsBetween p c.args.row.now.into.items c.list_links-2.new.links.items) c.turned.ensures c.in_ok-list_links-2.ensures.listed in
    as_listed side.local.root side.local.interfaces.now leading to v c.vertex.result v (ends_or (leading to)) (ends_or (leading v)) c.args.row.now.into.items c.list_links-2.new.links.items c.vertex.ensures refl refl refl
    (listed (ends_or (leading to)) (ends_or (leading v)) (there c) (own (ends_or (leading v)) c.args.own.ends.now to c.vertex.result c.vertex.ensures c.requires.own))

pub returns-clause-out_apart : goal.returns-clause-out_apart
returns-clause-out_apart c = subst (λ (w : Vertex). KeepsLinksApart c.args.own.vertex w c.args.row.now.out.items c.list_links.new.links.items) c.vertex.ensures c.in_ok-list_links.ensures.apart

pub returns-clause-into_apart : goal.returns-clause-into_apart
returns-clause-into_apart c = subst (λ (w : Vertex). KeepsLinksApart w c.args.own.vertex c.args.row.now.into.items c.list_links-2.new.links.items) c.vertex.ensures
    (subst (λ (p : VertexPair). KeepsLinksApart p.from.vertex p.to.vertex c.args.row.now.into.items c.list_links-2.new.links.items) c.turned.ensures c.in_ok-list_links-2.ensures.apart)

pub returns-then-is_empty-clause-cheap : goal.returns-then-is_empty-clause-cheap
returns-then-is_empty-clause-cheap c = (λ cheap. cheap, λ cheap. cheap)

pub returns-clause-cheap : goal.returns-clause-cheap
returns-clause-cheap c = (c.in_ok-list_links.ensures.cheap, c.in_ok-list_links-2.ensures.cheap)
