use Rattle.std.proofs.Common.{◌≡◌, ◌⊎◌, ◌<◌, ◌-◌, List, get_or, length, refl, sym, ap, subst, ◌∙◌, arith}
use Rattle.std.specs.Prelude.{◌↔◌, Contains}
use Rattle.std.specs.Global.{Vec}
use Rattle.std.specs.List.{slice_range}
use Rattle.std.specs.List.Sorted.{IsStrictlySortedBy}
use Rattle.std.proofs.lemmas.List.Elements.{All-nil}
use Rattle.ospf_types.specs.declared.entry.Vertex.{Vertex}
use Rattle.graph_links.specs.declared.link_end.LinkEnd.{LinkEnd}
use Rattle.graph_links.specs.declared.link.GraphLink.{GraphLink}
use Rattle.graph_links.specs.EndOrder.{end_cmp, listed_end}
use Rattle.graph_links.specs.Pairs.{AreAllAt, AreApart, AreCheap, KeepsLinksApart}
use Rattle.graph_links.specs.Sides.{ends_in, LinksIn, IsOutTo, IsIntoFrom}
use Rattle.graph_links.proofs.Apart.{apart_nil}
use Rattle.graph_links.proofs.AtVertex.{IsFirst}
use Rattle.graph_links.proofs.Walking.{IsLinkInto, IsLinkOut, all_at, cut_first, cut_none, cut_past, goes_on, into_named, names_more, out_named, walked_all, walked_more, walked_none, walked_others}
use Rattle.graph_links.proofs.row_update.row_of.Goals as goal

pub loop-first-init : goal.loop-first-init
loop-first-init c =
    let L = LinksIn c.args.side in
    let v = c.args.all.vertex in
    record {
      ends = c.in_ok-copy_ends.ensures;
      within = omega arith;
      cut = cut_none c.args.all.ends.now;
      out = walked_none (IsLinkOut L v) (λ (k : GraphLink). k.to) c.args.all.ends.now c.empty.new.list.items c.in_ok-empty.ensures.items;
      into = walked_none (IsLinkInto L v) (λ (k : GraphLink). k.from) c.args.all.ends.now c.empty-2.new.list.items c.in_ok-empty-2.ensures.items;
      out_cheap = subst AreCheap (sym c.in_ok-empty.ensures.items) (All-nil (λ (l : GraphLink). l.cost < 65536));
      into_cheap = subst AreCheap (sym c.in_ok-empty-2.ensures.items) (All-nil (λ (l : GraphLink). l.cost < 65536));
      out_once = subst AreApart (sym c.in_ok-empty.ensures.items) apart_nil;
      into_once = subst AreApart (sym c.in_ok-empty-2.ensures.items) apart_nil;
    }

pub past_from-past-requires-clause-split : goal.past_from-past-requires-clause-split
past_from-past-requires-clause-split c =
    let ends : List LinkEnd = c.args.all.ends.now in
    let i = c.loop-first.first in
    let sorted : IsStrictlySortedBy end_cmp ends = subst (IsStrictlySortedBy end_cmp) (sym c.requires.ends) (c.requires.in_order c.args.all.vertex) in
    cut_first ends i (listed_end 0) (get_or ends i (listed_end 0)).to sorted c.loop-first.invariant.cut c.loop-first-test.true refl

pub list_both-requires-clause-own : goal.list_both-requires-clause-own
list_both-requires-clause-own c =
    let ends : List LinkEnd = c.args.all.ends.now in
    let i = c.loop-first.first in
    let to : Vertex = (get_or ends i (listed_end 0)).to in
    let past = c.past_from-past.result in
    let sorted : IsStrictlySortedBy end_cmp ends = subst (IsStrictlySortedBy end_cmp) (sym c.requires.ends) (c.requires.in_order c.args.all.vertex) in
    let low : IsFirst to ends i = cut_first ends i (listed_end 0) to sorted c.loop-first.invariant.cut c.loop-first-test.true refl in
    let all : AreAllAt to ends (slice_range ends i past) = all_at to ends i past (listed_end 0) c.loop-first-test.true refl c.past_from-past.ensures.within low c.past_from-past.ensures.split sorted in
    let named : AreAllAt c.next_placed-other.result ends (slice_range ends i past) = subst (λ (w : Vertex). AreAllAt w ends (slice_range ends i past)) (sym c.next_placed-other.ensures) all in
    subst (λ (es : List LinkEnd). AreAllAt c.next_placed-other.result es (slice_range ends i past)) c.requires.ends named

pub loop-first-smaller : goal.loop-first-smaller
loop-first-smaller c =
    let ends : List LinkEnd = c.args.all.ends.now in
    let i = c.loop-first.first in
    let to : Vertex = (get_or ends i (listed_end 0)).to in
    let past = c.past_from-past.result in
    let sorted : IsStrictlySortedBy end_cmp ends = subst (IsStrictlySortedBy end_cmp) (sym c.requires.ends) (c.requires.in_order c.args.all.vertex) in
    let low : IsFirst to ends i = cut_first ends i (listed_end 0) to sorted c.loop-first.invariant.cut c.loop-first-test.true refl in
    let on : i < past = goes_on to ends i past (listed_end 0) c.loop-first-test.true refl c.past_from-past.ensures.within low c.past_from-past.ensures.split in
    let lt : i < length ends = c.loop-first-test.true in
    let within = c.past_from-past.ensures.within in
    let less : length ends - past < length ends - i = omega (arith, on, lt, within) in
    less

pub loop-first-preserved : goal.loop-first-preserved
loop-first-preserved c =
    let L = LinksIn c.args.side in
    let v = c.args.all.vertex in
    let ends : List LinkEnd = c.args.all.ends.now in
    let i = c.loop-first.first in
    let to : Vertex = (get_or ends i (listed_end 0)).to in
    let past = c.past_from-past.result in
    let sorted : IsStrictlySortedBy end_cmp ends = subst (IsStrictlySortedBy end_cmp) (sym c.requires.ends) (c.requires.in_order v) in
    let low : IsFirst to ends i = cut_first ends i (listed_end 0) to sorted c.loop-first.invariant.cut c.loop-first-test.true refl in
    let within = c.past_from-past.ensures.within in
    let names = names_more to ends i past (listed_end 0) c.loop-first-test.true refl within low c.past_from-past.ensures.split in
    let out : List GraphLink = c.loop-first.row.out.items in
    let into : List GraphLink = c.loop-first.row.into.items in
    let listed = c.in_ok-list_both.ensures in
    let is : c.next_placed-other.result ≡ to = c.next_placed-other.ensures in
    let out_new : List GraphLink = c.list_both.new.row.out.items in
    let into_new : List GraphLink = c.list_both.new.row.into.items in
    let more_out = subst (λ (w : Vertex). (l : GraphLink) → Contains out_new l ↔ (Contains out l ⊎ IsOutTo L v l w)) is listed.out in
    let more_into = subst (λ (w : Vertex). (l : GraphLink) → Contains into_new l ↔ (Contains into l ⊎ IsIntoFrom L v l w)) is listed.into in
    let out_apart = subst (λ (w : Vertex). KeepsLinksApart v w out out_new) is listed.out_apart in
    let into_apart = subst (λ (w : Vertex). KeepsLinksApart w v into into_new) is listed.into_apart in
    record {
      ends = ap (λ (es : Vec LinkEnd). es.items) c.list_both.ensures.ends ∙ c.loop-first.invariant.ends;
      within = within;
      cut = cut_past to ends past c.past_from-past.ensures.split;
      out = walked_more (IsLinkOut L v) (λ (k : GraphLink). k.to) ends to i past out out_new (λ (l : GraphLink). IsOutTo L v l to) names (λ l. (λ h. ((h.0, h.2), h.1), λ h. (h.0.0, h.1, h.0.1))) more_out c.loop-first.invariant.out;
      into = walked_more (IsLinkInto L v) (λ (k : GraphLink). k.from) ends to i past into into_new (λ (l : GraphLink). IsIntoFrom L v l to) names (λ l. (λ h. ((h.1, h.2), h.0), λ h. (h.1, h.0.0, h.0.1))) more_into c.loop-first.invariant.into;
      out_cheap = listed.cheap.0 c.loop-first.invariant.out_cheap;
      into_cheap = listed.cheap.1 c.loop-first.invariant.into_cheap;
      out_once = out_apart c.loop-first.invariant.out_once (λ l early from at. walked_others (IsLinkOut L v) (λ (k : GraphLink). k.to) ends to i out c.loop-first.invariant.within low c.loop-first.invariant.out l early at);
      into_once = into_apart c.loop-first.invariant.into_once (λ l early from at. walked_others (IsLinkInto L v) (λ (k : GraphLink). k.from) ends to i into c.loop-first.invariant.within low c.loop-first.invariant.into l early from);
    }

pub returns-clause-links : goal.returns-clause-links
returns-clause-links c =
    let side = c.args.side in
    let L = LinksIn side in
    let v = c.args.all.vertex in
    let ends : List LinkEnd = c.args.all.ends.now in
    let i = c.loop-first.first in
    let past = c.loop-first-test.false in
    record {
      out = walked_all (IsLinkOut L v) (λ (k : GraphLink). k.to) ends i c.loop-first.row.out.items past (out_named side.local.root side.local.interfaces.now (ends_in side) v ends c.requires.ends) c.loop-first.invariant.out;
      into = walked_all (IsLinkInto L v) (λ (k : GraphLink). k.from) ends i c.loop-first.row.into.items past (into_named side.local.root side.local.interfaces.now (ends_in side) v ends c.requires.ends) c.loop-first.invariant.into;
      out_cheap = c.loop-first.invariant.out_cheap;
      into_cheap = c.loop-first.invariant.into_cheap;
      out_once = c.loop-first.invariant.out_once;
      into_once = c.loop-first.invariant.into_once;
    }
