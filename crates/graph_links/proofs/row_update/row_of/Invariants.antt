-- So far the links of the groups up to here.
use Rattle.std.proofs.Common.{◌≡◌, length, ◌-◌, ◌≤◌}
use Rattle.graph_links.specs.declared.link.GraphLink.{GraphLink}
use Rattle.graph_links.specs.Pairs.{AreApart, AreCheap}
use Rattle.graph_links.specs.Sides.{LinksIn}
use Rattle.graph_links.proofs.Walking.{AreWalked, IsCut, IsLinkInto, IsLinkOut}
use Rattle.graph_links.proofs.row_update.row_of.Given as goal

abbrev pub invariant-loop-first : goal.invariant-loop-first
invariant-loop-first l = record {
  ends : l.row.ends.items ≡ l.fn.all.ends.now;
  within : l.first ≤ length l.ends;
  cut : IsCut l.ends l.first;
  out : AreWalked (IsLinkOut (LinksIn l.fn.side) l.fn.all.vertex) (λ (k : GraphLink). k.to) l.ends l.first l.row.out.items;
  into : AreWalked (IsLinkInto (LinksIn l.fn.side) l.fn.all.vertex) (λ (k : GraphLink). k.from) l.ends l.first l.row.into.items;
  out_cheap : AreCheap l.row.out.items;
  into_cheap : AreCheap l.row.into.items;
  out_once : AreApart l.row.out.items;
  into_once : AreApart l.row.into.items;
}

abbrev pub decreases-loop-first : goal.decreases-loop-first
decreases-loop-first l = length l.ends - l.first
