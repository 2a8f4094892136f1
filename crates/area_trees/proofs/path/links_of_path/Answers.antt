use Rattle.std.proofs.Common.{subst, sym}
use Rattle.ospf_types.specs.declared.entry.Vertex.{Vertex}
use Rattle.area_trees.specs.declared.last_link.Before.TheVariants as comes
use Rattle.area_trees.specs.LeastPaths.{IsPathFound, left_of}
use Rattle.area_trees.proofs.LeastPaths.{all_found, nothing_found, one_found}
use Rattle.area_trees.proofs.path.links_of_path.Goals as goal

pub loop-left-init : goal.loop-left-init
loop-left-init c = nothing_found c.requires c.args.to c.args.hop c.hop_at-left.result c.new-links.result.items c.new-links.ensures.items c.hop_at-left.ensures

pub loop-left-preserved-in-Root : goal.loop-left-preserved-in-Root
loop-left-preserved-in-Root c =
    one_found c.requires c.args.to c.args.hop c.loop-left.at c.in-Some.hop c.loop-left.left c.loop-left.links.items c.push.new.self.items c.last_link-last.result comes.Root
    c.in-Some.is c.loop-left.invariant c.last_link-last.ensures c.in_ok-push.ensures.items c.in-Root.is

pub loop-left-preserved : goal.loop-left-preserved
loop-left-preserved c =
    subst (λ (at : Vertex). IsPathFound c.args.graph.now c.args.to c.args.hop at (left_of (comes.Path c.in-Path.hop)) c.push.new.self.items) (sym c.vertex-at.ensures)
    (one_found c.requires c.args.to c.args.hop c.loop-left.at c.in-Some.hop c.loop-left.left c.loop-left.links.items c.push.new.self.items c.last_link-last.result (comes.Path c.in-Path.hop)
    c.in-Some.is c.loop-left.invariant c.last_link-last.ensures c.in_ok-push.ensures.items c.in-Path.is)

pub returns : goal.returns
returns c =
    all_found c.args.graph.now c.args.to c.args.hop c.loop-left.at c.loop-left.left c.loop-left.links.items c.reverse.new.self.items c.in_default.is c.loop-left.invariant c.reverse.ensures.items
