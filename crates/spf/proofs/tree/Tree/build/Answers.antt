use Rattle.std.proofs.Common.{[], false, subst}
use Rattle.spf.specs.TreeValues.{TreeValue, IsWorkDone, tree_of}
use Rattle.spf.proofs.Blank.{blank_begun}
use Rattle.spf.proofs.Caller.{built_work}
use Rattle.spf.proofs.Finished.{listed_tree, listed_work, with_changed}
use Rattle.spf.proofs.tree.Tree.build.Goals as goal

pub update_distances_and_hops-requires : goal.update_distances_and_hops-requires
update_distances_and_hops-requires c = record {
  begun = ([], blank_begun _ _ _ c.root.result (λ i. record { distances = c.in_ok-distances.ensures i; hops = c.in_ok-hops.ensures i; changed = []; spent = false }) c.new-workspace.ensures.lost c.new-workspace.ensures.stale c.root.ensures.value c.links_from-came.ensures.exact);
}

pub returns : goal.returns
returns c =
    let is = c.in_ok-touched.ensures.carried_out in
    let touched = c.in_ok-touched.touched in
    let changed = c.new.result.items in
    let u = tree_of c.update_distances_and_hops.new.distances c.update_distances_and_hops.new.hops in
    let tree = listed_tree u changed is.tree in
    record {
      tree = tree;
      changed = c.new.ensures.items;
      work = built_work tree (subst (λ (t : TreeValue). IsWorkDone c.args.graph.now t (with_changed u changed) touched.taken touched.hop_sets) (λ i. record { distances = c.in_ok-distances.ensures i; hops = c.in_ok-hops.ensures i; changed = []; spent = false }) (listed_work u changed is.work));
    }
