use Rattle.std.proofs.Common.{List, ◌∷◌, map, refl, sym, ap, subst, ◌∙◌}
use Rattle.ospf_types.specs.declared.entry.Vertex.{Vertex}
use Rattle.vertex_graph.specs.GraphLink.{GraphLink}
use Rattle.vertex_queue.specs.Maps.{AreHopsInOrder}
use Rattle.spf.specs.contracts.tree.Tree.{the_view}
use Rattle.spf.specs.TreeValues.{TreeValue, IsTreeBefore, IsBegun}
use Rattle.spf.proofs.Finished.{begun, bare_begun, carried_out_at, listed_tree, listed_work, changed_list, with_distance}
use Rattle.spf.proofs.Kept.{others_listed}
use Rattle.spf.proofs.CarriedOut.{distances_before}
use Rattle.spf.proofs.tree.Tree.repair_parts.Goals as goal

pub lose_support-requires : goal.lose_support-requires
lose_support-requires c = distances_before (subst (λ (t : TreeValue). IsTreeBefore c.args.graph.now c.args.changes.now.gone.items c.args.changes.now.came.items t) (sym c.self.view_is) c.requires)

pub update_distances_and_hops-requires : goal.update_distances_and_hops-requires
update_distances_and_hops-requires c =
    let i = the_view c.self.inside in
    let before = subst (λ (t : TreeValue). IsTreeBefore c.args.graph.now c.args.changes.now.gone.items c.args.changes.now.came.items t) (sym c.self.view_is) c.requires in
    record { begun = (c.args.changes.now.gone.items, bare_begun i (begun i i refl c.as_slice-2.ensures.value before c.in_ok-lose_support.ensures)) }

pub returns-clause-tree : goal.returns-clause-tree
returns-clause-tree c =
    let i = the_view c.self.inside in
    let u : TreeValue = record { distances = c.update_distances_and_hops.new.distances; hops = c.update_distances_and_hops.new.hops; changed = c.self.inside.changed.items; spent = c.self.inside.spent } in
    let items = c.list_differing.new.changed.items in
    let is = carried_out_at i c.args.self.now u c.self.view_is c.as_slice-2.ensures.value (ap (λ (t : TreeValue). t.spent) c.self.view_is ∙ c.requires.fresh) c.in_ok-touched.ensures.carried_out in
    listed_tree u items is.tree

pub returns-clause-changed : goal.returns-clause-changed
returns-clause-changed c =
    let i = the_view c.self.inside in
    let u : TreeValue = record { distances = c.update_distances_and_hops.new.distances; hops = c.update_distances_and_hops.new.hops; changed = c.self.inside.changed.items; spent = c.self.inside.spent } in
    let items = c.list_differing.new.changed.items in
    let is = carried_out_at i c.args.self.now u c.self.view_is c.as_slice-2.ensures.value (ap (λ (t : TreeValue). t.spent) c.self.view_is ∙ c.requires.fresh) c.in_ok-touched.ensures.carried_out in
    let lost = c.lose_support.new.search.lost in
    changed_list i c.args.self.now u c.args.graph.now.root c.args.graph.now.root lost c.as_slice.result.now c.update_distances_and_hops.new.self.search.lost c.update_distances_and_hops.new.self.moved c.update_distances_and_hops.new.self.writer.written
    items c.remember.new.remembered.items c.as_slice-3.result.now c.self.view_is refl c.as_slice.ensures.value c.in_ok-touched.ensures.lost
    (c.as_slice-3.ensures.value ∙ ap (λ (r : _). r.items) c.in_ok-touched.ensures.remembered)
    (c.in_ok-remember.ensures ∙ ap (λ (v : Vertex). map (with_distance c.self.inside.distances) (v ∷ c.as_slice.result.now)) c.root_of-self-inside.ensures) c.in_ok-list_differing.ensures.in_order c.in_ok-list_differing.ensures.exact is.differ

pub returns-clause-bounded : goal.returns-clause-bounded
returns-clause-bounded c =
    let i = the_view c.self.inside in
    let u : TreeValue = record { distances = c.update_distances_and_hops.new.distances; hops = c.update_distances_and_hops.new.hops; changed = c.self.inside.changed.items; spent = c.self.inside.spent } in
    let items = c.list_differing.new.changed.items in
    let is = carried_out_at i c.args.self.now u c.self.view_is c.as_slice-2.ensures.value (ap (λ (t : TreeValue). t.spent) c.self.view_is ∙ c.requires.fresh) c.in_ok-touched.ensures.carried_out in
    is.bounded c.args.changes.now.gone.items (begun _ _ c.self.view_is refl c.requires c.in_ok-lose_support.ensures)

pub returns-clause-idle : goal.returns-clause-idle
returns-clause-idle c = λ none_gone none_came.
    let i = the_view c.self.inside in
    let u : TreeValue = record { distances = c.update_distances_and_hops.new.distances; hops = c.update_distances_and_hops.new.hops; changed = c.self.inside.changed.items; spent = c.self.inside.spent } in
    let items = c.list_differing.new.changed.items in
    let is = carried_out_at i c.args.self.now u c.self.view_is c.as_slice-2.ensures.value (ap (λ (t : TreeValue). t.spent) c.self.view_is ∙ c.requires.fresh) c.in_ok-touched.ensures.carried_out in
    let came = c.args.changes.now.came.items in
    let lost = c.lose_support.new.search.lost in
    let stale = c.lose_support.new.search.pending.stale in
    let begins : IsBegun c.args.graph.now c.args.changes.now.gone.items came c.args.self.now lost stale = begun _ _ c.self.view_is refl c.requires c.in_ok-lose_support.ensures in
    let none = is.idle (subst (λ (gone : List GraphLink). IsBegun c.args.graph.now gone came c.args.self.now lost stale) none_gone begins) none_came in
    λ j. record { taken = none.0 j; hop_sets = none.1 j }

pub returns-clause-work : goal.returns-clause-work
returns-clause-work c =
    let i = the_view c.self.inside in
    let u : TreeValue = record { distances = c.update_distances_and_hops.new.distances; hops = c.update_distances_and_hops.new.hops; changed = c.self.inside.changed.items; spent = c.self.inside.spent } in
    let items = c.list_differing.new.changed.items in
    let is = carried_out_at i c.args.self.now u c.self.view_is c.as_slice-2.ensures.value (ap (λ (t : TreeValue). t.spent) c.self.view_is ∙ c.requires.fresh) c.in_ok-touched.ensures.carried_out in
    listed_work u items is.work

pub returns-clause-others : goal.returns-clause-others
returns-clause-others c =
    let u : TreeValue = record { distances = c.update_distances_and_hops.new.distances; hops = c.update_distances_and_hops.new.hops; changed = c.self.inside.changed.items; spent = c.self.inside.spent } in
    others_listed c.args.self.now u u c.list_differing.new.changed.items refl (subst (λ (t : TreeValue). AreHopsInOrder t.hops) c.self.view_is c.in_ok-touched.ensures.were_in_order) c.in_ok-touched.ensures.in_order (returns-clause-changed c)
