use Rattle.std.proofs.Common.{ap, refl, subst, ◌∙◌}
use Rattle.vertex_graph.specs.Graphs.{GraphValue, AreExact}
use Rattle.vertex_graph.specs.Rows.{graph_of}
use Rattle.vertex_graph.proofs.Changed.{rows_right}
use Rattle.vertex_graph.proofs.Outcomes.{unstaged_in_order, ups_rows, ups_map, ups_exact}
use Rattle.vertex_graph.proofs.graph.Graph.interfaces.Goals as goal

pub make-requires-clause-before : goal.make-requires-clause-before
make-requires-clause-before c = let i = c.self.inside in (i.root, i.interfaces.items, rows_right i.root i.rows.entries i.interfaces.items c.self.invariant)

pub make-requires-clause-after : goal.make-requires-clause-after
make-requires-clause-after c = unstaged_in_order c.self.inside.root c.self.inside.rows.entries c.self.inside.interfaces.items c.stage_root.new.staging.ends.entries c.self.invariant c.in_ok-stage_root.ensures.ends

pub invariant_of-self-2 : goal.invariant_of-self-2
invariant_of-self-2 c =
    let i = c.self.inside in
    let staging = c.stage_root.new.staging in
    let staged = c.in_ok-stage_root.ensures in
    ups_rows i.root i.rows.entries c.make.new.rows.entries i.interfaces.items c.in_ok-ups.ups.items i.interfaces.items c.deref.result.now staging.ends.entries staging.touched.items
    c.self.invariant refl c.deref.ensures.value staged.ends staged.root staged.neighbours c.in_ok-changes.ensures.changed

pub returns-clause-ends : goal.returns-clause-ends
returns-clause-ends c =
    let i = c.self.inside in
    let staging = c.stage_root.new.staging in
    let staged = c.in_ok-stage_root.ensures in
    ups_map i.root i.rows.entries c.make.new.rows.entries i.interfaces.items c.in_ok-ups.ups.items i.interfaces.items c.deref.result.now staging.ends.entries staging.touched.items
    c.self.invariant refl c.deref.ensures.value staged.ends staged.root staged.neighbours c.in_ok-changes.ensures.changed
    ∙ ap (λ (g : GraphValue). g.ends) c.self.view_is

pub returns-clause-exact : goal.returns-clause-exact
returns-clause-exact c =
    let i = c.self.inside in
    let staging = c.stage_root.new.staging in
    let staged = c.in_ok-stage_root.ensures in
    let gone = c.in_ok-changes.changes.gone.items in
    let came = c.in_ok-changes.changes.came.items in
    let right = rows_right i.root i.rows.entries i.interfaces.items c.self.invariant in
    subst (λ (g : GraphValue). AreExact g (graph_of i.root c.make.new.rows.entries c.in_ok-ups.ups.items) gone came) c.self.view_is
    (ups_exact i.root i.rows.entries c.make.new.rows.entries i.interfaces.items c.in_ok-ups.ups.items i.interfaces.items c.deref.result.now staging.ends.entries staging.touched.items
    c.self.invariant refl c.deref.ensures.value staged.ends staged.root staged.neighbours c.in_ok-changes.ensures.changed
    gone came (c.in_ok-changes.ensures.gone i.root i.interfaces.items right) (c.in_ok-changes.ensures.came i.root i.interfaces.items right) c.in_ok-changes.ensures.gone_once c.in_ok-changes.ensures.came_once)
