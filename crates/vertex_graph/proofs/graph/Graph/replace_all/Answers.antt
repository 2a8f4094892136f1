use Rattle.std.proofs.Common.{List, sym, subst}
use Rattle.vertex_graph.specs.Graphs.{GraphValue, handed_of, AreFewAfter, IsReplaced, AreExact}
use Rattle.vertex_graph.specs.Rows.{graph_of}
use Rattle.graph_links.specs.declared.link.Up.{Up}
use Rattle.graph_links.specs.Sides.{AreRowsBy}
use Rattle.vertex_graph.proofs.Changed.{rows_right}
use Rattle.vertex_graph.proofs.Outcomes.{staged_in_order, ends_rows, ends_replaced, ends_exact}
use Rattle.vertex_graph.proofs.graph.Graph.replace_all.Goals as goal

pub make-requires-clause-before : goal.make-requires-clause-before
make-requires-clause-before c = let i = c.self.inside in (i.root, i.interfaces.items, rows_right i.root i.rows.entries i.interfaces.items c.self.invariant)

pub make-requires-clause-after : goal.make-requires-clause-after
make-requires-clause-after c =
    staged_in_order c.self.inside.root c.self.inside.rows.entries c.self.inside.interfaces.items c.stage.new.staging.ends.entries (handed_of c.args.lsas.now) c.self.invariant c.in_ok-stage.ensures.handed

pub invariant_of-self-2 : goal.invariant_of-self-2
invariant_of-self-2 c =
    let i = c.self.inside in
    let staging = c.stage.new.staging in
    let staged = c.in_ok-stage.ensures in
    let handed = handed_of c.args.lsas.now in
    ends_rows i.root i.rows.entries c.make.new.rows.entries i.interfaces.items c.deref.result.now staging.ends.entries staging.touched.items handed
    c.self.invariant c.deref.ensures.value staged.handed staged.touched c.in_ok-changes.ensures.changed (subst (λ (g : GraphValue). AreFewAfter g handed) (sym c.self.view_is) c.requires.few)

pub returns-clause-replaced : goal.returns-clause-replaced
returns-clause-replaced c =
    let i = c.self.inside in
    let staging = c.stage.new.staging in
    let staged = c.in_ok-stage.ensures in
    let handed = handed_of c.args.lsas.now in
    subst (λ (g : GraphValue). IsReplaced g (graph_of i.root c.make.new.rows.entries i.interfaces.items) handed) c.self.view_is
    (ends_replaced i.root i.rows.entries c.make.new.rows.entries i.interfaces.items c.deref.result.now staging.ends.entries staging.touched.items handed
    c.self.invariant c.deref.ensures.value staged.handed staged.touched c.in_ok-changes.ensures.changed (subst (λ (g : GraphValue). AreFewAfter g handed) (sym c.self.view_is) c.requires.few))

pub returns-clause-exact : goal.returns-clause-exact
returns-clause-exact c =
    let i = c.self.inside in
    let staging = c.stage.new.staging in
    let staged = c.in_ok-stage.ensures in
    let handed = handed_of c.args.lsas.now in
    let gone = c.in_ok-changes.changes.gone.items in
    let came = c.in_ok-changes.changes.came.items in
    let right = subst (λ (ups : List Up). AreRowsBy i.root ups i.rows.entries) (sym c.deref.ensures.value) (rows_right i.root i.rows.entries i.interfaces.items c.self.invariant) in
    subst (λ (g : GraphValue). AreExact g (graph_of i.root c.make.new.rows.entries i.interfaces.items) gone came) c.self.view_is
    (ends_exact i.root i.rows.entries c.make.new.rows.entries i.interfaces.items c.deref.result.now staging.ends.entries staging.touched.items handed
    c.self.invariant c.deref.ensures.value staged.handed staged.touched c.in_ok-changes.ensures.changed (subst (λ (g : GraphValue). AreFewAfter g handed) (sym c.self.view_is) c.requires.few)
    gone came (c.in_ok-changes.ensures.gone i.root c.deref.result.now right) (c.in_ok-changes.ensures.came i.root c.deref.result.now right) c.in_ok-changes.ensures.gone_once c.in_ok-changes.ensures.came_once)
