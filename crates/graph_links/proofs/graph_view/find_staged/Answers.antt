use Rattle.std.proofs.Common.{Bool, Some, None, cond, sym, ap, ◌∙◌}
use Rattle.graph_links.proofs.VertexTests.{found, found_only}
use Rattle.graph_links.proofs.graph_view.find_staged.Goals as goal

pub returns-then-len-gt1 : goal.returns-then-len-gt1
returns-then-len-gt1 c = c.get.ensures.value ∙ found c.args.vertex c.args.staged.now.entries

pub returns-then-eq : goal.returns-then-eq
returns-then-eq c =
    ap (λ (b : Bool). cond b (Some c.in_ok-only.ends.now) None) (sym c.if-eq.true)
    ∙ found_only c.args.staged.now.entries c.args.vertex c.in_ok-only.only.now c.in_ok-only.ends.now c.len.result c.eq.result c.if-len-gt1.false c.len.ensures.len c.in_ok-only.ensures.entry c.eq.ensures

pub returns-else-eq : goal.returns-else-eq
returns-else-eq c =
    ap (λ (b : Bool). cond b (Some c.in_ok-only.ends.now) None) (sym c.if-eq.false)
    ∙ found_only c.args.staged.now.entries c.args.vertex c.in_ok-only.only.now c.in_ok-only.ends.now c.len.result c.eq.result c.if-len-gt1.false c.len.ensures.len c.in_ok-only.ensures.entry c.eq.ensures
