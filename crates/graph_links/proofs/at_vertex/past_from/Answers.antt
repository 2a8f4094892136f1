use Rattle.std.proofs.Common.{◌≡◌, get_or, sym, ◌∙◌, arith}
use Rattle.graph_links.specs.EndOrder.{listed_end}
use Rattle.graph_links.proofs.AtVertex.{all_passed, passed_first, passed_more}
use Rattle.graph_links.proofs.VertexTests.{equals, equals_is, vertex_other, vertex_same}
use Rattle.graph_links.proofs.at_vertex.past_from.Goals as goal

pub returns-else-eq-clause-split : goal.returns-else-eq-clause-split
returns-else-eq-clause-split c =
    all_passed c.args.vertex c.args.ends.now c.args.first c.loop-past.past c.requires.in_order c.requires.split c.loop-past.invariant.from c.loop-past.invariant.passed
    (λ lt.
    let test : c.eq.result ≡ equals (get_or c.args.ends.now c.loop-past.past (listed_end 0)).to c.args.vertex = c.eq.ensures in
    vertex_other (get_or c.args.ends.now c.loop-past.past (listed_end 0)).to c.args.vertex (sym (equals_is (get_or c.args.ends.now c.loop-past.past (listed_end 0)).to c.args.vertex) ∙ sym test ∙ c.if-eq.false))

pub loop-past-init : goal.loop-past-init
loop-past-init c = record {
  from = omega arith;
  within = c.requires.within;
  passed = passed_first c.args.vertex c.args.ends.now c.args.first c.requires.split;
}

pub loop-past-preserved : goal.loop-past-preserved
loop-past-preserved c =
    let test : c.eq.result ≡ equals (get_or c.args.ends.now c.loop-past.past (listed_end 0)).to c.args.vertex = c.eq.ensures in
    let within = c.loop-past-test.true in
    record {
      from = omega (arith, c.loop-past.invariant.from);
      within = omega (arith, within);
      passed = passed_more c.args.vertex c.args.ends.now c.loop-past.past (listed_end 0) within
          (vertex_same (get_or c.args.ends.now c.loop-past.past (listed_end 0)).to c.args.vertex (sym (equals_is (get_or c.args.ends.now c.loop-past.past (listed_end 0)).to c.args.vertex) ∙ sym test ∙ c.if-eq.true))
          c.loop-past.invariant.passed;
    }
