use Rattle.std.proofs.Common.{◌≡◌, ◌+◌, [], ◌∷◌, ◌++◌, length, get_or, sym, ap, ◌∙◌, arith}
use Rattle.std.specs.FinMap.{len}
use Rattle.std.proofs.lemmas.List.{length_push}
use Rattle.std.proofs.lemmas.List.Elements.{Contains-get_or}
use Rattle.vertex_graph.specs.GraphLink.{GraphLink}
use Rattle.spf.proofs.GraphVertices.{fits}
use Rattle.spf.proofs.Nearest.{AreSought, sought_at_start, sought_more, unmoved, relax_leaves, moved_most, taken_right, fewer_left}
use Rattle.spf.proofs.relax.Pending.relax.Goals as goal

pub offer_reached-requires : goal.offer_reached-requires
offer_reached-requires c = λ k d within.
    let l : GraphLink = get_or c.args.after.came.now k d in
    c.root.ensures.cheap l.from l.to l.cost l.label (c.requires.links l (Contains-get_or c.args.after.came.now k d within))

pub loop-vertex-init : goal.loop-vertex-init
loop-vertex-init c = record {
  sought = sought_at_start c.args.after.graph.now c.args.after.came.now c.args.lost.now c.as_slice.result.now c.as_slice-2.result.now c.clear.new.self c.reset.new.distances c.args.self.now.queue c.offer_into.new.self.queue c.offer_reached.new.self.queue
      c.root.result c.as_slice.ensures.value c.as_slice-2.ensures.value c.requires.none_wait c.clear.ensures c.root.ensures.value c.requires.started c.requires.links c.in_ok-reset.ensures c.in_ok-offer_into.ensures c.in_ok-offer_reached.ensures;
  counted = c.none-touched.ensures ∙ (λ i. record { taken = sym (ap length c.clear.ensures) i; hop_sets = 0 });
  small = omega (arith, ap length c.clear.ensures);
}

pub reach-requires : goal.reach-requires
reach-requires c =
    fits c.args.after.graph.now c.root.ensures.few c.root.ensures.cheap c.in-Some.vertex c.in-Some.distance
    (taken_right c.args.after.graph.now c.args.after.came.now c.loop-vertex.invariant.sought c.in-Some.vertex c.in-Some.distance c.in-Some.ensures.first)

pub push-requires : goal.push-requires
push-requires c = unmoved c.args.after.graph.now c.args.after.came.now c.loop-vertex.invariant.sought c.in-Some.vertex c.in-Some.distance c.in-Some.ensures.first

-- what was added is at the end
at_end : (c : goal.Else-prove) → c.push.new.self ≡ c.loop-vertex.moved ++ c.in-Some.vertex ∷ []
at_end c = c.in_ok-push.ensures.pushed

-- the round
one_more : (c : goal.Else-prove) → AreSought c.args.after.graph.now c.args.after.came.now c.reset.new.distances c.args.self.now.stale c.reach.new.distances c.reach.new.self.queue c.push.new.self c.reach.new.self.stale
one_more c =
    sought_more c.args.after.graph.now c.args.after.came.now c.loop-vertex.invariant.sought c.in-Some.vertex c.in-Some.distance c.in-Some.ensures.first c.reach.new.distances c.take.new.queue c.reach.new.self.queue c.push.new.self (at_end c)
    c.in-Some.ensures.rest c.in_ok-reach.ensures.set c.in_ok-reach.ensures.made

one_longer : (c : goal.Else-prove) → length c.push.new.self ≡ length c.loop-vertex.moved + 1
one_longer c = ap length (at_end c) ∙ length_push c.loop-vertex.moved c.in-Some.vertex

pub loop-vertex-smaller : goal.loop-vertex-smaller
loop-vertex-smaller c = fewer_left (len c.args.after.graph.now.ends) (length c.loop-vertex.moved) (length c.push.new.self) (one_longer c) (moved_most c.args.after.graph.now c.args.after.came.now (one_more c))

pub loop-vertex-preserved : goal.loop-vertex-preserved
loop-vertex-preserved c = record {
  sought = one_more c;
  counted =
      c.in-Some.ensures.counted ∙ (λ i. record { taken = (c.loop-vertex.invariant.counted i).taken + 1; hop_sets = (c.loop-vertex.invariant.counted i).hop_sets })
      ∙ (λ i. record { taken = sym (one_longer c) i; hop_sets = 0 });
  small = omega (arith, c.len.ensures.value, c.len.ensures.small);
}

pub returns-clause-relaxed : goal.returns-clause-relaxed
returns-clause-relaxed c =
    relax_leaves c.args.after.graph.now c.args.after.came.now c.args.lost.now c.as_slice.result.now c.reset.new.distances c.loop-vertex.distances c.loop-vertex.self.queue c.as_slice.ensures.value c.in_ok-reset.ensures c.in_default.ensures.none c.loop-vertex.invariant.sought
