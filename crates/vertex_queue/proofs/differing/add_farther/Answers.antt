use Rattle.std.proofs.Common.{◌≡◌, ◌≢◌, ◌+◌, List, ◌++◌, ◌∷◌, [], take, subst, sym, ap, ◌∙◌}
use Rattle.std.specs.FinMap.{get}
use Rattle.ospf_types.specs.declared.entry.Vertex.{Vertex}
use Rattle.vertex_queue.specs.Differing.{IsFarther, IsGrown}
use Rattle.vertex_queue.proofs.Grown.{farther_added, farther_passed, grown_at, grown_all, same_unless, other_if}
use Rattle.vertex_queue.proofs.differing.add_farther.Goals as goal
use Rattle.vertex_queue.proofs.differing.add_farther.Goals.{then-ne+in_ok-push, else-ne}

pub loop-vertex-preserved : goal.loop-vertex-preserved
loop-vertex-preserved c =
    let before = c.args.remembered.now in
    let i = c.loop-vertex.vertex-index in
    let p = c.loop-vertex-item.result in
    let start = c.args.listing.now in
    let was = c.loop-vertex.listing in
    elim c.if-ne.branch [
      | then-ne+in_ok-push w ↦
          let items : c.if-ne.listing ≡ was ++ p.0 ∷ [] = w.listing-is ∙ w.in_ok-push.ensures.pushed ∙ ap (λ (v : Vertex). was ++ v ∷ []) w.vertex.ensures in
          let other : get c.args.distances.now p.0 ≢ p.1 = other_if (get c.args.distances.now p.0) c.get.result p.1 c.ne.result c.get.ensures.value c.ne.ensures w.if-ne.true in
          subst (λ (vs : List Vertex). IsGrown vs start (IsFarther (take (i + 1) before) c.args.distances.now)) (sym items)
          (grown_at (was ++ p.0 ∷ []) start (λ ps. IsFarther ps c.args.distances.now) before i p c.loop-vertex-test.true c.loop-vertex-item.is (farther_added was start (take i before) p c.args.distances.now c.loop-vertex.invariant other))
      | else-ne w ↦
          let items : c.if-ne.listing ≡ was = w.listing-is in
          let same : get c.args.distances.now p.0 ≡ p.1 = same_unless (get c.args.distances.now p.0) c.get.result p.1 c.ne.result c.get.ensures.value c.ne.ensures w.if-ne.false in
          subst (λ (vs : List Vertex). IsGrown vs start (IsFarther (take (i + 1) before) c.args.distances.now)) (sym items)
          (grown_at was start (λ ps. IsFarther ps c.args.distances.now) before i p c.loop-vertex-test.true c.loop-vertex-item.is (farther_passed was start (take i before) p c.args.distances.now c.loop-vertex.invariant same))
    ]

pub returns : goal.returns
returns c = grown_all c.loop-vertex.listing c.args.listing.now (λ ps. IsFarther ps c.args.distances.now) c.args.remembered.now c.loop-vertex.vertex-index c.loop-vertex-test.false c.loop-vertex.invariant
