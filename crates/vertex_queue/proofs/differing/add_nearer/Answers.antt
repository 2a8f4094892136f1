use Rattle.std.proofs.Common.{◌≡◌, ◌+◌, List, ◌++◌, ◌∷◌, [], take, subst, sym, ap, ◌∙◌}
use Rattle.ospf_types.specs.declared.entry.Vertex.{Vertex}
use Rattle.vertex_queue.specs.Differing.{IsGrown, IsNearer}
use Rattle.vertex_queue.proofs.Grown.{nearer_added, nearer_passed, grown_at, grown_all}
use Rattle.vertex_queue.proofs.differing.add_nearer.Goals as goal
use Rattle.vertex_queue.proofs.differing.add_nearer.Goals.{then-not-has+in_ok-push, else-not-has}

pub loop-vertex-preserved : goal.loop-vertex-preserved
loop-vertex-preserved c =
    let moved = c.args.moved.now in
    let lost = c.args.lost.now in
    let i = c.loop-vertex.vertex-index in
    let v = c.vertex-item.result in
    let start = c.args.listing.now in
    let was = c.loop-vertex.listing in
    elim c.if-not-has.branch [
      | then-not-has+in_ok-push w ↦
          let items : c.if-not-has.listing ≡ was ++ v ∷ [] = w.listing-is ∙ w.in_ok-push.ensures.pushed ∙ ap (λ (u : Vertex). was ++ u ∷ []) w.vertex.ensures in
          subst (λ (vs : List Vertex). IsGrown vs start (IsNearer (take (i + 1) moved) lost)) (sym items)
          (grown_at (was ++ v ∷ []) start (λ vs. IsNearer vs lost) moved i v c.loop-vertex-test.true c.vertex-item.is (nearer_added was start (take i moved) lost v c.loop-vertex.invariant (λ gone. let yes = c.has.ensures.1 gone in let no = w.if-not-has.true in cc)))
      | else-not-has w ↦
          let items : c.if-not-has.listing ≡ was = w.listing-is in
          subst (λ (vs : List Vertex). IsGrown vs start (IsNearer (take (i + 1) moved) lost)) (sym items)
          (grown_at was start (λ vs. IsNearer vs lost) moved i v c.loop-vertex-test.true c.vertex-item.is (nearer_passed was start (take i moved) lost v c.loop-vertex.invariant (c.has.ensures.0 w.if-not-has.false)))
    ]

pub returns : goal.returns
returns c = grown_all c.loop-vertex.listing c.args.listing.now (λ vs. IsNearer vs c.args.lost.now) c.args.moved.now c.loop-vertex.vertex-index c.loop-vertex-test.false c.loop-vertex.invariant
