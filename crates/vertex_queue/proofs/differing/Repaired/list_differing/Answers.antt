use Rattle.std.proofs.Common.{List, ◌++◌, subst, ◌∙◌}
use Rattle.std.proofs.lemmas.Result.{on_ok_weaker}
use Rattle.ospf_types.specs.declared.entry.Vertex.{Vertex}
use Rattle.vertex_queue.specs.Differing.{IsFarther, IsGrown, IsNearer}
use Rattle.vertex_queue.proofs.SortedOnce.{grown_twice}
use Rattle.vertex_queue.proofs.differing.Repaired.list_differing.Goals as goal

pub returns-clause-exact : goal.returns-clause-exact
returns-clause-exact c =
    let once = c.add_farther.new.listing in
    let twice = c.add_nearer.new.listing in
    let lost = c.args.self.lost.now in
    on_ok_weaker c.list.result
    (λ same.
    grown_twice c.args.self.written.now once twice c.list.new.vertices.items (IsFarther c.args.self.remembered.now c.args.self.distances.now) (IsNearer c.args.self.moved.now lost)
    (subst (λ (vs : List Vertex). IsGrown once vs (IsFarther c.args.self.remembered.now c.args.self.distances.now)) (c.in_ok-add_all.ensures ∙ (λ i. c.clear.ensures i ++ c.as_slice.ensures.value i)) c.in_ok-add_farther.ensures)
    (subst (λ (vs : List Vertex). IsGrown twice once (IsNearer vs lost)) c.as_slice-2.ensures.value c.in_ok-add_nearer.ensures)
    same)
    c.list.ensures.same
