use Rattle.std.proofs.Common.{◌≡◌, ◌++◌, ◌∷◌, [], List, sym, ap, subst, ◌∙◌}
use Rattle.std.specs.List.{Contains}
use Rattle.ospf_types.specs.declared.entry.Vertex.{Vertex}
use Rattle.vertex_queue.specs.VertexSet.{HasNoDoubles}
use Rattle.vertex_queue.specs.Marks.{AreFound}
use Rattle.vertex_queue.proofs.Marking.{apart_pushed}
use Rattle.vertex_queue.proofs.vertex_set.VertexSet.push.Goals as goal

pub mark-requires-clause-apart : goal.mark-requires-clause-apart
mark-requires-clause-apart c = subst (λ (vs : List Vertex). HasNoDoubles vs) (sym c.as_slice.ensures) c.self.invariant.0

pub mark-requires-clause-fresh : goal.mark-requires-clause-fresh
mark-requires-clause-fresh c = λ there. c.requires (subst (λ (vs : List Vertex). Contains vs c.args.vertex.now) (c.as_slice.ensures ∙ c.self.view_is) there)

pub mark-requires-clause-found : goal.mark-requires-clause-found
mark-requires-clause-found c = subst (λ (vs : List Vertex). AreFound c.self.inside.marks vs) (sym c.as_slice.ensures) c.self.invariant.1

pub invariant_of-self : goal.invariant_of-self
invariant_of-self c = (c.self.invariant.0, subst (λ (vs : List Vertex). AreFound c.mark.new.marks vs) c.as_slice.ensures c.in_err-mark.ensures.still)

pub invariant_of-self-in_err-push : goal.invariant_of-self-in_err-push
invariant_of-self-in_err-push c =
    subst (λ (vs : List Vertex). HasNoDoubles vs × AreFound c.mark.new.marks vs) (sym (ap (λ (l : _). l.items) c.in_err-push.ensures.err))
    (c.self.invariant.0, subst (λ (vs : List Vertex). AreFound c.mark.new.marks vs) c.as_slice.ensures c.in_ok-mark.ensures.still)

pub invariant_of-self-2 : goal.invariant_of-self-2
invariant_of-self-2 c =
    let items = c.self.inside.list.items in
    let v = c.args.vertex.now in
    let fresh : Contains items v → ⊥ = λ there. c.requires (subst (λ (vs : List Vertex). Contains vs v) c.self.view_is there) in
    let is : c.push.new.self.items ≡ items ++ v ∷ [] = c.in_ok-push.ensures.ok ∙ ap (λ (w : Vertex). items ++ w ∷ []) c.copy.ensures in
    subst (λ (vs : List Vertex). HasNoDoubles vs × AreFound c.mark.new.marks vs) (sym is)
    (apart_pushed items v c.self.invariant.0 fresh, subst (λ (vs : List Vertex). AreFound c.mark.new.marks (vs ++ v ∷ [])) c.as_slice.ensures c.in_ok-mark.ensures.grown)

pub returns-clause-pushed : goal.returns-clause-pushed
returns-clause-pushed c = c.in_ok-push.ensures.ok ∙ (λ i. c.self.view_is i ++ c.copy.ensures i ∷ [])
