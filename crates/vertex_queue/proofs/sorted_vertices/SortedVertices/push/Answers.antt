use Rattle.std.proofs.Common.{◌≡◌, ◌++◌, ◌∷◌, [], ◌<◌, ◌^◌, ℕ, List, map, ap, subst, ◌∙◌, ⊎_elim}
use Rattle.std.specs.List.{Contains}
use Rattle.std.proofs.lemmas.List.{map-append}
use Rattle.std.proofs.lemmas.List.Elements.{Contains-push_cases}
use Rattle.vertex_queue.specs.Keys.{vertex_at}
use Rattle.vertex_queue.proofs.sorted_vertices.SortedVertices.push.Goals as goal

pub invariant_of-self-2 : goal.invariant_of-self-2
invariant_of-self-2 c = λ k there.
    let was = c.self.inside.keys.items in
    let key = c.key_of.result in
    ⊎_elim (c.self.invariant k) (λ (same : key ≡ k). subst (λ n. n < 2 ^ 33) same c.key_of.ensures.small)
    (Contains-push_cases was key k (subst (λ (ks : List ℕ). Contains ks k) c.in_ok-push.ensures.items there))

pub returns-clause-pushed : goal.returns-clause-pushed
returns-clause-pushed c =
    let was = c.self.inside.keys.items in
    ap (λ (ks : List ℕ). map vertex_at ks) c.in_ok-push.ensures.items ∙ map-append vertex_at was (c.key_of.result ∷ [])
    ∙ (λ i. c.self.view_is i ++ c.key_of.ensures.vertex i ∷ [])

pub invariant_of-self : goal.invariant_of-self
invariant_of-self c = λ k there. c.self.invariant k (subst (λ (ks : List ℕ). Contains ks k) c.in_err-push.ensures.items there)
