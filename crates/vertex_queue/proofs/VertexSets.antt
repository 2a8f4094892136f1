-- One more vertex in a list, and the vertices before a place.
use Rattle.std.proofs.Common.{◌≡◌, ℕ, ◌<◌, Bool, List, [], ◌∷◌, ◌++◌, length, get_or, take, sym, subst, ◌∙◌, inl, inr, arith}
use Rattle.std.specs.List.{Contains}
use Rattle.std.proofs.lemmas.List.{get_or-take, get_or_default, length-take-le}
use Rattle.ospf_types.specs.declared.entry.Vertex.{Vertex}
use Rattle.vertex_queue.specs.VertexSet.{HasNoDoubles, IsAdded, IsWithMember}
use Rattle.vertex_queue.proofs.Elements.{added_end}

-- what was added is there
pub member_added : (old new : List Vertex) (v : Vertex) (fresh : Bool) → IsWithMember old new v fresh → IsAdded old new v
member_added old new v fresh (inl one) = subst (λ (vs : List Vertex). IsAdded old vs v) (sym one.1) (added_end v old)
member_added old new v fresh (inr same) = subst (λ (vs : List Vertex). IsAdded old vs v) (sym same.1) (record { grows = λ w there. there; here = same.2; only = λ w there. inr there })

-- the vertices before a place are without the one that is there
pub before_apart : (vs : List Vertex) (i : ℕ) (d : Vertex) → HasNoDoubles vs → i < length vs → Contains (take i vs) (get_or vs i d) → ⊥
before_apart vs i d apart lt there =
    let short : there.0 < i = omega (arith, there.1, length-take-le i vs (omega (arith, lt))) in
    apart there.0 i (get_or vs i d) short lt (sym (get_or-take i vs there.0 (get_or vs i d) short) ∙ there.2 ∙ get_or_default vs i d (get_or vs i d) lt)

-- what was pushed is there
pub member_pushed : (old now new : List Vertex) (v : Vertex) → old ≡ now → new ≡ old ++ v ∷ [] → IsAdded now new v
member_pushed old now new v was pushed =
    subst (λ (vs : List Vertex). IsAdded vs new v) was (subst (λ (vs : List Vertex). IsAdded old vs v) (sym pushed) (added_end v old))
