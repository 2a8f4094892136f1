-- The next hops of vertices that are not reached, taken one after the other.
use Rattle.std.proofs.Common.{◌≡◌, ℕ, ◌+◌, ◌<◌, ◌≤◌, List, [], ◌∷◌, ◌++◌, length, take, get_or, Option, None, true, false, refl, sym, ap, subst, ◌∙◌, ◌⊎◌, inl, inr, arith}
use Rattle.std.specs.Prelude.{◌↔◌, is_some}
use Rattle.std.specs.FinMap.{get, remove}
use Rattle.std.specs.List.{Contains}
use Rattle.std.proofs.lemmas.List.{take_all, get_or_default, get_or-take, length-take}
use Rattle.std.proofs.lemmas.List.Elements.{Contains-append_left, Contains-push, Contains-push_cases}
use Rattle.ospf_types.specs.declared.entry.Vertex.{Vertex}
use Rattle.ospf_types.proofs.Elements.{no_element}
use Rattle.vertex_queue.specs.VertexSet.{HasNoDoubles}
use Rattle.vertex_queue.specs.Maps.{HopMap}
use Rattle.vertex_queue.proofs.Counting.{no_doubles_nil, no_doubles_push}
use Rattle.vertex_queue.proofs.Elements.{cases_vertex}
use Rattle.vertex_queue.proofs.VertexMaps.{gone_here, gone_elsewhere}
use Rattle.spf.specs.HandedOn.{AreBlanked}
use Rattle.spf.proofs.OptionCases.{none_there}
use Rattle.spf.proofs.OfSome.{contains_more}

-- in a list without doubles the next vertex is none of those before
pub not_before : (xs : List Vertex) (i : ℕ) (d : Vertex) → i < length xs → HasNoDoubles xs → Contains (take i xs) (get_or xs i d) → ⊥
not_before xs i d lt apart c =
    let within : c.0 < i = omega (arith, c.1, length-take i xs) in
    let there : get_or (take i xs) c.0 (get_or xs i d) ≡ get_or xs c.0 (get_or xs i d) = get_or-take i xs c.0 (get_or xs i d) within in
    let here : get_or xs i d ≡ get_or xs i (get_or xs i d) = get_or_default xs i d (get_or xs i d) lt in
    apart c.0 i (get_or xs i d) within lt (sym there ∙ c.2 ∙ here)

-- none of no vertices
pub blanked_start : (distance : Vertex → Option ℕ) (lost : List Vertex) (old : HopMap) (written : List Vertex) → written ≡ [] → AreBlanked distance (take 0 lost) old old written
blanked_start distance lost old written is = subst (λ (vs : List Vertex). AreBlanked distance (take 0 lost) old old vs) (sym is) (record {
  exact = λ v. (λ c. absurd (no_element v c), λ w. absurd (no_element v w.0));
  apart = no_doubles_nil;
  blank = λ v c. absurd (no_element v c);
  kept = λ v none. refl;
})

module _ {distance : Vertex → Option ℕ} (lost : List Vertex) {old new : HopMap} {written : List Vertex} (i : ℕ) (d : Vertex) (lt : i < length lost) (b : AreBlanked distance (take i lost) old new written) where
  -- the next vertex is one more
  more : (v : Vertex) → Contains (take (i + 1) lost) v ↔ (Contains (take i lost) v ⊎ (v ≡ get_or lost i d))
  more v = contains_more lost i (get_or lost i d) v lt (get_or_default lost i d (get_or lost i d) lt)

  -- it was not written
  pub not_written : HasNoDoubles lost → Contains written (get_or lost i d) → ⊥
  not_written apart c = not_before lost i d lt apart ((b.exact (get_or lost i d)).0 c).0

  -- it is reached
  pub blanked_skip : is_some (distance (get_or lost i d)) ≡ true → AreBlanked distance (take (i + 1) lost) old new written
  blanked_skip reached = record {
    exact = λ v. (
      λ c. let w = (b.exact v).0 c in ((more v).1 (inl w.0), w.1),
      λ w. elim ((more v).0 w.0) [
        | inl was ↦ (b.exact v).1 (was, w.1)
        | inr is ↦ let wrong : false ≡ true = sym (ap is_some (ap distance (sym is) ∙ w.1)) ∙ reached in absurd cc
      ],
    );
    apart = b.apart;
    blank = b.blank;
    kept = b.kept;
  }

  -- it is not reached
  blanked_next : HasNoDoubles lost → distance (get_or lost i d) ≡ None → AreBlanked distance (take (i + 1) lost) old (remove new (get_or lost i d)) (written ++ get_or lost i d ∷ [])
  blanked_next apart none = record {
    exact = λ v. (
      λ c. elim (Contains-push_cases written (get_or lost i d) v c) [
        | inl was ↦ let w = (b.exact v).0 was in ((more v).1 (inl w.0), w.1)
        | inr same ↦ ((more v).1 (inr (sym same)), ap distance (sym same) ∙ none)
      ],
      λ w. elim ((more v).0 w.0) [
        | inl was ↦ Contains-append_left written (get_or lost i d ∷ []) v ((b.exact v).1 (was, w.1))
        | inr is ↦ subst (λ (u : Vertex). Contains (written ++ get_or lost i d ∷ []) u) (sym is) (Contains-push written (get_or lost i d))
      ],
    );
    apart = no_doubles_push written (get_or lost i d) b.apart (not_written apart);
    blank = λ v c. elim (cases_vertex v (get_or lost i d)) [
      | inl is ↦ ap (get (remove new (get_or lost i d))) is ∙ gone_here new (get_or lost i d)
      | inr other ↦ gone_elsewhere new (get_or lost i d) v other ∙ b.blank v (elim (Contains-push_cases written (get_or lost i d) v c) [ inl was ↦ was | inr same ↦ absurd (other (sym same)) ])
    ];
    kept = λ v not_in. elim (cases_vertex v (get_or lost i d)) [
      | inl is ↦ absurd (not_in (subst (λ (u : Vertex). Contains (written ++ get_or lost i d ∷ []) u) (sym is) (Contains-push written (get_or lost i d))))
      | inr other ↦ gone_elsewhere new (get_or lost i d) v other ∙ b.kept v (λ c. not_in (Contains-append_left written (get_or lost i d ∷ []) v c))
    ];
  }

  -- so it is written
  pub blanked_more : HasNoDoubles lost → is_some (distance (get_or lost i d)) ≡ false → (blank : HopMap) (wider : List Vertex) → blank ≡ remove new (get_or lost i d) → wider ≡ written ++ get_or lost i d ∷ [] → AreBlanked distance (take (i + 1) lost) old blank wider
  blanked_more apart unreached blank wider hops_are wider_is =
      subst (λ (m : HopMap). AreBlanked distance (take (i + 1) lost) old m wider) (sym hops_are)
      (subst (λ (vs : List Vertex). AreBlanked distance (take (i + 1) lost) old (remove new (get_or lost i d)) vs) (sym wider_is) (blanked_next apart (none_there (distance (get_or lost i d)) unreached)))

-- all of them
pub blanked_end : {distance : Vertex → Option ℕ} (lost : List Vertex) {old new : HopMap} {written : List Vertex} (i : ℕ) → length lost ≤ i → AreBlanked distance (take i lost) old new written → AreBlanked distance lost old new written
blanked_end {distance} lost {old} {new} {written} i past b = subst (λ (vs : List Vertex). AreBlanked distance vs old new written) (take_all i lost past) b
