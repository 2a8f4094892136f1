-- The payload is whole just if the fragments make it so.
use Rattle.std.proofs.Common.{◌≡◌, ◌↔◌, ℕ, zero, suc, ◌<◌, Bool, true, false, List, [], ◌∷◌, length, get_or, map, refl, sym, ap, subst, ◌∙◌, Option, Some, None, is_some, arith}
use Rattle.std.specs.Prelude.{slice_index}
use Rattle.std.specs.List.{list_all}
use Rattle.std.specs.Option.{unwrap_or}
use Rattle.std.proofs.lemmas.List.{length-map}
use Rattle.packets.specs.Parts.{FragmentPart, IsPayloadWhole}
use Rattle.packets.specs.Kept.{Kept, IsMadeOf, contradicts, with_part, is_whole, payload_of}
use Rattle.packets.specs.Keeping.{whole_with}
use Rattle.packets.proofs.Choices.{not_first, not_second, both, and_true, true_not_false}
use Rattle.packets.proofs.Making.{made, refused}

-- no place is empty
all_there : (cells : List (Option ℕ)) → list_all is_some cells ≡ true → (i : ℕ) → i < length cells → get_or cells i None ≡ Some (slice_index (map (λ b. unwrap_or b 0) cells) i)
all_there [] all i lt = absurd (omega arith)
all_there (None ∷ cells) all i lt = absurd cc
all_there (Some b ∷ cells) all zero lt = refl
all_there (Some b ∷ cells) all (suc i) lt = all_there cells all i (omega arith)

all_from : (cells : List (Option ℕ)) (payload : List ℕ) → length payload ≡ length cells → ((i : ℕ) → i < length payload → get_or cells i None ≡ Some (slice_index payload i))
    → (list_all is_some cells ≡ true) × (map (λ b. unwrap_or b 0) cells ≡ payload)
all_from [] [] long there = (refl, refl)
all_from [] (b ∷ payload) long there = absurd (omega arith)
all_from (x ∷ cells) [] long there = absurd (omega arith)
all_from (x ∷ cells) (b ∷ payload) long there =
    let here : x ≡ Some b = there 0 (omega arith) in
    let rest = all_from cells payload (omega arith) (λ i lt. there (suc i) (omega arith)) in
    (rw here rest.0, rw here (ap (λ (r : List ℕ). b ∷ r) rest.1))

whole_made : (parts : List FragmentPart) (kept : Kept) → IsMadeOf parts kept → is_whole kept ≡ true → IsPayloadWhole parts (payload_of kept)
whole_made parts kept of whole =
    let split = and_true kept.has_end (list_all is_some kept.bytes) whole in
    let long : length (payload_of kept) ≡ length kept.bytes = length-map kept.bytes (λ b. unwrap_or b 0) in
    record {
      ended = sym of.ended ∙ split.0;
      agreed = of.agreed;
      long = long ∙ of.long;
      bytes = λ i lt. sym (of.bytes i) ∙ all_there kept.bytes split.1 i (omega (arith, long));
    }

made_whole : (parts : List FragmentPart) (kept : Kept) (payload : List ℕ) → IsMadeOf parts kept → IsPayloadWhole parts payload → (is_whole kept ≡ true) × (payload_of kept ≡ payload)
made_whole parts kept payload of whole =
    let cells = all_from kept.bytes payload (whole.long ∙ sym of.long) (λ i lt. of.bytes i ∙ whole.bytes i lt) in
    (rw (of.ended ∙ whole.ended) cells.0, cells.1)

same_some : (a b : List ℕ) → (let x : Option (List ℕ) = Some a in x) ≡ Some b → a ≡ b
same_some a b e = cc

none_some : (o : Option (List ℕ)) (b : List ℕ) → None ≡ o → o ≡ Some b → ⊥
none_some None b n s = cc
none_some (Some a) b n s = cc

module _ (p : FragmentPart) (parts : List FragmentPart) (kept : Kept) (of : IsMadeOf parts kept) (payload : List ℕ) where
  by_whole : (fits : contradicts p kept ≡ false) (d : Bool) → is_whole (with_part p kept) ≡ d → (whole_with p kept ≡ Some payload) ↔ IsPayloadWhole (p ∷ parts) payload
  by_whole fits true whole =
      let now = made p parts kept of fits in
      let found : Some (payload_of (with_part p kept)) ≡ whole_with p kept = both (contradicts p kept) (is_whole (with_part p kept)) (Some (payload_of (with_part p kept))) None fits whole in (
        λ e. subst (IsPayloadWhole (p ∷ parts)) (same_some (payload_of (with_part p kept)) payload (found ∙ e)) (whole_made (p ∷ parts) (with_part p kept) now whole),
        λ w. sym found ∙ ap (λ (b : List ℕ). Some b) (made_whole (p ∷ parts) (with_part p kept) payload now w).1,
      )
  by_whole fits false whole =
      let now = made p parts kept of fits in
      let found : None ≡ whole_with p kept = not_second (contradicts p kept) (is_whole (with_part p kept)) (Some (payload_of (with_part p kept))) None whole in (
        λ e. absurd (none_some (whole_with p kept) payload found e),
        λ w. absurd (true_not_false (made_whole (p ∷ parts) (with_part p kept) payload now w).0 whole),
      )

  by_fit : (b : Bool) → contradicts p kept ≡ b → (whole_with p kept ≡ Some payload) ↔ IsPayloadWhole (p ∷ parts) payload
  by_fit true against =
      let found : None ≡ whole_with p kept = not_first (contradicts p kept) (is_whole (with_part p kept)) (Some (payload_of (with_part p kept))) None against in (
        λ e. absurd (none_some (whole_with p kept) payload found e),
        λ w. absurd (refused p parts kept of against w.agreed),
      )
  by_fit false fits = by_whole fits (is_whole (with_part p kept)) refl

  pub whole_just : (whole_with p kept ≡ Some payload) ↔ IsPayloadWhole (p ∷ parts) payload
  whole_just = by_fit (contradicts p kept) refl
