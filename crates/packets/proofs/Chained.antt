-- One part of a frame, and what is after it.
use Rattle.std.proofs.Common.{◌≡◌, ℕ, ◌-◌, ◌≤◌, List, ◌++◌, length, take, drop, ap, sym, subst, ◌∙◌, Option, Some, None, option_map, Bor, arith}
use Rattle.std.proofs.lemmas.List.{take-append-drop, take_all, drop_at, length-drop, length-take-le, length-append}
use Rattle.packets.specs.Frames.{Finds, Then, IsPast}

pub not_found : (found : Option (Bor (List ℕ))) (rest : List ℕ) → found ≡ None → option_map {T = Bor (List ℕ)} {U = List ℕ} (λ r. r.now) found ≡ Some rest → ⊥
not_found None rest none some = cc
not_found (Some r) rest none some = cc

same_found : (found : Option (Bor (List ℕ))) (r : Bor (List ℕ)) (rest : List ℕ) → found ≡ Some r → option_map {T = Bor (List ℕ)} {U = List ℕ} (λ r. r.now) found ≡ Some rest → r.now ≡ rest
same_found None r rest is given = absurd cc
same_found (Some x) r rest is given = cc

the_found : (found : Option (Bor (List ℕ))) (r : Bor (List ℕ)) → found ≡ Some r → option_map {T = Bor (List ℕ)} {U = List ℕ} (λ r. r.now) found ≡ Some r.now
the_found None r is = absurd cc
the_found (Some x) r is = cc

pub then_found : (A B : List ℕ → List ℕ → Type 0) (frame : List ℕ) (first second : Option (Bor (List ℕ))) (rest : Bor (List ℕ))
    → Finds first (A frame) → first ≡ Some rest → Finds second (B rest.now) → Finds second (Then A B frame)
then_found A B frame first second rest found is next packet = (
  λ given. (rest.now, (found rest.now).0 (the_found first rest is), (next packet).0 given),
  λ both. (next packet).1 (subst (λ (r : List ℕ). B r packet) (sym (same_found first rest both.0 is ((found both.0).1 both.1))) both.2),
)

pub then_none : (A B : List ℕ → List ℕ → Type 0) (frame : List ℕ) (first second : Option (Bor (List ℕ)))
    → Finds first (A frame) → first ≡ None → second ≡ None → Finds second (Then A B frame)
then_none A B frame first second found none ends packet = (
  λ given. absurd (not_found second packet ends given),
  λ both. absurd (not_found first both.0 none ((found both.0).1 both.1)),
)

pub is_past : (count : ℕ) (bytes : List ℕ) → count ≤ length bytes → IsPast count bytes (take (length bytes - count) (drop count bytes))
is_past count bytes long = record {
  front = take count bytes;
  many = length-take-le count bytes long;
  whole = sym (ap (λ (r : List ℕ). take count bytes ++ r) (take_all (length bytes - count) (drop count bytes) (omega (arith, length-drop count bytes))) ∙ take-append-drop count bytes);
}

pub past_only : (count : ℕ) (bytes rest : List ℕ) → IsPast count bytes rest → take (length bytes - count) (drop count bytes) ≡ rest
past_only count bytes rest past =
    take_all (length bytes - count) (drop count bytes) (omega (arith, length-drop count bytes))
    ∙ ap (drop count) past.whole ∙ drop_at past.front rest count past.many

pub past_long : (count : ℕ) (bytes rest : List ℕ) → IsPast count bytes rest → count ≤ length bytes
past_long count bytes rest past =
    let joined : length bytes ≡ length (past.front ++ rest) = ap length past.whole in
    omega (arith, length-append past.front rest, past.many)
