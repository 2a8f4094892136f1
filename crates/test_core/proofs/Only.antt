-- Results of which only one key has one.
use Rattle.std.proofs.Common.{◌≡◌, ℕ, ◌==◌, List, Option, Some, None, sym, ap, subst, ◌∙◌}
use Rattle.std.specs.Prelude.{Contains, if◌then◌else◌}
use Rattle.std.proofs.lemmas.Bool.{ne_eqb}

abbrev pub only : ℕ → ℕ → ℕ → Option ℕ
only key value k = if k == key then Some value else None

-- for other keys than this one nothing is wanted
pub not_it : (keys : List ℕ) (key value : ℕ) → Contains keys key → (k : ℕ) → (Contains keys k → ⊥) → only key value k ≡ None
not_it keys key value there k absent = ap (λ b. if b then Some value else None) (ne_eqb k key (λ e. absent (subst (Contains keys) (sym e) there)))

-- where that one and the one before are named, all others have what they have to
pub others_stand : (keys : List ℕ) (before was key value : ℕ) → Contains keys before → Contains keys key → (k : ℕ) → (Contains keys k → ⊥) → only before was k ≡ only key value k
others_stand keys before was key value one other k absent = not_it keys before was one k absent ∙ sym (not_it keys key value other k absent)
