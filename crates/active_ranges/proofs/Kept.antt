-- The elements of a list that a test keeps.
use Rattle.std.proofs.Common.{◌≡◌, Bool, cond, true, false, List, [], ◌∷◌, refl, sym, ap, subst, ◌∙◌, inl, inr}
use Rattle.std.specs.Prelude.{Contains, filter}
use Rattle.std.specs.Map.{keys_of}
use Rattle.ospf_types.proofs.Elements.{no_element, first_element, later_element, first_or_later}

pub kept_passes : {A : Type 0} (test : A → Bool) (xs : List A) (x : A) → Contains (filter test xs) x → Contains xs x × (test x ≡ true)
kept_passes test [] x c = absurd (no_element x c)
kept_passes {A = A} test (y ∷ ys) x c =
    elim (test y) as (λ b. test y ≡ b → Contains (cond b (y ∷ filter test ys) (filter test ys)) x → Contains (y ∷ ys) x × (test x ≡ true)) [
      | true ↦ λ is there. elim (first_or_later y x (filter test ys) there) [
        | inl first ↦ (subst (λ (z : A). Contains (z ∷ ys) x) first (first_element x ys), ap test first ∙ is)
        | inr later ↦ let w = kept_passes test ys x later in (later_element y x ys w.0, w.1)
      ]
      | false ↦ λ is there. let w = kept_passes test ys x there in (later_element y x ys w.0, w.1)
    ] refl c

pub passes_kept : {A : Type 0} (test : A → Bool) (xs : List A) (x : A) → Contains xs x → test x ≡ true → Contains (filter test xs) x
passes_kept test [] x c passes = absurd (no_element x c)
passes_kept {A = A} test (y ∷ ys) x c passes =
    elim (test y) as (λ b. test y ≡ b → Contains (cond b (y ∷ filter test ys) (filter test ys)) x) [
      | true ↦ λ is. elim (first_or_later y x ys c) [
        | inl first ↦ subst (λ (z : A). Contains (z ∷ filter test ys) x) first (first_element x (filter test ys))
        | inr later ↦ later_element y x (filter test ys) (passes_kept test ys x later passes)
      ]
      | false ↦ λ is. elim (first_or_later y x ys c) [
        | inl first ↦ absurd (let wrong : true ≡ false = sym passes ∙ ap test first ∙ is in cc)
        | inr later ↦ passes_kept test ys x later passes
      ]
    ] refl

pub keys_kept : {K X : Type 0} (test : K → Bool) (es : List (K × X)) → keys_of (filter (λ e. test e.0) es) ≡ filter test (keys_of es)
keys_kept test [] = refl
keys_kept {K = K} test (e ∷ es) =
    elim (test e.0) as (λ b. keys_of (cond b (e ∷ filter (λ f. test f.0) es) (filter (λ f. test f.0) es)) ≡ cond b (e.0 ∷ filter test (keys_of es)) (filter test (keys_of es))) [
      | true ↦ ap (λ (ks : List K). e.0 ∷ ks) (keys_kept test es)
      | false ↦ keys_kept test es
    ]
