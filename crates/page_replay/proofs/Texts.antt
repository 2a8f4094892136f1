-- Texts that grow piece by piece.
use Rattle.std.proofs.Common.{arith, refl, ◌≡◌, ◌==◌, ℕ, Bool, true, false, List, [], ◌∷◌, ◌++◌, length, ap, sym, ◌∙◌, append_assoc, append-nil}
use Rattle.std.proofs.lemmas.Bool.Decides.{nat_tests}
use Rattle.page_sections.specs.Frame.{changes_beginning_text, changes_end_text, changes_text}

pub two : (t m n a b : List ℕ) → m ≡ t ++ a → n ≡ m ++ b → n ≡ t ++ (a ++ b)
two t m n a b first second = second ∙ ap (λ (l : List ℕ). l ++ b) first ∙ append_assoc t a b

pub three : (t m n o a b c : List ℕ) → m ≡ t ++ a → n ≡ m ++ b → o ≡ n ++ c → o ≡ t ++ (a ++ (b ++ c))
three t m n o a b c first second third = two t m o a (b ++ c) first (two m n o b c second third)

pub four : (t m n o p a b c d : List ℕ) → m ≡ t ++ a → n ≡ m ++ b → o ≡ n ++ c → p ≡ o ++ d → p ≡ t ++ (a ++ (b ++ (c ++ d)))
four t m n o p a b c d first second third fourth = two t m p a (b ++ (c ++ d)) first (three m n o p b c d second third fourth)

-- a text of two parts, with bytes between them
pub around : (front beginning told ending last changes : List ℕ) (t m n p q e f g bytes whole : List ℕ) → t ≡ [] → m ≡ t ++ front → n ≡ m ++ beginning → p ≡ n → q ≡ p ++ told
    → e ≡ [] → f ≡ e ++ ending → g ≡ f ++ last → bytes ≡ g → whole ≡ q ++ bytes → beginning ++ (told ++ ending) ≡ changes → whole ≡ front ++ (changes ++ last)
around front beginning told ending last changes t m n p q e f g bytes whole empty first second same third none fourth fifth kept sixth is =
    let before : q ≡ (front ++ beginning) ++ told = third ∙ ap (λ (l : List ℕ). l ++ told) (same ∙ two t m n front beginning first second ∙ ap (λ (l : List ℕ). l ++ (front ++ beginning)) empty) in
    let after : bytes ≡ ending ++ last = kept ∙ two e f g ending last fourth fifth ∙ ap (λ (l : List ℕ). l ++ (ending ++ last)) none in
    sixth ∙ ap (λ (l : List ℕ). l ++ bytes) before ∙ ap (λ (l : List ℕ). ((front ++ beginning) ++ told) ++ l) after
    ∙ append_assoc (front ++ beginning) told (ending ++ last) ∙ append_assoc front beginning (told ++ (ending ++ last))
    ∙ ap (λ (l : List ℕ). front ++ l) (sym (append_assoc beginning (told ++ ending) last ∙ ap (λ (l : List ℕ). beginning ++ l) (append_assoc told ending last)))
    ∙ ap (λ (l : List ℕ). front ++ (l ++ last)) is

some : (c : ℕ) (cs : List ℕ) → true ≡ (length (c ∷ cs) == 0) → ⊥
some c cs is = grind (arith, nat_tests)

-- the last changes, between the text before and after them
pub told_is : (told : List ℕ) (nothing : Bool) → nothing ≡ (length told == 0) → changes_beginning_text nothing ++ (told ++ changes_end_text nothing) ≡ changes_text told
told_is [] true is = append-nil (changes_beginning_text true)
told_is [] false is = absurd (not_so is)
  where
    not_so : false ≡ (length {A = ℕ} [] == 0) → ⊥
    not_so is = cc
told_is (c ∷ cs) true is = absurd (some c cs is)
told_is (c ∷ cs) false is = refl
