-- Comparing Options and body byte by byte compares them.
use Rattle.std.proofs.Common.{◌≡◌, ℕ, ◌-◌, Bool, true, false, List, length, take, drop, eqb, sym, ap, ◌∙◌}
use Rattle.std.specs.Prelude.{◌↔◌, IsTrue}
use Rattle.std.specs.Bool.{Decides}
use Rattle.std.specs.Cmp.Lexicographic.{pointwise}
use Rattle.std.proofs.lemmas.Slice.Eq.{slice_eq-Decides}
use Rattle.std.proofs.lemmas.Bool.Decides.{Decides-eqb}
use Rattle.ospf_types.specs.Lsa.{Lsa, kind_of}
use Rattle.lsa_codec.specs.Spelling.{body_bytes}
use Rattle.lsa_codec.specs.Decoding.{lsa_of}
use Rattle.lsa_codec.specs.Kept.{IsKept}
use Rattle.lsa_codec.proofs.Checksums.{from_place}
use Rattle.lsa_codec.proofs.Kept.{kept_legal, kept_spelled, kept_body, same_options, same_kind, same_body, same_front}

-- two advertisements, by their bytes
pub record Two (a b : List ℕ) (l m : Lsa) : Type 0 where
  pub first : lsa_of a ≡ l
  pub second : lsa_of b ≡ m
  pub kept_first : IsKept a
  pub kept_second : IsKept b

front_decides : (a b p q : List ℕ) (f : Bool) → p ≡ a → q ≡ b → f ≡ pointwise eqb (take 2 (drop 2 p)) (take 2 (drop 2 q)) → Decides f (take 2 (drop 2 a) ≡ take 2 (drop 2 b))
front_decides a b p q f ep eq is =
    slice_eq-Decides Decides-eqb (take 2 (drop 2 a)) (take 2 (drop 2 b)) f (is ∙ ap (λ (x : List ℕ). pointwise eqb (take 2 (drop 2 x)) (take 2 (drop 2 q))) ep ∙ ap (λ (x : List ℕ). pointwise eqb (take 2 (drop 2 a)) (take 2 (drop 2 x))) eq)

abbrev rest_of : List ℕ → List ℕ
rest_of x = take (length x - 20) (drop 20 x)

rest_decides : (a b p q : List ℕ) (f : Bool) → p ≡ a → q ≡ b → f ≡ pointwise eqb (rest_of p) (rest_of q) → Decides f (drop 20 a ≡ drop 20 b)
rest_decides a b p q f ep eq is =
    let ea : rest_of p ≡ drop 20 a = from_place 20 p ∙ ap (drop 20) ep in
    let eb : rest_of q ≡ drop 20 b = from_place 20 q ∙ ap (drop 20) eq in
    slice_eq-Decides Decides-eqb (drop 20 a) (drop 20 b) f (is ∙ ap (λ (x : List ℕ). pointwise eqb x (rest_of q)) ea ∙ ap (λ (x : List ℕ). pointwise eqb (drop 20 a) x) eb)

fronts_same : (a b : List ℕ) (l m : Lsa) → Two a b l m → l.header.options ≡ m.header.options → l.body ≡ m.body → take 2 (drop 2 a) ≡ take 2 (drop 2 b)
fronts_same a b l m two e body =
    let kind : l.header.kind ≡ m.header.kind = (kept_legal a l two.first two.kept_first).kind ∙ ap kind_of body ∙ sym (kept_legal b m two.second two.kept_second).kind in
    same_front a b l m (kept_spelled a l two.first two.kept_first) (kept_spelled b m two.second two.kept_second) kind e

differ : (f : Bool) → f ≡ false → f ≡ true → ⊥
differ f is_false is_true = cc

pub differ_in_front : (a b p q : List ℕ) (l m : Lsa) (f : Bool) → Two a b l m → p ≡ a → q ≡ b → f ≡ pointwise eqb (take 2 (drop 2 p)) (take 2 (drop 2 q)) → f ≡ false
    → (IsTrue f ↔ ((l.header.options ≡ m.header.options) × (l.body ≡ m.body)))
differ_in_front a b p q l m f two ep eq is is_false =
    let d = front_decides a b p q f ep eq is in
    (λ is_true. absurd (differ f is_false is_true), λ both. d.1 (fronts_same a b l m two both.0 both.1))

pub same_in_front : (a b p q r s : List ℕ) (l m : Lsa) (f g : Bool) → Two a b l m → p ≡ a → q ≡ b → r ≡ a → s ≡ b → f ≡ pointwise eqb (take 2 (drop 2 p)) (take 2 (drop 2 q)) → f ≡ true → g ≡ pointwise eqb (rest_of r) (rest_of s)
    → (IsTrue g ↔ ((l.header.options ≡ m.header.options) × (l.body ≡ m.body)))
same_in_front a b p q r s l m f g two ep eq er es is is_true rest =
    let front = front_decides a b p q f ep eq is in
    let back = rest_decides a b r s g er es rest in (
      λ same. (
        same_options a b l m (kept_spelled a l two.first two.kept_first) (kept_spelled b m two.second two.kept_second) (front.0 is_true),
        same_body a b l m two.first two.second (same_kind a b l m (kept_spelled a l two.first two.kept_first) (kept_spelled b m two.second two.kept_second) (front.0 is_true)) (back.0 same),
      ),
      λ both. back.1 (kept_body a l two.first two.kept_first ∙ ap body_bytes both.1 ∙ sym (kept_body b m two.second two.kept_second)),
    )
