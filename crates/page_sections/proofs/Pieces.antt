-- A text to which pieces are appended.
use Rattle.std.proofs.Common.{◌≡◌, ℕ, ◌+◌, ◌<◌, List, [], ◌∷◌, ◌++◌, length, take, get_or, map, refl, ap, sym, ◌∙◌, append_assoc, append-nil}
use Rattle.std.specs.List.{flat_map}
use Rattle.std.proofs.lemmas.List.{take_more}
use Rattle.std.proofs.lemmas.List.Concat.{flat_map-append}

pub two_pieces : (old m1 new a b : List ℕ) → m1 ≡ old ++ a → new ≡ m1 ++ b → new ≡ old ++ (a ++ b)
two_pieces old m1 new a b p1 p2 = p2 ∙ ap (λ l. l ++ b) p1 ∙ append_assoc old a b

pub three_pieces : (old m1 m2 new a b c : List ℕ) → m1 ≡ old ++ a → m2 ≡ m1 ++ b → new ≡ m2 ++ c → new ≡ old ++ (a ++ (b ++ c))
three_pieces old m1 m2 new a b c p1 p2 p3 = two_pieces old m1 new a (b ++ c) p1 (two_pieces m1 m2 new b c p2 p3)

pub four_pieces : (old m1 m2 m3 new a b c d : List ℕ) → m1 ≡ old ++ a → m2 ≡ m1 ++ b → m3 ≡ m2 ++ c → new ≡ m3 ++ d → new ≡ old ++ (a ++ (b ++ (c ++ d)))
four_pieces old m1 m2 m3 new a b c d p1 p2 p3 p4 = two_pieces old m1 new a (b ++ (c ++ d)) p1 (three_pieces m1 m2 m3 new b c d p2 p3 p4)

pub five_pieces : (old m1 m2 m3 m4 new a b c d e : List ℕ) → m1 ≡ old ++ a → m2 ≡ m1 ++ b → m3 ≡ m2 ++ c → m4 ≡ m3 ++ d → new ≡ m4 ++ e → new ≡ old ++ (a ++ (b ++ (c ++ (d ++ e))))
five_pieces old m1 m2 m3 m4 new a b c d e p1 p2 p3 p4 p5 = two_pieces old m1 new a (b ++ (c ++ (d ++ e))) p1 (four_pieces m1 m2 m3 m4 new b c d e p2 p3 p4 p5)

-- the printed text of one element more of a list
flat_map_next : {X : Type 0} (text : X → List ℕ) (xs : List X) (i : ℕ) (x : X) → i < length xs → x ≡ get_or xs i x → flat_map text (take (i + 1) xs) ≡ flat_map text (take i xs) ++ text x
flat_map_next text xs i x within is =
    ap (flat_map text) (take_more xs i x within ∙ ap (λ y. take i xs ++ y ∷ []) (sym is)) ∙ flat_map-append text (take i xs) (x ∷ []) ∙ ap (λ l. flat_map text (take i xs) ++ l) (append-nil (text x))

pub one_more : {X : Type 0} (text : X → List ℕ) (xs : List X) (i : ℕ) (x : X) (old now new : List ℕ) → now ≡ old ++ flat_map text (take i xs) → i < length xs → x ≡ get_or xs i x → new ≡ now ++ text x
    → new ≡ old ++ flat_map text (take (i + 1) xs)
one_more text xs i x old now new so_far within is printed =
    two_pieces old now new (flat_map text (take i xs)) (text x) so_far printed ∙ ap (λ l. old ++ l) (sym (flat_map_next text xs i x within is))

-- the printed text of the first element that is left
pub first_printed : {X : Type 0} (text : X → List ℕ) (left : List X) (x : X) (rest : List X) (now new whole : List ℕ) → now ++ flat_map text left ≡ whole → left ≡ x ∷ rest → new ≡ now ++ text x
    → new ++ flat_map text rest ≡ whole
first_printed text left x rest now new whole so_far is printed =
    ap (λ l. l ++ flat_map text rest) printed ∙ append_assoc now (text x) (flat_map text rest) ∙ ap (λ l. now ++ flat_map text l) (sym is) ∙ so_far

-- none is left
pub all_printed : {X : Type 0} (text : X → List ℕ) (left : List X) (now whole : List ℕ) → now ++ flat_map text left ≡ whole → left ≡ [] → now ≡ whole
all_printed text left now whole so_far none = sym (append-nil now) ∙ ap (λ l. now ++ flat_map text l) (sym none) ∙ so_far

-- the printed text of the elements by way of others
pub printed_by : {X Y : Type 0} (by : X → Y) (text : Y → List ℕ) (xs : List X) → flat_map (λ x. text (by x)) xs ≡ flat_map text (map by xs)
printed_by by text [] = refl
printed_by by text (x ∷ xs) = ap (λ l. text (by x) ++ l) (printed_by by text xs)
