-- Records of one size: what is read is spelled so, and what is spelled so is read.
use Rattle.std.proofs.Common.{◌≡◌, ℕ, zero, suc, ◌+◌, ◌*◌, ◌<◌, ◌≤◌, List, [], ◌∷◌, ◌++◌, length, drop, Some, refl, sym, ap, ◌∙◌, arith}
use Rattle.std.specs.List.{flat_map, slice_get, AllByRecursion}
use Rattle.std.proofs.lemmas.List.{length-append, length-drop, drop-drop, drop_at, nil_from_length}
use Rattle.lsa_codec.specs.Decoding.{records}
use Rattle.lsa_codec.proofs.Words.{IsBytes, IsBytes-drop}

-- bytes that begin with a record
pub record RecordTaken {A : Type 0} (encode : A → List ℕ) (decode : List ℕ → A) (IsLegal : A → Type 0) (size : ℕ) (bytes : List ℕ) : Type 0 where
  pub text : encode (decode bytes) ++ drop size bytes ≡ bytes
  pub legal : IsLegal (decode bytes)

-- this many records, and nothing else
pub record RecordsTaken {A : Type 0} (encode : A → List ℕ) (decode : List ℕ → A) (IsLegal : A → Type 0) (size n : ℕ) (bytes : List ℕ) : Type 0 where
  pub text : flat_map encode (records decode size n bytes) ≡ bytes
  pub legal : AllByRecursion IsLegal (records decode size n bytes)

pub records_take : {A : Type 0} (encode : A → List ℕ) (decode : List ℕ → A) (IsLegal : A → Type 0) (size : ℕ)
    → ((bytes : List ℕ) → IsBytes bytes → size ≤ length bytes → RecordTaken encode decode IsLegal size bytes)
    → (n : ℕ) (bytes : List ℕ) → IsBytes bytes → length bytes ≡ n * size → RecordsTaken encode decode IsLegal size n bytes
records_take encode decode IsLegal size one zero bytes fits room = record { text = sym (nil_from_length bytes (omega (arith, room))); legal = tt }
records_take encode decode IsLegal size one (suc n) bytes fits room =
    let more = records_take encode decode IsLegal size one n (drop size bytes) (IsBytes-drop size bytes fits) (omega (arith, room, length-drop size bytes)) in
    let front = one bytes fits (omega (arith, room)) in
    record {
      text = ap (λ (r : List ℕ). encode (decode bytes) ++ r) more.text ∙ front.text;
      legal = (front.legal, more.legal);
    }

-- how a record that was written is read again
pub record RecordAgain {A : Type 0} (encode : A → List ℕ) (decode : List ℕ → A) (IsLegal : A → Type 0) (size : ℕ) : Type 0 where
  pub long : (x : A) → length (encode x) ≡ size
  pub same : (x : A) (rest : List ℕ) → IsLegal x → decode (encode x ++ rest) ≡ x

pub length-records : {A : Type 0} (encode : A → List ℕ) (size : ℕ) → ((x : A) → length (encode x) ≡ size) → (xs : List A) → length (flat_map encode xs) ≡ length xs * size
length-records encode size long [] = omega arith
length-records encode size long (x ∷ xs) =
    omega (arith, length-append (encode x) (flat_map encode xs), long x, length-records encode size long xs)

pub records_again : {A : Type 0} (encode : A → List ℕ) (decode : List ℕ → A) (IsLegal : A → Type 0) (size : ℕ) → RecordAgain encode decode IsLegal size
    → (xs : List A) → AllByRecursion IsLegal xs → records decode size (length xs) (flat_map encode xs) ≡ xs
records_again encode decode IsLegal size again [] legal = refl
records_again {A = A} encode decode IsLegal size again (x ∷ xs) legal =
    let others : List ℕ = flat_map encode xs in
    ap (λ (r : List ℕ). decode (encode x ++ others) ∷ records decode size (length xs) r) (drop_at (encode x) others size (again.long x))
    ∙ ap (λ (r : List A). decode (encode x ++ others) ∷ r) (records_again encode decode IsLegal size again xs legal.1)
    ∙ ap (λ (y : A). y ∷ xs) (again.same x others legal.0)

-- the record at a place is read where it stands
pub record_at : {A : Type 0} (encode : A → List ℕ) (decode : List ℕ → A) (IsLegal : A → Type 0) (size : ℕ) → RecordAgain encode decode IsLegal size
    → (n : ℕ) (xs : List A) → AllByRecursion IsLegal xs → n < length xs → slice_get xs n ≡ Some (decode (drop (size * n) (flat_map encode xs)))
record_at encode decode IsLegal size again n [] legal lt = absurd (omega arith)
record_at {A = A} encode decode IsLegal size again zero (x ∷ xs) legal lt =
    let none : size * 0 ≡ 0 = omega arith in
    ap (λ (y : A). Some y) (sym (again.same x (flat_map encode xs) legal.0)) ∙ ap (λ (k : ℕ). Some (decode (drop k (encode x ++ flat_map encode xs)))) (sym none)
record_at encode decode IsLegal size again (suc n) (x ∷ xs) legal lt =
    let others : List ℕ = flat_map encode xs in
    let split : size * suc n ≡ size + size * n = omega arith in
    let skip : drop (size * n) others ≡ drop (size * suc n) (encode x ++ others) = ap (drop (size * n)) (sym (drop_at (encode x) others size (again.long x))) ∙ drop-drop (size * n) size (encode x ++ others) ∙ ap (λ (k : ℕ). drop k (encode x ++ others)) (sym split) in
    record_at encode decode IsLegal size again n xs legal.1 (omega arith) ∙ ap (λ (r : List ℕ). Some (decode r)) skip
