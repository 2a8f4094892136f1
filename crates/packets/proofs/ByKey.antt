-- The kept part of a datagram, by its place and by its key.
use Rattle.std.proofs.Common.{◌≡◌, ℕ, ◌<◌, true, false, List, [], ◌∷◌, ◌++◌, length, get_or, set, refl, sym, ap, ◌∙◌, inl, inr, Option, Some, None, arith}
use Rattle.std.specs.List.{list_any, find, position, remove, slice_get}
use Rattle.std.specs.Option.{unwrap_or}
use Rattle.std.proofs.lemmas.Bool.{cases_lt, eqb-true, eq-eqb}
use Rattle.std.proofs.lemmas.List.Quantifiers.{position-Some}
use Rattle.std.proofs.lemmas.List.Folds.{list_any_at}
use Rattle.std.proofs.lemmas.Option.{slice_get-get_or}
use Rattle.packets.specs.declared.key.FragmentKey.{FragmentKey}
use Rattle.packets.specs.Kept.{Kept, nothing_of, same_key}
use Rattle.packets.specs.Keeping.{AreKeysApart, has_key, kept_of, without, put, latest}
use Rattle.packets.proofs.Choices.{and_true}
use Rattle.packets.proofs.Found.{found_at, found_none, none_at, all_kept, removed, replaced}

pub key_equal : (a b : FragmentKey) → same_key a b ≡ true → a ≡ b
key_equal a b e =
    let last = and_true _ _ e in
    let third = and_true _ _ last.0 in
    let second = and_true _ _ third.0 in
    let s : a.source ≡ b.source = eqb-true _ _ second.0 in
    let d : a.destination ≡ b.destination = eqb-true _ _ second.1 in
    let n : a.identification ≡ b.identification = eqb-true _ _ third.1 in
    let p : a.protocol ≡ b.protocol = eqb-true _ _ last.1 in
    λ i. record { source = s i; destination = d i; identification = n i; protocol = p i }

pub key_itself : (a : FragmentKey) → same_key a a ≡ true
key_itself a = rw (eq-eqb a.source a.source refl, eq-eqb a.destination a.destination refl, eq-eqb a.identification a.identification refl, eq-eqb a.protocol a.protocol refl) refl

-- the datagram with the key is at the place, and nowhere else
pub record Stands (key : FragmentKey) (all : List Kept) (place : ℕ) : Type 0 where
  pub inside : place < length all
  pub here : slice_get all place ≡ Some (kept_of key all)
  pub out : remove all place ≡ without key all
  pub other : (new : Kept) → set all place new ≡ put key new all
  pub same : (kept_of key all).key ≡ key

only_here : (key : FragmentKey) (all : List Kept) (place k : ℕ) (d : Kept) → AreKeysApart all → place < length all → has_key key (get_or all place d) ≡ true
    → k < length all → has_key key (get_or all k d) ≡ true → k ≡ place
only_here key all place k d apart lt here below passes =
    let same : (get_or all place d).key ≡ (get_or all k d).key = key_equal (get_or all place d).key key here ∙ sym (key_equal (get_or all k d).key key passes) in
    elim (cases_lt k place) [
      | inl before ↦ absurd (apart k place d before lt (sym same))
      | inr from ↦ elim (cases_lt place k) [
        | inl behind ↦ absurd (apart place k d behind below same)
        | inr to ↦ omega arith
      ]
    ]

pub stands_at : (key : FragmentKey) (all : List Kept) (place : ℕ) → position (has_key key) all ≡ Some place → AreKeysApart all → Stands key all place
stands_at key all place e apart =
    let d : Kept = nothing_of key in
    let first = position-Some (has_key key) all place d e in
    let only = λ (k : ℕ) (below : k < length all) (passes : has_key key (get_or all k d) ≡ true). only_here key all place k d apart first.0 first.1 below passes in
    let found : find (has_key key) all ≡ Some (get_or all place d) = found_at (has_key key) all place d first.0 first.1 first.2 ∙ slice_get-get_or all place d first.0 in
    let kept : kept_of key all ≡ get_or all place d = ap (λ (o : Option Kept). unwrap_or o d) found in
    let some : list_any (has_key key) all ≡ true = list_any_at (has_key key) all place d first.0 first.1 in
    record {
      inside = first.0;
      here = slice_get-get_or all place d first.0 ∙ ap (λ (k : Kept). Some k) (sym kept);
      out = removed (has_key key) all place d first.0 first.1 only;
      other = λ new. rw some (replaced (has_key key) new all place d first.0 first.1 only);
      same = ap (λ (k : Kept). k.key) kept ∙ key_equal _ _ first.1;
    }

-- the datagram with the key stands nowhere
pub record IsMissing (key : FragmentKey) (all : List Kept) : Type 0 where
  pub none : list_any (has_key key) all ≡ false
  pub nothing : kept_of key all ≡ nothing_of key
  pub whole : without key all ≡ all
  pub last : (new : Kept) → put key new all ≡ latest (all ++ new ∷ [])

pub is_missing : (key : FragmentKey) (all : List Kept) → position (has_key key) all ≡ None → IsMissing key all
is_missing key all e =
    let none : list_any (has_key key) all ≡ false = none_at (has_key key) all e in
    record {
      none = none;
      nothing = ap (λ (o : Option Kept). unwrap_or o (nothing_of key)) (found_none (has_key key) all none);
      whole = all_kept (has_key key) all none;
      last = λ new. rw none refl;
    }
