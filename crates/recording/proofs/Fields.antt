-- The fields of a line that take several words, and networks.
use Rattle.std.proofs.Common.{ℕ, ◌≡◌, ◌+◌, ◌^◌, ◌<◌, ◌≤◌, ◌==◌, Bool, true, false, cond, List, [], ◌∷◌, ◌++◌, length, take, drop, Option, Some, None, codes, decimal, sym, ap, ◌∙◌, ◌-◌, arith, append_assoc}
use Rattle.std.proofs.lemmas.Bool.{eqb-true}
use Rattle.std.proofs.lemmas.Fmt.{decimal_injective}
use Rattle.std.proofs.lemmas.List.{take_rest}
use Rattle.std.proofs.lemmas.List.Splits.{join_with_byte-slice_split}
use Rattle.std.specs.List.{slice_split, join_with_byte}
use Rattle.memchr.specs.Find.{IsFirstByte, is_byte}
use Rattle.ospf_types.specs.declared.prefix.Prefix.{Prefix}
use Rattle.ospf_types.specs.Masks.{masked}
use Rattle.ospf_types.specs.declared.config.Stub.{Stub}
use Rattle.ospf_types.specs.declared.key.Key.{Key}
use Rattle.ospf_types.specs.Text.{address_text, prefix_text}
use Rattle.recording.specs.Forms.{IsAddress, IsKey, IsPrefix, IsStub, key_words, stub_words}
use Rattle.recording.proofs.Cutting.{around, first_cut}
use Rattle.recording.proofs.Forms.{address_one, prefix_split}

pub no_stub : (before : List (List ℕ)) → ((b : Bool) (rest : List (List ℕ)) → Unit {0} → before ≡ cond b (codes "normal") (codes "stub") ∷ rest → ⊥)
    → (stub : Option Stub) (rest : List (List ℕ)) → IsStub stub → before ≡ stub_words stub ++ rest → ⊥
no_stub before none None rest h same = none true rest tt same
no_stub before none (Some stub) rest h same = none false _ tt same

pub no_kind : (before after : List (List ℕ)) (kind : ℕ) → before ≡ decimal kind ∷ after → kind ≡ 0 → (key : Key) (rest : List (List ℕ)) → IsKey key → before ≡ key_words key ++ rest → ⊥
no_kind before after kind is zero key rest h same =
    let legal = h.kind in
    let number : decimal kind ≡ decimal key.kind = cc (is, same) in
    let equal = decimal_injective kind key.kind (omega arith) (omega arith) number in
    omega arith

pub no_id : (before after : List (List ℕ)) (kind : ℕ) → before ≡ decimal kind ∷ after → ((n : ℕ) (rest : List (List ℕ)) → IsAddress n → after ≡ address_text n ∷ rest → ⊥)
    → (key : Key) (rest : List (List ℕ)) → IsKey key → before ≡ key_words key ++ rest → ⊥
no_id before after kind is none key rest h same = none key.id (address_text key.router ∷ rest) h.id (cc (is, same))

pub no_router : (before middle after : List (List ℕ)) (kind id : ℕ) → before ≡ decimal kind ∷ middle → middle ≡ address_text id ∷ after
    → ((n : ℕ) (rest : List (List ℕ)) → IsAddress n → after ≡ address_text n ∷ rest → ⊥)
    → (key : Key) (rest : List (List ℕ)) → IsKey key → before ≡ key_words key ++ rest → ⊥
no_router before middle after kind id first second none key rest h same = none key.router rest h.router (cc (first, second, same))

-- ---- networks

-- what comes after the byte at a place
abbrev pub behind : ℕ → List ℕ → List ℕ
behind place word = take (length word - (place + 1)) (drop (place + 1) word)

one_part : (text word : List ℕ) → slice_split (λ b. b == 47) text ≡ word ∷ [] → text ≡ word
one_part text word alone = sym (join_with_byte-slice_split 47 text) ∙ ap (join_with_byte 47) alone

module _ (word : List ℕ) (slash : ℕ) (found : IsFirstByte (is_byte 47) word (Some slash)) where
  network_parts : (prefix : Prefix) → IsPrefix prefix → word ≡ prefix_text prefix
      → take slash word ∷ slice_split (λ b. b == 47) (drop (slash + 1) word) ≡ address_text prefix.address ∷ decimal prefix.length ∷ []
  network_parts prefix h same = sym (first_cut word 47 slash found) ∙ ap (slice_split (λ b. b == 47)) same ∙ prefix_split prefix h

  address_before : (prefix : Prefix) → IsPrefix prefix → word ≡ prefix_text prefix → take slash word ≡ address_text prefix.address
  address_before prefix h same = let parts = network_parts prefix h same in cc parts

  length_behind : (prefix : Prefix) → IsPrefix prefix → word ≡ prefix_text prefix → behind slash word ≡ decimal prefix.length
  length_behind prefix h same =
      let parts = network_parts prefix h same in
      let alone : slice_split (λ b. b == 47) (drop (slash + 1) word) ≡ decimal prefix.length ∷ [] = cc parts in
      take_rest word (slash + 1) ∙ one_part (drop (slash + 1) word) (decimal prefix.length) alone

  pub no_address : ((n : ℕ) → IsAddress n → take slash word ≡ address_text n → ⊥) → (prefix : Prefix) → IsPrefix prefix → word ≡ prefix_text prefix → ⊥
  no_address none prefix h same = none prefix.address h.address (address_before prefix h same)

  pub no_length : ((n : ℕ) → n ≤ 32 → behind slash word ≡ decimal n → ⊥) → (prefix : Prefix) → IsPrefix prefix → word ≡ prefix_text prefix → ⊥
  no_length none prefix h same = none prefix.length h.length (length_behind prefix h same)

  -- the bits past the length are not all zero
  pub unmasked : (address long : ℕ) → address < 2 ^ 32 → long ≤ 32 → take slash word ≡ address_text address → behind slash word ≡ decimal long
      → (masked address long ≡ address → ⊥) → (prefix : Prefix) → IsPrefix prefix → word ≡ prefix_text prefix → ⊥
  unmasked address long fits short before after none prefix h same =
      let bound = h.length in
      let first = address_one address prefix.address fits h.address (sym before ∙ address_before prefix h same) in
      let second = decimal_injective long prefix.length (omega arith) (omega arith) (sym after ∙ length_behind prefix h same) in
      none (ap (λ n. masked n long) first ∙ ap (masked prefix.address) second ∙ h.masked ∙ sym first)

  pub network_spelled : (prefix : Prefix) → take slash word ≡ address_text prefix.address → behind slash word ≡ decimal prefix.length → word ≡ prefix_text prefix
  network_spelled prefix before after =
      let rest : drop (slash + 1) word ≡ decimal prefix.length = sym (take_rest word (slash + 1)) ∙ after in
      let byte = eqb-true _ 47 found.1 in
      around word slash found.0.high
      ∙ rw (before, byte, rest) (sym (append_assoc (address_text prefix.address) (codes "/") (decimal prefix.length)))
