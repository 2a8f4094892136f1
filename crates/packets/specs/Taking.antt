-- The effect of one more fragment, stated over all fragments of a datagram that were received and
-- not forgotten.
use Rattle.std.specs.Global.{Vec}
use Rattle.std.specs.Prelude.{ℕ, ◌≡◌, ◌≢◌, ◌⊎◌, ◌↔◌, List, [], ◌∷◌, Option, Some, None, IsSome, option_map, Result, IfOk}
use Rattle.packets.specs.declared.key.FragmentKey.{FragmentKey}
use Rattle.packets.specs.declared.datagram.Datagram.{Datagram}
use Rattle.packets.specs.Parts.{FragmentPart, AreAgreed, IsPayloadWhole, part_of}
use Rattle.packets.specs.Kept.{Kept, nothing_of, IsMadeOf, key_of}
use Rattle.packets.specs.Keeping.{kept_of, kept_after, whole_with}

-- the payload is returned exactly if the fragments make it whole. Then the datagram is forgotten,
-- and also if its fragments contradict each other; else what is kept of it is made of them. What is
-- kept of others stays, or is forgotten.
pub record IsFragmentTaken (key : FragmentKey) (p : FragmentPart) (old new : List Kept) (answer : Option (List ℕ)) : Type 0 where
  pub whole : (parts : List FragmentPart) → IsMadeOf parts (kept_of key old) → (payload : List ℕ) → (answer ≡ Some payload) ↔ IsPayloadWhole (p ∷ parts) payload
  pub forgotten : (parts : List FragmentPart) → IsMadeOf parts (kept_of key old) → ((AreAgreed (p ∷ parts) → ⊥) ⊎ IsSome answer) → IsMadeOf [] (kept_of key new)
  pub kept : (parts : List FragmentPart) → IsMadeOf parts (kept_of key old) → AreAgreed (p ∷ parts) → answer ≡ None → IsMadeOf (p ∷ parts) (kept_of key new)
  pub others : (other : FragmentKey) → other ≢ key → (kept_of other new ≡ kept_of other old) ⊎ (kept_of other new ≡ nothing_of other)

-- the kept parts, and the result, after a fragment
abbrev pub kept_with : Datagram → List Kept → List Kept
kept_with d all = kept_after (key_of d) (part_of d) all

abbrev pub payload_with : Datagram → List Kept → Option (List ℕ)
payload_with d all = whole_with (part_of d) (kept_of (key_of d) all)

-- a call takes the fragment, unless it fails
abbrev pub TakesFragment : {E : Type 0} → Datagram → List Kept → List Kept → Result (Option (Vec ℕ)) E → Type 0
TakesFragment d old new result = IfOk result (λ payload. IsFragmentTaken (key_of d) (part_of d) old new (option_map (λ v. v.items) payload))
