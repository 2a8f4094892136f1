-- The datagrams of which parts are kept, from the one that began first to the one that began last.
use Rattle.std.specs.Global.{Vec}
use Rattle.std.specs.Prelude.{ℕ, ◌≡◌, ◌≢◌, ◌≤◌, ◌-◌, ◌&&◌, ◌||◌, not, Bool, if◌then◌else◌, List, [], ◌∷◌, ◌++◌, length, drop, map, slice_set, Option, Some, None, option_map, Result, IfOk}
use Rattle.std.specs.List.{list_any, filter, find, remove, AllPairs, AllByRecursion}
use Rattle.std.specs.Option.{unwrap_or}
use Rattle.packets.specs.declared.datagram.TheConstants.{LONGEST}
use Rattle.packets.specs.declared.key.FragmentKey.{FragmentKey}
use Rattle.packets.specs.declared.fragments.TheConstants.{MOST}
use Rattle.packets.specs.Parts.{FragmentPart}
use Rattle.packets.specs.Kept.{Kept, nothing_of, same_key, contradicts, with_part, is_whole, payload_of}

abbrev pub has_key : FragmentKey → Kept → Bool
has_key key kept = same_key kept.key key

-- what is kept of the datagram with the key, which may be nothing
abbrev pub kept_of : FragmentKey → List Kept → Kept
kept_of key all = unwrap_or (find (has_key key) all) (nothing_of key)

-- each has a key of its own
abbrev pub AreKeysApart : List Kept → Type 0
AreKeysApart all = AllPairs (λ a b. a.key ≢ b.key) all

-- none is longer than a datagram can be
abbrev pub AreShort : List Kept → Type 0
AreShort all = AllByRecursion (λ kept. length kept.bytes ≤ LONGEST) all

-- the datagram with the key is forgotten
abbrev pub without : FragmentKey → List Kept → List Kept
without key all = filter (λ kept. not (has_key key kept)) all

-- where there are too many, those that began first go
abbrev pub latest : List Kept → List Kept
latest all = drop (length all - MOST) all

-- in place of what was kept of the datagram with the key, or as one that begins
abbrev pub put : FragmentKey → Kept → List Kept → List Kept
put key new all =
    if list_any (has_key key) all then map (λ kept. if has_key key kept then new else kept) all else latest (all ++ new ∷ [])

-- the datagram is done with, since its fragments contradict each other, or since it is whole
abbrev pub is_done : FragmentPart → Kept → Bool
is_done p kept = contradicts p kept || is_whole (with_part p kept)

-- what is kept after one more fragment
abbrev pub kept_after : FragmentKey → FragmentPart → List Kept → List Kept
kept_after key p all = if is_done p (kept_of key all) then without key all else put key (with_part p (kept_of key all)) all

-- the payload that is whole with one more fragment of what is kept
abbrev pub whole_with : FragmentPart → Kept → Option (List ℕ)
whole_with p kept =
    if not (contradicts p kept) && is_whole (with_part p kept) then Some (payload_of (with_part p kept)) else None

-- ---- by the steps of a call

-- a datagram that is at the place
abbrev pub changed : FragmentPart → Kept → List Kept → ℕ → List Kept
changed p before all place = if is_done p before then remove all place else slice_set all place (with_part p before)

-- a datagram that begins
abbrev pub begun : Kept → List Kept → List Kept
begun new all = if is_whole new then all else latest (all ++ new ∷ [])

abbrev pub whole_at_once : Kept → Option (List ℕ)
whole_at_once new = if is_whole new then Some (payload_of new) else None

-- a call answers just these bytes, unless it fails
abbrev pub IsPayloadAnswer : {E : Type 0} → Result (Option (Vec ℕ)) E → Option (List ℕ) → Type 0
IsPayloadAnswer result bytes = IfOk result (λ payload. option_map (λ v. v.items) payload ≡ bytes)
