-- The results of the LSAs of the packets.
use Rattle.std.specs.Prelude.{ℕ, ◌≡◌, ◌==◌, ◌&&◌, not, Bool, true, false, if◌then◌else◌, List, Option, Some, None, is_none}
use Rattle.std.specs.List.{list_any}
use Rattle.indexmap.specs.IndexSet.{insert_key}
use Rattle.ospf_types.specs.declared.key.Key.{Key}
use Rattle.ospf_types.specs.declared.key.Scope.{Scope}
use Rattle.ospf_types.specs.declared.key.Scope.TheVariants.{Area, As}
use Rattle.ospf_types.specs.Lsa.{Lsa}
use Rattle.lsa_codec.specs.Decoding.{header_of}
use Rattle.lsa_codec.specs.Faults.{fault_of, kind_field, id_field, router_field}
use Rattle.captured_lsas.specs.declared.name.LsaName.{LsaName}
use Rattle.captured_lsas.specs.declared.recorded.Recorded.{Recorded}
use Rattle.captured_lsas.specs.declared.recorded.Recorded.TheVariants.{Install, Repeated, OtherArea, Fault, Cut}
use Rattle.captured_lsas.specs.Newest.{Instance, Newest, is_max_age, is_old, with_instance, IsOld}
use Rattle.captured_lsas.specs.Progress.{CaptureProgress}
use Rattle.captured_lsas.specs.Reading.{IsLsaInBytes}

-- the AS for LS type 5, or else the area of the packet (RFC 2328, 13)
abbrev pub scope_of : ℕ → List ℕ → Scope
scope_of area lsa = if kind_field lsa == 5 then As else Area area

-- LS type, Link State ID and Advertising Router (RFC 2328, 12.1)
abbrev pub key_in : List ℕ → Key
key_in lsa = record { kind = kind_field lsa; id = id_field lsa; router = router_field lsa }

abbrev pub name_in : ℕ → List ℕ → LsaName
name_in area lsa = record { scope = scope_of area lsa; key = key_in lsa }

abbrev pub instance_in : ℕ → List ℕ → Instance
instance_in area lsa = record { name = name_in area lsa; header = header_of lsa }

-- the recording has the database of the scope
abbrev pub has_scope : (areas : Option (List ℕ)) → Scope → Bool
has_scope None scope = true
has_scope (Some areas) As = true
has_scope (Some areas) (Area area) = list_any (λ a. a == area) areas

abbrev pub has_lsa : (areas : Option (List ℕ)) → (area : ℕ) → List ℕ → Bool
has_lsa areas area lsa = has_scope areas (scope_of area lsa)

-- a router that has what was given would discard it, and it is left out
abbrev pub is_repeated : CaptureProgress → Instance → Bool
is_repeated p one = not p.options.keeps_all && is_old one p.newest

pub record IsRepeated (p : CaptureProgress) (one : Instance) : Type 0 where
  pub leaves_out : p.options.keeps_all ≡ false
  pub old : IsOld p.newest one

-- if all are kept, none have to be noted
abbrev pub noted : CaptureProgress → Instance → Newest
noted p one = if p.options.keeps_all then p.newest else with_instance one p.newest

abbrev pub with_noted : CaptureProgress → Instance → CaptureProgress
with_noted p one = record p { has_begun = true; newest = noted p one }

-- the same area
abbrev pub same_area : ℕ → ℕ → Bool
same_area a b = a == b

-- an LSA of an area that the recording does not have
abbrev pub with_strange : CaptureProgress → ℕ → CaptureProgress
with_strange p area = record p { strange = insert_key same_area p.strange area }

abbrev pub with_read_lsa : CaptureProgress → ℕ → List ℕ → CaptureProgress
with_read_lsa p area lsa = if has_lsa p.areas area lsa then with_noted p (instance_in area lsa) else with_strange p area

-- bytes with a fault change nothing
abbrev pub with_lsa : CaptureProgress → ℕ → List ℕ → CaptureProgress
with_lsa p area lsa = if is_none (fault_of lsa) then with_read_lsa p area lsa else p

-- ---- what is recorded of an LSA

-- the result for an LSA that was read, and whose database the recording has
abbrev pub IsLsaGiven : CaptureProgress → ℕ → List ℕ → Lsa → Recorded → Type 0
IsLsaGiven p area bytes read (Install scope lsa purges) =
    (IsRepeated p (instance_in area bytes) → ⊥) × (scope ≡ scope_of area bytes) × (lsa ≡ read) × (purges ≡ is_max_age (header_of bytes))
IsLsaGiven p area bytes read Repeated = IsRepeated p (instance_in area bytes)
IsLsaGiven p area bytes read (OtherArea of is_first) = ⊥
IsLsaGiven p area bytes read (Fault fault) = ⊥
IsLsaGiven p area bytes read (Cut fault) = ⊥

-- the result for an LSA whose database it does not have: the area, and if it is the first one of
-- the area
abbrev pub IsStrange : CaptureProgress → ℕ → Recorded → Type 0
IsStrange p area (Install scope lsa purges) = ⊥
IsStrange p area Repeated = ⊥
IsStrange p area (OtherArea of is_first) = (of ≡ area) × (is_first ≡ not (list_any (same_area area) p.strange))
IsStrange p area (Fault fault) = ⊥
IsStrange p area (Cut fault) = ⊥

abbrev pub ByScope : (has : Bool) → (given strange : Type 0) → Type 0
ByScope true given strange = given
ByScope false given strange = strange

-- the result for an LSA that was read
abbrev pub IsInstalled : CaptureProgress → ℕ → List ℕ → Lsa → Recorded → Type 0
IsInstalled p area bytes read recorded = ByScope (has_lsa p.areas area bytes) (IsLsaGiven p area bytes read recorded) (IsStrange p area recorded)

-- bytes that spell an LSA, of which this is recorded
pub record IsSpelled (p : CaptureProgress) (area : ℕ) (bytes : List ℕ) (recorded : Recorded) : Type 0 where
  pub lsa : Lsa
  pub read : IsLsaInBytes bytes lsa
  pub installed : IsInstalled p area bytes lsa recorded

-- bytes are recorded so
abbrev pub IsRecorded : CaptureProgress → ℕ → List ℕ → Recorded → Type 0
IsRecorded p area bytes (Install scope lsa purges) = IsSpelled p area bytes (Install scope lsa purges)
IsRecorded p area bytes Repeated = IsSpelled p area bytes Repeated
IsRecorded p area bytes (OtherArea of is_first) = IsSpelled p area bytes (OtherArea of is_first)
IsRecorded p area bytes (Fault fault) = fault_of bytes ≡ Some fault
IsRecorded p area bytes (Cut fault) = ⊥
