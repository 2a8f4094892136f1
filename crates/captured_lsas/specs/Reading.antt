-- The result of reading bytes.
use Rattle.std.specs.Prelude.{◌≡◌, ℕ, List, Some, None, Result, MatchResult}
use Rattle.ospf_types.specs.Lsa.{Lsa}
use Rattle.lsa_codec.specs.Spelling.{Spells}
use Rattle.lsa_codec.specs.Faults.{fault_of}
use Rattle.lsa_codec.specs.declared.fault.WireFault.{WireFault}

-- bytes without a fault spell the LSA
pub record IsLsaInBytes (bytes : List ℕ) (lsa : Lsa) : Type 0 where
  pub without_fault : fault_of bytes ≡ None
  pub spelled : Spells bytes lsa

-- the LSA, or the first fault
abbrev pub IsReading : List ℕ → Result Lsa WireFault → Type 0
IsReading bytes reading = MatchResult reading (IsLsaInBytes bytes) (λ fault. fault_of bytes ≡ Some fault)
