-- From what the steps of a call found to what a captured packet brings.
use Rattle.std.proofs.Common.{◌≡◌, ℕ, List, Option, Some, None, option_map, Bor, Result, Ok, Err, IfOk, refl}
use Rattle.packets.specs.Frames.{Finds}
use Rattle.packets.specs.declared.datagram.Datagram.{Datagram}
use Rattle.packets.specs.Layout.{fault_of}
use Rattle.packets.specs.Reading.{IsDatagram}
use Rattle.packets.specs.Kept.{Kept}
use Rattle.captured_lsas.specs.declared.heard.Heard.{Heard}
use Rattle.captured_lsas.specs.declared.heard.Heard.TheVariants.{Other, Fault, Part, Whole}
use Rattle.captured_lsas.specs.Hearing.{CarriesOspf, Carried, CarriesNone, IsPayloadGiven, IsHeard}

nothing : (found : Option (Bor (List ℕ))) (bytes : List ℕ) → found ≡ None → option_map {T = Bor (List ℕ)} {U = List ℕ} (λ r. r.now) found ≡ Some bytes → ⊥
nothing None bytes none some = cc
nothing (Some r) bytes none some = cc

something : (found : Option (Bor (List ℕ))) (bytes : Bor (List ℕ)) → found ≡ Some bytes → option_map {T = Bor (List ℕ)} {U = List ℕ} (λ r. r.now) found ≡ Some bytes.now
something None bytes is = absurd cc
something (Some r) bytes is = cc

pub carries_none : (link : ℕ) (frame : List ℕ) (kept : List Kept) (found : Option (Bor (List ℕ)))
    → Finds found (CarriesOspf link frame) → found ≡ None → CarriesNone link frame kept kept
carries_none link frame kept found finds none = record {
  none = λ bytes carries. nothing found bytes none ((finds bytes).1 carries);
  unchanged = refl;
}

pub carried : (link : ℕ) (frame : List ℕ) (found : Option (Bor (List ℕ))) (bytes : Bor (List ℕ)) (P : List ℕ → Type 0)
    → Finds found (CarriesOspf link frame) → found ≡ Some bytes → P bytes.now → Carried link frame P
carried link frame found bytes P finds is holds = record {
  bytes = bytes.now;
  of_ospf = (finds bytes.now).0 (something found bytes is);
  holds = holds;
}

brings : (link : ℕ) (frame : List ℕ) (old new : List Kept) (found : Option (Bor (List ℕ))) (bytes : Bor (List ℕ)) (d : Datagram) (heard : Heard)
    → Finds found (CarriesOspf link frame) → found ≡ Some bytes → fault_of bytes.now ≡ None → IsDatagram bytes.now d
    → IsPayloadGiven d old new heard → IsHeard link frame old new heard
brings link frame old new found bytes d Other finds is sound read given = absurd given
brings link frame old new found bytes d (Fault fault) finds is sound read given = absurd given
brings link frame old new found bytes d Part finds is sound read given =
    carried link frame found bytes _ finds is (record { datagram = d; read = read; without_fault = sound; given = given })
brings link frame old new found bytes d (Whole sender payload) finds is sound read given =
    carried link frame found bytes _ finds is (record { datagram = d; read = read; without_fault = sound; given = given })

pub heard_of : {E : Type 0} (link : ℕ) (frame : List ℕ) (old new : List Kept) (found : Option (Bor (List ℕ))) (bytes : Bor (List ℕ)) (d : Datagram) (result : Result Heard E)
    → Finds found (CarriesOspf link frame) → found ≡ Some bytes → (fault_of bytes.now ≡ None) × IsDatagram bytes.now d
    → IfOk result (IsPayloadGiven d old new) → IfOk result (IsHeard link frame old new)
heard_of link frame old new found bytes d (Ok heard) finds is read given = brings link frame old new found bytes d heard finds is read.0 read.1 given
heard_of link frame old new found bytes d (Err e) finds is read given = tt
