-- The first fault of bytes that are read.
use Rattle.std.proofs.Common.{◌≡◌, ℕ, List, Some, None, inl, inr, refl, sym, ap, ◌∙◌, subst}
use Rattle.std.specs.Prelude.{◌⊎◌, Option, Result, Ok, Err, IsOkUnless}
use Rattle.ospf_types.specs.declared.key.Scope.{Scope}
use Rattle.ospf_types.specs.Lsa.{Lsa}
use Rattle.lsa_codec.specs.Faults.{fault_of}
use Rattle.event_core.specs.Cores.{CoreValue}
use Rattle.abr_c.specs.Numbers.{wire_number}
use Rattle.abr_c.specs.Told.{Installs, IsLsaNumber}
use Rattle.lsa_codec.specs.declared.fault.WireFault.{WireFault}
use Rattle.lsa_codec.specs.declared.fault.WireFault.TheVariants.{Memory}

-- the fault is the first one, or there is none and memory ran out
pub fault_told : (found : Option WireFault) (r : Result Lsa WireFault) (e : WireFault)
    → ((f : WireFault) → found ≡ Some f → r ≡ Err f) → (found ≡ None → IsOkUnless r Memory) → r ≡ Err e
    → (found ≡ Some e) ⊎ ((found ≡ None) × (e ≡ Memory))
fault_told None r e first accepted is = inr (refl, subst (λ s. IsOkUnless s Memory) is (accepted refl))
fault_told (Some f) r e first accepted is = let same : Err f ≡ Err e = sym (first f refl) ∙ is in inl (ap Some cc)

-- bytes that are read have no fault
pub none_found : (found : Option WireFault) (r : Result Lsa WireFault) (l : Lsa) → ((f : WireFault) → found ≡ Some f → r ≡ Err f) → r ≡ Ok l → found ≡ None
none_found None r l first is = refl
none_found (Some f) r l first is = let differ : Err f ≡ Ok l = sym (first f refl) ∙ is in absurd cc

-- the fault of bytes that are not read
abbrev Told : List ℕ → WireFault → Type 0
Told bytes e = (fault_of bytes ≡ Some e) ⊎ ((fault_of bytes ≡ None) × (e ≡ Memory))

pub number_told : (bytes : List ℕ) (e : WireFault) (n : ℕ) → Told bytes e → n ≡ wire_number e → IsLsaNumber bytes n
number_told bytes e n (inl same) is = inl (e, same, is)
number_told bytes e n (inr out) is = inr (out.0, inr (is ∙ ap wire_number out.1))

pub none_installed : (at : Scope) (bytes : List ℕ) (core : Option CoreValue) (e : WireFault) (n : ℕ) → Told bytes e → n ≡ wire_number e → Installs at bytes core n core
none_installed at bytes core e n (inl same) is = inr (inl (e, same, is, refl))
none_installed at bytes core e n (inr out) is = inr (inr (out.0, is ∙ ap wire_number out.1, refl))
