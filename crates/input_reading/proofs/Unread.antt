-- The bytes that are pending as a call begins are searched before the input is read.
use Rattle.std.proofs.Common.{ℕ, zero, suc, ◌≡◌, ◌≢◌, ◌<◌, List, Option, None, Result, Ok, Err, IsErrAnd, subst, refl, arith}
use Rattle.std.proofs.lemmas.List.Elements.{All-contains}
use Rattle.std.proofs.lemmas.Result.{err_from_is_err_and}
use Rattle.input_reading.specs.Tails.{GathersUpTo, HasLineFeed, HasNoLineFeed}
use Rattle.input_reading.specs.declared.reader.Next.{Next}
use Rattle.input_reading.specs.declared.fault.ReadFault.{ReadFault}
use Rattle.input_reading.specs.declared.fault.ReadFault.TheVariants.{Read, Memory}
use Rattle.input_reading.specs.declared.tail.Tail.{Tail}

pub impossible : {P : Type 0} (bytes : List ℕ) → HasNoLineFeed bytes → HasLineFeed bytes → P
impossible bytes none some = absurd (All-contains (λ byte. byte ≢ 10) bytes 10 none some refl)

-- a lack of memory is not a fault of the input
pub no_fault_of_input : (r : Result Next ReadFault) → IsErrAnd r (λ fault. fault ≡ Memory) → r ≢ Err Read
no_fault_of_input r err read = let found = err_from_is_err_and r err in no_fault found.0 found.1 found.2 read where
  no_fault : (fault : ReadFault) → r ≡ Err fault → fault ≡ Memory → r ≢ Err Read
  no_fault fault is memory other = cc

pub no_fault : (r : Result Next ReadFault) (next : Next) → r ≡ Ok next → r ≢ Err Read
no_fault r next is read = cc

module _ {R : Type 0} (old now : List ℕ) (before input : R) where
  -- in the first turn nothing is read yet; in the later ones no line feed was found
  pub record IsLooked (turns : ℕ) : Type 0 where
    pub first : turns ≡ 0 → (now ≡ old) × (input ≡ before)
    pub later : 0 < turns → HasNoLineFeed old

  -- if there was one, nothing is read
  pub not_read : (turns : ℕ) → IsLooked turns → HasLineFeed old → input ≡ before
  not_read zero looked some = (looked.first refl).1
  not_read (suc n) looked some = impossible old (looked.later (omega arith)) some

  was_none : (turns : ℕ) → IsLooked turns → HasNoLineFeed now → HasNoLineFeed old
  was_none zero looked none = subst HasNoLineFeed (looked.first refl).0 none
  was_none (suc n) looked none = looked.later (omega arith)

  -- if there is none, there was none
  pub had_none : (turns : ℕ) → IsLooked turns → (place : Option ℕ) (bytes line longer : List ℕ) (tail further : Tail) → place ≡ None → bytes ≡ now
      → GathersUpTo place bytes line tail longer further → HasNoLineFeed old
  had_none turns looked place bytes line longer tail further is same up_to =
      was_none turns looked (subst HasNoLineFeed same (subst (λ p. GathersUpTo p bytes line tail longer further) is up_to).0)
