-- The walk over options, one at a time, as a loop does it. Of `n` options at most, `i` were met.
use Rattle.std.proofs.Common.{◌≡◌, ℕ, zero, suc, ◌+◌, ◌-◌, ◌<◌, ◌≤◌, true, false, List, length, take, drop, Result, Ok, Err, refl, sym, ap, ◌∙◌, arith, take_all, length-drop}
use Rattle.captures.specs.declared.fault.FaultKind.{FaultKind}
use Rattle.captures.specs.declared.order.Order.{Order}
use Rattle.captures.specs.declared.time.Timing.{Timing}
use Rattle.captures.specs.Options.{is_end, is_cut, with_option, with_options, size_of}
use Rattle.captures.specs.Steps.{and_then}

-- the slice from a place on
pub from_place : (k : ℕ) (bytes : List ℕ) → take (length bytes - k) (drop k bytes) ≡ drop k bytes
from_place k bytes = take_all (length bytes - k) (drop k bytes) (omega (arith, length-drop k bytes))

pub goes_on : (order : Order) (n : ℕ) (rest : List ℕ) (timing : Timing) → is_end order rest ≡ false → is_cut order rest ≡ false
    → with_options order (suc n) rest timing ≡ and_then (with_option order rest timing) (λ t. with_options order n (drop (size_of order rest) rest) t)
unfolding with_options
goes_on order n rest timing more whole = rw (more, whole) refl

pub stops : (order : Order) (n : ℕ) (rest : List ℕ) (timing : Timing) → is_end order rest ≡ true → with_options order n rest timing ≡ Ok timing
unfolding with_options
stops order zero rest timing last = refl
stops order (suc n) rest timing last = rw last refl

pub walk_last : (order : Order) (n i : ℕ) (rest : List ℕ) (timing : Timing) (all : Result Timing FaultKind) → is_end order rest ≡ true
    → with_options order (n - i) rest timing ≡ all → Ok timing ≡ all
walk_last order n i rest timing all last so_far = sym (stops order (n - i) rest timing last) ∙ so_far

pub walk_cut : (order : Order) (n i : ℕ) (rest : List ℕ) (timing : Timing) (all : Result Timing FaultKind) → i < n → is_end order rest ≡ false → is_cut order rest ≡ true
    → with_options order (n - i) rest timing ≡ all → Err FaultKind.Options ≡ all
unfolding with_options
walk_cut order n i rest timing all lt more cut so_far =
    let k : n - i ≡ suc (n - (i + 1)) = omega arith in
    let step : with_options order (n - i) rest timing ≡ Err FaultKind.Options = rw (k, more, cut) refl in
    sym step ∙ so_far

walk_goes : (order : Order) (n i : ℕ) (rest : List ℕ) (timing : Timing) → i < n → is_end order rest ≡ false → is_cut order rest ≡ false
    → with_options order (n - i) rest timing ≡ and_then (with_option order rest timing) (λ t. with_options order (n - (i + 1)) (drop (size_of order rest) rest) t)
walk_goes order n i rest timing lt more whole =
    let k : n - i ≡ suc (n - (i + 1)) = omega arith in
    ap (λ m. with_options order m rest timing) k ∙ goes_on order (n - (i + 1)) rest timing more whole

pub walk_fails : (order : Order) (n i : ℕ) (rest : List ℕ) (timing : Timing) (all : Result Timing FaultKind) (fault : FaultKind) → i < n → is_end order rest ≡ false → is_cut order rest ≡ false
    → with_option order rest timing ≡ Err fault → with_options order (n - i) rest timing ≡ all → Err fault ≡ all
walk_fails order n i rest timing all fault lt more whole fails so_far =
    ap (λ r. and_then r (λ t. with_options order (n - (i + 1)) (drop (size_of order rest) rest) t)) (sym fails) ∙ sym (walk_goes order n i rest timing lt more whole) ∙ so_far

pub walk_on : (order : Order) (n i : ℕ) (rest : List ℕ) (timing further : Timing) (all : Result Timing FaultKind) → i < n → is_end order rest ≡ false → is_cut order rest ≡ false
    → with_option order rest timing ≡ Ok further → with_options order (n - i) rest timing ≡ all
    → with_options order (n - (i + 1)) (drop (size_of order rest) rest) further ≡ all
walk_on order n i rest timing further all lt more whole goes so_far =
    ap (λ r. and_then r (λ t. with_options order (n - (i + 1)) (drop (size_of order rest) rest) t)) (sym goes) ∙ sym (walk_goes order n i rest timing lt more whole) ∙ so_far

pub walk_done : (order : Order) (n i : ℕ) (rest : List ℕ) (timing : Timing) (all : Result Timing FaultKind) → n ≤ i
    → with_options order (n - i) rest timing ≡ all → Ok timing ≡ all
unfolding with_options
walk_done order n i rest timing all le so_far =
    let k : n - i ≡ 0 = omega arith in
    let step : with_options order (n - i) rest timing ≡ Ok timing = rw k refl in
    sym step ∙ so_far
