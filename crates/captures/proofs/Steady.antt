-- The item at the start of bytes stays if more bytes follow them.
use Rattle.std.proofs.Common.{◌≡◌, ℕ, ◌+◌, ◌≤◌, Bool, true, false, List, ◌++◌, length, drop, Result, Ok, Err, refl, ap, ◌∙◌, arith, length-append, length-drop}
use Rattle.std.specs.Prelude.{nat_lt, if◌then◌else◌}
use Rattle.std.proofs.lemmas.Bool.{ltb-false, lt-ltb, le-ltb}
use Rattle.std.proofs.lemmas.List.{drop-append-le}
use Rattle.byteorder.specs.Numbers.{big_from-append, little_from-append}
use Rattle.captures.specs.declared.fault.FaultKind.{FaultKind}
use Rattle.captures.specs.declared.front.Front.{Front}
use Rattle.captures.specs.declared.front.Front.TheVariants.{Short}
use Rattle.captures.specs.declared.front.TheConstants.{MOST_CAPTURED}
use Rattle.captures.specs.declared.order.Order.{Order}
use Rattle.captures.specs.declared.order.Order.TheVariants.{Big, Little}
use Rattle.captures.specs.declared.pcap.Magic.{Magic}
use Rattle.captures.specs.declared.pcap.PcapFile.{PcapFile}
use Rattle.captures.specs.Fronts.{IsSettledBy}
use Rattle.captures.specs.Numbers.{number_of, number_at}
use Rattle.captures.specs.Pcap.{file_front, packet_front, captured_field}

pub number_of-append : (order : Order) (size : ℕ) (bytes more : List ℕ) → size ≤ length bytes → number_of order size (bytes ++ more) ≡ number_of order size bytes
number_of-append Big size bytes more long = big_from-append size bytes more long
number_of-append Little size bytes more long = little_from-append size bytes more long

pub number_at-append : (order : Order) (size place : ℕ) (bytes more : List ℕ) → place + size ≤ length bytes → number_at order size place (bytes ++ more) ≡ number_at order size place bytes
number_at-append order size place bytes more long =
    ap (number_of order size) (drop-append-le place bytes more (omega (arith, long)))
    ∙ number_of-append order size (drop place bytes) more (omega (arith, long, length-drop place bytes))

-- ---- tests, which come to the same

pub after_short : (count more needed : ℕ) (x y : Result Front FaultKind) → count ≤ more
    → (needed ≤ count → IsSettledBy more x → y ≡ x)
    → IsSettledBy more (if nat_lt count needed then Ok (Short needed) else x)
    → (if nat_lt more needed then Ok (Short needed) else y) ≡ (if nat_lt count needed then Ok (Short needed) else x)
after_short count more needed x y le rest =
    let by_test : (b : Bool) → nat_lt count needed ≡ b → IsSettledBy more (if b then Ok (Short needed) else x) → (if nat_lt more needed then Ok (Short needed) else y) ≡ (if b then Ok (Short needed) else x) = λ b. elim b as (λ v. nat_lt count needed ≡ v → IsSettledBy more (if v then Ok (Short needed) else x) → (if nat_lt more needed then Ok (Short needed) else y) ≡ (if v then Ok (Short needed) else x)) [
      | true ↦ λ e settled. rw (lt-ltb more needed settled) refl
      | false ↦ λ e settled. rw (le-ltb more needed (omega (arith, ltb-false _ _ e, le))) (rest (ltb-false _ _ e) settled)
    ] in
    by_test (nat_lt count needed) refl

pub after_fault : (test : Bool) (more : ℕ) (fault : FaultKind) (x y : Result Front FaultKind)
    → (test ≡ false → IsSettledBy more x → y ≡ x)
    → IsSettledBy more (if test then Err fault else x)
    → (if test then Err fault else y) ≡ (if test then Err fault else x)
after_fault true more fault x y rest settled = refl
after_fault false more fault x y rest settled = rest refl settled

-- ---- a pcap

pub file_steady : (magic : Magic) (bytes more : List ℕ) → IsSettledBy (length (bytes ++ more)) (file_front magic bytes) → file_front magic (bytes ++ more) ≡ file_front magic bytes
file_steady magic bytes more settled =
    after_short (length bytes) (length (bytes ++ more)) 24 _ _ (omega (arith, length-append bytes more)) (λ long _.
    rw (number_at-append magic.order 2 4 bytes more (omega (arith, long)), number_at-append magic.order 4 20 bytes more (omega (arith, long))) refl
    ) settled

pub packet_steady : (file : PcapFile) (bytes more : List ℕ) → IsSettledBy (length (bytes ++ more)) (packet_front file bytes) → packet_front file (bytes ++ more) ≡ packet_front file bytes
packet_steady file bytes more settled =
    after_short (length bytes) (length (bytes ++ more)) 16 _ _ (omega (arith, length-append bytes more)) (λ long whole.
    rw (number_at-append file.magic.order 4 8 bytes more (omega (arith, long)), number_at-append file.magic.order 4 0 bytes more (omega (arith, long)), number_at-append file.magic.order 4 4 bytes more (omega (arith, long)), number_at-append file.magic.order 4 12 bytes more (omega (arith, long)))
    (after_fault (nat_lt MOST_CAPTURED (captured_field file bytes)) (length (bytes ++ more)) _ _ _ (λ _ rest.
    after_short (length bytes) (length (bytes ++ more)) (16 + captured_field file bytes) _ _ (omega (arith, length-append bytes more)) (λ _ _. refl) rest
    ) whole)
    ) settled
