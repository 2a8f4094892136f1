-- A block that is written is read by what it says.
use Rattle.std.proofs.Common.{◌≡◌, ℕ, ◌+◌, ◌-◌, ◌%◌, ◌^◌, ◌<◌, ◌≤◌, Bool, false, ◌||◌, not, List, ◌++◌, length, take, drop, Result, Ok, Err, refl, sym, ap, ◌∙◌, arith, length-append, append_assoc}
use Rattle.std.specs.Prelude.{nat_lt, ◌==◌, if◌then◌else◌}
use Rattle.std.proofs.Math.Seq.{drop-append_seam, drop-append-add, take-append_seam}
use Rattle.std.proofs.lemmas.Bool.{le-ltb, eq-eqb}
use Rattle.byteorder.specs.Numbers.{length-bytes_high_first, length-bytes_low_first}
use Rattle.captures.specs.declared.fault.FaultKind.{FaultKind}
use Rattle.captures.specs.declared.frame.BlockKind.{BlockKind}
use Rattle.captures.specs.declared.frame.Frame.{Frame}
use Rattle.captures.specs.declared.front.Front.{Front}
use Rattle.captures.specs.declared.interface.CaptureInterface.{CaptureInterface}
use Rattle.captures.specs.declared.order.Order.{Order}
use Rattle.captures.specs.declared.order.Order.TheVariants.{Big, Little}
use Rattle.captures.specs.Blocks.{block_front, framed_front, read_front, front_by_kind, content_front}
use Rattle.captures.specs.Frames.{frame_of, frame_by, order_of, kind_of_number, is_wrong_length, least_length, most_length}
use Rattle.captures.specs.Numbers.{number_of, number_at}
use Rattle.captures.specs.Steps.{and_then}
use Rattle.captures.specs.Writing.{number_bytes}
use Rattle.captures.specs.WritingBlocks.{block_bytes, IsLegalBlockBody}
use Rattle.captures.proofs.Steady.{number_at-append}
use Rattle.captures.proofs.Written.{again}

pub length-number_bytes : (order : Order) (size number : ℕ) → length (number_bytes order size number) ≡ size
length-number_bytes Big size number = length-bytes_high_first size number
length-number_bytes Little size number = length-bytes_low_first 0 size number

-- ---- the frame

head : Order → ℕ → ℕ → List ℕ
head order type size = number_bytes order 4 type ++ number_bytes order 4 size

length-head : (order : Order) (type size : ℕ) → length (head order type size) ≡ 8
unfolding head
length-head order type size =
    omega (arith, length-append (number_bytes order 4 type) (number_bytes order 4 size), length-number_bytes order 4 type, length-number_bytes order 4 size)

pub length-block_bytes : (order : Order) (type : ℕ) (body : List ℕ) → length (block_bytes order type body) ≡ 12 + length body
unfolding head
length-block_bytes order type body =
    let size = 12 + length body in
    let front = head order type size in
    omega (arith, length-append (front ++ body) (number_bytes order 4 size), length-append front body, length-head order type size, length-number_bytes order 4 size)

-- a number within the body
pub in_body : (order : Order) (type : ℕ) (body : List ℕ) (size place : ℕ) → place + size ≤ length body
    → number_at order size (8 + place) (block_bytes order type body) ≡ number_at order size place body
unfolding head
in_body order type body size place fits =
    let whole = 12 + length body in
    let front = head order type whole in
    let long = length-head order type whole in
    number_at-append order size (8 + place) (front ++ body) (number_bytes order 4 whole) (omega (arith, length-append front body, long, fits))
    ∙ ap (λ k. number_of order size (drop (k + place) (front ++ body))) (sym long)
    ∙ ap (number_of order size) (drop-append-add front body place)

-- the block is at the start of the bytes
pub record IsBlockAt (order : Order) (type : ℕ) (body bytes : List ℕ) : Type 0 where
  pub size : number_at order 4 4 bytes ≡ 12 + length body
  pub last : number_at order 4 (12 + length body - 4) bytes ≡ 12 + length body
  pub long : 12 + length body ≤ length bytes
  pub own : take (12 + length body) bytes ≡ block_bytes order type body

size_written : (order : Order) (type : ℕ) (body rest : List ℕ) → 12 + length body < 2 ^ 32 → number_at order 4 4 (block_bytes order type body ++ rest) ≡ 12 + length body
size_written Big type body rest fits = again Big 4 (12 + length body) (drop 8 (block_bytes Big type body ++ rest)) fits
size_written Little type body rest fits = again Little 4 (12 + length body) (drop 8 (block_bytes Little type body ++ rest)) fits

last_written : (order : Order) (type : ℕ) (body rest : List ℕ) → 12 + length body < 2 ^ 32 → number_at order 4 (12 + length body - 4) (block_bytes order type body ++ rest) ≡ 12 + length body
unfolding head
last_written order type body rest fits =
    let size = 12 + length body in
    let front = head order type size ++ body in
    let end = number_bytes order 4 size in
    let place : size - 4 ≡ length front = omega (arith, length-append (head order type size) body, length-head order type size) in
    ap (λ k. number_at order 4 k ((front ++ end) ++ rest)) place
    ∙ ap (λ (b : List ℕ). number_at order 4 (length front) b) (append_assoc front end rest)
    ∙ ap (number_of order 4) (drop-append_seam front (end ++ rest))
    ∙ again order 4 size rest fits

pub block_written : (order : Order) (type : ℕ) (body rest : List ℕ) → 12 + length body < 2 ^ 32 → IsBlockAt order type body (block_bytes order type body ++ rest)
block_written order type body rest fits =
    let long = length-block_bytes order type body in
    record {
      size = size_written order type body rest fits;
      last = last_written order type body rest fits;
      long = omega (arith, long, length-append (block_bytes order type body) rest);
      own = ap (λ k. take k (block_bytes order type body ++ rest)) (sym long) ∙ take-append_seam (block_bytes order type body) rest;
    }

-- ---- reading it

-- the kind is read, in a block of such a length
pub record IsReadAs (kind : BlockKind) (size : ℕ) : Type 0 where
  pub passes : (x : Result Front FaultKind) → front_by_kind kind size x ≡ x
  pub least : least_length kind ≤ size
  pub most : most_length kind ≡ 1048576

pub fits_length : (size least most : ℕ) → size % 4 ≡ 0 → least ≤ size → size ≤ most → (not (size % 4 == 0) || nat_lt size least || nat_lt most size) ≡ false
fits_length size least most whole low high =
    rw (whole, le-ltb size least low, le-ltb most size high) refl

pub frame_written : (order own : Order) (type : ℕ) (kind : BlockKind) (size : ℕ) (bytes : List ℕ) → number_at order 4 0 bytes ≡ type → kind_of_number type ≡ kind → order_of kind order bytes ≡ Ok own
    → number_at own 4 4 bytes ≡ size → is_wrong_length kind size ≡ false → frame_of order bytes ≡ Ok (record { kind = kind; order = own; length = size })
frame_written order own type kind size bytes number is_kind is_order is_size right =
    let of_kind : BlockKind → Result Frame FaultKind = λ k. and_then (order_of k order bytes) (λ o. frame_by k o (number_at o 4 4 bytes)) in
    let by_test : Bool → Result Frame FaultKind = λ b. if b then Err FaultKind.BlockLength else Ok (record { kind = kind; order = own; length = size }) in
    ap of_kind (ap kind_of_number number ∙ is_kind)
    ∙ ap (λ r. and_then r (λ o. frame_by kind o (number_at o 4 4 bytes))) is_order
    ∙ ap (frame_by kind own) is_size
    ∙ ap by_test right

pub block_read : (order own : Order) (interfaces : List CaptureInterface) (type : ℕ) (kind : BlockKind) (body bytes : List ℕ)
    → number_at order 4 0 bytes ≡ type → kind_of_number type ≡ kind → order_of kind order bytes ≡ Ok own
    → IsBlockAt own type body bytes → IsReadAs kind (12 + length body) → IsLegalBlockBody body
    → block_front order interfaces bytes ≡ content_front kind own interfaces (block_bytes own type body)
block_read order own interfaces type kind body bytes number is_kind is_order at read legal =
    let size = 12 + length body in
    let right = fits_length size (least_length kind) (most_length kind) (omega (arith, legal.filled)) read.least (omega (arith, legal.fits, read.most)) in
    let frame : Frame = record { kind = kind; order = own; length = size } in
    let is_frame = frame_written order own type kind size bytes number is_kind is_order at.size right in
    let whole : read_front frame interfaces bytes ≡ content_front kind own interfaces (block_bytes own type body) = rw (le-ltb (length bytes) size at.long, at.last, at.own, eq-eqb size size refl) refl in
    rw (le-ltb (length bytes) 12 (omega (arith, at.long)))
    (ap (λ r. and_then r (λ f. framed_front f interfaces bytes)) is_frame ∙ read.passes (read_front frame interfaces bytes) ∙ whole)
