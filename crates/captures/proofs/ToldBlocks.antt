-- Bytes that are read as an interface or a packet of a pcapng were written as a block.
use Rattle.std.proofs.Common.{◌≡◌, ℕ, zero, suc, ◌+◌, ◌-◌, ◌%◌, ◌≤◌, Bool, true, false, ◌||◌, not, List, [], ◌∷◌, ◌++◌, length, take, drop, Result, Ok, Err, refl, sym, ap, subst, ◌∙◌, arith, lit<, append_assoc, drop-drop, length-take, length-drop}
use Rattle.std.specs.List.{slice_get}
use Rattle.std.proofs.Math.Seq.{take-append_seam}
use Rattle.std.specs.Prelude.{nat_lt, ◌==◌, if◌then◌else◌}
use Rattle.std.proofs.lemmas.Bool.{ltb-false, eqb-true}
use Rattle.std.proofs.lemmas.List.{take-append-drop}
use Rattle.captures.specs.declared.fault.FaultKind.{FaultKind}
use Rattle.captures.specs.declared.frame.BlockKind.{BlockKind}
use Rattle.captures.specs.declared.frame.BlockKind.TheVariants.{Section, Interface, Obsolete, Simple, Enhanced, Other}
use Rattle.captures.specs.declared.frame.Frame.{Frame}
use Rattle.captures.specs.declared.front.CaptureFormat.{CaptureFormat}
use Rattle.captures.specs.declared.front.Front.{Front}
use Rattle.captures.specs.declared.front.Front.TheVariants.{Header}
use Rattle.captures.specs.declared.interface.CaptureInterface.{CaptureInterface as Port}
use Rattle.captures.specs.declared.order.Order.{Order}
use Rattle.captures.specs.Blocks.{block_front, framed_front, read_front, front_by_kind, content_front}
use Rattle.captures.specs.Frames.{frame_by, order_of, section_order, kind_in, kind_of_number, is_wrong_length, least_length, most_length}
use Rattle.captures.specs.Numbers.{number_at}
use Rattle.captures.specs.Reading.{CaptureState, front_in}
use Rattle.captures.specs.Steps.{and_then}
use Rattle.captures.specs.Told.{IsContent, IsBlockBodyOf, WasBlock, WasWritten}
use Rattle.captures.specs.Writing.{number_bytes}
use Rattle.captures.specs.WritingBlocks.{block_bytes}
use Rattle.captures.proofs.Told.{IsBytes, IsBytes-drop, back_at, long_enough, no_fault, in_front, packet_was}
use Rattle.captures.proofs.ToldBodies.{interface_was, enhanced_was, obsolete_was, simple_was}
use Rattle.captures.proofs.WrittenFrames.{length-block_bytes}

-- the frame of a whole block
pub record IsFramed (order : Order) (bytes : List ℕ) (size : ℕ) : Type 0 where
  pub filled : size % 4 ≡ 0
  pub least : 12 ≤ size
  pub most : size ≤ 1048576
  pub long : size ≤ length bytes
  pub told : number_at order 4 4 bytes ≡ size
  pub last : number_at order 4 (size - 4) bytes ≡ size

-- the block is of the kind, and read by what it says
pub record IsReadBlock (kind : BlockKind) (order : Order) (interfaces : List Port) (bytes : List ℕ) (size : ℕ) : Type 0 where
  pub framed : IsFramed order bytes size
  pub fits : least_length kind ≤ size
  pub content : IsContent (content_front kind order interfaces (take size bytes))

-- ---- what a length that is not wrong says

not_wrong : (whole low high : Bool) → (not whole || low || high) ≡ false → (whole ≡ true) × (low ≡ false) × (high ≡ false)
not_wrong true false false e = (refl, refl, refl)
not_wrong true false true e = absurd cc
not_wrong true true high e = absurd cc
not_wrong false low high e = absurd cc

frame_told : (kind : BlockKind) (order : Order) (size : ℕ) (f : Frame → Result Front FaultKind) → IsContent (and_then (frame_by kind order size) f)
    → (is_wrong_length kind size ≡ false) × IsContent (f (record { kind = kind; order = order; length = size }))
frame_told kind order size f =
    let frame : Frame = record { kind = kind; order = order; length = size } in
    let by_test : (b : Bool) → is_wrong_length kind size ≡ b → IsContent (and_then (let r : Result Frame FaultKind = if b then Err FaultKind.BlockLength else Ok frame in r) f) → (is_wrong_length kind size ≡ false) × IsContent (f frame) = λ b. elim b as (λ v. is_wrong_length kind size ≡ v → IsContent (and_then (let r : Result Frame FaultKind = if v then Err FaultKind.BlockLength else Ok frame in r) f) → (is_wrong_length kind size ≡ false) × IsContent (f frame)) [
      | true ↦ λ e told. absurd told
      | false ↦ λ e told. (e, told)
    ] in
    by_test (is_wrong_length kind size) refl

not_other : (same : Bool) → not same ≡ false → same ≡ true
not_other true e = refl
not_other false e = absurd cc

-- a block of a kind that is read
kind_told : (kind : BlockKind) (order : Order) (interfaces : List Port) (bytes : List ℕ) → 12 ≤ least_length kind → most_length kind ≡ 1048576
    → ((size : ℕ) (x : Result Front FaultKind) → front_by_kind kind size x ≡ x)
    → IsContent (and_then (frame_by kind order (number_at order 4 4 bytes)) (λ frame. framed_front frame interfaces bytes))
    → IsReadBlock kind order interfaces bytes (number_at order 4 4 bytes)
kind_told kind order interfaces bytes least most passes told =
    let size = number_at order 4 4 bytes in
    let frame : Frame = record { kind = kind; order = order; length = size } in
    let first = frame_told kind order size (λ f. framed_front f interfaces bytes) told in
    let fits = not_wrong (size % 4 == 0) (nat_lt size (least_length kind)) (nat_lt (most_length kind) size) first.0 in
    let read : IsContent (read_front frame interfaces bytes) = subst IsContent (passes size (read_front frame interfaces bytes)) first.1 in
    let whole = long_enough (length bytes) size _ read in
    let last = no_fault (not (number_at order 4 (size - 4) bytes == size)) _ _ whole.1 in
    let framed : IsFramed order bytes size = record {
      filled = eqb-true _ _ fits.0;
      least = omega (arith, least, ltb-false size (least_length kind) fits.1);
      most = omega (arith, most, ltb-false (most_length kind) size fits.2);
      long = whole.0;
      told = refl;
      last = eqb-true _ _ (not_other _ last.0);
    } in
    record { framed = framed; fits = ltb-false size (least_length kind) fits.1; content = last.1 }

header_not_told : (test : Bool) (fault : FaultKind) (format : CaptureFormat) (size : ℕ) → IsContent (let r : Result Front FaultKind = if test then Err fault else Ok (Header format size) in r) → ⊥
header_not_told true fault format size told = absurd told
header_not_told false fault format size told = absurd told

section_not_told : (own : Order) (interfaces : List Port) (bytes : List ℕ) → IsContent (and_then (frame_by Section own (number_at own 4 4 bytes)) (λ frame. framed_front frame interfaces bytes)) → ⊥
section_not_told own interfaces bytes told =
    let size = number_at own 4 4 bytes in
    let first = frame_told Section own size (λ f. framed_front f interfaces bytes) told in
    let whole = long_enough (length bytes) size _ first.1 in
    let last = no_fault (not (number_at own 4 (size - 4) bytes == size)) _ _ whole.1 in
    header_not_told (not (number_at own 2 12 (take size bytes) == 1)) _ _ _ last.1

section_order_not_told : (r : Result Order FaultKind) (interfaces : List Port) (bytes : List ℕ)
    → IsContent (and_then (and_then r (λ own. frame_by Section own (number_at own 4 4 bytes))) (λ frame. framed_front frame interfaces bytes)) → ⊥
section_order_not_told (Ok own) interfaces bytes told = section_not_told own interfaces bytes told
section_order_not_told (Err fault) interfaces bytes told = absurd told

other_not_told : (order : Order) (interfaces : List Port) (bytes : List ℕ) → IsContent (and_then (frame_by Other order (number_at order 4 4 bytes)) (λ frame. framed_front frame interfaces bytes)) → ⊥
other_not_told order interfaces bytes told =
    (frame_told Other order (number_at order 4 4 bytes) (λ f. framed_front f interfaces bytes) told).1

framed_by : (kind : BlockKind) (order : Order) (interfaces : List Port) (bytes : List ℕ)
    → IsContent (and_then (and_then (order_of kind order bytes) (λ own. frame_by kind own (number_at own 4 4 bytes))) (λ frame. framed_front frame interfaces bytes))
    → IsReadBlock kind order interfaces bytes (number_at order 4 4 bytes)
framed_by Section order interfaces bytes told = absurd (section_order_not_told (section_order bytes) interfaces bytes told)
framed_by Interface order interfaces bytes told = kind_told Interface order interfaces bytes (omega arith) refl (λ size x. refl) told
framed_by Obsolete order interfaces bytes told = kind_told Obsolete order interfaces bytes (omega arith) refl (λ size x. refl) told
framed_by Simple order interfaces bytes told = kind_told Simple order interfaces bytes (omega arith) refl (λ size x. refl) told
framed_by Enhanced order interfaces bytes told = kind_told Enhanced order interfaces bytes (omega arith) refl (λ size x. refl) told
framed_by Other order interfaces bytes told = absurd (other_not_told order interfaces bytes told)

-- ---- the bytes of the block

nested : (a b c d r : List ℕ) → (((a ++ b) ++ c) ++ d) ++ r ≡ a ++ (b ++ (c ++ (d ++ r)))
nested a b c d r = simp append_assoc refl

body_of : ℕ → List ℕ → List ℕ
body_of size bytes = take (size - 12) (drop 8 bytes)

block_back : (order : Order) (bytes : List ℕ) (size : ℕ) → IsBytes bytes → IsFramed order bytes size
    → (12 + length (body_of size bytes) ≡ size) × (bytes ≡ block_bytes order (number_at order 4 0 bytes) (body_of size bytes) ++ drop size bytes)
unfolding body_of
block_back order bytes size fits framed =
    let n = size - 12 in
    let type = number_bytes order 4 (number_at order 4 0 bytes) in
    let body = take n (drop 8 bytes) in
    let count : 12 + length body ≡ size = omega (arith, length-take n (drop 8 bytes), length-drop 8 bytes, framed.long, framed.least) in
    let to_end : size - 4 + 4 ≡ size = omega (arith, framed.least) in
    let past : n + 8 ≡ size - 4 = omega (arith, framed.least) in
    let last : number_bytes order 4 size ++ drop size bytes ≡ drop (size - 4) bytes =
    ap (λ m. number_bytes order 4 m ++ drop size bytes) (sym framed.last)
    ∙ ap (λ m. number_bytes order 4 (number_at order 4 (size - 4) bytes) ++ drop m bytes) (sym to_end)
    ∙ back_at order (size - 4) bytes (omega (arith, framed.long, to_end)) fits in
    let inner : body ++ drop (size - 4) bytes ≡ drop 8 bytes =
    ap (λ m. body ++ drop m bytes) (let e : size - 4 ≡ 8 + n = omega (arith, framed.least) in e)
    ∙ ap (λ (r : List ℕ). body ++ r) (sym (drop-drop n 8 bytes))
    ∙ take-append-drop n (drop 8 bytes) in
    let from_size : number_bytes order 4 size ++ drop 8 bytes ≡ drop 4 bytes =
    ap (λ m. number_bytes order 4 m ++ drop 8 bytes) (sym framed.told) ∙ back_at order 4 bytes (omega (arith, framed.long, framed.least)) fits in
    let t8 = in_front body _ _ _ last inner in
    let t4 = in_front (number_bytes order 4 size) _ _ _ t8 from_size in
    let t0 = in_front type _ _ _ t4 (back_at order 0 bytes (omega (arith, framed.long, framed.least)) fits) in
    (count, sym (ap (λ m. (((type ++ number_bytes order 4 m) ++ body) ++ number_bytes order 4 m) ++ drop size bytes) count ∙ nested type (number_bytes order 4 size) body (number_bytes order 4 size) (drop size bytes) ∙ t0))

-- ---- the type and the body

-- the number of a type that is read
abbrev pub IsNumberOf : BlockKind → ℕ → Type 0
IsNumberOf Section type = Unit {0}
IsNumberOf Interface type = type ≡ 1
IsNumberOf Obsolete type = type ≡ 2
IsNumberOf Simple type = type ≡ 3
IsNumberOf Enhanced type = type ≡ 6
IsNumberOf Other type = Unit {0}

either : (test : Bool) (first second : BlockKind) (type : ℕ) → (test ≡ true → IsNumberOf first type) → (test ≡ false → IsNumberOf second type) → IsNumberOf (if test then first else second) type
either true first second type yes_ no_ = yes_ refl
either false first second type yes_ no_ = no_ refl

number_of_kind : (type : ℕ) → IsNumberOf (kind_of_number type) type
number_of_kind type =
    either (type == 0x0A0D0D0A) _ _ type (λ e. tt) (λ e.
    either (type == 1) _ _ type (λ f. eqb-true _ _ f) (λ f.
    either (type == 2) _ _ type (λ g. eqb-true _ _ g) (λ g.
    either (type == 3) _ _ type (λ h. eqb-true _ _ h) (λ h.
    either (type == 6) _ _ type (λ k. eqb-true _ _ k) (λ k. tt)))))

body_by : (kind : BlockKind) (order : Order) (interfaces : List Port) (type : ℕ) (body : List ℕ) → IsNumberOf kind type → IsBytes body → least_length kind ≤ 12 + length body
    → IsContent (content_front kind order interfaces (block_bytes order type body)) → IsBlockBodyOf kind order type body
body_by Section order interfaces type body number fits long told =
    header_not_told (not (number_at order 2 12 (block_bytes order type body) == 1)) _ _ _ told
body_by Interface order interfaces type body number fits long told = (number, interface_was order body fits (omega (arith, long)))
body_by Obsolete order interfaces type body number fits long told =
    (number, obsolete_was order type (slice_get interfaces (number_at order 2 8 (block_bytes order type body))) body fits (omega (arith, long)) told)
body_by Simple order interfaces type body number fits long told =
    (number, simple_was order type (slice_get interfaces 0) body fits (omega (arith, long)) told)
body_by Enhanced order interfaces type body number fits long told =
    (number, enhanced_was order type (slice_get interfaces (number_at order 4 8 (block_bytes order type body))) body fits (omega (arith, long)) told)
body_by Other order interfaces type body number fits long told = told

IsBytes-take : (n : ℕ) (bytes : List ℕ) → IsBytes bytes → IsBytes (take n bytes)
IsBytes-take zero bytes fits i = lit< tt
IsBytes-take (suc n) [] fits i = lit< tt
IsBytes-take (suc n) (x ∷ xs) fits zero = fits 0
IsBytes-take (suc n) (x ∷ xs) fits (suc i) = IsBytes-take n xs (λ j. fits (suc j)) i

own_block : (order : Order) (bytes : List ℕ) (size : ℕ) → IsBytes bytes → IsFramed order bytes size → take size bytes ≡ block_bytes order (number_at order 4 0 bytes) (body_of size bytes)
own_block order bytes size fits framed =
    let back = block_back order bytes size fits framed in
    let block = block_bytes order (number_at order 4 0 bytes) (body_of size bytes) in
    let count : size ≡ length block = omega (arith, back.0, length-block_bytes order (number_at order 4 0 bytes) (body_of size bytes)) in
    ap (take size) back.1 ∙ ap (λ n. take n (block ++ drop size bytes)) count ∙ take-append_seam block (drop size bytes)

pub block_was : (s : CaptureState) (bytes : List ℕ) → IsBytes bytes → WasBlock s bytes
unfolding body_of
block_was s bytes fits order format told =
    let there : IsContent (block_front order s.interfaces bytes) = subst IsContent (ap (λ (f : CaptureFormat). front_in f s.interfaces bytes) format) told in
    let first = long_enough (length bytes) 12 _ there in
    let size = number_at order 4 4 bytes in
    let type = number_at order 4 0 bytes in
    let kind = kind_in order bytes in
    let block = framed_by kind order s.interfaces bytes first.1 in
    let framed = block.framed in
    let back = block_back order bytes size fits framed in
    let body = body_of size bytes in
    let content = subst (λ (b : List ℕ). IsContent (content_front kind order s.interfaces b)) (own_block order bytes size fits framed) block.content in
    let inner : IsBytes body = IsBytes-take (size - 12) (drop 8 bytes) (IsBytes-drop 8 bytes fits) in
    let long : least_length kind ≤ 12 + length body = omega (arith, block.fits, back.0) in (
      kind,
      type,
      body,
      body_by kind order s.interfaces type body (number_of_kind type) inner long content,
      record {
        filled = omega (arith, framed.filled, back.0);
        fits = omega (arith, framed.most, back.0);
      },
      back.1 ∙ ap (λ n. block_bytes order type body ++ drop n bytes) (sym back.0),
    )

pub was_written : (s : CaptureState) (bytes : List ℕ) → IsBytes bytes → WasWritten s bytes
was_written s bytes fits = record { file_packet = packet_was s bytes fits; block = block_was s bytes fits }
