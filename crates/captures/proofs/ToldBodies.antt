-- The body of a block, taken apart into the fields that were written.
use Rattle.std.proofs.Common.{◌≡◌, ℕ, ◌+◌, ◌-◌, ◌*◌, ◌/◌, ◌%◌, ◌^◌, ◌<◌, ◌≤◌, Bool, true, false, ◌||◌, List, ◌++◌, length, take, drop, Option, None, Some, refl, sym, ap, ◌∙◌, arith, append_assoc, drop-drop, length-take, length-drop}
use Rattle.std.specs.Prelude.{nat_lt}
use Rattle.std.proofs.lemmas.Bool.{ltb-false}
use Rattle.std.proofs.lemmas.List.{take-append-drop}
use Rattle.captures.specs.declared.front.TheConstants.{MOST_CAPTURED}
use Rattle.captures.specs.declared.interface.CaptureInterface.{CaptureInterface}
use Rattle.captures.specs.declared.order.Order.{Order}
use Rattle.captures.specs.Numbers.{number_at}
use Rattle.captures.specs.Packets.{is_too_long, timed_of, simple_of, snapped}
use Rattle.captures.specs.Told.{IsContent, IsInterfaceBody, IsEnhancedBody, IsObsoleteBody, IsSimpleBody}
use Rattle.captures.specs.Writing.{number_bytes}
use Rattle.captures.specs.WritingBlocks.{block_bytes, TimedPacket, IsLegalTimed, timed_body}
use Rattle.captures.proofs.Told.{IsBytes, number_at-lt, back_at, half_back_at, no_fault, in_front}
use Rattle.captures.proofs.WrittenFrames.{in_body, length-block_bytes}

-- ---- packets with a time

neither : (a b : Bool) → (a || b) ≡ false → (a ≡ false) × (b ≡ false)
neither true b e = absurd cc
neither false b e = (refl, e)

not_long : (captured room : ℕ) → is_too_long captured room ≡ false → (captured ≤ room) × (captured ≤ MOST_CAPTURED)
not_long captured room e =
    let both = neither (nat_lt room captured) (nat_lt MOST_CAPTURED captured) e in
    (ltb-false room captured both.0, ltb-false MOST_CAPTURED captured both.1)

timed_told : (order : Order) (found : Option CaptureInterface) (block : List ℕ) → IsContent (timed_of order found block) → is_too_long (number_at order 4 20 block) (length block - 32) ≡ false
timed_told order None block told = absurd told
timed_told order (Some interface) block told = (no_fault (is_too_long (number_at order 4 20 block) (length block - 32)) _ _ told).0

timed_room : (order : Order) (type : ℕ) (body : List ℕ) → 20 ≤ length body → is_too_long (number_at order 4 20 (block_bytes order type body)) (length (block_bytes order type body) - 32) ≡ false
    → (20 + number_at order 4 12 body ≤ length body) × (number_at order 4 12 body ≤ MOST_CAPTURED)
timed_room order type body long short =
    let room = not_long (number_at order 4 20 (block_bytes order type body)) (length (block_bytes order type body) - 32) short in
    let same : number_at order 4 20 (block_bytes order type body) ≡ number_at order 4 12 body = in_body order type body 4 12 (omega (arith, long)) in
    (omega (arith, room.0, same, length-block_bytes order type body, long), omega (arith, room.1, same))

timed_in_body : Order → ℕ → List ℕ → TimedPacket
timed_in_body order number body = record {
  number = number;
  units = number_at order 4 4 body * 4294967296 + number_at order 4 8 body;
  wire_length = number_at order 4 16 body;
  bytes = take (number_at order 4 12 body) (drop 20 body);
  behind = drop (20 + number_at order 4 12 body) body;
}

nested : (a b c d e r : List ℕ) → ((((a ++ b) ++ c) ++ d) ++ e) ++ r ≡ a ++ (b ++ (c ++ (d ++ (e ++ r))))
nested a b c d e r = simp append_assoc refl

high_half : (high low : ℕ) → low < 2 ^ 32 → (high * 4294967296 + low) / 4294967296 ≡ high
high_half high low fits = omega (arith, fits)

low_half : (high low : ℕ) → low < 2 ^ 32 → (high * 4294967296 + low) % 4294967296 ≡ low
low_half high low fits = omega (arith, fits)

timed_legal : (order : Order) (number : ℕ) (body : List ℕ) → IsBytes body → number_at order 4 12 body ≤ MOST_CAPTURED → IsLegalTimed (timed_in_body order number body)
unfolding timed_in_body
timed_legal order number body fits short = record {
  units = omega (arith, number_at-lt order 4 4 body fits, number_at-lt order 4 8 body fits);
  wire_length = number_at-lt order 4 16 body fits;
  bytes = omega (arith, short, length-take (number_at order 4 12 body) (drop 20 body));
}

timed_back : (order : Order) (number : ℕ) (body : List ℕ) → IsBytes body → 20 + number_at order 4 12 body ≤ length body
    → timed_body order (timed_in_body order number body) ≡ drop 4 body
unfolding timed_in_body
timed_back order number body fits long =
    let n = number_at order 4 12 body in
    let high = number_at order 4 4 body in
    let low = number_at order 4 8 body in
    let wire = number_bytes order 4 (number_at order 4 16 body) in
    let bytes = take n (drop 20 body) in
    let behind = drop (20 + n) body in
    let low_fits : low < 2 ^ 32 = number_at-lt order 4 8 body fits in
    let count : length bytes ≡ n = omega (arith, length-take n (drop 20 body), length-drop 20 body, long) in
    let t20 : bytes ++ behind ≡ drop 20 body = ap (λ (r : List ℕ). bytes ++ r) (sym (drop-drop n 20 body)) ∙ take-append-drop n (drop 20 body) in
    let t16 = in_front wire _ _ _ t20 (back_at order 16 body (omega (arith, long)) fits) in
    let t12 = in_front (number_bytes order 4 n) _ _ _ t16 (back_at order 12 body (omega (arith, long)) fits) in
    let t8 = in_front (number_bytes order 4 low) _ _ _ t12 (back_at order 8 body (omega (arith, long)) fits) in
    let t4 = in_front (number_bytes order 4 high) _ _ _ t8 (back_at order 4 body (omega (arith, long)) fits) in
    let fields : ℕ → ℕ → ℕ → List ℕ = λ h l c. ((((number_bytes order 4 h ++ number_bytes order 4 l) ++ number_bytes order 4 c) ++ wire) ++ bytes) ++ behind in
    ap (λ h. fields h ((high * 4294967296 + low) % 4294967296) (length bytes)) (high_half high low low_fits)
    ∙ ap (λ l. fields high l (length bytes)) (low_half high low low_fits)
    ∙ ap (fields high low) count
    ∙ nested (number_bytes order 4 high) (number_bytes order 4 low) (number_bytes order 4 n) wire bytes behind
    ∙ t4

pub enhanced_was : (order : Order) (type : ℕ) (found : Option CaptureInterface) (body : List ℕ) → IsBytes body → 20 ≤ length body → IsContent (timed_of order found (block_bytes order type body)) → IsEnhancedBody order body
unfolding timed_in_body
enhanced_was order type found body fits long told =
    let room = timed_room order type body long (timed_told order found (block_bytes order type body) told) in
    let number = number_at order 4 0 body in (
      timed_in_body order number body,
      timed_legal order number body fits room.1,
      number_at-lt order 4 0 body fits,
      sym (in_front (number_bytes order 4 number) _ _ _ (timed_back order number body fits room.0) (back_at order 0 body (omega (arith, long)) fits)),
    )

pub obsolete_was : (order : Order) (type : ℕ) (found : Option CaptureInterface) (body : List ℕ) → IsBytes body → 20 ≤ length body → IsContent (timed_of order found (block_bytes order type body)) → IsObsoleteBody order body
unfolding timed_in_body
obsolete_was order type found body fits long told =
    let room = timed_room order type body long (timed_told order found (block_bytes order type body) told) in
    let number = number_at order 2 0 body in
    let drops = number_at order 2 2 body in
    let inner = in_front (number_bytes order 2 drops) _ _ _ (timed_back order number body fits room.0) (half_back_at order 2 body (omega (arith, long)) fits) in
    let all = in_front (number_bytes order 2 number) _ _ _ inner (half_back_at order 0 body (omega (arith, long)) fits) in (
      drops,
      timed_in_body order number body,
      timed_legal order number body fits room.1,
      number_at-lt order 2 0 body fits,
      sym (append_assoc (number_bytes order 2 number) (number_bytes order 2 drops) (timed_body order (timed_in_body order number body)) ∙ all),
    )

-- ---- simple packets

simple_room : (order : Order) (type : ℕ) (interface : CaptureInterface) (body : List ℕ) → 4 ≤ length body
    → is_too_long (snapped interface.snap_length (number_at order 4 8 (block_bytes order type body))) (length (block_bytes order type body) - 16) ≡ false
    → (4 + snapped interface.snap_length (number_at order 4 0 body) ≤ length body) × (snapped interface.snap_length (number_at order 4 0 body) ≤ MOST_CAPTURED)
simple_room order type interface body long short =
    let room = not_long (snapped interface.snap_length (number_at order 4 8 (block_bytes order type body))) (length (block_bytes order type body) - 16) short in
    let same : snapped interface.snap_length (number_at order 4 8 (block_bytes order type body)) ≡ snapped interface.snap_length (number_at order 4 0 body) = ap (snapped interface.snap_length) (in_body order type body 4 0 (omega (arith, long))) in
    (omega (arith, room.0, same, length-block_bytes order type body, long), omega (arith, room.1, same))

pub simple_was : (order : Order) (type : ℕ) (found : Option CaptureInterface) (body : List ℕ) → IsBytes body → 4 ≤ length body → IsContent (simple_of order found (block_bytes order type body)) → IsSimpleBody order body
simple_was order type None body fits long told = absurd told
simple_was order type (Some interface) body fits long told =
    let block = block_bytes order type body in
    let short = (no_fault (is_too_long (snapped interface.snap_length (number_at order 4 8 block)) (length block - 16)) _ _ told).0 in
    let room = simple_room order type interface body long short in
    let wire = number_at order 4 0 body in
    let n = snapped interface.snap_length wire in
    let inner : take n (drop 4 body) ++ drop n (drop 4 body) ≡ drop 4 body = take-append-drop n (drop 4 body) in
    let all = in_front (number_bytes order 4 wire) _ _ _ inner (back_at order 0 body (omega (arith, long)) fits) in (
      wire,
      take n (drop 4 body),
      drop n (drop 4 body),
      number_at-lt order 4 0 body fits,
      omega (arith, room.1, length-take n (drop 4 body)),
      sym (append_assoc (number_bytes order 4 wire) (take n (drop 4 body)) (drop n (drop 4 body)) ∙ all),
    )

-- ---- interfaces

nested_3 : (a b c r : List ℕ) → ((a ++ b) ++ c) ++ r ≡ a ++ (b ++ (c ++ r))
nested_3 a b c r = simp append_assoc refl

pub interface_was : (order : Order) (body : List ℕ) → IsBytes body → 8 ≤ length body → IsInterfaceBody order body
interface_was order body fits long =
    let link = number_at order 2 0 body in
    let reserved = number_at order 2 2 body in
    let snap = number_at order 4 4 body in
    let t4 = back_at order 4 body (omega (arith, long)) fits in
    let t2 = in_front (number_bytes order 2 reserved) _ _ _ t4 (half_back_at order 2 body (omega (arith, long)) fits) in
    let t0 = in_front (number_bytes order 2 link) _ _ _ t2 (half_back_at order 0 body (omega (arith, long)) fits) in (
      link,
      reserved,
      snap,
      drop 8 body,
      number_at-lt order 2 0 body fits,
      number_at-lt order 4 4 body fits,
      sym (nested_3 (number_bytes order 2 link) (number_bytes order 2 reserved) (number_bytes order 4 snap) (drop 8 body) ∙ t0),
    )
