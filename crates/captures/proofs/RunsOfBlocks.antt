-- A whole pcapng is read as its packets.
use Rattle.std.proofs.Common.{◌≡◌, ℕ, zero, suc, ◌+◌, ◌<◌, ◌≤◌, false, List, [], ◌∷◌, ◌++◌, length, take, drop, None, Some, Ok, refl, sym, ap, ◌∙◌, arith, length-append, append_assoc}
use Rattle.std.specs.Prelude.{nat_lt, if◌then◌else◌}
use Rattle.std.specs.List.{slice_get}
use Rattle.std.proofs.Math.Seq.{drop-append_seam, take-append_seam}
use Rattle.std.proofs.lemmas.Bool.{le-ltb}
use Rattle.captures.specs.declared.front.Front.{Front}
use Rattle.captures.specs.declared.interface.CaptureInterface.{CaptureInterface}
use Rattle.captures.specs.declared.order.Order.{Order}
use Rattle.captures.specs.declared.order.Order.TheVariants.{Big, Little}
use Rattle.captures.specs.Reading.{CaptureState, front_of, unread, state_behind}
use Rattle.captures.specs.Runs.{ShownPacket, Whole, CutOff, PacketRun, ends_by, with_front, go_past, go_on, run, size_of, shown_of}
use Rattle.captures.specs.RunsOfBlocks.{Block, Begins, Declares, Enhanced, Obsolete, Simple, Passed, KnownSection, state_of, known_behind, bytes_of, IsLegalBlock, shown_at, shown_timed, shown_simple, shown_by, AreLegal, all_bytes, all_shown, begun, ReadsSections}
use Rattle.captures.specs.Times.{time_of}
use Rattle.captures.specs.Writing.{number_bytes}
use Rattle.captures.specs.WritingBlocks.{block_bytes, section_body, interface_body, TimedPacket, enhanced_body, obsolete_body, simple_body}
use Rattle.captures.specs.WritingOptions.{settings_bytes}
use Rattle.captures.proofs.WrittenBlocks.{enhanced_written, obsolete_written, simple_written}
use Rattle.captures.proofs.WrittenFrames.{length-block_bytes}
use Rattle.captures.proofs.WrittenSections.{section_written, interface_written, other_passed}

-- ---- past a part

-- the front is a whole part, of which the bytes are these
pub record IsOwn (front : Front) (own : List ℕ) : Type 0 where
  pub goes : (s : CaptureState) (bytes : List ℕ) (further : CaptureState → List ℕ → PacketRun) → go_on (Ok front) s bytes further ≡ go_past front s bytes further
  pub size : size_of front ≡ length own

pub step : (n : ℕ) (s : CaptureState) (own rest : List ℕ) (front : Front) → front_of s (own ++ rest) ≡ Ok front → IsOwn front own
    → run (suc n) s (own ++ rest) ≡ with_front (shown_of front (own ++ rest)) (run n (state_behind front s) rest)
unfolding run
step n s own rest front stands is_own =
    let next : CaptureState → List ℕ → PacketRun = λ t left. run n t left in
    let fits : nat_lt (length (own ++ rest)) (size_of front) ≡ false = le-ltb _ _ (omega (arith, length-append own rest, is_own.size)) in
    let past : drop (size_of front) (own ++ rest) ≡ rest = ap (λ k. drop k (own ++ rest)) is_own.size ∙ drop-append_seam own rest in
    ap (λ r. go_on r s (own ++ rest) next) stands
    ∙ is_own.goes s (own ++ rest) next
    ∙ ap (λ b. if b then ends_by CutOff else with_front (shown_of front (own ++ rest)) (next (state_behind front s) (drop (size_of front) (own ++ rest)))) fits
    ∙ ap (λ (left : List ℕ). with_front (shown_of front (own ++ rest)) (next (state_behind front s) left)) past

-- ---- the bytes of a packet

first_of_all : (xs a b c : List ℕ) → take (length xs) (((xs ++ a) ++ b) ++ c) ≡ xs
first_of_all xs a b c =
    ap (take (length xs)) (append_assoc (xs ++ a) b c ∙ append_assoc xs a (b ++ c)) ∙ take-append_seam xs (a ++ (b ++ c))

enhanced_bytes : (order : Order) (p : TimedPacket) (rest : List ℕ) → take (length p.bytes) (drop 28 (block_bytes order 6 (enhanced_body order p) ++ rest)) ≡ p.bytes
enhanced_bytes Big p rest = first_of_all p.bytes p.behind (number_bytes Big 4 (12 + length (enhanced_body Big p))) rest
enhanced_bytes Little p rest = first_of_all p.bytes p.behind (number_bytes Little 4 (12 + length (enhanced_body Little p))) rest

obsolete_bytes : (order : Order) (drops : ℕ) (p : TimedPacket) (rest : List ℕ) → take (length p.bytes) (drop 28 (block_bytes order 2 (obsolete_body order drops p) ++ rest)) ≡ p.bytes
obsolete_bytes Big drops p rest = first_of_all p.bytes p.behind (number_bytes Big 4 (12 + length (obsolete_body Big drops p))) rest
obsolete_bytes Little drops p rest = first_of_all p.bytes p.behind (number_bytes Little 4 (12 + length (obsolete_body Little drops p))) rest

simple_bytes : (order : Order) (wire : ℕ) (packet behind rest : List ℕ) → take (length packet) (drop 12 (block_bytes order 3 (simple_body order wire packet behind) ++ rest)) ≡ packet
simple_bytes Big wire packet behind rest = first_of_all packet behind (number_bytes Big 4 (12 + length (simple_body Big wire packet behind))) rest
simple_bytes Little wire packet behind rest = first_of_all packet behind (number_bytes Little 4 (12 + length (simple_body Little wire packet behind))) rest

-- ---- one block

-- the packet that is returned for a packet with a time, from its bytes
timed_shown : (interfaces : List CaptureInterface) (p : TimedPacket) (interface : CaptureInterface) (time : ℕ) (bytes : List ℕ) → slice_get interfaces p.number ≡ Some interface → time_of interface.timing p.units ≡ Some time → bytes ≡ p.bytes
    → (let shown : List ShownPacket = record { time = Some time; link = interface.link; wire_length = p.wire_length; bytes = bytes } ∷ [] in shown) ≡ shown_timed (slice_get interfaces p.number) p
timed_shown interfaces p interface time bytes found since same =
    let at : List ℕ → List ShownPacket = λ b. record { time = Some time; link = interface.link; wire_length = p.wire_length; bytes = b } ∷ [] in
    ap at same ∙ sym (ap (λ i. shown_timed i p) found ∙ ap (shown_at interface p) since)

simple_shown : (interfaces : List CaptureInterface) (wire : ℕ) (packet : List ℕ) (interface : CaptureInterface) (bytes : List ℕ) → slice_get interfaces 0 ≡ Some interface → bytes ≡ packet
    → (let shown : List ShownPacket = record { time = None; link = interface.link; wire_length = wire; bytes = bytes } ∷ [] in shown) ≡ shown_simple (slice_get interfaces 0) wire packet
simple_shown interfaces wire packet interface bytes found same =
    let at : List ℕ → List ShownPacket = λ b. record { time = None; link = interface.link; wire_length = wire; bytes = b } ∷ [] in
    ap at same ∙ sym (ap (λ i. shown_simple i wire packet) found)

-- a block at the start is skipped, and its packet returned
pub block_run : (n : ℕ) (k : KnownSection) (b : Block) (rest : List ℕ) → IsLegalBlock k b
    → run (suc n) (state_of k) (bytes_of k.order b ++ rest) ≡ with_front (shown_by k b) (run n (state_of (known_behind k b)) rest)
block_run n k (Begins order minor size options) rest legal =
    let body = section_body order minor size options in
    step n (state_of k) (block_bytes order 0x0A0D0D0A body) rest _ (section_written (state_of k) (block_bytes order 0x0A0D0D0A body ++ rest) order minor size options rest tt legal refl)
    (record { goes = λ s bytes further. refl; size = sym (length-block_bytes order 0x0A0D0D0A body) })
block_run n k (Declares link reserved snap_length settings end) rest legal =
    let body = interface_body k.order link reserved snap_length (settings_bytes k.order settings ++ end) in
    step n (state_of k) (block_bytes k.order 1 body) rest _ (interface_written (state_of k) (block_bytes k.order 1 body ++ rest) k.order link reserved snap_length settings end rest refl legal.0 legal.1 legal.2 legal.3 legal.4 refl)
    (record { goes = λ s bytes further. refl; size = sym (length-block_bytes k.order 1 body) })
block_run n k (Enhanced p) rest legal =
    let own = block_bytes k.order 6 (enhanced_body k.order p) in
    let timed = legal.2 in
    step n (state_of k) own rest _ (enhanced_written (state_of k) (own ++ rest) k.order p timed.interface timed.time rest refl legal.0 legal.1 timed.declared timed.since legal.3 refl)
    (record { goes = λ s bytes further. refl; size = sym (length-block_bytes k.order 6 (enhanced_body k.order p)) })
    ∙ ap (λ (shown : List ShownPacket). with_front shown (run n (state_of k) rest)) (timed_shown k.interfaces p timed.interface timed.time (take (length p.bytes) (drop 28 (own ++ rest))) timed.declared timed.since (enhanced_bytes k.order p rest))
block_run n k (Obsolete drops p) rest legal =
    let own = block_bytes k.order 2 (obsolete_body k.order drops p) in
    let timed = legal.2 in
    step n (state_of k) own rest _ (obsolete_written (state_of k) (own ++ rest) k.order drops p timed.interface timed.time rest refl legal.0 legal.1 timed.declared timed.since legal.3 refl)
    (record { goes = λ s bytes further. refl; size = sym (length-block_bytes k.order 2 (obsolete_body k.order drops p)) })
    ∙ ap (λ (shown : List ShownPacket). with_front shown (run n (state_of k) rest)) (timed_shown k.interfaces p timed.interface timed.time (take (length p.bytes) (drop 28 (own ++ rest))) timed.declared timed.since (obsolete_bytes k.order drops p rest))
block_run n k (Simple wire packet behind) rest legal =
    let own = block_bytes k.order 3 (simple_body k.order wire packet behind) in
    let cut = legal.2 in
    step n (state_of k) own rest _ (simple_written (state_of k) (own ++ rest) k.order wire packet behind cut.interface rest refl legal.0 legal.1 cut.cut cut.declared legal.3 refl)
    (record { goes = λ s bytes further. refl; size = sym (length-block_bytes k.order 3 (simple_body k.order wire packet behind)) })
    ∙ ap (λ (shown : List ShownPacket). with_front shown (run n (state_of k) rest)) (simple_shown k.interfaces wire packet cut.interface (take (length packet) (drop 12 (own ++ rest))) cut.declared (simple_bytes k.order wire packet behind rest))
block_run n k (Passed type body) rest legal =
    let own = block_bytes k.order type body in
    let long = length-block_bytes k.order type body in
    let head = number_bytes k.order 4 type ++ number_bytes k.order 4 (12 + length body) in
    let tail = number_bytes k.order 4 (12 + length body) in
    let text : own ++ rest ≡ head ++ (body ++ (tail ++ rest)) = append_assoc (head ++ body) tail rest ∙ append_assoc head body (tail ++ rest) in
    step n (state_of k) own rest _ (other_passed (state_of k) (own ++ rest) k.order type (12 + length body) (body ++ (tail ++ rest)) refl (omega (arith, long, length-append own rest)) legal.0 legal.3 legal.1 (omega (arith, legal.2)) (omega arith) text)
    (record { goes = λ s bytes further. refl; size = sym long })

-- ---- all blocks

length-bytes_of : (k : KnownSection) (b : Block) → 12 ≤ length (bytes_of k.order b)
length-bytes_of k (Begins order minor size options) = omega (arith, length-block_bytes order 0x0A0D0D0A (section_body order minor size options))
length-bytes_of k (Declares link reserved snap_length settings end) = omega (arith, length-block_bytes k.order 1 (interface_body k.order link reserved snap_length (settings_bytes k.order settings ++ end)))
length-bytes_of k (Enhanced p) = omega (arith, length-block_bytes k.order 6 (enhanced_body k.order p))
length-bytes_of k (Obsolete drops p) = omega (arith, length-block_bytes k.order 2 (obsolete_body k.order drops p))
length-bytes_of k (Simple wire packet behind) = omega (arith, length-block_bytes k.order 3 (simple_body k.order wire packet behind))
length-bytes_of k (Passed type body) = omega (arith, length-block_bytes k.order type body)

end_run : (n : ℕ) (k : KnownSection) → run (suc n) (state_of k) [] ≡ ends_by Whole
unfolding run
end_run n k = refl

with_both : (front behind : List ShownPacket) → with_front front (record { packets = behind; end = Whole }) ≡ record { packets = front ++ behind; end = Whole }
with_both front behind = refl

blocks_run : (n : ℕ) (k : KnownSection) (blocks : List Block) → AreLegal k blocks → length (all_bytes k blocks) < n → run n (state_of k) (all_bytes k blocks) ≡ record { packets = all_shown k blocks; end = Whole }
blocks_run zero k blocks legal fits = absurd (omega (arith, fits))
blocks_run (suc n) k [] legal fits = end_run n k
blocks_run (suc n) k (b ∷ blocks) legal fits =
    let rest = all_bytes (known_behind k b) blocks in
    let less : length rest < n = omega (arith, fits, length-append (bytes_of k.order b) rest, length-bytes_of k b) in
    block_run n k b rest legal.0 ∙ ap (with_front (shown_by k b)) (blocks_run n (known_behind k b) blocks legal.1 less)

-- ---- the whole

pub reads_sections : ReadsSections unread
reads_sections order minor size options blocks body legal =
    let first = bytes_of order (Begins order minor size options) in
    let rest = all_bytes (begun order) blocks in
    let more : length rest < length (first ++ rest) = omega (arith, length-append first rest, length-bytes_of (begun order) (Begins order minor size options)) in
    step (length (first ++ rest)) unread first rest _ (section_written unread (first ++ rest) order minor size options rest tt body refl)
    (record { goes = λ s bytes further. refl; size = sym (length-block_bytes order 0x0A0D0D0A (section_body order minor size options)) })
    ∙ blocks_run (length (first ++ rest)) (begun order) blocks legal more
