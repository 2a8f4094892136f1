-- Sections, interfaces and blocks of other types that are written are read as they are.
use Rattle.std.proofs.Common.{◌≡◌, ℕ, ◌+◌, ◌-◌, ◌^◌, ◌<◌, ◌≤◌, Bool, false, List, [], ◌++◌, length, take, drop, Result, Ok, refl, sym, ap, subst, ◌∙◌, arith, length-append}
use Rattle.std.specs.Prelude.{◌==◌, if◌then◌else◌, slice_range}
use Rattle.std.proofs.Math.Seq.{take-append_seam}
use Rattle.std.proofs.lemmas.Bool.{le-ltb}
use Rattle.captures.specs.declared.fault.FaultKind.{FaultKind}
use Rattle.captures.specs.declared.frame.BlockKind.TheVariants as BlockKind
use Rattle.captures.specs.declared.front.CaptureFormat.{CaptureFormat}
use Rattle.captures.specs.declared.front.Front.{Front}
use Rattle.captures.specs.declared.front.Front.TheVariants.{Header, Declared}
use Rattle.captures.specs.declared.interface.CaptureInterface.{CaptureInterface}
use Rattle.captures.specs.declared.order.Order.{Order}
use Rattle.captures.specs.declared.order.Order.TheVariants.{Big, Little}
use Rattle.captures.specs.declared.time.Timing.{Timing}
use Rattle.captures.specs.Blocks.{block_front, framed_front, section_front}
use Rattle.captures.specs.Frames.{section_order, is_wrong_length}
use Rattle.captures.specs.Interfaces.{interface_front, interface_of}
use Rattle.captures.specs.Numbers.{number_at}
use Rattle.captures.specs.Opening.{opening_front, header_front}
use Rattle.captures.specs.Options.{timing_of, usual_timing}
use Rattle.captures.specs.Pcap.{magic_of}
use Rattle.captures.specs.Reading.{CaptureState, front_in}
use Rattle.captures.specs.Steps.{and_then}
use Rattle.captures.specs.Writing.{number_bytes}
use Rattle.captures.specs.WritingBlocks.{block_bytes, IsLegalBlockBody, section_body, interface_body, MayBeginSection, ReadsSection, ReadsInterface, PassesOther}
use Rattle.captures.specs.WritingOptions.{settings_bytes, told_by}
use Rattle.captures.proofs.Written.{again}
use Rattle.captures.proofs.WrittenOptions.{settings_told}
use Rattle.captures.proofs.WrittenFrames.{length-block_bytes, in_body, IsBlockAt, block_written, IsReadAs, block_read, frame_written, fits_length}

-- ---- sections

-- the type of a section's block, in whatever byte order it is read
section_type : (before order : Order) (body rest : List ℕ) → number_at before 4 0 (block_bytes order 0x0A0D0D0A body ++ rest) ≡ 0x0A0D0D0A
section_type Big Big body rest = refl
section_type Big Little body rest = refl
section_type Little Big body rest = refl
section_type Little Little body rest = refl

own_order : (order : Order) (minor size : ℕ) (options rest : List ℕ) → section_order (block_bytes order 0x0A0D0D0A (section_body order minor size options) ++ rest) ≡ Ok order
own_order Big minor size options rest = refl
own_order Little minor size options rest = refl

version_written : (order : Order) (minor size : ℕ) (options : List ℕ) → number_at order 2 12 (block_bytes order 0x0A0D0D0A (section_body order minor size options)) ≡ 1
version_written Big minor size options = refl
version_written Little minor size options = refl

length-section_body : (order : Order) (minor size : ℕ) (options : List ℕ) → length (section_body order minor size options) ≡ 16 + length options
length-section_body Big minor size options = omega arith
length-section_body Little minor size options = omega arith

read_section : (size : ℕ) → 28 ≤ size → IsReadAs BlockKind.Section size
read_section size long = record { passes = λ x. refl; least = long; most = refl }

section_with : (order : Order) (block : List ℕ) (size : ℕ) → number_at order 2 12 block ≡ 1 → length block ≡ size → section_front order block ≡ Ok (Header (CaptureFormat.Section order) size)
section_with order block size version long = rw (version, long) refl

section_block : (before order : Order) (interfaces : List CaptureInterface) (minor size : ℕ) (options rest bytes : List ℕ) → IsLegalBlockBody (section_body order minor size options)
    → bytes ≡ block_bytes order 0x0A0D0D0A (section_body order minor size options) ++ rest
    → block_front before interfaces bytes ≡ Ok (Header (CaptureFormat.Section order) (12 + length (section_body order minor size options)))
section_block before order interfaces minor size options rest bytes body text =
    let own = section_body order minor size options in
    let kind : number_at before 4 0 bytes ≡ 0x0A0D0D0A = ap (number_at before 4 0) text ∙ section_type before order own rest in
    let at : IsBlockAt order 0x0A0D0D0A own bytes = subst (IsBlockAt order 0x0A0D0D0A own) (sym text) (block_written order 0x0A0D0D0A own rest (omega (arith, body.fits))) in
    let is_order : section_order bytes ≡ Ok order = ap section_order text ∙ own_order order minor size options rest in
    block_read before order interfaces 0x0A0D0D0A BlockKind.Section own bytes kind refl is_order at (read_section (12 + length own) (omega (arith, length-section_body order minor size options))) body
    ∙ section_with order (block_bytes order 0x0A0D0D0A own) (12 + length own) (version_written order minor size options) (length-block_bytes order 0x0A0D0D0A own)

opening_section : (bytes : List ℕ) → 4 ≤ length bytes → number_at Big 4 0 bytes ≡ 0x0A0D0D0A → opening_front bytes ≡ block_front Big [] bytes
opening_section bytes long type =
    let by_test : Bool → Result Front FaultKind = λ b. if b then block_front Big [] bytes else header_front (magic_of bytes) bytes in
    rw (le-ltb (length bytes) 4 long) (ap by_test (ap (λ n. n == 0x0A0D0D0A) type))

section_by_format : (format : CaptureFormat) (order : Order) (interfaces : List CaptureInterface) (minor size : ℕ) (options rest bytes : List ℕ) → MayBeginSection format → IsLegalBlockBody (section_body order minor size options)
    → bytes ≡ block_bytes order 0x0A0D0D0A (section_body order minor size options) ++ rest
    → front_in format interfaces bytes ≡ Ok (Header (CaptureFormat.Section order) (12 + length (section_body order minor size options)))
section_by_format CaptureFormat.Unread order interfaces minor size options rest bytes may body text =
    let own = section_body order minor size options in
    let long : 4 ≤ length bytes = omega (arith, ap length text, length-append (block_bytes order 0x0A0D0D0A own) rest, length-block_bytes order 0x0A0D0D0A own) in
    opening_section bytes long (ap (number_at Big 4 0) text ∙ section_type Big order own rest)
    ∙ section_block Big order [] minor size options rest bytes body text
section_by_format (CaptureFormat.Pcap file) order interfaces minor size options rest bytes may body text = absurd may
section_by_format (CaptureFormat.Section before) order interfaces minor size options rest bytes may body text =
    section_block before order interfaces minor size options rest bytes body text

pub section_written : (s : CaptureState) (bytes : List ℕ) → ReadsSection s bytes
section_written s bytes order minor size options rest may body text =
    section_by_format s.format order s.interfaces minor size options rest bytes may body text

-- ---- interfaces

interface_type : (order : Order) (body rest : List ℕ) → number_at order 4 0 (block_bytes order 1 body ++ rest) ≡ 1
interface_type Big body rest = refl
interface_type Little body rest = refl

link_written : (order : Order) (link reserved snap_length : ℕ) (options : List ℕ) → link < 2 ^ 16 → number_at order 2 0 (interface_body order link reserved snap_length options) ≡ link
link_written Big link reserved snap_length options fits = again Big 2 link (drop 2 (interface_body Big link reserved snap_length options)) fits
link_written Little link reserved snap_length options fits = again Little 2 link (drop 2 (interface_body Little link reserved snap_length options)) fits

snap_written : (order : Order) (link reserved snap_length : ℕ) (options : List ℕ) → snap_length < 2 ^ 32 → number_at order 4 4 (interface_body order link reserved snap_length options) ≡ snap_length
snap_written Big link reserved snap_length options fits = again Big 4 snap_length (drop 8 (interface_body Big link reserved snap_length options)) fits
snap_written Little link reserved snap_length options fits = again Little 4 snap_length (drop 8 (interface_body Little link reserved snap_length options)) fits

length-interface_body : (order : Order) (link reserved snap_length : ℕ) (options : List ℕ) → length (interface_body order link reserved snap_length options) ≡ 8 + length options
length-interface_body Big link reserved snap_length options = omega arith
length-interface_body Little link reserved snap_length options = omega arith

behind_fields : (order : Order) (link reserved snap_length : ℕ) (options : List ℕ)
    → drop 16 (block_bytes order 1 (interface_body order link reserved snap_length options)) ≡ options ++ number_bytes order 4 (12 + length (interface_body order link reserved snap_length options))
behind_fields Big link reserved snap_length options = refl
behind_fields Little link reserved snap_length options = refl

options_written : (order : Order) (link reserved snap_length : ℕ) (options : List ℕ)
    → slice_range (block_bytes order 1 (interface_body order link reserved snap_length options)) 16 (length (block_bytes order 1 (interface_body order link reserved snap_length options)) - 4) ≡ options
options_written order link reserved snap_length options =
    let body = interface_body order link reserved snap_length options in
    let count : length (block_bytes order 1 body) - 4 - 16 ≡ length options = omega (arith, length-block_bytes order 1 body, length-interface_body order link reserved snap_length options) in
    ap (λ (b : List ℕ). take (length (block_bytes order 1 body) - 4 - 16) b) (behind_fields order link reserved snap_length options)
    ∙ ap (λ n. take n (options ++ number_bytes order 4 (12 + length body))) count
    ∙ take-append_seam options (number_bytes order 4 (12 + length body))

read_interface : (size : ℕ) → 20 ≤ size → IsReadAs BlockKind.Interface size
read_interface size long = record { passes = λ x. refl; least = long; most = refl }

interface_with : (order : Order) (block options : List ℕ) (link snap_length size : ℕ) (timing : Timing)
    → number_at order 2 8 block ≡ link → number_at order 4 12 block ≡ snap_length → slice_range block 16 (length block - 4) ≡ options → timing_of order options ≡ Ok timing → length block ≡ size
    → interface_front order block ≡ Ok (Declared (record { link = link; snap_length = snap_length; timing = timing }) size)
interface_with order block options link snap_length size timing e8 e12 at told long =
    let declared : Result Timing FaultKind → Result Front FaultKind = λ r. and_then r (λ t. Ok (Declared (interface_of order block t) (length block))) in
    let there : declared (Ok timing) ≡ Ok (Declared (record { link = link; snap_length = snap_length; timing = timing }) size) = rw (e8, e12, long) refl in
    ap declared (ap (timing_of order) at ∙ told) ∙ there

pub interface_written : (s : CaptureState) (bytes : List ℕ) → ReadsInterface s bytes
interface_written s bytes order link reserved snap_length settings end rest format link_fits snap_fits legal ends body text =
    let options = settings_bytes order settings ++ end in
    let own = interface_body order link reserved snap_length options in
    let long = length-interface_body order link reserved snap_length options in
    let kind : number_at order 4 0 bytes ≡ 1 = ap (number_at order 4 0) text ∙ interface_type order own rest in
    let at : IsBlockAt order 1 own bytes = subst (IsBlockAt order 1 own) (sym text) (block_written order 1 own rest (omega (arith, body.fits))) in
    let e8 : number_at order 2 8 (block_bytes order 1 own) ≡ link = in_body order 1 own 2 0 (omega (arith, long)) ∙ link_written order link reserved snap_length options link_fits in
    let e12 : number_at order 4 12 (block_bytes order 1 own) ≡ snap_length = in_body order 1 own 4 4 (omega (arith, long)) ∙ snap_written order link reserved snap_length options snap_fits in
    let timing = told_by order settings usual_timing in
    ap (λ (f : CaptureFormat). front_in f s.interfaces bytes) format
    ∙ block_read order order s.interfaces 1 BlockKind.Interface own bytes kind refl refl at (read_interface (12 + length own) (omega (arith, long))) body
    ∙ interface_with order (block_bytes order 1 own) options link snap_length (12 + length own) timing e8 e12 (options_written order link reserved snap_length options) (settings_told order settings end legal ends) (length-block_bytes order 1 own)

-- ---- other blocks

size_at : (order : Order) (type size : ℕ) (rest : List ℕ) → size < 2 ^ 32 → number_at order 4 4 (number_bytes order 4 type ++ number_bytes order 4 size ++ rest) ≡ size
size_at Big type size rest fits = again Big 4 size rest fits
size_at Little type size rest fits = again Little 4 size rest fits

kind_at : (order : Order) (type size : ℕ) (rest : List ℕ) → type < 2 ^ 32 → number_at order 4 0 (number_bytes order 4 type ++ number_bytes order 4 size ++ rest) ≡ type
kind_at Big type size rest fits = again Big 4 type (drop 4 (number_bytes Big 4 type ++ number_bytes Big 4 size ++ rest)) fits
kind_at Little type size rest fits = again Little 4 type (drop 4 (number_bytes Little 4 type ++ number_bytes Little 4 size ++ rest)) fits

pub other_passed : (s : CaptureState) (bytes : List ℕ) → PassesOther s bytes
other_passed s bytes order type size rest format long type_fits size_fits kind whole least text =
    let right : is_wrong_length BlockKind.Other size ≡ false = fits_length size 12 4294967295 whole least (omega (arith, size_fits)) in
    let frame = frame_written order order type BlockKind.Other size bytes (ap (number_at order 4 0) text ∙ kind_at order type size rest type_fits) kind refl (ap (number_at order 4 4) text ∙ size_at order type size rest size_fits) right in
    ap (λ (f : CaptureFormat). front_in f s.interfaces bytes) format
    ∙ (rw (le-ltb (length bytes) 12 long) (ap (λ r. and_then r (λ f. framed_front f s.interfaces bytes)) frame))
