-- A whole pcap is read as its packets.
use Rattle.std.proofs.Common.{◌≡◌, ℕ, zero, suc, ◌+◌, ◌*◌, ◌^◌, ◌<◌, false, List, [], ◌∷◌, ◌++◌, length, map, take, drop, Some, refl, sym, ap, ◌∙◌, arith, length-append}
use Rattle.std.specs.Prelude.{nat_lt, if◌then◌else◌}
use Rattle.std.specs.List.{flat_map, AllByRecursion}
use Rattle.std.proofs.Math.Seq.{drop-append_seam, take-append_seam}
use Rattle.std.proofs.lemmas.Bool.{le-ltb}
use Rattle.captures.specs.declared.front.CaptureFormat.TheVariants as Format
use Rattle.captures.specs.declared.order.Order.{Order}
use Rattle.captures.specs.declared.order.Order.TheVariants.{Big, Little}
use Rattle.captures.specs.declared.pcap.PcapFile.{PcapFile}
use Rattle.captures.specs.Pcap.{nanoseconds_of}
use Rattle.captures.specs.Reading.{CaptureState, unread}
use Rattle.captures.specs.Runs.{ShownPacket, Whole, CutOff, ends_by, with_front, go_on, run, pcap_bytes, shown_as, ReadsFiles}
use Rattle.captures.specs.Writing.{number_bytes, magic_number, FileHeader, file_bytes, FilePacket, IsLegalFilePacket, file_packet_bytes}
use Rattle.captures.proofs.Written.{header_written, packet_written}
use Rattle.captures.proofs.WrittenFrames.{length-number_bytes}

length-file_bytes : (h : FileHeader) → length (file_bytes h) ≡ 24
length-file_bytes h =
    let o = h.magic.order in
    let a = number_bytes o 4 (magic_number h.magic.fraction) in
    let b = number_bytes o 2 2 in
    let c = number_bytes o 2 h.minor in
    let d = number_bytes o 8 h.reserved in
    let e = number_bytes o 4 h.snap_length in
    let f = number_bytes o 4 (h.high * 65536 + h.link) in
    omega (
      arith,
      length-append ((((a ++ b) ++ c) ++ d) ++ e) f,
      length-append (((a ++ b) ++ c) ++ d) e,
      length-append ((a ++ b) ++ c) d,
      length-append (a ++ b) c,
      length-append a b,
      length-number_bytes o 4 (magic_number h.magic.fraction),
      length-number_bytes o 2 2,
      length-number_bytes o 2 h.minor,
      length-number_bytes o 8 h.reserved,
      length-number_bytes o 4 h.snap_length,
      length-number_bytes o 4 (h.high * 65536 + h.link),
    )

length-file_packet_bytes : (order : Order) (p : FilePacket) → length (file_packet_bytes order p) ≡ 16 + length p.bytes
length-file_packet_bytes Big p = omega arith
length-file_packet_bytes Little p = omega arith

captured_bytes : (order : Order) (p : FilePacket) (rest : List ℕ) → take (length p.bytes) (drop 16 (file_packet_bytes order p ++ rest)) ≡ p.bytes
captured_bytes Big p rest = take-append_seam p.bytes rest
captured_bytes Little p rest = take-append_seam p.bytes rest

past : (own rest : List ℕ) (size : ℕ) → length own ≡ size → drop size (own ++ rest) ≡ rest
past own rest size long = ap (λ n. drop n (own ++ rest)) (sym long) ∙ drop-append_seam own rest

-- ---- the packets

abbrev in_file : PcapFile → CaptureState
in_file file = record { format = Format.Pcap file; interfaces = [] }

packet_run : (n : ℕ) (file : PcapFile) (p : FilePacket) (rest : List ℕ) → IsLegalFilePacket p
    → run (suc n) (in_file file) (file_packet_bytes file.magic.order p ++ rest) ≡ with_front (shown_as file.magic.fraction file.link p ∷ []) (run n (in_file file) rest)
unfolding run
packet_run n file p rest legal =
    let order = file.magic.order in
    let own = file_packet_bytes order p in
    let long = length-file_packet_bytes order p in
    let front = packet_written (in_file file) (own ++ rest) file p rest refl legal refl in
    let fits : nat_lt (length (own ++ rest)) (16 + length p.bytes) ≡ false = le-ltb _ _ (omega (arith, length-append own rest, long)) in
    let shown : List ℕ → List ShownPacket = λ b. record { time = Some (nanoseconds_of file.magic.fraction p.seconds p.fraction); link = file.link; wire_length = p.wire_length; bytes = b } ∷ [] in
    ap (λ r. go_on r (in_file file) (own ++ rest) (λ t left. run n t left)) front
    ∙ ap (λ b. if b then ends_by CutOff else with_front (shown (take (length p.bytes) (drop 16 (own ++ rest)))) (run n (in_file file) (drop (16 + length p.bytes) (own ++ rest)))) fits
    ∙ ap (λ (b : List ℕ). with_front (shown b) (run n (in_file file) (drop (16 + length p.bytes) (own ++ rest)))) (captured_bytes order p rest)
    ∙ ap (λ (left : List ℕ). with_front (shown p.bytes) (run n (in_file file) left)) (past own rest (16 + length p.bytes) long)

end_run : (n : ℕ) (file : PcapFile) → run (suc n) (in_file file) [] ≡ ends_by Whole
unfolding run
end_run n file = refl

packets_run : (n : ℕ) (file : PcapFile) (packets : List FilePacket) → AllByRecursion IsLegalFilePacket packets → length (flat_map (file_packet_bytes file.magic.order) packets) < n
    → run n (in_file file) (flat_map (file_packet_bytes file.magic.order) packets) ≡ record { packets = map (shown_as file.magic.fraction file.link) packets; end = Whole }
packets_run zero file packets legal fits = absurd (omega (arith, fits))
packets_run (suc n) file [] legal fits = end_run n file
packets_run (suc n) file (p ∷ packets) legal fits =
    let rest = flat_map (file_packet_bytes file.magic.order) packets in
    let less : length rest < n = omega (arith, fits, length-append (file_packet_bytes file.magic.order p) rest, length-file_packet_bytes file.magic.order p) in
    packet_run n file p rest legal.0
    ∙ ap (with_front (shown_as file.magic.fraction file.link p ∷ [])) (packets_run n file packets legal.1 less)

-- ---- the whole

file_run : (n : ℕ) (h : FileHeader) (rest : List ℕ) → h.link < 2 ^ 16 → h.high < 2 ^ 16
    → run (suc n) unread (file_bytes h ++ rest) ≡ run n (in_file (record { magic = h.magic; link = h.link })) rest
unfolding run
file_run n h rest low top =
    let file : PcapFile = record { magic = h.magic; link = h.link } in
    let own = file_bytes h in
    let long = length-file_bytes h in
    let front = header_written unread (own ++ rest) h rest refl low top refl in
    let fits : nat_lt (length (own ++ rest)) 24 ≡ false = le-ltb _ _ (omega (arith, length-append own rest, long)) in
    ap (λ r. go_on r unread (own ++ rest) (λ t left. run n t left)) front
    ∙ ap (λ b. if b then ends_by CutOff else with_front [] (run n (in_file file) (drop 24 (own ++ rest)))) fits
    ∙ ap (λ (left : List ℕ). run n (in_file file) left) (past own rest 24 long)

pub reads_files : ReadsFiles unread
reads_files h packets low top legal =
    let file : PcapFile = record { magic = h.magic; link = h.link } in
    let rest = flat_map (file_packet_bytes h.magic.order) packets in
    let more : length rest < length (pcap_bytes h packets) = omega (arith, length-append (file_bytes h) rest, length-file_bytes h) in
    file_run (length (pcap_bytes h packets)) h rest low top ∙ packets_run (length (pcap_bytes h packets)) file packets legal more
