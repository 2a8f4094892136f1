use Rattle.std.proofs.Common.{ℕ, length, take, ap, sym, ◌∙◌}
use Rattle.std.specs.Prelude.{is_none}
use Rattle.packets.specs.Packets.{has_wrong_sum, is_wrong_length}
use Rattle.packets.proofs.PacketFaults.{is_short, HasVersion, HasKind, HasLength, has_other_version, has_no_kind, has_wrong_length, has_fault_in_sum, has_no_fault, body_is}
use Rattle.packets.proofs.packet.read_packet.Goals as goal

pub returns-then-bytes-lt-HEADER-clause-fault : goal.returns-then-bytes-lt-HEADER-clause-fault
returns-then-bytes-lt-HEADER-clause-fault c = is_short _ c.if-bytes-lt-HEADER.true

pub returns-then-bytes-ne-VERSION-clause-fault : goal.returns-then-bytes-ne-VERSION-clause-fault
returns-then-bytes-ne-VERSION-clause-fault c = has_other_version _ c.if-bytes-lt-HEADER.false c.if-bytes-ne-VERSION.true

pub returns-in_default-clause-fault : goal.returns-in_default-clause-fault
returns-in_default-clause-fault c =
    has_no_kind _ (record { long = c.if-bytes-lt-HEADER.false; version = c.if-bytes-ne-VERSION.false }) (sym c.in_default.ensures)

pub returns-then-is_wrong_length-clause-fault : goal.returns-then-is_wrong_length-clause-fault
returns-then-is_wrong_length-clause-fault c =
    let version : HasVersion c.args.bytes.now = record { long = c.if-bytes-lt-HEADER.false; version = c.if-bytes-ne-VERSION.false } in
    let kind : HasKind c.args.bytes.now = record { version = version; kind = ap is_none (sym c.in-Some.ensures) } in
    let size = ap (λ (n : ℕ). is_wrong_length n (length c.args.bytes.now)) (sym c.length_in-length.ensures) in
    has_wrong_length _ kind (size ∙ sym c.is_wrong_length.ensures.value ∙ c.if-is_wrong_length.true)

pub returns-then-has_wrong_sum-clause-fault : goal.returns-then-has_wrong_sum-clause-fault
returns-then-has_wrong_sum-clause-fault c =
    let version : HasVersion c.args.bytes.now = record { long = c.if-bytes-lt-HEADER.false; version = c.if-bytes-ne-VERSION.false } in
    let kind : HasKind c.args.bytes.now = record { version = version; kind = ap is_none (sym c.in-Some.ensures) } in
    let size = ap (λ (n : ℕ). is_wrong_length n (length c.args.bytes.now)) (sym c.length_in-length.ensures) in
    let sized : HasLength c.args.bytes.now = record { kind = kind; size = size ∙ sym c.is_wrong_length.ensures.value ∙ c.if-is_wrong_length.false } in
    has_fault_in_sum _ sized (ap (λ (n : ℕ). has_wrong_sum (take n c.args.bytes.now)) (sym c.length_in-length.ensures) ∙ sym c.has_wrong_sum.ensures ∙ c.if-has_wrong_sum.true)

pub returns-clause-accepted : goal.returns-clause-accepted
returns-clause-accepted c =
    let version : HasVersion c.args.bytes.now = record { long = c.if-bytes-lt-HEADER.false; version = c.if-bytes-ne-VERSION.false } in
    let kind : HasKind c.args.bytes.now = record { version = version; kind = ap is_none (sym c.in-Some.ensures) } in
    let size = ap (λ (n : ℕ). is_wrong_length n (length c.args.bytes.now)) (sym c.length_in-length.ensures) in
    let sized : HasLength c.args.bytes.now = record { kind = kind; size = size ∙ sym c.is_wrong_length.ensures.value ∙ c.if-is_wrong_length.false } in
    has_no_fault _ sized (ap (λ (n : ℕ). has_wrong_sum (take n c.args.bytes.now)) (sym c.length_in-length.ensures) ∙ sym c.has_wrong_sum.ensures ∙ c.if-has_wrong_sum.false)

pub returns-clause-body : goal.returns-clause-body
returns-clause-body c =
    body_is c.args.bytes.now c.length_in-length.result (c.is_wrong_length.ensures.fits c.if-is_wrong_length.false).0 c.length_in-length.ensures
