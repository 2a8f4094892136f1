use Rattle.std.proofs.Common.{◌≡◌, decimal, ap, sym, ◌∙◌, arith}
use Rattle.ospf_types.specs.declared.prefix.Prefix.{Prefix}
use Rattle.ospf_types.specs.Masks.{masked}
use Rattle.ospf_types.specs.Text.{address_text}
use Rattle.recording.proofs.Fields.{no_address, no_length, unmasked, network_spelled}
use Rattle.recording.proofs.words.read_prefix.Goals as goal

pub returns-in_err-address : goal.returns-in_err-address
returns-in_err-address c = rw c.from_residual-in_err-address.ensures (no_address c.args.word.now c.in_ok-slash.slash c.in_ok-slash.ensures c.in_err-address.ensures)

pub returns-in_err-length : goal.returns-in_err-length
returns-in_err-length c = rw c.from_residual-in_err-length.ensures (no_length c.args.word.now c.in_ok-slash.slash c.in_ok-slash.ensures c.in_err-length.ensures)

pub returns-then-address : goal.returns-then-address
returns-then-address c =
    let prefix = c.in_ok-prefix.prefix in
    let address : prefix.address ≡ c.in_ok-address.address = sym c.address.ensures.value ∙ c.if-address.true in
    let long : prefix.length ≡ c.in_ok-length.length = ap (λ (p : Prefix). p.length) c.in_ok-prefix.ensures.masked in
    let zero : masked prefix.address prefix.length ≡ prefix.address = rw c.address.ensures.value at c.address.ensures.masked in
    let before = c.in_ok-address.ensures in
    let after = c.in_ok-length.ensures in (
      record { address = omega (arith, before.0, address); length = omega (arith, after.0, long); masked = zero },
      network_spelled c.args.word.now c.in_ok-slash.slash c.in_ok-slash.ensures prefix (before.1 ∙ ap address_text (sym address)) (after.1 ∙ ap decimal (sym long)),
    )

pub returns-else-address : goal.returns-else-address
returns-else-address c =
    let before = c.in_ok-address.ensures in
    let after = c.in_ok-length.ensures in
    let address : c.address.result ≡ masked c.in_ok-address.address c.in_ok-length.length = c.address.ensures.value ∙ ap (λ (p : Prefix). p.address) c.in_ok-prefix.ensures.masked in
    unmasked c.args.word.now c.in_ok-slash.slash c.in_ok-slash.ensures c.in_ok-address.address c.in_ok-length.length before.0 after.0 before.1 after.1
    (λ same. c.if-address.false (address ∙ same))
