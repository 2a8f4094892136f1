use Rattle.std.proofs.Common.{◌≡◌, ℕ, true, Some, List, drop, sym, ap, ◌∙◌}
use Rattle.byteorder.specs.Endian.{big_number}
use Rattle.ospf_types.specs.Lsa.{kind_of}
use Rattle.lsa_codec.proofs.Checksums.{from_place}
use Rattle.lsa_codec.proofs.Kept.{is_about_network, network_with, kept_prefix}
use Rattle.lsa_codec.proofs.checked.Checked.prefix.Goals as goal

pub returns : goal.returns
returns c =
    let items : List ℕ = c.self.inside.bytes.items in
    let about : is_about_network (kind_of c.args.self.now.body) ≡ true = ap is_about_network (sym c.kind.ensures) ∙ sym c.has_network.ensures ∙ c.if-not-has_network.false in
    let id : c.read_u32.result ≡ big_number 4 (drop 4 items) = c.read_u32.ensures ∙ ap (λ (b : List ℕ). big_number 4 b) (from_place 4 c.deref.result.now ∙ ap (drop 4) c.deref.ensures.value) in
    let mask : c.read_u32-2.result ≡ big_number 4 (drop 20 items) = c.read_u32-2.ensures ∙ ap (λ (b : List ℕ). big_number 4 b) (from_place 20 c.deref-2.result.now ∙ ap (drop 20) c.deref-2.ensures.value) in
    ap Some c.from_mask.ensures ∙ network_with c.read_u32.result c.read_u32-2.result (big_number 4 (drop 4 items)) (big_number 4 (drop 20 items)) id mask ∙ kept_prefix items c.args.self.now c.self.view_is c.self.invariant about
