use Rattle.std.proofs.Common.{◌≡◌, ◌++◌, List, ℕ, length, drop, sym, ap, subst, ◌∙◌, arith}
use Rattle.std.proofs.lemmas.List.{length-drop}
use Rattle.byteorder.specs.Endian.{big_bytes}
use Rattle.ospf_types.specs.Lsa.{Lsa}
use Rattle.lsa_codec.specs.Decoding.{lsa_of}
use Rattle.lsa_codec.specs.Readers.{with_age}
use Rattle.lsa_codec.specs.Kept.{IsKept}
use Rattle.lsa_codec.proofs.Kept.{aged_kept, aged_same, slice_written}
use Rattle.lsa_codec.proofs.checked.Checked.set_age.Goals as goal

pub invariant_of-self : goal.invariant_of-self
invariant_of-self c =
    let items = c.self.inside.bytes.items in
    let new : c.write_u16.new.buf ≡ big_bytes 2 c.args.age ++ drop 2 items = c.write_u16.ensures ∙ ap (λ (b : List ℕ). big_bytes 2 c.args.age ++ drop 2 b) c.deref_mut.ensures.value in
    let same : length c.write_u16.new.buf ≡ length items = omega (arith, ap length new, length-drop 2 items, c.self.invariant.long) in
    let whole = slice_written c.self.inside.bytes.len c.write_u16.new.buf items (omega arith) same ∙ new in
    subst IsKept (sym whole) (aged_kept items c.args.age c.requires c.self.invariant)

pub returns : goal.returns
returns c =
    let items = c.self.inside.bytes.items in
    let new : c.write_u16.new.buf ≡ big_bytes 2 c.args.age ++ drop 2 items = c.write_u16.ensures ∙ ap (λ (b : List ℕ). big_bytes 2 c.args.age ++ drop 2 b) c.deref_mut.ensures.value in
    let same : length c.write_u16.new.buf ≡ length items = omega (arith, ap length new, length-drop 2 items, c.self.invariant.long) in
    let whole = slice_written c.self.inside.bytes.len c.write_u16.new.buf items (omega arith) same ∙ new in
    ap lsa_of whole ∙ aged_same items c.args.age c.requires c.self.invariant ∙ ap (λ (l : Lsa). with_age l c.args.age) c.self.view_is
