use Rattle.std.proofs.Common.{List, ℕ, drop, sym, ap, ◌∙◌}
use Rattle.byteorder.specs.Endian.{big_number}
use Rattle.lsa_codec.proofs.Checksums.{from_place}
use Rattle.lsa_codec.proofs.Kept.{kept_router}
use Rattle.lsa_codec.proofs.checked.Checked.link_count.Goals as goal

pub returns : goal.returns
returns c =
    c.from.ensures ∙ c.read_u16.ensures ∙ ap (λ (b : List ℕ). big_number 2 b) (from_place 22 c.deref.result.now ∙ ap (drop 22) c.deref.ensures.value)
    ∙ (kept_router c.self.inside.bytes.items c.args.self.now c.self.view_is c.self.invariant (sym c.kind.ensures ∙ c.if-kind-ne-ROUTER_LSA.false)).count
