use Rattle.std.proofs.Common.{◌≡◌, get_or, Some, sym, ap, ◌∙◌, arith}
use Rattle.lsa_codec.proofs.Kept.{kept_flags, any_default}
use Rattle.lsa_codec.proofs.checked.Checked.flags.Goals as goal

pub returns : goal.returns
returns c =
    let byte : c.index.result.now ≡ get_or c.self.inside.bytes.items 20 0 = c.index.ensures ∙ any_default c.self.inside.bytes.items 20 c.index.result.now 0 (omega (arith, c.self.invariant.long)) in
    ap (λ b. Some b) byte ∙ kept_flags c.self.inside.bytes.items c.args.self.now c.self.view_is c.self.invariant (sym c.kind.ensures ∙ c.if-kind-ne-ROUTER_LSA.false)
