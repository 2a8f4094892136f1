use Rattle.std.proofs.Common.{◌∙◌, arith}
use Rattle.lsa_codec.proofs.Kept.{kept_kind, any_default}
use Rattle.lsa_codec.proofs.checked.Checked.kind.Goals as goal

pub returns : goal.returns
returns c =
    c.index.ensures ∙ any_default c.self.inside.bytes.items 3 c.index.result.now 0 (omega (arith, c.self.invariant.long)) ∙ kept_kind c.self.inside.bytes.items c.args.self.now c.self.view_is c.self.invariant
