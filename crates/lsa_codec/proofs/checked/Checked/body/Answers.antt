use Rattle.std.proofs.Common.{drop, ap, ◌∙◌}
use Rattle.lsa_codec.proofs.Checksums.{from_place}
use Rattle.lsa_codec.proofs.Kept.{kept_body}
use Rattle.lsa_codec.proofs.checked.Checked.body.Goals as goal

pub returns : goal.returns
returns c =
    from_place 20 c.deref.result.now ∙ ap (drop 20) c.deref.ensures.value ∙ kept_body c.self.inside.bytes.items c.args.self.now c.self.view_is c.self.invariant
