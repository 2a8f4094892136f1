use Rattle.std.proofs.Common.{ap, ◌∙◌}
use Rattle.lsa_codec.specs.Decoding.{header_of}
use Rattle.lsa_codec.proofs.Kept.{kept_header, kept_legal}
use Rattle.lsa_codec.proofs.checked.Checked.header.Goals as goal

pub returns : goal.returns
returns c = record {
  value = c.header_in.ensures ∙ ap header_of c.deref.ensures.value ∙ kept_header c.self.inside.bytes.items c.args.self.now c.self.view_is;
  legal = kept_legal c.self.inside.bytes.items c.args.self.now c.self.view_is c.self.invariant;
}
