use Rattle.std.proofs.Common.{Some, length, sym, ap, ◌∙◌, arith}
use Rattle.ospf_types.specs.declared.lsa.ExternalFields.{ExternalFields}
use Rattle.lsa_codec.proofs.Kept.{first_of_bytes, kept_external}
use Rattle.lsa_codec.proofs.checked.Checked.external.Goals as goal

pub first_record-requires : goal.first_record-requires
first_record-requires c =
    let first = kept_external c.self.inside.bytes.items c.args.self.now c.self.view_is c.self.invariant (sym c.kind.ensures ∙ c.if-kind-ne-AS_EXTERNAL_LSA.false) in
    omega (arith, first.long, ap length c.deref.ensures.value)

pub returns : goal.returns
returns c =
    let first = kept_external c.self.inside.bytes.items c.args.self.now c.self.view_is c.self.invariant (sym c.kind.ensures ∙ c.if-kind-ne-AS_EXTERNAL_LSA.false) in
    ap (λ (x : ExternalFields). Some x) (c.first_record.ensures ∙ ap first_of_bytes c.deref.ensures.value) ∙ first.external
