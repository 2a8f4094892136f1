use Rattle.std.proofs.Common.{◌≤◌, ℕ, List, Some, length, drop, ap, ◌∙◌, arith}
use Rattle.byteorder.specs.Endian.{big_number}
use Rattle.ospf_types.specs.Lsa.{kind_of}
use Rattle.lsa_codec.proofs.Kept.{kept_metric}
use Rattle.lsa_codec.proofs.checked.Checked.metric.Goals as goal

pub metric_in-requires : goal.metric_in-requires
metric_in-requires c =
    let summary : 3 ≤ kind_of c.args.self.now.body = omega (arith, c.kind.ensures, c.if-kind-lt-SUMMARY_LSA.false) in
    let metric = kept_metric c.self.inside.bytes.items c.args.self.now c.self.view_is c.self.invariant summary in
    omega (arith, metric.long, ap length c.deref.ensures.value)

pub returns : goal.returns
returns c =
    let summary : 3 ≤ kind_of c.args.self.now.body = omega (arith, c.kind.ensures, c.if-kind-lt-SUMMARY_LSA.false) in
    let metric = kept_metric c.self.inside.bytes.items c.args.self.now c.self.view_is c.self.invariant summary in
    ap (λ (m : ℕ). Some m) (c.metric_in.ensures ∙ ap (λ (b : List ℕ). big_number 3 (drop 25 b)) c.deref.ensures.value) ∙ metric.metric
