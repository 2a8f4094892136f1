use Rattle.lsa_codec.proofs.Contents.{differ_in_front, same_in_front}
use Rattle.lsa_codec.proofs.checked.Checked.same_contents.Goals as goal

pub returns-then-eq : goal.returns-then-eq
returns-then-eq c =
    same_in_front c.self.inside.bytes.items c.other.inside.bytes.items c.deref.result.now c.deref-2.result.now c.deref-then-eq.result.now c.deref-then-eq-2.result.now c.args.self.now c.args.other.now c.eq.result c.eq-then-eq.result
    (record { first = c.self.view_is; second = c.other.view_is; kept_first = c.self.invariant; kept_second = c.other.invariant })
    c.deref.ensures.value c.deref-2.ensures.value c.deref-then-eq.ensures.value c.deref-then-eq-2.ensures.value c.eq.ensures c.if-eq.true c.eq-then-eq.ensures

pub returns-else-eq : goal.returns-else-eq
returns-else-eq c =
    differ_in_front c.self.inside.bytes.items c.other.inside.bytes.items c.deref.result.now c.deref-2.result.now c.args.self.now c.args.other.now c.eq.result
    (record { first = c.self.view_is; second = c.other.view_is; kept_first = c.self.invariant; kept_second = c.other.invariant })
    c.deref.ensures.value c.deref-2.ensures.value c.eq.ensures c.if-eq.false
