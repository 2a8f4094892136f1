use Rattle.std.proofs.Common.{◌≡◌, ◌∙◌, ◌-◌, ℕ, List, sym, ap, subst, arith}
use Rattle.std.specs.FinMap.{get}
use Rattle.ospf_types.specs.declared.entry.Vertex.{Vertex}
use Rattle.vertex_queue.specs.declared.touched.Touched.{Touched}
use Rattle.spf.specs.HandedOn.{AreBlanked}
use Rattle.spf.specs.Parts.{AreSettled, hops_of}
use Rattle.spf.proofs.OptionCases.{of_absent}
use Rattle.spf.proofs.UpdateNextHopsRounds.{put_named, amidst_start, not_written_yet, amidst_round, taken_few, taken_fewer, amidst_end}
use Rattle.spf.proofs.update_next_hops.HopWriter.update_next_hops.Goals as goal

pub loop-vertex-init : goal.loop-vertex-init
loop-vertex-init c =
    let blanked = subst (λ (lost : List Vertex). AreBlanked (get c.args.relaxed.distances.now) lost c.args.hops.now c.blank.new.hops c.blank.new.self.written) c.as_slice.ensures.value c.in_ok-blank.ensures.blanked in
    let first = put_named (get c.args.relaxed.distances.now) c.root-root.result c.args.relaxed.graph.now.root c.as_slice-moved.result.now c.args.relaxed.moved.now (get c.args.pending.now.queue) (get c.put_reached.new.queue) c.root-root.ensures.value c.as_slice-moved.ensures.value c.in_ok-put_reached.ensures in
    let second =
    put_named (get c.args.relaxed.distances.now) c.root-root.result c.args.relaxed.graph.now.root c.as_slice-2.result.now c.args.pending.now.stale (get c.put_reached.new.queue) (get c.put_reached-2.new.queue) c.root-root.ensures.value c.as_slice-2.ensures.value c.in_ok-put_reached-2.ensures
    in
    amidst_start c.requires.unsettled blanked c.args.pending.now.queue c.put_reached.new.queue c.put_reached-2.new.queue c.blank.new.self.touched.taken c.blank.new.self.touched.hop_sets c.requires.none_wait c.in_ok-blank.ensures.counted first second

pub take-requires : goal.take-requires
take-requires c = omega (arith, taken_few c.args.relaxed.distances.now c.loop-vertex.invariant, c.len.ensures.small, c.len.ensures.value, c.requires.fits, c.in_ok-blank.ensures.taken)

pub settle-requires-clause-at : goal.settle-requires-clause-at
settle-requires-clause-at c = (c.loop-vertex.invariant.updating.queued c.in-Some.vertex c.in-Some.distance c.in-Some.ensures.first.waits).0

pub settle-requires-clause-fresh : goal.settle-requires-clause-fresh
settle-requires-clause-fresh c = not_written_yet c.loop-vertex.invariant c.in-Some.vertex c.in-Some.distance c.in-Some.ensures.first.waits

pub loop-vertex-smaller : goal.loop-vertex-smaller
loop-vertex-smaller c =
    omega (arith, taken_fewer c.args.relaxed.distances.now c.loop-vertex.invariant c.in-Some.vertex c.in-Some.distance c.in-Some.ensures.first.waits, ap (λ (t : Touched). t.taken) c.in-Some.ensures.counted, c.in_ok-settle.ensures.taken)

pub loop-vertex-preserved : goal.loop-vertex-preserved
loop-vertex-preserved c =
    amidst_round c.loop-vertex.invariant c.in-Some.vertex c.in-Some.distance c.in-Some.ensures.first c.take.new.queue c.in-Some.ensures.rest c.in_ok-settle.ensures.settled c.settle.new.self.touched.taken c.settle.new.self.touched.hop_sets
    (c.in_ok-settle.ensures.taken ∙ ap (λ (t : Touched). t.taken) c.in-Some.ensures.counted) c.in_ok-settle.ensures.counted

pub returns-clause-settled : goal.returns-clause-settled
returns-clause-settled c =
    let blanked = subst (λ (lost : List Vertex). AreBlanked (get c.args.relaxed.distances.now) lost c.args.hops.now c.blank.new.hops c.blank.new.self.written) c.as_slice.ensures.value c.in_ok-blank.ensures.blanked in
    let settled = amidst_end c.requires.unsettled blanked c.loop-vertex.invariant (of_absent c.take.result c.in_default.not-Some c.take.ensures.none) in
    let same : c.take.new.self ≡ c.loop-vertex.self.touched = of_absent c.take.result c.in_default.not-Some c.take.ensures.uncounted in
    let count : c.loop-vertex.self.touched.taken - c.blank.new.self.touched.taken ≡ c.take.new.self.taken - c.args.self.now.touched.taken = ap (λ (t : Touched). t.taken - c.blank.new.self.touched.taken) (sym same) ∙ ap (λ n. c.take.new.self.taken - n) c.in_ok-blank.ensures.taken in
    subst (λ (n : ℕ). AreSettled c.args.relaxed.graph.now (get c.args.relaxed.distances.now) (hops_of c.args.hops.now) (hops_of c.loop-vertex.hops) c.args.relaxed.lost.now c.args.relaxed.moved.now c.args.pending.now.stale c.loop-vertex.self.written n) count settled
