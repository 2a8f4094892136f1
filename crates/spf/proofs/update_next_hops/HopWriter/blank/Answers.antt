use Rattle.std.proofs.Common.{◌∙◌, ◌++◌, ◌∷◌, [], None, List, refl, sym, ap, subst, length, take, ◌+◌}
use Rattle.std.specs.Prelude.{is_some, Contains}
use Rattle.std.specs.FinMap.{get}
use Rattle.ospf_types.specs.declared.entry.Vertex.{Vertex}
use Rattle.spf.specs.declared.update_next_hops.HopWriter.{HopWriter}
use Rattle.vertex_queue.specs.Maps.{HopMap, with_hops}
use Rattle.spf.specs.HandedOn.{AreBlanked}
use Rattle.spf.proofs.Blanks.{not_written, blanked_start, blanked_skip, blanked_more, blanked_end}
use Rattle.spf.proofs.update_next_hops.HopWriter.blank.Goals as goal
use Rattle.spf.proofs.update_next_hops.HopWriter.blank.Goals.{then-is_none+in_ok-write, else-is_none}

pub write-requires-clause-fresh : goal.write-requires-clause-fresh
write-requires-clause-fresh c = subst (λ (v : Vertex). Contains c.loop-vertex.self.written v → ⊥) (sym c.vertex-item.is) (not_written c.args.lost.now c.loop-vertex.vertex-index c.vertex-item.result c.loop-vertex-test.true c.loop-vertex.invariant.blanked c.requires.apart)

pub write-requires-clause-counted : goal.write-requires-clause-counted
write-requires-clause-counted c = c.loop-vertex.invariant.counted

pub loop-vertex-init : goal.loop-vertex-init
loop-vertex-init c = record {
  blanked = blanked_start (get c.args.distances.now) c.args.lost.now c.args.hops.now c.args.self.now.written c.requires.none;
  taken = refl;
  counted = c.requires.none_written ∙ sym (ap (λ (vs : List Vertex). length vs) c.requires.none);
}

pub loop-vertex-preserved : goal.loop-vertex-preserved
loop-vertex-preserved c =
    elim c.if-is_none.branch [
      | then-is_none+in_ok-write w ↦ record {
        blanked = blanked_more c.args.lost.now c.loop-vertex.vertex-index c.vertex-item.result c.loop-vertex-test.true c.loop-vertex.invariant.blanked c.requires.apart (ap (λ (v : Vertex). is_some (get c.args.distances.now v)) (sym c.vertex-item.is) ∙ ap is_some (sym c.get.ensures.value) ∙ w.if-is_none.ensures)
            c.if-is_none.hops c.if-is_none.self.written (w.hops-is ∙ w.in_ok-write.ensures.hops ∙ ap (λ (v : Vertex). with_hops c.loop-vertex.hops v None) c.vertex-item.is) (ap (λ (x : HopWriter). x.written) w.self-is ∙ w.in_ok-write.ensures.written ∙ ap (λ (v : Vertex). c.loop-vertex.self.written ++ v ∷ []) c.vertex-item.is);
        taken = ap (λ (x : HopWriter). x.touched.taken) w.self-is ∙ w.in_ok-write.ensures.taken ∙ c.loop-vertex.invariant.taken;
        counted = ap (λ (x : HopWriter). x.touched.hop_sets) w.self-is ∙ w.in_ok-write.ensures.counted ∙ sym (ap (λ (x : HopWriter). length x.written) w.self-is);
      }
      | else-is_none w ↦ record {
        blanked = subst (λ (m : HopMap). AreBlanked (get c.args.distances.now) (take (c.loop-vertex.vertex-index + 1) c.args.lost.now) c.args.hops.now m c.if-is_none.self.written) (sym w.hops-is)
            (subst (λ (vs : List Vertex). AreBlanked (get c.args.distances.now) (take (c.loop-vertex.vertex-index + 1) c.args.lost.now) c.args.hops.now c.loop-vertex.hops vs) (sym (ap (λ (x : HopWriter). x.written) w.self-is))
            (blanked_skip c.args.lost.now c.loop-vertex.vertex-index c.vertex-item.result c.loop-vertex-test.true c.loop-vertex.invariant.blanked (ap (λ (v : Vertex). is_some (get c.args.distances.now v)) (sym c.vertex-item.is) ∙ ap is_some (sym c.get.ensures.value) ∙ w.if-is_none.ensures)));
        taken = ap (λ (x : HopWriter). x.touched.taken) w.self-is ∙ c.loop-vertex.invariant.taken;
        counted = ap (λ (x : HopWriter). x.touched.hop_sets) w.self-is ∙ c.loop-vertex.invariant.counted ∙ sym (ap (λ (x : HopWriter). length x.written) w.self-is);
      }
    ]

pub returns-clause-blanked : goal.returns-clause-blanked
returns-clause-blanked c = blanked_end c.args.lost.now c.loop-vertex.vertex-index c.loop-vertex-test.false c.loop-vertex.invariant.blanked
