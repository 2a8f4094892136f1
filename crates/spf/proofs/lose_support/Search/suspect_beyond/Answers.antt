use Rattle.std.proofs.Common.{◌≡◌, ◌+◌, List, take, sym, subst, ◌∙◌, ap}
use Rattle.std.specs.FinMap.{get}
use Rattle.ospf_types.specs.declared.entry.Vertex.{Vertex}
use Rattle.spf.specs.declared.lose_support.Search.{Search}
use Rattle.spf.specs.Suspects.{MaySupport, IsHead, AreToldOf, AreSuspectsWithin}
use Rattle.spf.proofs.Suspecting.{within_told, told_next, told_skipped}
use Rattle.spf.proofs.lose_support.Search.suspect_beyond.Goals as goal
use Rattle.spf.proofs.lose_support.Search.suspect_beyond.Goals.{then-may_support+in_ok-suspect, else-may_support}

pub suspect-requires : goal.suspect-requires
suspect-requires c =
    let s = c.args.self.now in
    let now = c.loop-link.self in
    record {
      within = subst (λ (lost : List Vertex). AreSuspectsWithin lost now.suspects now.pending.stale) (sym c.loop-link.invariant.lost)
          (within_told s.lost s.pending.stale now.pending.stale s.suspects now.suspects c.requires.within c.loop-link.invariant.told);
    }

pub loop-link-preserved : goal.loop-link-preserved
loop-link-preserved c =
    let s = c.args.self.now in
    let now = c.loop-link.self in
    let Passes = MaySupport c.args.root (get c.args.distances.now) c.args.distance in
    let i = c.loop-link.link-index in
    elim c.if-may_support.branch [
      | then-may_support+in_ok-suspect w ↦ record {
        told = subst (λ (x : Search). AreToldOf (IsHead Passes (take (i + 1) c.args.links.now)) s.lost s.pending.stale x.pending.stale s.suspects x.suspects) (sym w.self-is)
            (told_next Passes c.args.links.now i c.link-item.result c.loop-link-test.true (sym c.link-item.is) s.lost s.pending.stale now.pending.stale w.suspect.new.self.pending.stale s.suspects now.suspects w.suspect.new.self.suspects
            c.loop-link.invariant.told (c.may_support.ensures.0 w.if-may_support.true)
            (subst (λ (lost : List Vertex). AreToldOf (λ v. c.link-item.result.to ≡ v) lost now.pending.stale w.suspect.new.self.pending.stale now.suspects w.suspect.new.self.suspects) c.loop-link.invariant.lost w.in_ok-suspect.ensures.told));
        lost = ap (λ (x : Search). x.lost) w.self-is ∙ w.in_ok-suspect.ensures.lost ∙ c.loop-link.invariant.lost;
      }
      | else-may_support w ↦ record {
        told = subst (λ (x : Search). AreToldOf (IsHead Passes (take (i + 1) c.args.links.now)) s.lost s.pending.stale x.pending.stale s.suspects x.suspects) (sym w.self-is)
            (told_skipped Passes c.args.links.now i c.link-item.result c.loop-link-test.true (sym c.link-item.is) s.lost s.pending.stale now.pending.stale s.suspects now.suspects
            c.loop-link.invariant.told (λ passes. let yes = c.may_support.ensures.1 passes in let no = w.if-may_support.false in absurd cc));
        lost = ap (λ (x : Search). x.lost) w.self-is ∙ c.loop-link.invariant.lost;
      }
    ]
