use Rattle.std.proofs.Common.{ℕ, List, [], sym, subst, ◌∙◌}
use Rattle.std.specs.FinMap.{get}
use Rattle.ospf_types.specs.declared.entry.Vertex.{Vertex}
use Rattle.vertex_graph.specs.GraphLink.{GraphLink}
use Rattle.spf.specs.Suspects.{WasLeast, IsHead, AreToldOf, AreSuspectsWithin, AreSuspected}
use Rattle.spf.proofs.Suspecting.{within_none, within_popped, suspected_at_start, suspected_next, suspects_fall, lost_at_end}
use Rattle.spf.proofs.lose_support.lose_support.Goals as goal

pub suspect_heads-requires : goal.suspect_heads-requires
suspect_heads-requires c =
    let first = c.clear.new.self in
    record {
      within = subst (λ (vs : List Vertex). AreSuspectsWithin vs first.suspects first.pending.stale) (sym c.clear.ensures.lost)
          (subst (λ (vs : List Vertex). AreSuspectsWithin [] vs first.pending.stale) (sym c.clear.ensures.suspects) (within_none first.pending.stale));
    }

pub judge-requires : goal.judge-requires
judge-requires c =
    let s = c.loop-suspect.search in
    let popped = within_popped s.lost s.suspects c.pop.new.self s.pending.stale c.in-Some.suspect c.in-Some.ensures.last c.loop-suspect.invariant.within in
    record { within = popped.0; stale = popped.1 }

pub loop-suspect-init : goal.loop-suspect-init
loop-suspect-init c =
    let g = c.args.graph.now in
    let gone = c.args.changes.now.gone.items in
    let come = c.args.changes.now.came.items in
    let old = get c.args.distances.now in
    let first = c.clear.new.self in
    let new = c.suspect_heads.new.self in
    let told = c.in_ok-suspect_heads.ensures.told in
    subst (λ (vs : List Vertex). AreSuspected g gone come old vs new.suspects new.pending.stale) (sym (c.in_ok-suspect_heads.ensures.lost ∙ c.clear.ensures.lost))
    (suspected_at_start g gone come old c.requires new.suspects new.pending.stale
    (subst (λ (vs : List Vertex). AreToldOf (IsHead (WasLeast g.root old) gone) vs [] new.pending.stale [] new.suspects) c.clear.ensures.lost
    (subst (λ (vs : List Vertex). AreToldOf (IsHead (WasLeast g.root old) gone) first.lost vs new.pending.stale [] new.suspects) c.clear.ensures.stale
    (subst (λ (vs : List Vertex). AreToldOf (IsHead (WasLeast g.root old) gone) first.lost first.pending.stale new.pending.stale vs new.suspects) c.clear.ensures.suspects
    (subst (λ (ls : List GraphLink). AreToldOf (IsHead (WasLeast g.root old) ls) first.lost first.pending.stale new.pending.stale first.suspects new.suspects) c.as_slice.ensures.value
    (subst (λ (r : ℕ). AreToldOf (IsHead (WasLeast r old) c.as_slice.result.now) first.lost first.pending.stale new.pending.stale first.suspects new.suspects) c.root.ensures.value told))))))

pub loop-suspect-preserved : goal.loop-suspect-preserved
loop-suspect-preserved c =
    let s = c.loop-suspect.search in
    let new = c.judge.new.self in
    suspected_next c.args.graph.now c.args.changes.now.gone.items c.args.changes.now.came.items (get c.args.distances.now) c.requires
    s.lost new.lost s.suspects c.pop.new.self new.suspects s.pending.stale new.pending.stale c.in-Some.suspect c.in-Some.ensures.last c.loop-suspect.invariant c.in_ok-judge.ensures

pub loop-suspect-smaller : goal.loop-suspect-smaller
loop-suspect-smaller c =
    let s = c.loop-suspect.search in
    let new = c.judge.new.self in
    suspects_fall c.args.graph.now c.args.changes.now.gone.items c.args.changes.now.came.items c.args.distances.now
    s.lost new.lost s.suspects c.pop.new.self new.suspects s.pending.stale new.pending.stale c.in-Some.suspect c.in-Some.ensures.last c.in_ok-judge.ensures
    (suspected_next c.args.graph.now c.args.changes.now.gone.items c.args.changes.now.came.items (get c.args.distances.now) c.requires
    s.lost new.lost s.suspects c.pop.new.self new.suspects s.pending.stale new.pending.stale c.in-Some.suspect c.in-Some.ensures.last c.loop-suspect.invariant c.in_ok-judge.ensures)

pub returns : goal.returns
returns c =
    let s = c.loop-suspect.search in
    lost_at_end c.args.graph.now c.args.changes.now.gone.items c.args.changes.now.came.items (get c.args.distances.now) s.lost s.pending.stale
    (subst (λ (vs : List Vertex). AreSuspected c.args.graph.now c.args.changes.now.gone.items c.args.changes.now.came.items (get c.args.distances.now) s.lost vs s.pending.stale) c.in_default.ensures.none c.loop-suspect.invariant)
