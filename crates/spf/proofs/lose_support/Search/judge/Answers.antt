use Rattle.std.proofs.Common.{ℕ, List, true, refl, sym, subst, inl}
use Rattle.std.specs.FinMap.{get}
use Rattle.std.specs.List.{Contains}
use Rattle.std.specs.Prelude.{Result, Ok, Err, OnOk}
use Rattle.ospf_types.specs.declared.entry.Vertex.{Vertex}
use Rattle.spf.specs.Suspects.{MaySupport, IsHead, AreToldOf, IsSuspectJudged}
use Rattle.spf.proofs.Suspecting.{judged_lost, within_lost}
use Rattle.spf.proofs.lose_support.Search.judge.Goals as goal

-- what two facts of the same success show of it
on_both : {T E A B C : Type 0} (r : Result T E) → OnOk r A → OnOk r B → (A → B → C) → OnOk r C
on_both (Ok t) a b show = show a b
on_both (Err e) a b show = tt

pub returns : goal.returns
returns c =
    let old = get c.args.distances.now in
    let s = c.args.self.now in
    let new = c.suspect_beyond.new.self in
    let lost = s.lost in
    let not_yet : Contains lost c.args.suspect.now → ⊥ = λ there. let yes = c.has.ensures.1 there in let no = c.if-has.false in absurd cc in
    on_both c.suspect_beyond.result c.suspect_beyond.ensures.told c.suspect_beyond.ensures.lost
    (λ told same.
    subst (λ (vs : List Vertex). IsSuspectJudged c.args.graph.now old lost vs s.suspects new.suspects s.pending.stale new.pending.stale c.args.suspect.now) (sym same)
    (judged_lost c.args.graph.now old lost s.suspects s.pending.stale c.args.suspect.now c.push.new.self new.suspects new.pending.stale true c.in-Some.distance c.links_from_at.result.now
    not_yet
    (sym c.in-Some.ensures.value)
    (λ supported. let yes = c.in_ok-is_supported.ensures.1 supported in let no = c.if-branch.false in absurd cc)
    c.links_from_at.ensures.exact (inl (refl, c.in_ok-push.ensures.pushed, not_yet)) (within_lost lost c.push.new.self s.suspects s.pending.stale c.args.suspect.now c.requires.within c.requires.stale c.in_ok-push.ensures.pushed)
    (subst (λ (r : ℕ). AreToldOf (IsHead (MaySupport r old c.in-Some.distance) c.links_from_at.result.now) c.push.new.self s.pending.stale new.pending.stale s.suspects new.suspects) c.root.ensures.value told)))
