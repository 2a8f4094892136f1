use Rattle.std.proofs.Common.{◌≡◌, ◌++◌, ◌∷◌, List, [], Some, None, sym, ap, subst, refl, ◌∙◌, arith}
use Rattle.std.specs.List.{Contains}
use Rattle.std.specs.FinMap.{get, insert}
use Rattle.std.specs.Map.{lookup}
use Rattle.smallvec.specs.SmallVec.{SmallVec}
use Rattle.ospf_types.proofs.Elements.{no_element}
use Rattle.ospf_types.specs.declared.entry.Vertex.{Vertex}
use Rattle.intra.specs.declared.area_index.PrefixSource.{PrefixSource}
use Rattle.intra.specs.Indexes.{IndexValue, SourcesByPrefix, AreSourceLists, sources_of}
use Rattle.intra.proofs.KeptSources.{IsSourceList, kept_with, one_more}
use Rattle.ospf_types.proofs.KeyOrders.{prefixes_equal}
use Rattle.intra.proofs.SourceMaps.{sources_map, sources_at, sources_written}
use Rattle.intra.proofs.IndexSteps.{come_written}
use Rattle.intra.proofs.area_index.AreaIndex.add_source.Goals as goal

pub returns-in_ok-push-in-Some-clause-come : goal.returns-in_ok-push-in-Some-clause-come
returns-in_ok-push-in-Some-clause-come c =
    let p = c.args.offer.prefix in
    let es = c.self.inside.sources.entries in
    let more = c.push.new.self in
    let fs = (c.get_mut.follows.lender more).entries in
    let old = c.args.self.now.sources in
    let was : sources_map es ≡ old = ap (λ (i : IndexValue). i.sources) c.self.view_is in
    let stood : Some c.in-Some.sources.now ≡ lookup (prefixes_equal p) es = c.in-Some.ensures.value in
    come_written old (sources_map fs) c.args.vertex.now p c.args.offer.metric c.in-Some.sources.now.items
    (ap sources_of (sources_at es p (Some c.in-Some.sources.now) stood ∙ ap (λ (m : SourcesByPrefix). get m p) was))
    (sources_written es p fs more ((c.get_mut.follows.holds more).3 (rw (sym stood) refl)).0 ∙ (λ i. insert (was i) p (c.in_ok-push-in-Some.ensures.ok i)) ∙ ap (λ (v : Vertex). insert old p (c.in-Some.sources.now.items ++ record { vertex = v; metric = c.args.offer.metric } ∷ [])) c.copy.ensures)

pub returns-in_ok-insert-in-None-clause-come : goal.returns-in_ok-insert-in-None-clause-come
returns-in_ok-insert-in-None-clause-come c =
    let p = c.args.offer.prefix in
    let es = c.self.inside.sources.entries in
    let gs = c.insert.new.self.entries in
    let old = c.args.self.now.sources in
    let was : sources_map es ≡ old = ap (λ (i : IndexValue). i.sources) c.self.view_is in
    let updates = rw c.get_mut.follows.holds-at-none at c.in_ok-insert-in-None.ensures.updates.0 in
    come_written old (sources_map gs) c.args.vertex.now p c.args.offer.metric []
    (ap sources_of (sources_at es p None c.in-None.ensures.value ∙ ap (λ (m : SourcesByPrefix). get m p) was))
    (sources_written es p gs c.from_buf-first.result updates ∙ (λ i. insert (was i) p (c.from_buf-first.ensures.items i)) ∙ ap (λ (v : Vertex). insert old p (record { vertex = v; metric = c.args.offer.metric } ∷ [])) c.copy.ensures)

-- where memory is refused, the list is unchanged
pub invariant_of-self : goal.invariant_of-self
invariant_of-self c =
    let p = c.args.offer.prefix in
    let es = c.self.inside.sources.entries in
    let more = c.push.new.self in
    let fs = (c.get_mut.follows.lender more).entries in
    let stood : Some c.in-Some.sources.now ≡ lookup (prefixes_equal p) es = c.in-Some.ensures.value in
    let written : sources_map fs ≡ insert (sources_map es) p more.items = sources_written es p fs more ((c.get_mut.follows.holds more).3 (rw (sym stood) refl)).0 in
    let had = c.self.invariant p c.in-Some.sources.now.items (sym (sources_at es p (Some c.in-Some.sources.now) stood)) in
    subst AreSourceLists (sym written) (kept_with (sources_map es) p c.self.invariant more.items (subst IsSourceList (sym (ap (λ (v : SmallVec PrefixSource). v.items) c.in_err-push-in-Some.ensures.err)) had))

pub invariant_of-self-in-Some : goal.invariant_of-self-in-Some
invariant_of-self-in-Some c =
    let p = c.args.offer.prefix in
    let es = c.self.inside.sources.entries in
    let more = c.push.new.self in
    let fs = (c.get_mut.follows.lender more).entries in
    let list = c.in-Some.sources.now.items in
    let source : PrefixSource = record { vertex = c.args.vertex.now; metric = c.args.offer.metric } in
    let was : sources_map es ≡ c.args.self.now.sources = ap (λ (i : IndexValue). i.sources) c.self.view_is in
    let stood : Some c.in-Some.sources.now ≡ lookup (prefixes_equal p) es = c.in-Some.ensures.value in
    let written : sources_map fs ≡ insert (sources_map es) p more.items = sources_written es p fs more ((c.get_mut.follows.holds more).3 (rw (sym stood) refl)).0 in
    let here : Some list ≡ get (sources_map es) p = sources_at es p (Some c.in-Some.sources.now) stood in
    let absent : Contains list source → ⊥ = λ there. c.requires (subst (λ (xs : List PrefixSource). Contains xs source) (ap sources_of (here ∙ ap (λ (m : SourcesByPrefix). get m p) was)) there) in
    subst AreSourceLists (sym written) (kept_with (sources_map es) p c.self.invariant more.items
    (subst IsSourceList (sym (c.in_ok-push-in-Some.ensures.ok ∙ ap (λ (v : Vertex). list ++ record { vertex = v; metric = c.args.offer.metric } ∷ []) c.copy.ensures)) (one_more list source (c.self.invariant p list (sym here)).1 absent)))

pub invariant_of-self-in-None : goal.invariant_of-self-in-None
invariant_of-self-in-None c =
    let p = c.args.offer.prefix in
    let es = c.self.inside.sources.entries in
    let gs = c.insert.new.self.entries in
    let first = c.from_buf-first.result in
    let source : PrefixSource = record { vertex = c.args.vertex.now; metric = c.args.offer.metric } in
    let updates = rw c.get_mut.follows.holds-at-none at c.in_ok-insert-in-None.ensures.updates.0 in
    let written : sources_map gs ≡ insert (sources_map es) p first.items = sources_written es p gs first updates in
    subst AreSourceLists (sym written) (kept_with (sources_map es) p c.self.invariant first.items
    (subst IsSourceList (sym (c.from_buf-first.ensures.items ∙ ap (λ (v : Vertex). record { vertex = v; metric = c.args.offer.metric } ∷ []) c.copy.ensures)) (one_more [] source (λ i j d lt within. absurd (omega (arith, within))) (λ there. no_element source there))))
