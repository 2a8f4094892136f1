use Rattle.std.proofs.Common.{rules, ◌≡◌, List, length, Some, None, sym, ap, subst, refl, ◌∙◌}
use Rattle.std.proofs.lemmas.Bool.{false≢true}
use Rattle.std.specs.FinMap.{get, insert, remove}
use Rattle.std.specs.Map.{lookup}
use Rattle.std.proofs.lemmas.Bool.Decides.{Decides-eqb}
use Rattle.intra.specs.declared.area_index.PrefixSource.{PrefixSource}
use Rattle.intra.specs.Indexes.{IndexValue, SourcesByPrefix, AreSourceLists, sources_of}
use Rattle.intra.proofs.KeptSources.{kept_with, taken_out}
use Rattle.ospf_types.proofs.KeyOrders.{prefixes_equal}
use Rattle.intra.proofs.SourceMaps.{sources_map, sources_at, sources_written, sources_removed}
use Rattle.intra.proofs.IndexSteps.{no_sources, gone_absent, gone_written, gone_removed}
use Rattle.intra.proofs.area_index.AreaIndex.remove_source.Goals as goal

pub returns-in_default-clause-gone : goal.returns-in_default-clause-gone
returns-in_default-clause-gone c =
    let p = c.args.prefix in
    let es = c.self.inside.sources.entries in
    let old = c.args.self.now.sources in
    let was : sources_map es ≡ old = ap (λ (i : IndexValue). i.sources) c.self.view_is in
    gone_absent old (sources_map c.get_mut.follows.lender-at-none.entries) c.args.vertex p (sym (sources_at es p None c.in_default.ensures.value ∙ ap (λ (m : SourcesByPrefix). get m p) was)) (ap (λ m. sources_map m.entries) c.get_mut.follows.holds-at-none ∙ was)

pub returns-else-is_empty-clause-gone : goal.returns-else-is_empty-clause-gone
returns-else-is_empty-clause-gone c =
    let p = c.args.prefix in
    let es = c.self.inside.sources.entries in
    let left = c.leave_out.new.sources in
    let fs = (c.get_mut.follows.lender left).entries in
    let old = c.args.self.now.sources in
    let was : sources_map es ≡ old = ap (λ (i : IndexValue). i.sources) c.self.view_is in
    let stood : Some c.in-Some.sources.now ≡ lookup (prefixes_equal p) es = c.in-Some.ensures.value in
    gone_written old (sources_map fs) c.args.vertex p c.in-Some.sources.now.items left.items (ap sources_of (sources_at es p (Some c.in-Some.sources.now) stood ∙ ap (λ (m : SourcesByPrefix). get m p) was)) c.leave_out.ensures.left
    (sources_written es p fs left ((c.get_mut.follows.holds left).3 (rw (sym stood) refl)).0 ∙ ap (λ (m : SourcesByPrefix). insert m p left.items) was)

pub returns-then-is_empty-clause-gone : goal.returns-then-is_empty-clause-gone
returns-then-is_empty-clause-gone c =
    let p = c.args.prefix in
    let es = c.self.inside.sources.entries in
    let left = c.leave_out.new.sources in
    let fs = (c.get_mut.follows.lender left).entries in
    let gs = c.swap_remove.new.self.entries in
    let old = c.args.self.now.sources in
    let was : sources_map es ≡ old = ap (λ (i : IndexValue). i.sources) c.self.view_is in
    let stood : Some c.in-Some.sources.now ≡ lookup (prefixes_equal p) es = c.in-Some.ensures.value in
    let written : sources_map fs ≡ insert old p left.items =
    sources_written es p fs left ((c.get_mut.follows.holds left).3 (rw (sym stood) refl)).0 ∙ ap (λ (m : SourcesByPrefix). insert m p left.items) was in
    let removed : sources_map gs ≡ remove (insert old p left.items) p = sources_removed fs p gs c.swap_remove.ensures.updates.0 ∙ ap (λ (m : SourcesByPrefix). remove m p) written in
    let now : c.match-swap_remove.self.sources ≡ sources_map gs = search rules in
    gone_removed old c.match-swap_remove.self.sources c.args.vertex p c.in-Some.sources.now.items left.items (ap sources_of (sources_at es p (Some c.in-Some.sources.now) stood ∙ ap (λ (m : SourcesByPrefix). get m p) was)) c.leave_out.ensures.left
    (no_sources left.items ((Decides-eqb (length left.items) 0).0 (sym c.if-is_empty.ensures))) (now ∙ removed)

-- what is left of the prefix is no empty list
pub invariant_of-self-else-is_empty : goal.invariant_of-self-else-is_empty
invariant_of-self-else-is_empty c =
    let p = c.args.prefix in
    let es = c.self.inside.sources.entries in
    let left = c.leave_out.new.sources in
    let fs = (c.get_mut.follows.lender left).entries in
    let stood : Some c.in-Some.sources.now ≡ lookup (prefixes_equal p) es = c.in-Some.ensures.value in
    let written : sources_map fs ≡ insert (sources_map es) p left.items = sources_written es p fs left ((c.get_mut.follows.holds left).3 (rw (sym stood) refl)).0 in
    let had = c.self.invariant p c.in-Some.sources.now.items (sym (sources_at es p (Some c.in-Some.sources.now) stood)) in
    subst AreSourceLists (sym written) (kept_with (sources_map es) p c.self.invariant left.items (
      λ none. false≢true (c.if-is_empty.ensures ∙ (Decides-eqb (length left.items) 0).1 (ap (λ (xs : List PrefixSource). length xs) none)),
      c.leave_out.ensures.each_once had.1,
    ))

-- a prefix that nobody offers any more is not kept
pub invariant_of-self-then-is_empty : goal.invariant_of-self-then-is_empty
invariant_of-self-then-is_empty c =
    let es = c.self.inside.sources.entries in
    let left = c.leave_out.new.sources in
    let stood : Some c.in-Some.sources.now ≡ lookup (prefixes_equal c.args.prefix) es = c.in-Some.ensures.value in
    taken_out es (c.get_mut.follows.lender left).entries c.swap_remove.new.self.entries c.args.prefix left c.self.invariant ((c.get_mut.follows.holds left).3 (rw (sym stood) refl)).0 c.swap_remove.ensures.updates.0

-- nor where the list that is taken out lies in memory of its own
pub invariant_of-self-then-is_empty-2 : goal.invariant_of-self-then-is_empty-2
invariant_of-self-then-is_empty-2 c =
    let es = c.self.inside.sources.entries in
    let left = c.leave_out.new.sources in
    let stood : Some c.in-Some.sources.now ≡ lookup (prefixes_equal c.args.prefix) es = c.in-Some.ensures.value in
    taken_out es (c.get_mut.follows.lender left).entries c.swap_remove.new.self.entries c.args.prefix left c.self.invariant ((c.get_mut.follows.holds left).3 (rw (sym stood) refl)).0 c.swap_remove.ensures.updates.0
