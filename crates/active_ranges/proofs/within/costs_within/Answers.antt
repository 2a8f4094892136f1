-- The member of one network more.
use Rattle.std.proofs.Common.{◌≡◌, ℕ, ◌<◌, ◌≤◌, List, [], Some, length, get_or, sym, ap, subst, ◌∙◌}
use Rattle.std.specs.List.{slice_get}
use Rattle.std.specs.Map.{keys_of}
use Rattle.std.proofs.lemmas.List.{length-map, get_or-map}
use Rattle.std.proofs.lemmas.List.Sorted.{Contains-permutation, IsPermutation-sym}
use Rattle.std.proofs.lemmas.Option.{get_or_from_slice_get, slice_get_within}
use Rattle.ospf_types.specs.declared.entry.Entry.{Entry}
use Rattle.ospf_types.specs.declared.prefix.Prefix.{Prefix}
use Rattle.active_ranges.specs.declared.member.RangeMember.{RangeMember}
use Rattle.active_ranges.proofs.Inside.{IsOfNetwork, all_within}
use Rattle.route_choice.proofs.Adding.{more_next, more_all}
use Rattle.active_ranges.proofs.within.costs_within.Goals as goal

pub loop-place-preserved : goal.loop-place-preserved
loop-place-preserved c =
    let entries = c.args.intra.now.entries in
    let es : List (Prefix × Entry) = c.entries-entries.result in
    let i = c.loop-place.place in
    let network = c.in-Some.network.now in
    let x : Prefix × Entry = (network, c.in-Some.kept.now) in
    let stands : slice_get es i ≡ Some x = sym c.in-Some.ensures.entry in
    let lt : i < length es = slice_get_within es i x stands in
    let read : get_or es i x ≡ x = get_or_from_slice_get es i x x stands in
    let held = c.entries-entries.ensures.exact network c.in-Some.kept.now (i, lt, read) in
    let within : i < length (keys_of es) = subst (λ (n : ℕ). i < n) (sym (length-map es (λ (y : Prefix × Entry). y.0))) lt in
    let at : network ≡ get_or (keys_of es) i network = ap (λ (y : Prefix × Entry). y.0) (sym read) ∙ sym (get_or-map (λ (y : Prefix × Entry). y.0) es i x network lt) in
    more_next (IsOfNetwork entries c.args.area c.args.range) (keys_of es) i network [] c.loop-place.costs.items c.push_within.new.costs.items within at c.loop-place.invariant (c.in_ok-push_within.ensures entries (held ∙ ap Some (sym c.entry.ensures.value)))

pub returns : goal.returns
returns c x =
    let entries = c.args.intra.now.entries in
    let es : List (Prefix × Entry) = c.entries-entries.result in
    let costs : List (RangeMember × ℕ) = c.loop-place.costs.items in
    let place = c.loop-place.place in
    let long : length es ≤ place = subst (λ (n : ℕ). n ≤ place) c.len-place-end.ensures c.loop-place-test.false in
    let past : length (keys_of es) ≤ place = subst (λ (n : ℕ). n ≤ place) (sym (length-map es (λ (y : Prefix × Entry). y.0))) long in
    let is = all_within entries c.args.area c.args.range (keys_of es) c.entries-entries.ensures.keys costs (more_all (IsOfNetwork entries c.args.area c.args.range) (keys_of es) place [] costs past c.loop-place.invariant) x in
    let sorted : List (RangeMember × ℕ) = c.sort_unstable_by_key.new.self.items in
    let moved = c.sort_unstable_by_key.ensures.permutation in
    (λ there. is.0 (Contains-permutation sorted costs x (IsPermutation-sym costs sorted moved) there), λ within. Contains-permutation costs sorted x moved (is.1 within))
