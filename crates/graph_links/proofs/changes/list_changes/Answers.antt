use Rattle.std.proofs.Common.{ℕ, ◌≡◌, ◌-◌, ◌++◌, List, drop, length, sym, subst, take}
use Rattle.graph_links.specs.declared.link.GraphLink.{GraphLink}
use Rattle.graph_links.specs.Differing.{AddsUnlike, HaveSameBack}
use Rattle.graph_links.specs.Pairs.{AreApart}
use Rattle.graph_links.proofs.Taking.{apart_drop, apart_rests, apart_take, grown_before, grown_behind, rest_is}
use Rattle.graph_links.proofs.changes.list_changes.Goals as goal

-- what comes after this many links
abbrev behind : ℕ → List GraphLink → List GraphLink
behind n links = take (length links - n) (drop n links)

-- the links that are added, by what comes after the front that is the same
added : (n : ℕ) (xs ys old new : List GraphLink) → AddsUnlike (behind n xs) (behind n ys) old new → AddsUnlike (drop n xs) (drop n ys) old new
added n xs ys old new grown = subst (λ (p : List GraphLink × List GraphLink). AddsUnlike p.0 p.1 old new) (λ k. (rest_is n xs k, rest_is n ys k)) grown

-- and by what is at the start of the back that is the same
grown_between : (n m : ℕ) (xs ys old new : List GraphLink) → take n xs ≡ take n ys → HaveSameBack m (behind n xs) (behind n ys) → AreApart xs
    → AddsUnlike (take (length (behind n xs) - m) (behind n xs)) (take (length (behind n ys) - m) (behind n ys)) old new → AddsUnlike xs ys old new
grown_between n m xs ys old new front back apart grown =
    grown_behind n xs ys old new front apart (added n xs ys old new
    (grown_before (length (behind n xs) - m) (length (behind n ys) - m) (behind n xs) (behind n ys) old new back (apart_rests n xs apart) grown))

-- nothing occurs twice in a list with what is there after it
apart_between : (n k : ℕ) (xs old : List GraphLink) → AreApart (old ++ xs) → AreApart (old ++ take k (behind n xs))
apart_between n k xs old apart = apart_take k old (behind n xs) (subst (λ (ls : List GraphLink). AreApart (old ++ ls)) (sym (rest_is n xs)) (apart_drop n old xs apart))

pub returns-clause-gone : goal.returns-clause-gone
returns-clause-gone c =
    grown_between c.same_front-front.result c.same_back-back.result c.args.before.now c.args.after.now c.args.changes.now.gone.items c.list_missing.new.links.items
    c.same_front-front.ensures.same c.same_back-back.ensures.same c.requires.before c.in_ok-list_missing.ensures.missing

pub returns-clause-came : goal.returns-clause-came
returns-clause-came c =
    grown_between c.same_front-front.result c.same_back-back.result c.args.after.now c.args.before.now c.args.changes.now.came.items c.list_missing-2.new.links.items
    (sym c.same_front-front.ensures.same) (sym c.same_back-back.ensures.same) c.requires.after c.in_ok-list_missing-2.ensures.missing

pub returns-clause-gone_once : goal.returns-clause-gone_once
returns-clause-gone_once c apart =
    c.in_ok-list_missing.ensures.apart (apart_between c.same_front-front.result _ c.args.before.now c.args.changes.now.gone.items apart)

pub returns-clause-came_once : goal.returns-clause-came_once
returns-clause-came_once c apart =
    c.in_ok-list_missing-2.ensures.apart (apart_between c.same_front-front.result _ c.args.after.now c.args.changes.now.came.items apart)
