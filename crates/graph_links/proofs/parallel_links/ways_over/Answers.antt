use Rattle.std.proofs.Common.{◌≡◌, IsPermutation, List, length, ap, subst, ◌∙◌}
use Rattle.std.specs.List.{dedup}
use Rattle.graph_links.specs.contracts.parallel_links.ParallelLinkPartialEq.TheImpl as way_equality
use Rattle.graph_links.specs.declared.parallel_links.ParallelLink.{ParallelLink}
use Rattle.graph_links.proofs.WaysOnce.{in_place, ways_once, ways_kept}
use Rattle.graph_links.proofs.parallel_links.ways_over.Goals as goal

moved : (c : goal.After-dedup) → IsPermutation c.in_ok-ways.ways.items c.sort_unstable.new.self
moved c = subst (λ (ws : List ParallelLink). IsPermutation ws c.sort_unstable.new.self) c.as_mut_slice.ensures.value c.sort_unstable.ensures.permutation

kept : (c : goal.After-dedup) → c.dedup.new.self.items ≡ dedup (way_equality.eq-value).it c.sort_unstable.new.self
kept c =
    let long = c.sort_unstable.auto.self ∙ ap (λ (ws : List ParallelLink). length ws) c.as_mut_slice.ensures.value in
    c.dedup.ensures.items ∙ ap (dedup (way_equality.eq-value).it) (in_place c.in_ok-ways.ways.items c.sort_unstable.new.self long)

pub returns-clause-exact : goal.returns-clause-exact
returns-clause-exact c =
    let a = c.args in
    ways_kept c.in_ok-ways.ways.items c.sort_unstable.new.self c.dedup.new.self.items (moved c) c.sort_unstable.ensures.sorted (kept c) a.local.root a.router a.local.interfaces.now a.ends.now c.in_ok-ways.ensures

pub returns-clause-each_once : goal.returns-clause-each_once
returns-clause-each_once c = ways_once c.in_ok-ways.ways.items c.sort_unstable.new.self c.dedup.new.self.items (moved c) c.sort_unstable.ensures.sorted (kept c)
