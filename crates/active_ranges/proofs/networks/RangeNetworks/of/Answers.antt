-- One network more.
use Rattle.std.proofs.Common.{◌≡◌, ℕ, ◌+◌, List, [], ◌∷◌, ◌++◌, map, take, sym, ap, subst, ◌∙◌}
use Rattle.std.proofs.lemmas.List.{map-append, take_more}
use Rattle.ospf_types.specs.declared.prefix.Prefix.{Prefix}
use Rattle.active_ranges.specs.Grouped.{AreMadeOf}
use Rattle.active_ranges.specs.declared.member.RangeMember.{RangeMember}
use Rattle.active_ranges.proofs.Placed.{AreInOrder, made_more, none_in_order}
use Rattle.active_ranges.proofs.networks.RangeNetworks.of.Goals as goal

pub invariant_of-networks : goal.invariant_of-networks
invariant_of-networks c = subst AreInOrder (sym c.in_ok-with_capacity.ensures.items) none_in_order

pub loop-member-preserved : goal.loop-member-preserved
loop-member-preserved c =
    let costs = c.args.costs.now in
    let i = c.loop-member.member-index in
    let x = c.loop-member-item.result in
    let as_network : RangeMember × ℕ → Prefix × ℕ = λ y. (y.0.network, y.1) in
    let more : take (i + 1) costs ≡ take i costs ++ x ∷ [] = take_more costs i x c.loop-member-test.true ∙ ap (λ (y : RangeMember × ℕ). take i costs ++ y ∷ []) (sym c.loop-member-item.is) in
    subst (λ (came : List (Prefix × ℕ)). AreMadeOf came c.put.new.self) (sym (ap (map as_network) more ∙ map-append as_network (take i costs) (x ∷ [])))
    (made_more (map as_network (take i costs)) x.0.network x.1 c.loop-member.networks c.put.new.self c.loop-member.invariant c.in_ok-put.ensures)
