-- By the last one.
use Rattle.std.proofs.Common.{◌≡◌, true, Ordering, refl, sym, ap, ◌∙◌, arith}
use Rattle.std.specs.declared.cmp.Ordering.TheVariants.{Less, Equal, Greater}
use Rattle.std.specs.Ordering.{is_lt}
use Rattle.ospf_types.specs.Network.{network_cmp}
use Rattle.active_ranges.proofs.Placed.{gap_behind, gap_of_none}
use Rattle.active_ranges.proofs.networks.ends_before.Goals as goal

is_less : (o : Ordering) → is_lt o ≡ true → o ≡ Less
is_less Less h = refl
is_less Equal h = absurd cc
is_less Greater h = absurd cc

pub returns-in-Some : goal.returns-in-Some
returns-in-Some c less =
    let last = c.in-Some.field-0.now in
    let before : network_cmp last.0 c.args.network ≡ Less = is_less (network_cmp last.0 c.args.network) (ap is_lt (sym c.cmp.ensures) ∙ sym c.is_lt.ensures ∙ less) in
    gap_behind c.args.list.now c.requires c.args.network last c.in-Some.ensures.item.3.0 c.in-Some.ensures.item.1 before

pub returns-in-None : goal.returns-in-None
returns-in-None c holds = gap_of_none c.args.list.now c.requires c.args.network (let none = c.in-None.ensures.item.3 in omega (arith, none))
