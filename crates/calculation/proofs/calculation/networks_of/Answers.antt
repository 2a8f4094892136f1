use Rattle.std.proofs.Common.{List, sym, subst}
use Rattle.std.specs.List.{Contains}
use Rattle.ospf_types.specs.declared.prefix.Prefix.{Prefix}
use Rattle.route_choice.proofs.Among.{networks_among}
use Rattle.calculation.proofs.calculation.networks_of.Goals as goal

pub returns-clause-exact : goal.returns-clause-exact
returns-clause-exact c = λ p.
    let same = c.sorted_unique.ensures.same p in
    let among = networks_among c.args.dests.now p in
    (λ there. among.0 (subst (λ (ps : List Prefix). Contains ps p) c.in_ok-networks.ensures (same.0 there)), λ there. same.1 (subst (λ (ps : List Prefix). Contains ps p) (sym c.in_ok-networks.ensures) (among.1 there)))
