use Rattle.std.proofs.Common.{◌≡◌, ◌-◌, List, length, take, drop, sym, subst, arith}
use Rattle.std.specs.Prelude.{Contains}
use Rattle.std.proofs.lemmas.List.{length-drop, take_all}
use Rattle.graph_links.specs.declared.link.GraphLink.{GraphLink}
use Rattle.graph_links.proofs.ByCost.{behind_cheaper}
use Rattle.graph_links.proofs.changes.is_among.Goals as goal

pub returns : goal.returns
returns c =
    let others = c.args.others.now in
    let first = c.first_at_cost-first.result in
    let long = length-drop first others in
    let rest : take (length others - first) (drop first others) ≡ drop first others = take_all (length others - first) (drop first others) (omega arith) in
    let same = behind_cheaper others first c.args.link.now c.first_at_cost-first.ensures.within c.first_at_cost-first.ensures.split in (
      λ t. same.0 (subst (λ (ls : List GraphLink). Contains ls c.args.link.now) rest (c.is_among_first.ensures.0 t)),
      λ h. c.is_among_first.ensures.1 (subst (λ (ls : List GraphLink). Contains ls c.args.link.now) (sym rest) (same.1 h)),
    )
