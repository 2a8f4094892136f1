use Rattle.std.proofs.Common.{List, sym, subst}
use Rattle.std.specs.Prelude.{Contains}
use Rattle.ospf_types.proofs.Elements.{no_element, first_element}
use Rattle.advertised_index.specs.KnownKeys.{HasKey}
use Rattle.advertised_index.proofs.Groups.{Member, not_after_itself, neither_after}
use Rattle.advertised_index.proofs.NotedGroups.{noted_right, noted_gone}
use Rattle.advertised_index.proofs.lsas_by_key.forget_without_keys.Goals as goal

pub returns-in-Some : goal.returns-in-Some
returns-in-Some c =
    let group = c.args.group.now in
    let m : Member = c.in-Some.field-0.now in
    let found = c.between.ensures.only m (subst (λ (ms : List Member). Contains ms m) (sym c.in-Some.ensures.steps) (first_element m c.next.new.self)) in
    let has : HasKey c.args.members.now.keys group = (m.1, subst (λ g. Contains c.args.members.now.keys (g, m.1)) (neither_after group m.0 found.1 found.2) found.0) in
    noted_right c.args.members.now.keys c.args.noted.now group c.requires.before has

pub returns-in-None : goal.returns-in-None
returns-in-None c =
    let group = c.args.group.now in
    let none : HasKey c.args.members.now.keys group → ⊥ = λ has.
    no_element (group, has.0) (subst (λ (ms : List Member). Contains ms (group, has.0)) c.in-None.ensures.steps.0 (c.between.ensures.all (group, has.0) has.1 (not_after_itself group) (not_after_itself group))) in
    noted_gone c.args.members.now.keys c.args.noted.now group c.requires.before c.forget.new.self none c.forget.ensures.gone c.forget.ensures.only c.forget.ensures.kept
