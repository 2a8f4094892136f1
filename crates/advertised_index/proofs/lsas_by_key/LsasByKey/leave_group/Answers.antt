use Rattle.std.proofs.Common.{◌≡◌, true, false, List, sym, ap, subst, ◌∙◌}
use Rattle.std.specs.Prelude.{Contains}
use Rattle.std.specs.Ordering.{is_eq}
use Rattle.std.specs.List.{All}
use Rattle.std.proofs.lemmas.Map.Views.{All-remove_key}
use Rattle.advertised_index.specs.LsasByKey.{HasSmallKey}
use Rattle.advertised_index.proofs.Groups.{Member, derived_cmp, derived_exact, derived_ties}
use Rattle.advertised_index.proofs.MemberLists.{stays_without, was_there, none_passes}
use Rattle.advertised_index.proofs.Covering.{among_without}
use Rattle.advertised_index.proofs.NotedGroups.{noted_without}
use Rattle.advertised_index.proofs.lsas_by_key.LsasByKey.leave_group.Goals as goal

pub forget_without_keys-requires-clause-small : goal.forget_without_keys-requires-clause-small
forget_without_keys-requires-clause-small c = subst (λ (ms : List Member). All HasSmallKey ms) (sym c.remove.ensures.keys) (All-remove_key _ HasSmallKey c.self.inside.members.keys c.self.invariant.0)

pub forget_without_keys-requires-clause-before : goal.forget_without_keys-requires-clause-before
forget_without_keys-requires-clause-before c =
    noted_without c.self.inside.members.keys c.remove.new.self.keys c.self.inside.noted c.self.inside.noted c.args.group c.args.key c.self.invariant.1
    (λ m there other. subst (λ (ms : List Member). Contains ms m) (sym c.remove.ensures.keys) (stays_without derived_cmp derived_exact c.self.inside.members.keys (c.args.group, c.args.key) m there other))
    (λ m left. was_there _ c.self.inside.members.keys m (subst (λ (ms : List Member). Contains ms m) c.remove.ensures.keys left))

pub invariant_of-self : goal.invariant_of-self
invariant_of-self c = (
  subst (λ (ms : List Member). All HasSmallKey ms) (sym c.remove.ensures.keys) (All-remove_key _ HasSmallKey c.self.inside.members.keys c.self.invariant.0),
  c.forget_without_keys.ensures,
  among_without c.self.inside.members.keys c.remove.new.self.keys c.self.inside.coarse c.self.invariant.2
      (λ m left. was_there _ c.self.inside.members.keys m (subst (λ (ms : List Member). Contains ms m) c.remove.ensures.keys left)),
)

pub returns-clause-kept : goal.returns-clause-kept
returns-clause-kept c =
    λ m there both. subst (λ (ms : List Member). Contains ms m) (sym c.remove.ensures.keys)
    (stays_without derived_cmp derived_exact c.self.inside.members.keys (c.args.group, c.args.key) m (subst (λ (ms : List Member). Contains ms m) (sym c.self.view_is) there)
    (λ at. let wrong : true ≡ false = sym (c.is_of.ensures.1 (both at)) ∙ c.if-is_of.false in cc))

pub returns-clause-only : goal.returns-clause-only
returns-clause-only c =
    λ m left.
    let had = was_there _ c.self.inside.members.keys m (subst (λ (ms : List Member). Contains ms m) c.remove.ensures.keys left) in (
      subst (λ (ms : List Member). Contains ms m) c.self.view_is had,
      λ at. absurd (none_passes _ c.remove.new.self.keys m c.remove.ensures.updates.1 left (rw at (ap is_eq (derived_ties (c.args.group, c.args.key))))),
    )
