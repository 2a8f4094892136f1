use Rattle.std.proofs.Common.{List, sym, subst, ◌∙◌, inl, inr}
use Rattle.std.specs.Prelude.{Contains}
use Rattle.std.specs.List.{All}
use Rattle.std.proofs.lemmas.Map.Views.{All-insert_key}
use Rattle.ospf_types.specs.declared.key.Key.{Key}
use Rattle.advertised_index.specs.LsasByKey.{HasSmallKey}
use Rattle.advertised_index.specs.IndexFilter.{AreAmong}
use Rattle.advertised_index.specs.KnownKeys.{AreNotedBut}
use Rattle.advertised_index.proofs.Covering.{still_among, among_with}
use Rattle.advertised_index.proofs.Groups.{Member, derived_cmp, derived_exact}
use Rattle.advertised_index.proofs.MemberLists.{stays_with, is_put_in, came_or_was}
use Rattle.advertised_index.proofs.NotedGroups.{noted_ahead, noted_with, same_noted}
use Rattle.advertised_index.proofs.lsas_by_key.LsasByKey.add.Goals as goal

-- memory was refused before the key was put in: nothing more is noted
pub invariant_of-self : goal.invariant_of-self
invariant_of-self c = (c.self.invariant.0, c.self.invariant.1, still_among c.self.inside.members.keys c.self.inside.coarse c.note.new.self c.self.invariant.2 c.note.ensures.kept)

pub invariant_of-self-in_err-note-2 : goal.invariant_of-self-in_err-note-2
invariant_of-self-in_err-note-2 c = (
  c.self.invariant.0,
  same_noted c.self.inside.members.keys c.self.inside.noted c.note-2.new.self c.self.invariant.1 c.note-2.ensures.kept c.in_err-note-2.ensures.unchanged,
  still_among c.self.inside.members.keys c.self.inside.coarse c.note.new.self c.self.invariant.2 c.note.ensures.kept,
)

pub invariant_of-self-in-Ok : goal.invariant_of-self-in-Ok
invariant_of-self-in-Ok c =
    let old = c.self.inside.members.keys in
    let new = c.insert.new.self.keys in
    let key = c.small.result in
    let is = c.in-Ok.ensures.keys in (
      subst (λ (ms : List Member). All HasSmallKey ms) (sym is) (All-insert_key derived_cmp (c.args.group, key) HasSmallKey old c.self.invariant.0 c.small.ensures.small),
      noted_with old new c.self.inside.noted c.note-2.new.self c.args.group key c.self.invariant.1 c.note-2.ensures.kept c.note-2.ensures.only c.in_ok-note-2.ensures.noted
          (λ m there. subst (λ (ms : List Member). Contains ms m) (sym is) (stays_with derived_cmp old (c.args.group, key) m there))
          (λ m has. came_or_was derived_cmp old (c.args.group, key) m (subst (λ (ms : List Member). Contains ms m) is has))
          (subst (λ (ms : List Member). Contains ms (c.args.group, key)) (sym is) (is_put_in derived_cmp derived_exact old (c.args.group, key))),
      among_with old new c.note.new.self c.args.group key (still_among old c.self.inside.coarse c.note.new.self c.self.invariant.2 c.note.ensures.kept)
          (λ m has. came_or_was derived_cmp old (c.args.group, key) m (subst (λ (ms : List Member). Contains ms m) is has)) c.in_ok-note.ensures.noted,
    )

pub returns-in-Ok-clause-kept : goal.returns-in-Ok-clause-kept
returns-in-Ok-clause-kept c =
    λ m there. subst (λ (ms : List Member). Contains ms m) (sym c.in-Ok.ensures.keys)
    (stays_with derived_cmp c.self.inside.members.keys (c.args.group, c.small.result) m (subst (λ (ms : List Member). Contains ms m) (sym c.self.view_is) there))

pub returns-in-Ok-clause-only : goal.returns-in-Ok-clause-only
returns-in-Ok-clause-only c =
    λ m has. elim (came_or_was derived_cmp c.self.inside.members.keys (c.args.group, c.small.result) m (subst (λ (ms : List Member). Contains ms m) c.in-Ok.ensures.keys has)) [
      | inl was ↦ inl (subst (λ (ms : List Member). Contains ms m) c.self.view_is was)
      | inr is ↦ inr (is ∙ (λ i. (c.args.group, c.small.ensures.value i)))
    ]

pub returns-in-Ok-clause-added : goal.returns-in-Ok-clause-added
returns-in-Ok-clause-added c =
    subst (λ (k : Key). Contains c.insert.new.self.keys (c.args.group, k)) c.small.ensures.value
    (subst (λ (ms : List Member). Contains ms (c.args.group, c.small.result)) (sym c.in-Ok.ensures.keys) (is_put_in derived_cmp derived_exact c.self.inside.members.keys (c.args.group, c.small.result)))

-- memory was refused for the key: its group is noted only if another key is in it

pub forget_without_keys-requires-clause-small : goal.forget_without_keys-requires-clause-small
forget_without_keys-requires-clause-small c = subst (λ (ms : List Member). All HasSmallKey ms) (sym c.in-Err.ensures.err) c.self.invariant.0

pub forget_without_keys-requires-clause-before : goal.forget_without_keys-requires-clause-before
forget_without_keys-requires-clause-before c =
    subst (λ (ms : List Member). AreNotedBut c.args.group ms c.note-2.new.self) (sym c.in-Err.ensures.err)
    (noted_ahead c.self.inside.members.keys c.self.inside.members.keys c.self.inside.noted c.note-2.new.self c.args.group c.args.key c.self.invariant.1 c.note-2.ensures.kept c.note-2.ensures.only)

pub invariant_of-self-in-Err : goal.invariant_of-self-in-Err
invariant_of-self-in-Err c = (
  subst (λ (ms : List Member). All HasSmallKey ms) (sym c.in-Err.ensures.err) c.self.invariant.0,
  c.forget_without_keys.ensures,
  subst (λ (ms : List Member). AreAmong ms c.note.new.self) (sym c.in-Err.ensures.err) (still_among c.self.inside.members.keys c.self.inside.coarse c.note.new.self c.self.invariant.2 c.note.ensures.kept),
)
