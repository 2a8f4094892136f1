use Rattle.std.proofs.Common.{is_some, Some, refl, sym, ap, ◌∙◌}
use Rattle.vertex_map.specs.Values.{values_of}
use Rattle.vertex_map.proofs.Values.{none_taken, not_found, found_at, key_found}
use Rattle.vertex_map.proofs.vertex_map.take_by_hash.Goals as goal

pub returns-in_default-clause-taken : goal.returns-in_default-clause-taken
returns-in_default-clause-taken g c =
    none_taken (values_of c.args.entries.now.entries) c.args.vertex (not_found c.args.entries.now.entries c.args.vertex (sym c.in_default.ensures.value))

pub returns-in_default-clause-had : goal.returns-in_default-clause-had
returns-in_default-clause-had g c =
    sym (ap is_some (not_found c.args.entries.now.entries c.args.vertex (sym c.in_default.ensures.value)))

pub returns-clause-taken : goal.returns-clause-taken
returns-clause-taken g c =
    c.write_at.ensures c.args.vertex (
      c.in-Some.kept.now,
      c.in-Some.ensures.entry
          ∙ ap (λ v. Some (v, c.in-Some.kept.now)) (key_found c.args.entries.now.entries c.args.vertex c.in-Some.field-0-1.now (sym c.in-Some.ensures.key)),
    )

pub returns-clause-had : goal.returns-clause-had
returns-clause-had g c =
    c.is_some-had.ensures
    ∙ ap is_some (sym (found_at c.args.entries.now.entries c.args.vertex c.args.vertex c.in-Some.kept.now (sym c.in-Some.ensures.value) refl))
