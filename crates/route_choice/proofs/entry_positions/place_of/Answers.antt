-- The entry that is found is the key's.
use Rattle.std.proofs.Common.{Some, sym, ap, ◌∙◌}
use Rattle.route_choice.proofs.KeyedMaps.{looked_up}
use Rattle.route_choice.proofs.KeyLaws.{key_order}
use Rattle.route_choice.proofs.Standing.{nothing_in, own_key}
use Rattle.route_choice.proofs.entry_positions.place_of.Goals as goal

pub returns-in-Some-clause-at : goal.returns-in-Some-clause-at
returns-in-Some-clause-at g c =
    let keys = key_order g.met.K.ResultKey.ordered g.met.K.Ord.total g.met.K.ResultKey.exact g.met.K.Ord.matches_eq in
    let es = c.args.entries.now.entries in
    let value = c.in-Some.field-0-2.now in (
      value,
      c.in-Some.ensures.entry ∙ ap (λ (k : g.row.K.Denot). Some (k, value)) (own_key keys es c.args.key c.in-Some.field-0-1.now (sym c.in-Some.ensures.key)),
      sym (c.in-Some.ensures.value ∙ looked_up keys.total keys.exact keys.ties es c.args.key),
    )

pub returns-in-None-clause-none : goal.returns-in-None-clause-none
returns-in-None-clause-none g c =
    let keys = key_order g.met.K.ResultKey.ordered g.met.K.Ord.total g.met.K.ResultKey.exact g.met.K.Ord.matches_eq in
    sym (c.in-None.ensures.value ∙ looked_up keys.total keys.exact keys.ties c.args.entries.now.entries c.args.key)

pub returns-then-is_empty-clause-none : goal.returns-then-is_empty-clause-none
returns-then-is_empty-clause-none g c =
    let keys = key_order g.met.K.ResultKey.ordered g.met.K.Ord.total g.met.K.ResultKey.exact g.met.K.Ord.matches_eq in
    sym (nothing_in keys c.args.entries.now.entries c.args.key (c.is_empty.ensures.0 c.if-is_empty.true))
