-- The entry at the place is the key's.
use Rattle.std.proofs.Common.{◌≡◌, Some, sym, ap, ◌∙◌}
use Rattle.std.proofs.lemmas.Option.{same_Some}
use Rattle.route_choice.specs.Results.{result_in}
use Rattle.route_choice.proofs.Standing.{value_of}
use Rattle.route_choice.proofs.entry_positions.stands_at.Goals as goal

pub returns-in-Some : goal.returns-in-Some
returns-in-Some g c =
    let kept = c.in-Some.standing.now in
    let own = value_of c.in-Some.field-0-0.now c.args.key kept c.requires.0 (c.in-Some.ensures.entry ∙ c.requires.1) in
    let found : result_in g.K.ResultKey.order c.args.entries.now.entries c.args.key ≡ Some kept = c.requires.2 ∙ ap Some (sym own) in
    (λ t. found ∙ ap Some (c.is_same.ensures.0 t), λ e. c.is_same.ensures.1 (same_Some kept c.args.fresh.now (sym found ∙ e)))

pub returns-in-None : goal.returns-in-None
returns-in-None g c = let wrong = c.in-None.ensures.entry ∙ c.requires.1 in absurd cc
