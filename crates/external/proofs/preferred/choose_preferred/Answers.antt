use Rattle.std.proofs.Common.{Some, None, sym}
use Rattle.external.proofs.PreferredOffers.{chosen_from, preferred_from}
use Rattle.external.proofs.preferred.choose_preferred.Goals as goal

pub returns-in-Some : goal.returns-in-Some
returns-in-Some c =
    preferred_from c.args.inputs.now c.args.router c.in-Some.choice c.from_choice.result c.from_choice.ensures
    (chosen_from c.args.inputs.now c.args.router c.new-best.result c.offer_areas.new.best c.offer_entry.new.best (Some c.in-Some.choice) c.new-best.ensures (sym c.in-Some.ensures) c.in_ok-offer_areas.ensures c.in_ok-offer_entry.ensures)

pub returns-in-None : goal.returns-in-None
returns-in-None c =
    chosen_from c.args.inputs.now c.args.router c.new-best.result c.offer_areas.new.best c.offer_entry.new.best None c.new-best.ensures (sym c.in-None.ensures) c.in_ok-offer_areas.ensures c.in_ok-offer_entry.ensures
