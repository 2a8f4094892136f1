use Rattle.std.proofs.Common.{◌∙◌, Option, subst, sym}
use Rattle.advertised_index.specs.AdvertisedRoute.{AdvertisedValue}
use Rattle.advertised_index.specs.AffectedDests.{AreAdded}
use Rattle.advertised_index.proofs.Effects.{touched_at}
use Rattle.advertised_index.proofs.index.AdvertisedIndex.exchange.Goals as goal

pub returns-clause-touched : goal.returns-clause-touched
returns-clause-touched c =
    let key = c.args.key in
    let old = c.args.self.now in
    let new = c.put.new.self in
    let before = c.args.affected.now in
    let between = c.add.new.self in
    let after = c.add-2.new.self in
    let was = c.as_ref.ensures.value ∙ c.copied-old.ensures ∙ c.route.ensures in
    let is = c.as_ref-2.ensures.value ∙ sym c.as_ref-4.ensures.value ∙ sym c.in_ok-put.ensures.taken in
    touched_at old new key before between after (subst (λ (o : Option AdvertisedValue). AreAdded o before between) was c.in_ok-add.ensures)
    (subst (λ (o : Option AdvertisedValue). AreAdded o between after) is c.in_ok-add-2.ensures) c.in_ok-put.ensures.others
