use Rattle.std.proofs.Common.{◌++◌, ◌∷◌, [], Some, sym, subst, ◌∙◌}
use Rattle.std.specs.Prelude.{Option}
use Rattle.route_choice.specs.Choices.{Chosen, IsOffered, IsChosen}
use Rattle.route_choice.proofs.Choosing.{chosen_first, chosen_more}
use Rattle.route_choice.proofs.Taking.{takes_one}
use Rattle.route_choice.proofs.choice.Best.offer.Goals as goal

pub returns-in_ok-offer-in-Some-clause-ok : goal.returns-in_ok-offer-in-Some-clause-ok
returns-in_ok-offer-in-Some-clause-ok g c =
    let e = c.in_ok-offer-in-Some.ensures in
    takes_one c.args.key c.args.item c.args.self.now (Some c.offer.new.self)
    (λ before h. chosen_more g.K.Ord.cmp g.X.Ord.cmp g.met.K.Ord.total g.met.K.ExactOrd.exact c.args.key c.args.item before c.in-Some.choice c.offer.new.self e.lesser e.tied e.greater e.in_order
    (subst (λ (o : Option (Chosen g.row.K.Denot g.row.X.Denot)). IsChosen g.K.Ord.cmp g.X.Ord.cmp (IsOffered before) o) (sym c.self.view_is ∙ c.in-Some.is) h))

pub returns-in_ok-of-in-None-clause-ok : goal.returns-in_ok-of-in-None-clause-ok
returns-in_ok-of-in-None-clause-ok g c =
    takes_one c.args.key c.args.item c.args.self.now (Some c.in_ok-of-in-None.field-0)
    (λ before h. subst (λ (d : Chosen g.row.K.Denot g.row.X.Denot). IsChosen g.K.Ord.cmp g.X.Ord.cmp (IsOffered (before ++ (c.args.key, c.args.item) ∷ [])) (Some d)) (sym c.in_ok-of-in-None.ensures)
    (chosen_first g.K.Ord.cmp g.X.Ord.cmp g.met.K.Ord.total g.met.K.ExactOrd.exact c.args.key c.args.item before
    (subst (λ (o : Option (Chosen g.row.K.Denot g.row.X.Denot)). IsChosen g.K.Ord.cmp g.X.Ord.cmp (IsOffered before) o) (sym c.self.view_is ∙ c.in-None.is) h)))
