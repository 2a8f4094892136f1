use Rattle.std.proofs.Common.{List, ap, sym, subst, ◌∙◌}
use Rattle.std.specs.List.Sorted.{IsStrictlySortedBy}
use Rattle.route_choice.specs.Choices.{Chosen, HasAlso}
use Rattle.ospf_types.proofs.InOrder.{sorted_one}
use Rattle.route_choice.proofs.choice.Choice.offer.Goals as goal

pub returns-in_ok-self-inside-in-Less-clause-in_order :
    goal.returns-in_ok-self-inside-in-Less-clause-in_order
returns-in_ok-self-inside-in-Less-clause-in_order g c = λ _.
    subst (λ (xs : List g.row.X.Denot). IsStrictlySortedBy g.X.Ord.cmp xs)
    (sym (ap (λ (b : Chosen g.row.K.Denot g.row.X.Denot). b.items) (c.drop.view_is ∙ c.in_ok-self-inside-in-Less.ensures)))
    (sorted_one g.met.X.Ord.total c.args.item)

pub returns-in_ok-add_in_order-in-Equal-clause-tied :
    goal.returns-in_ok-add_in_order-in-Equal-clause-tied
returns-in_ok-add_in_order-in-Equal-clause-tied g c = λ _. (
  ap (λ (b : Chosen g.row.K.Denot g.row.X.Denot). b.key) c.self.view_is,
  subst (λ (b : Chosen g.row.K.Denot g.row.X.Denot). HasAlso b.items c.args.item c.add_in_order.new.items.items) c.self.view_is c.in_ok-add_in_order-in-Equal.ensures.added,
)
