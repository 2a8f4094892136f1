-- All results are chosen, and those that differ are reported.
use Rattle.std.proofs.Common.{List, sym, subst}
use Rattle.std.specs.Prelude.{◌↔◌, Contains}
use Rattle.std.specs.List.Sorted.{IsStrictlySortedBy}
use Rattle.route_choice.specs.Chosen.{HasChanged}
use Rattle.route_choice.specs.Results.{result_at}
use Rattle.route_choice.proofs.ChosenAnew.{all_chosen, told_themselves}
use Rattle.route_choice.proofs.KeyLaws.{key_order}
use Rattle.route_choice.proofs.results.ResultMap.follow.Goals as goal

pub returns-clause-chosen : goal.returns-clause-chosen
returns-clause-chosen g c =
    let keys = key_order g.met.K.ResultKey.ordered g.met.K.Ord.total g.met.K.ResultKey.exact g.met.K.Ord.matches_eq in
    all_chosen g.K.ResultKey.order (g.R.Choose.IsChosen c.args.by.now) (λ k. k) keys.total keys.exact (result_at g.K.ResultKey.order c.args.self.now) (result_at g.K.ResultKey.order c.choose_each.new.self) c.args.keys.items _ c.choose_each.new.told.items
    (λ k. subst (λ (ks : List g.row.K.Denot). Contains ks k ↔ Contains c.args.keys.items k) (sym c.deref.ensures.value) (c.sorted_unique-keys.ensures.same k)) c.requires c.in_ok-choose_each.ensures

pub returns-clause-in_order : goal.returns-clause-in_order
returns-clause-in_order g c =
    let anew = c.in_ok-choose_each.ensures in
    subst (IsStrictlySortedBy g.K.ResultKey.order) (sym (told_themselves g.K.ResultKey.order (g.R.Choose.IsChosen c.args.by.now) _ _ c.deref.result.now c.choose_each.new.told.items anew)) anew.in_order

pub returns-clause-exact : goal.returns-clause-exact
returns-clause-exact g c = λ k.
    let anew = c.in_ok-choose_each.ensures in
    subst (λ (ks : List g.row.K.Denot). Contains ks k ↔ HasChanged (result_at g.K.ResultKey.order c.args.self.now) (result_at g.K.ResultKey.order c.choose_each.new.self) k)
    (sym (told_themselves g.K.ResultKey.order (g.R.Choose.IsChosen c.args.by.now) _ _ c.deref.result.now c.choose_each.new.told.items anew)) (anew.exact k)
