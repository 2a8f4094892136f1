-- One key more. Wherever the change ends, no more places are noted than there are results.
use Rattle.std.proofs.Common.{◌≤◌, ◌+◌, ◌∙◌, ℕ, List, length, ap, subst, sym}
use Rattle.std.specs.Option.{option_to_list}
use Rattle.std.proofs.lemmas.List.{length-append}
use Rattle.route_choice.specs.Chosen.{AreRechosen}
use Rattle.route_choice.specs.Results.{Results, result_at, result_in}
use Rattle.route_choice.proofs.KeyLaws.{key_order}
use Rattle.route_choice.proofs.ChosenAnew.{so_far_none, so_far_more, so_far_all}
use Rattle.route_choice.proofs.Left.{IsLeft, left_none, left_chosen, left_more, left_within}
use Rattle.route_choice.proofs.results.ResultMap.choose_each.Goals as goal

pub loop-key-init : goal.loop-key-init
loop-key-init g c = (
  so_far_none g.K.ResultKey.order (g.R.Choose.IsChosen c.args.by.now) g.N.ReportedAs.reported_as (result_in g.K.ResultKey.order c.self.inside.entries.entries) c.args.keys.now c.args.told.now.items c.requires.none c.requires.in_order,
  left_none (result_in g.K.ResultKey.order c.self.inside.entries.entries) c.args.keys.now (length c.truncate.new.self.items) (ap (λ (left : List ℕ). length left) c.truncate.ensures.items) c.requires.in_order,
)

pub invariant_of-self : goal.invariant_of-self
invariant_of-self g c =
    let keys = key_order g.met.K.ResultKey.ordered g.met.K.Ord.total g.met.K.ResultKey.exact g.met.K.Ord.matches_eq in
    left_within keys.total keys.exact c.loop-key.self-inside.entries.entries c.args.keys.now c.loop-key.key-index (length c.loop-key.self-inside.left.items) c.loop-key.invariant.1

pub invariant_of-self-in_err-place : goal.invariant_of-self-in_err-place
invariant_of-self-in_err-place g c =
    let keys = key_order g.met.K.ResultKey.ordered g.met.K.Ord.total g.met.K.ResultKey.exact g.met.K.Ord.matches_eq in
    left_within keys.total keys.exact c.choose_one.new.entries.entries c.args.keys.now c.loop-key.key-index (length c.loop-key.self-inside.left.items)
    (left_chosen keys.total (result_in g.K.ResultKey.order c.loop-key.self-inside.entries.entries) (result_in g.K.ResultKey.order c.choose_one.new.entries.entries) c.args.keys.now c.loop-key.key-index c.key-item.result c.loop-key-test.true
    c.key-item.is (length c.loop-key.self-inside.left.items) c.loop-key.invariant.1 c.choose_one.ensures.others)

pub invariant_of-self-in_err-leave : goal.invariant_of-self-in_err-leave
invariant_of-self-in_err-leave g c =
    let keys = key_order g.met.K.ResultKey.ordered g.met.K.Ord.total g.met.K.ResultKey.exact g.met.K.Ord.matches_eq in
    subst (λ (left : List ℕ). length left ≤ length c.choose_one.new.entries.entries) (sym c.in_err-leave.ensures.err)
    (left_within keys.total keys.exact c.choose_one.new.entries.entries c.args.keys.now c.loop-key.key-index (length c.loop-key.self-inside.left.items)
    (left_chosen keys.total (result_in g.K.ResultKey.order c.loop-key.self-inside.entries.entries) (result_in g.K.ResultKey.order c.choose_one.new.entries.entries) c.args.keys.now c.loop-key.key-index c.key-item.result c.loop-key-test.true
    c.key-item.is (length c.loop-key.self-inside.left.items) c.loop-key.invariant.1 c.choose_one.ensures.others))

pub loop-key-preserved : goal.loop-key-preserved
loop-key-preserved g c =
    let keys = key_order g.met.K.ResultKey.ordered g.met.K.Ord.total g.met.K.ResultKey.exact g.met.K.Ord.matches_eq in
    let long = ap (λ (left : List ℕ). length left) c.in_ok-leave.ensures.ok ∙ length-append c.loop-key.self-inside.left.items (option_to_list c.in_ok-place.place) in (
      so_far_more g.K.ResultKey.order keys.total keys.exact (g.R.Choose.IsChosen c.args.by.now) g.N.ReportedAs.reported_as (result_in g.K.ResultKey.order c.self.inside.entries.entries) (result_in g.K.ResultKey.order c.loop-key.self-inside.entries.entries)
          (result_in g.K.ResultKey.order c.choose_one.new.entries.entries) c.args.keys.now c.requires.in_order c.loop-key.key-index c.key-item.result c.loop-key-test.true c.key-item.is c.loop-key.told.items c.choose_one.new.told.items
          c.loop-key.invariant.0 c.in_ok-place.ensures.chosen,
      subst (IsLeft g.K.ResultKey.order (result_in g.K.ResultKey.order c.choose_one.new.entries.entries) c.args.keys.now (c.loop-key.key-index + 1)) (sym long)
          (left_more keys.total (result_in g.K.ResultKey.order c.loop-key.self-inside.entries.entries) (result_in g.K.ResultKey.order c.choose_one.new.entries.entries) c.args.keys.now c.loop-key.key-index c.key-item.result c.loop-key-test.true
          c.key-item.is (length c.loop-key.self-inside.left.items) c.loop-key.invariant.1 c.choose_one.ensures.others c.in_ok-place.place c.in_ok-place.ensures.stands),
    )

pub returns : goal.returns
returns g c =
    let old : Results g.row.K.Denot g.row.V.Denot = record { entries = c.self.inside.entries.entries } in
    let new : Results g.row.K.Denot g.row.V.Denot = record { entries = c.loop-key.self-inside.entries.entries } in
    subst (λ (r : Results g.row.K.Denot g.row.V.Denot). AreRechosen g.K.ResultKey.order (g.R.Choose.IsChosen c.args.by.now) g.N.ReportedAs.reported_as (result_at g.K.ResultKey.order r) (result_at g.K.ResultKey.order new) c.args.keys.now c.loop-key.told.items) c.self.view_is
    (so_far_all g.K.ResultKey.order (g.R.Choose.IsChosen c.args.by.now) g.N.ReportedAs.reported_as (result_at g.K.ResultKey.order old) (result_at g.K.ResultKey.order new) c.args.keys.now c.loop-key.key-index c.loop-key.told.items c.loop-key-test.false c.loop-key.invariant.0)
