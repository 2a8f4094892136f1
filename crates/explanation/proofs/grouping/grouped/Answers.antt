use Rattle.std.proofs.Common.{◌≡◌, ◌+◌, Vec, Global, List, length, take, ap, sym, subst, ◌∙◌}
use Rattle.std.proofs.lemmas.List.{length-set, with_items_is}
use Rattle.explanation.specs.declared.grouping.Group.{Group}
use Rattle.explanation.specs.Groups.{AreGroups, IsOfferAdded}
use Rattle.explanation.proofs.Groups.{none_put, one_put}
use Rattle.explanation.proofs.grouping.grouped.Goals as goal
use Rattle.explanation.proofs.grouping.grouped.Goals.{in-Some+in_ok-put, in_default}

pub loop-offer-preserved : goal.loop-offer-preserved
loop-offer-preserved c =
    let networks = c.args.networks.now in
    let offers = c.args.offers.now in
    let i = c.loop-offer.offer-index in
    let o = c.offer-item.result in
    let listed = c.as_slice.ensures.in_order in
    elim c.match-place.branch [
      | in-Some+in_ok-put w ↦
          let one = subst (λ (gs : List Group). IsOfferAdded w.in-Some.place o gs w.put.new.groups) w.deref_mut.ensures.value w.in_ok-put.ensures in
          let before = c.loop-offer.groups in
          let size : length w.put.new.groups ≡ before.len = ap (λ (gs : List Group). length gs) one.1 ∙ length-set before.items w.in-Some.place one.0 ∙ sym before.ok.0 in
          let whole : c.match-place.groups.items ≡ w.put.new.groups = ap (λ (v : Vec Group Global). v.items) w.groups-is ∙ with_items_is before w.put.new.groups size in
          subst (AreGroups networks (take (i + 1) offers)) (sym whole)
          (one_put networks listed offers i o c.loop-offer-test.true c.offer-item.is before.items c.loop-offer.invariant w.in-Some.place w.in-Some.ensures.some w.put.new.groups one)
      | in_default w ↦
          subst (λ (v : Vec Group Global). AreGroups networks (take (i + 1) offers) v.items) (sym w.groups-is)
          (none_put networks listed offers i o c.loop-offer-test.true c.offer-item.is c.loop-offer.groups.items c.loop-offer.invariant w.in_default.ensures.none)
    ]
