use Rattle.std.proofs.Common.{◌≡◌, ◌<◌, ◌≤◌, ◌∷◌, length, take, drop, map, ap, sym, ◌∙◌, arith}
use Rattle.std.proofs.lemmas.List.{length-map, take_all, length-drop, length-set}
use Rattle.abr_c.specs.CTypes.{item_of_entry}
use Rattle.abr_c.proofs.Fronts.{next_written, behind_stays, one_less_left, all_written}
use Rattle.abr_c.proofs.items.copy_items.Goals as goal

pub returns-in_default-clause-count : goal.returns-in_default-clause-count
returns-in_default-clause-count c =
    let all = map item_of_entry c.args.items in let n = c.loop-count.count in let kept = c.loop-count.invariant in
    let none_left = ap length (sym kept.left ∙ ap (map item_of_entry) c.in_default.ensures.steps.0) in
    let most : length all ≤ n = omega (arith, none_left, length-drop n all) in let least : n ≤ length all = omega (arith, kept.enough, length-map c.args.items item_of_entry) in
    let whole : take (length c.args.out.now) all ≡ all = take_all (length c.args.out.now) all (omega (arith, most, kept.within, kept.room)) in
    omega (arith, most, least, ap length whole)

pub returns-in_default-clause-written : goal.returns-in_default-clause-written
returns-in_default-clause-written c =
    let all = map item_of_entry c.args.items in let n = c.loop-count.count in let kept = c.loop-count.invariant in
    let none_left = ap length (sym kept.left ∙ ap (map item_of_entry) c.in_default.ensures.steps.0) in
    all_written all c.args.out.now c.loop-count.out n kept.so_far kept.rest (omega (arith, none_left, length-drop n all)) (omega (arith, kept.enough, length-map c.args.items item_of_entry)) (omega (arith, kept.within, kept.room))

pub loop-count-preserved : goal.loop-count-preserved
loop-count-preserved c =
    let all = map item_of_entry c.args.items in let n = c.loop-count.count in let out = c.loop-count.out in let x = c.item_of_entry.result in let more = map item_of_entry c.next.new.self in
    let next : x ∷ more ≡ drop n all = (λ i. c.item_of_entry.ensures i ∷ more) ∙ sym (ap (map item_of_entry) c.in-Some.ensures.steps) ∙ c.loop-count.invariant.left in
    let long = ap length next in
    let in_all : n < length all = omega (arith, long, length-drop n all) in
    record {
      goes = tt;
      ends = tt;
      so_far = next_written all c.args.out.now out n x more c.loop-count.invariant.so_far next c.loop-count-test.true in_all;
      rest = behind_stays all c.args.out.now out n x c.loop-count.invariant.rest;
      left = one_less_left all c.args.out.now out n x more next;
      room = length-set out n x ∙ c.loop-count.invariant.room;
      within = omega (arith, length-set out n x, c.loop-count-test.true);
      enough = omega (arith, long, length-drop n all, length-map c.args.items item_of_entry);
    }
