use Rattle.std.proofs.Common.{sym, ◌∙◌}
use Rattle.std.proofs.lemmas.List.{nil_from_length}
use Rattle.std.specs.Global.{Vec}
use Rattle.std.specs.Vec.Iter.{into_iter_items}
use Rattle.worker_replay.proofs.Turns.{reversing_more, reversing_all, back_again}
use Rattle.worker_replay.proofs.dealing.each_reversed.Goals as goal

pub loop-list-preserved : goal.loop-list-preserved
loop-list-preserved g c =
    reversing_more (λ (list : Vec g.row.T.Denot). list.items) c.args.lists.items (into_iter_items c.loop-list.list-iterator) (into_iter_items c.next.new.self) c.loop-list.now.items c.push.new.self.items c.in-Some.list c.reversed.result
    c.loop-list.invariant c.in-Some.ensures.steps.0 c.reversed.ensures c.in_ok-push.ensures.items

pub returns-clause-backwards : goal.returns-clause-backwards
returns-clause-backwards g c =
    back_again (λ (list : Vec g.row.T.Denot). list.items) c.loop-list.now.items c.args.lists.items
    (reversing_all (λ (list : Vec g.row.T.Denot). list.items) c.args.lists.items (into_iter_items c.loop-list.list-iterator) c.loop-list.now.items c.loop-list.invariant
    (nil_from_length (into_iter_items c.loop-list.list-iterator) (sym c.loop-list.list-iterator.rest.ok.0 ∙ c.in-None.ensures.steps.0)))
