use Rattle.std.proofs.Common.{◌≡◌, ◌+◌, ◌-◌, length, reverse, ap, ◌∙◌, arith, vec_len}
use Rattle.std.specs.Global.{Vec}
use Rattle.event_state.specs.declared.event.Event.{Event}
use Rattle.worker_replay.proofs.Turns.{turned_and_dealt, backwards_more}
use Rattle.worker_replay.proofs.dealing.deal_before.Goals as goal

pub returns-clause-dealt : goal.returns-clause-dealt
returns-clause-dealt c events dealt =
    let lists = c.args.lists.now in
    let count : length lists.items ≡ (vec_len lists - 1) + 1 = omega (arith, lists.ok, c.requires) in
    turned_and_dealt (λ (list : Vec Event). reverse list.items) events c.args.event lists.items c.rotate_right.new.self.items c.index_mut.result.now c.push.new.self (vec_len lists - 1)
    count c.rotate_right.ensures.items c.index_mut.ensures.value (ap reverse c.in_ok-push.ensures.items ∙ backwards_more c.index_mut.result.now.items c.args.event) dealt
