use Rattle.std.proofs.Common.{◌<◌, List, length, map, reverse, subst, sym, arith, rules}
use Rattle.std.specs.Prelude.{Result}
use Rattle.std.specs.Global.{Vec}
use Rattle.engine.specs.declared.answer.Answer.{Answer}
use Rattle.engine.specs.declared.answer.Refused.{Refused}
use Rattle.worker_replay.specs.Dealing.{AreAnswersTaken}
use Rattle.worker_replay.proofs.Turns.{taken_and_turned}
use Rattle.worker_replay.proofs.dealing.take_next.Goals as goal

pub returns : goal.returns
returns c name events h =
    let lists : List (Vec (Result Answer Refused)) = c.args.lists.now.items in
    let was : Vec (Result Answer Refused) = c.index_mut.result.now in
    let some : 0 < length lists = search rules in
    subst (λ (turned : List (Vec (Result Answer Refused))). AreAnswersTaken name events c.pop-answer.result (map (λ (list : Vec (Result Answer Refused)). reverse list.items) turned)) (sym c.rotate_left.ensures.items)
    (taken_and_turned (λ (list : Vec (Result Answer Refused)). list.items) name events lists was c.pop-answer.new.self c.pop-answer.result some c.index_mut.ensures.value c.pop-answer.ensures.items
    (λ there. c.pop-answer.ensures.variant.1 (omega (arith, was.ok, there))) h)
