use Rattle.std.proofs.Common.{◌+◌, List, Option, map, reverse, subst, sym, arith}
use Rattle.std.specs.Prelude.{Result}
use Rattle.std.specs.Global.{Vec}
use Rattle.engine.specs.declared.answer.Answer.{Answer}
use Rattle.engine.specs.declared.answer.Refused.{Refused}
use Rattle.worker_replay.specs.Runs.{Answers}
use Rattle.worker_replay.specs.Dealing.{AreAnswersTaken}
use Rattle.worker_replay.proofs.Turns.{Taking, taking_more, taking_stopped, taking_all}
use Rattle.worker_replay.proofs.dealing.collect.Goals as goal

abbrev kept : List (Vec (Result Answer Refused)) → List Answers
kept lists = map (λ (list : Vec (Result Answer Refused)). reverse list.items) lists

pub returns-in_default : goal.returns-in_default
returns-in_default c name events count dealt =
    taking_stopped name events c.loop.answers.items (kept c.loop.lists.items) (kept c.take_next.new.lists.items) c.loop.counter (c.loop.invariant name events dealt)
    (λ rest h. subst (λ (r : Option (Result Answer Refused)). AreAnswersTaken name rest r (kept c.take_next.new.lists.items)) c.in_default.is (c.take_next.ensures name rest h))

pub loop-preserved : goal.loop-preserved
loop-preserved c name events dealt =
    subst (λ (w : Answers). Taking name events w (kept c.take_next.new.lists.items) (c.loop.counter + 1)) (sym c.in_ok-push.ensures.items)
    (taking_more name events c.loop.answers.items (kept c.loop.lists.items) (kept c.take_next.new.lists.items) c.loop.counter c.in-Some.answer (c.loop.invariant name events dealt)
    (λ rest h. subst (λ (r : Option (Result Answer Refused)). AreAnswersTaken name rest r (kept c.take_next.new.lists.items)) c.in-Some.is (c.take_next.ensures name rest h)))

pub returns : goal.returns
returns c name events count dealt = taking_all name events c.loop.answers.items (kept c.loop.lists.items) c.loop.counter (c.loop.invariant name events dealt) (omega (arith, count, c.loop-test.false))
