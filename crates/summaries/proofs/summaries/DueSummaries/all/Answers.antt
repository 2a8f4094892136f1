use Rattle.std.proofs.lemmas.Result.{IfOk-weaker}
use Rattle.summaries.proofs.Untouched.{alike_all, lists_now}
use Rattle.summaries.proofs.summaries.DueSummaries.all.Goals as goal

pub returns-clause-enough : goal.returns-clause-enough
returns-clause-enough c = IfOk-weaker c.sorted_unique.result _ _ (λ found are_same before were same.
    alike_all c.in_ok-found.found.items c.push_own.new.dests.items found.items before c.args.inputs.now c.args.self.now c.in_ok-found.ensures c.in_ok-push_own.ensures are_same
    (lists_now before c.args.inputs.now c.args.self.now.areas same were.lists)) c.sorted_unique.ensures.same
