use Rattle.std.proofs.Common.{◌≡◌, Some, None, sym, ap, ◌∙◌, arith}
use Rattle.std.specs.FinMap.{get}
use Rattle.std.proofs.lemmas.Result.{on_ok_weaker}
use Rattle.spf.proofs.Offering.{queued, offer_told}
use Rattle.spf.proofs.relax.Pending.offer.Goals as goal

pub returns-in_default : goal.returns-in_default
returns-in_default c =
    on_ok_weaker c.put.result
    (λ put at here.
    let none : at c.args.vertex.now ≡ None = here ∙ c.in_default.is in
    queued at c.args.vertex.now c.args.distance c.args.self.now.queue c.put.new.self c.args.self.now.stale (λ d is. let wrong : Some d ≡ None = sym is ∙ none in absurd cc) put)
    c.put.ensures.put

pub returns-then-distance-least : goal.returns-then-distance-least
returns-then-distance-least c =
    on_ok_weaker c.put-then-distance-least.result
    (λ put at here.
    queued at c.args.vertex.now c.args.distance c.args.self.now.queue c.put-then-distance-least.new.self c.args.self.now.stale
    (λ d is. let number : c.in-Some.least ≡ d = let both : Some c.in-Some.least ≡ Some d = sym c.in-Some.is ∙ sym here ∙ is in cc in omega arith) put)
    c.put-then-distance-least.ensures.put

pub returns-in_ok-add : goal.returns-in_ok-add
returns-in_ok-add c = λ at here.
    offer_told at c.args.vertex.now c.args.distance (get c.args.self.now.queue) c.args.self.now.stale c.add.new.self
    (here ∙ c.in-Some.is ∙ ap Some (sym c.if-distance-least-2.true)) c.in_ok-add.ensures.added
