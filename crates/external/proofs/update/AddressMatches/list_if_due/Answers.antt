-- It is added, or its match is longer.
use Rattle.std.proofs.Common.{ℕ, Option, true≢false, sym, subst, ◌∙◌}
use Rattle.std.specs.FinMap.{get}
use Rattle.route_choice.proofs.Adding.{gains_none, gains_one}
use Rattle.external.specs.Forwards.{ForwardValue, forwards_in}
use Rattle.external.specs.Updating.{IsAddressAffected, IsNoShorter}
use Rattle.external.proofs.update.AddressMatches.list_if_due.Goals as goal

pub returns-then-not-is_no_shorter : goal.returns-then-not-is_no_shorter
returns-then-not-is_no_shorter c =
    let forwards = forwards_in c.args.self.now.forwards.now in
    gains_none (IsAddressAffected forwards c.args.network c.args.address) c.args.due.now.items
    (λ a due.
    let here = subst (λ (n : ℕ). IsNoShorter (get forwards n) c.args.network) due.0 due.1 in
    true≢false (sym (c.is_no_shorter.ensures.1 (subst (λ (o : Option ForwardValue). IsNoShorter o c.args.network) (sym c.get.ensures.value) here)) ∙ c.if-not-is_no_shorter.true))

pub returns : goal.returns
returns c = gains_one (IsAddressAffected (forwards_in c.args.self.now.forwards.now) c.args.network c.args.address) c.args.due.now.items c.push.new.self.items c.args.address c.in_ok-push.ensures.items (λ a due. due.0)
