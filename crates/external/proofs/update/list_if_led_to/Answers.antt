-- It is added, or nothing leads to it.
use Rattle.std.proofs.Common.{true≢false, sym, subst, ◌∙◌}
use Rattle.advertised_index.specs.Indexes.{IsLedTo}
use Rattle.route_choice.proofs.Adding.{gains_none, gains_one}
use Rattle.external.specs.Updating.{IsAlso}
use Rattle.external.proofs.update.list_if_led_to.Goals as goal

pub returns-then-not-leads_to : goal.returns-then-not-leads_to
returns-then-not-leads_to c =
    gains_none (IsAlso c.args.index.now c.args.dest.now) c.args.leading.now.items (λ d also. true≢false (sym (c.leads_to.ensures.1 (subst (IsLedTo c.args.index.now) also.0 also.1)) ∙ c.if-not-leads_to.true))

pub returns : goal.returns
returns c = gains_one (IsAlso c.args.index.now c.args.dest.now) c.args.leading.now.items c.push.new.self.items c.args.dest.now c.in_ok-push.ensures.items (λ d also. also.0)
