-- One route more.
use Rattle.std.proofs.Common.{List, ℕ, sym, subst, ◌∙◌}
use Rattle.std.proofs.lemmas.List.{take_all}
use Rattle.ospf_types.specs.declared.prefix.Prefix.{Prefix}
use Rattle.ospf_types.proofs.KeyOrders.{prefixes_decided}
use Rattle.static_routes.specs.Routes.{IsRouteConfigured, IsLeast}
use Rattle.static_routes.proofs.Least.{least_first, least_more}
use Rattle.static_routes.proofs.routes.least_of.Goals as goal

pub loop-other-init : goal.loop-other-init
loop-other-init c = least_first c.args.configured.now c.args.network

pub loop-other-preserved : goal.loop-other-preserved
loop-other-preserved c =
    let x = c.loop-other-item.result in
    let decided = prefixes_decided x.0 c.args.network in
    least_more c.args.configured.now c.args.network c.loop-other.other-index x c.loop-other.least c.least_with-least.result c.eq.result c.loop-other-test.true c.loop-other-item.is
    (λ yea. decided.0 (sym c.eq.ensures ∙ yea), λ same. c.eq.ensures ∙ decided.1 same) c.least_with-least.ensures.other c.least_with-least.ensures.its c.loop-other.invariant

pub returns : goal.returns
returns c = subst (λ (rs : List (Prefix × ℕ)). IsLeast (IsRouteConfigured rs c.args.network) c.loop-other.least) (take_all c.loop-other.other-index c.args.configured.now c.loop-other-test.false) c.loop-other.invariant
