use Rattle.std.proofs.Common.{sym, ◌∙◌}
use Rattle.intra.proofs.Nearest.{passes_router}
use Rattle.intra.proofs.Sourced.{takes_router, takes_network}
use Rattle.intra.proofs.choose.offer_source.Goals as goal

pub returns-in_ok-offer_stub-in-Router-clause-offered : goal.returns-in_ok-offer_stub-in-Router-clause-offered
returns-in_ok-offer_stub-in-Router-clause-offered c =
    takes_router c.args.network.now.inputs.now c.args.network.now.area.now c.args.network.now.prefix c.args.source.now c.in-Router.router c.args.best.now c.offer_stub.new.best (sym c.vertex.ensures ∙ c.in-Router.is) c.in_ok-offer_stub-in-Router.ensures

pub returns-in_ok-offer_stub-in-Router-clause-found : goal.returns-in_ok-offer_stub-in-Router-clause-found
returns-in_ok-offer_stub-in-Router-clause-found c = λ before p found. passes_router c.args.network.now.area.now p before c.args.source.now c.args.nearest c.in-Router.router (sym c.vertex.ensures ∙ c.in-Router.is) found

pub returns-in-Network-clause-offered : goal.returns-in-Network-clause-offered
returns-in-Network-clause-offered c = takes_network c.args.network.now.inputs.now c.args.network.now.area.now c.args.network.now.prefix c.args.source.now c.in-Network.field-0 c.args.best.now (sym c.vertex.ensures ∙ c.in-Network.is)

pub offer_stub-requires : goal.offer_stub-requires
offer_stub-requires c = sym c.vertex.ensures ∙ c.in-Router.is
