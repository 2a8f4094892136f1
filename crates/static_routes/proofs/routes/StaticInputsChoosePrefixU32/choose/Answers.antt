-- Another route stands, or the least that is configured is chosen.
use Rattle.std.proofs.Common.{true≢false, sym, ◌∙◌}
use Rattle.std.proofs.lemmas.List.{get_or_default}
use Rattle.std.proofs.lemmas.List.Elements.{contains_decides}
use Rattle.ospf_types.proofs.KeyOrders.{prefixes_equal, prefixes_decided}
use Rattle.static_routes.proofs.Least.{route_of}
use Rattle.static_routes.proofs.routes.StaticInputsChoosePrefixU32.choose.Goals as goal

pub returns : goal.returns
returns c =
    let taken = c.args.self.now.taken.now in
    let key = c.args.key in
    route_of c.args.self.now.configured.now taken key
    (λ there. true≢false (sym ((contains_decides prefixes_equal prefixes_decided taken key c.contains.result c.contains.ensures.cases).1 (there.0, there.1, λ d. get_or_default taken there.0 d key there.1 ∙ there.2)) ∙ c.if-contains.false))
    c.least_of.result c.least_of.ensures

pub returns-then-contains : goal.returns-then-contains
returns-then-contains c = λ m offered.
    let taken = c.args.self.now.taken.now in
    let there = (contains_decides prefixes_equal prefixes_decided taken c.args.key c.contains.result c.contains.ensures.cases).0 c.if-contains.true in
    offered.0 (there.0, there.1, there.2 c.args.key)
