use Rattle.std.proofs.Common.{ℕ, subst}
use Rattle.std.specs.Prelude.{OnOk}
use Rattle.graph_links.specs.Pairs.{AddsToList, IsWay}
use Rattle.graph_links.proofs.parallel_links.list_over.Goals as goal

pub returns-then-router-local : goal.returns-then-router-local
returns-then-router-local c =
    subst (λ (root : ℕ). OnOk c.list_over_interfaces.result (AddsToList c.args.ways.now.items c.list_over_interfaces.new.ways.items (IsWay root c.args.local.interfaces.now c.args.router c.args.end))) c.if-router-local.true c.list_over_interfaces.ensures
