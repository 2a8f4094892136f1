-- Only networks with a static route may have one.
use Rattle.std.proofs.Common.{ℕ, List, sym, ap, subst, ◌∙◌}
use Rattle.std.specs.FinMap.{from_entries, get, get-empty}
use Rattle.ospf_types.specs.declared.prefix.Prefix.{Prefix}
use Rattle.ospf_types.specs.Network.{network_cmp}
use Rattle.static_routes.specs.Routes.{IsRouteOf}
use Rattle.static_routes.proofs.Least.{unconfigured}
use Rattle.static_routes.proofs.routes.StaticRoutes.build.Goals as goal

pub update-requires : goal.update-requires
update-requires c = λ p absent.
    subst (IsRouteOf c.args.inputs.now.configured.now c.args.inputs.now.taken.now p) (sym (ap (λ (es : List (Prefix × ℕ)). get (from_entries {R = network_cmp} es) p) c.new.ensures ∙ get-empty network_cmp p))
    (unconfigured c.args.inputs.now.configured.now c.args.inputs.now.taken.now c.in_ok-networks.networks.items p c.in_ok-networks.ensures absent)
