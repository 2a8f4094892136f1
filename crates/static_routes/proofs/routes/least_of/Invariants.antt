-- The least of those up to here.
use Rattle.std.proofs.Common.{take}
use Rattle.static_routes.specs.Routes.{IsRouteConfigured, IsLeast}
use Rattle.static_routes.proofs.routes.least_of.Given as goal

abbrev pub invariant-loop-other : goal.invariant-loop-other
invariant-loop-other l = IsLeast (IsRouteConfigured (take l.other-index l.configured) l.network) l.least
