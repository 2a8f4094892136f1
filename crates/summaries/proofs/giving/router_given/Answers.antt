-- The preferred route gives it, and nothing else.
use Rattle.summaries.proofs.GivenParts.{router_gives}
use Rattle.summaries.proofs.giving.router_given.Goals as goal

pub returns : goal.returns
returns c = λ area. router_gives area _ c.preferred_through.result c.preferred_through.ensures
