use Rattle.std.proofs.Common.{◌∙◌}
use Rattle.explanation.proofs.Searching.{is_found}
use Rattle.explanation.proofs.networks.NetworkSet.has.Goals as goal

pub returns : goal.returns
returns c = c.is_some.ensures ∙ is_found c.args.self.now c.args.network c.place.result c.place.ensures.some c.place.ensures.none
