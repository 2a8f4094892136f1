use Rattle.std.proofs.Common.{ap, ◌∙◌}
use Rattle.std.specs.FinMap.{get}
use Rattle.intra.specs.Intras.{AreaIntraValue}
use Rattle.intra.proofs.area.AreaIntra.router.Goals as goal

pub returns : goal.returns
returns c = c.get.ensures.value ∙ ap (λ (a : AreaIntraValue). get a.reached c.args.router) c.self.view_is
