use Rattle.std.proofs.Common.{ap, ◌∙◌}
use Rattle.lsdb.specs.Databases.{ages_of}
use Rattle.lsdb.proofs.Seconds.{ages_are}
use Rattle.lsdb.proofs.database.Database.ages.Goals as goal

pub returns : goal.returns
returns c = c.deref.ensures.value ∙ ages_are c.self.invariant ∙ ap ages_of c.self.view_is
