use Rattle.publication.proofs.Rules.{enters}
use Rattle.publication.proofs.forwarder.Forwarder.lookup.Goals as goal

pub enter_as-requires : goal.enter_as-requires
enter_as-requires c = enters _ _
