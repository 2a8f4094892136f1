use Rattle.engine.proofs.Opening.{fault_over}
use Rattle.engine.proofs.engine.open_sound.Goals as goal

pub returns-in-Ok-clause-fault : goal.returns-in-Ok-clause-fault
returns-in-Ok-clause-fault g c = fault_over c.open_over.result c.args.base c.args.readers c.requires.sound c.requires.readers c.open_over.ensures.fault
