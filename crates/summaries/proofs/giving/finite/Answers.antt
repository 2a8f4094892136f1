-- The entry leads through an area at a finite cost.
use Rattle.std.proofs.Common.{ap}
use Rattle.std.specs.Prelude.{option_copied}
use Rattle.summaries.proofs.Throughs.{entry_leads}
use Rattle.summaries.proofs.giving.finite.Goals as goal

pub returns-then-entry-lt-LS_INFINITY : goal.returns-then-entry-lt-LS_INFINITY
returns-then-entry-lt-LS_INFINITY c = entry_leads (option_copied c.args.entry) c.in_ok-entry.entry.now c.in_ok-area.area (ap option_copied c.in_ok-entry.was) c.in_ok-area.was c.if-entry-lt-LS_INFINITY.true
