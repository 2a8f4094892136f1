use Rattle.std.proofs.Common.{get_or}
use Rattle.std.specs.FinMap.{remove}
use Rattle.event_state.proofs.OneChange.{change_at, here_at}
use Rattle.event_state.proofs.area_databases.purge_at.Goals as goal

pub returns : goal.returns
returns c =
    let here = here_at c.args.databases.now c.args.place c.index-databases-place.result c.requires.within in
    change_at c.args.databases.now c.args.place (get_or c.args.databases.now c.args.place c.index-databases-place.result) c.purge.new.self (λ d. remove d c.args.key) here c.in-Ok.ensures.purged c.purge.ensures.limit
