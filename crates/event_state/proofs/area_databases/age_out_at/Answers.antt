use Rattle.std.proofs.Common.{get_or}
use Rattle.lsdb.specs.Databases.{aged_out}
use Rattle.event_state.proofs.OneChange.{change_at, here_at}
use Rattle.event_state.proofs.area_databases.age_out_at.Goals as goal

pub returns-in-Ok-clause-done : goal.returns-in-Ok-clause-done
returns-in-Ok-clause-done c =
    let here = here_at c.args.databases.now c.args.place c.index-databases-place.result c.requires in
    change_at c.args.databases.now c.args.place (get_or c.args.databases.now c.args.place c.index-databases-place.result) c.age_out.new.self (λ d. aged_out d c.args.key) here c.age_out.ensures.aged c.age_out.ensures.limit

pub returns-in-Err-clause-done : goal.returns-in-Err-clause-done
returns-in-Err-clause-done c =
    let here = here_at c.args.databases.now c.args.place c.index-databases-place.result c.requires in
    change_at c.args.databases.now c.args.place (get_or c.args.databases.now c.args.place c.index-databases-place.result) c.age_out.new.self (λ d. aged_out d c.args.key) here c.age_out.ensures.aged c.age_out.ensures.limit
