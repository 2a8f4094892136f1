use Rattle.std.proofs.Common.{get_or}
use Rattle.std.specs.FinMap.{insert}
use Rattle.ospf_types.specs.Lsa.{key_of}
use Rattle.event_state.proofs.OneChange.{change_at, here_at, both_ok}
use Rattle.event_state.proofs.area_databases.put_at.Goals as goal

pub returns-clause-done : goal.returns-clause-done
returns-clause-done c =
    let here = here_at c.args.databases.now c.args.place c.index-databases-place.result c.requires.within in
    both_ok c.put.result
    (λ installed limit. change_at c.args.databases.now c.args.place (get_or c.args.databases.now c.args.place c.index-databases-place.result) c.put.new.self (λ d. insert d (key_of c.args.lsa) c.args.lsa) here installed limit)
    c.put.ensures.installed c.put.ensures.limit
