use Rattle.cli_queries.proofs.Learning.{accepted, refused_so, taken}
use Rattle.cli_queries.proofs.one_lookup.submit.Goals as goal

pub returns-in-Some-clause-known : goal.returns-in-Some-clause-known
returns-in-Some-clause-known g c =
    taken c.args.engine.now c.args.event c.in-Ok.field-0 c.in-Some.told c.args.forwarder c.args.count c.learn.result c.in-Ok.ensures c.in-Some.is c.requires.name
    c.requires.count c.learn.ensures.name c.learn.ensures.learned c.learn.ensures.count

pub returns-in-Some-clause-accepted : goal.returns-in-Some-clause-accepted
returns-in-Some-clause-accepted g c =
    accepted c.args.engine.now c.args.event c.in-Ok.field-0 c.in-Some.told c.args.forwarder c.args.count c.learn.result c.requires.first c.requires.few c.in-Ok.ensures c.in-Some.is
    c.requires.count c.learn.ensures.learned c.learn.ensures.count

pub returns-else-is_full-clause-fault : goal.returns-else-is_full-clause-fault
returns-else-is_full-clause-fault g c =
    let learned = c.in_ok-learn-in-Some-told.ensures in
    refused_so c.args.engine.now c.args.event c.in-Err.field-0 c.in-Some-told.told c.args.forwarder.known c.in_ok-learn-in-Some-told.field-0.known c.args.count c.requires.first c.requires.few
    (λ full. let on = c.if-is_full.ensures.1 full in let off = c.if-is_full.false in absurd cc) c.in-Err.ensures c.in-Some-told.is c.requires.count learned.learned learned.count
