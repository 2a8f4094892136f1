use Rattle.cli_queries.proofs.Answering.{writes_lsa}
use Rattle.cli_queries.proofs.one_lookup.read_given.Goals as goal

pub returns-clause-say : goal.returns-clause-say
returns-clause-say c =
    let read = c.in_ok-input.ensures in
    let lsa = c.in_ok-lsa.ensures in
    record { router = read.router; area = read.area; address = read.address; lsa = writes_lsa _ _ _ _ read.lsa c.as_slice-bytes.ensures.value lsa.sound lsa.found; lookup = read.lookup }
