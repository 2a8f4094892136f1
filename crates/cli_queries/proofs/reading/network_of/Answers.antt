use Rattle.std.proofs.Common.{arith, refl}
use Rattle.cli_queries.proofs.Networks.{network_some, no_address, no_length, no_network, no_parts}
use Rattle.cli_queries.proofs.reading.network_of.Goals as goal

pub returns-in_err-address-clause-none : goal.returns-in_err-address-clause-none
returns-in_err-address-clause-none c none = no_parts c.args.word.now c.split_once.result c.split_once.ensures.cases c.in_err-address.was

pub returns-in_err-address-2-clause-none : goal.returns-in_err-address-2-clause-none
returns-in_err-address-2-clause-none c none =
    no_address c.args.word.now c.split_once.result c.split_once.ensures.cases c.in_ok-address.address c.in_ok-address.length c.in_ok-address.was (c.in_err-address-2.ensures.refused refl)

pub returns-in_err-length-clause-none : goal.returns-in_err-length-clause-none
returns-in_err-length-clause-none c none =
    no_length c.args.word.now c.split_once.result c.split_once.ensures.cases c.in_ok-address.address c.in_ok-address.length c.in_ok-address.was (c.in_err-length.ensures.none refl)

pub returns-clause-some : goal.returns-clause-some
returns-clause-some c =
    network_some c.args.word.now c.split_once.result c.split_once.ensures.cases c.in_ok-address.address c.in_ok-address.length c.in_ok-address.was
    c.in_ok-address-2.address.0 c.in_ok-length.length (omega arith) c.in_ok-address-2.ensures.spelled c.in_ok-length.ensures.some c.prefix_of.result c.prefix_of.ensures.some

pub returns-clause-none : goal.returns-clause-none
returns-clause-none c none =
    no_network c.args.word.now c.split_once.result c.split_once.ensures.cases c.in_ok-address.address c.in_ok-address.length c.in_ok-address.was
    c.in_ok-address-2.address.0 c.in_ok-length.length (omega arith) c.in_ok-address-2.ensures.spelled c.in_ok-length.ensures.some (c.prefix_of.ensures.none none)
