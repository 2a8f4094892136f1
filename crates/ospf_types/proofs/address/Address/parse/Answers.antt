use Rattle.ospf_types.proofs.Addresses.{parsed_refused, parsed_spelled}
use Rattle.ospf_types.proofs.address.Address.parse.Goals as goal

pub returns-in_err-address-clause-refused : goal.returns-in_err-address-clause-refused
returns-in_err-address-clause-refused c none address fits same =
    parsed_refused c.parse.result c.args.text.now c.parse.ensures.value c.in_err-address.ensures.variant address fits same

pub returns-clause-spelled : goal.returns-clause-spelled
returns-clause-spelled c =
    rw c.to_bits.ensures (parsed_spelled c.parse.result c.args.text.now c.in_ok-address.address c.parse.ensures.value c.in_ok-address.ensures.value)
