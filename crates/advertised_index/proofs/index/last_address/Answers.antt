use Rattle.std.proofs.Common.{◌∙◌, arith}
use Rattle.std.proofs.Math.Facts.{Fits-of_lt}
use Rattle.advertised_index.proofs.LastAddresses.{last_small}
use Rattle.advertised_index.proofs.index.last_address.Goals as goal

pub overflow_add-result : goal.overflow_add-result
overflow_add-result c =
    let n = c.args.network in
    Fits-of_lt (last_small c.address.result n.length c.from-host.result (c.from-host.ensures ∙ c.length.ensures.value) (omega (arith, c.length.ensures.bound, c.length.ensures.value)) c.if-host-eq32.false c.address.type_inv c.address.ensures.masked)
