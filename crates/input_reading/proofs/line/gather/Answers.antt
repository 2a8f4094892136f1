use Rattle.std.proofs.Common.{◌≡◌, ◌-◌, min, length, rules}
use Rattle.input_reading.proofs.Gathering.{gathered}
use Rattle.input_reading.specs.declared.line.TheConstants.{LONGEST}
use Rattle.input_reading.proofs.line.gather.Goals as goal

pub returns : goal.returns
returns c = λ raw was.
    let so_much : c.min-room.result ≡ min (LONGEST - length c.args.line.now.items) (length c.args.bytes.now) = search rules in
    gathered raw c.args.bytes.now c.args.line.now.items c.extend_from_slice.new.self.items c.args.tail.now c.with.result c.min-room.result so_much
    was c.in_ok-extend_from_slice.ensures.items c.with.ensures
