use Rattle.input_reading.proofs.LineFeeds.{up_to}
use Rattle.input_reading.proofs.line.gather_line.Goals as goal

pub returns : goal.returns
returns c =
    up_to c.memchr-place.result c.args.bytes.now c.args.line.now.items c.gather.new.line.items c.args.tail.now c.gather.new.tail c.unwrap_or.result
    c.memchr-place.ensures c.unwrap_or.ensures c.in_ok-gather.ensures
