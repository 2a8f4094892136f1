use Rattle.std.proofs.Common.{string_bytes, sym, ◌∙◌}
use Rattle.std.proofs.lemmas.List.{nil_from_length}
use Rattle.std.specs.Vec.Iter.{into_iter_items}
use Rattle.worker_replay.proofs.Printed.{printing_more, printing_all}
use Rattle.worker_replay.proofs.printing.Outcome.put_lines.Goals as goal

pub loop-ask-preserved : goal.loop-ask-preserved
loop-ask-preserved c =
    printing_more c.args.self.format c.args.self.seen.now.table c.args.self.seen.now.table.serial c.args.first c.args.asks.items c.args.replies.now c.args.self.rolled (string_bytes c.args.text.now) c.in-Some.ask (into_iter_items c.loop-ask.ask-iterator)
    (into_iter_items c.next.new.self) c.loop-ask.left.now c.in_ok-left.left.now c.loop-ask.number (string_bytes c.loop-ask.text) (string_bytes c.put_line.new.text)
    c.loop-ask.invariant c.in-Some.ensures.steps.0 c.in_ok-left.ensures

pub returns : goal.returns
returns c =
    printing_all c.args.self.format c.args.self.seen.now.table c.args.self.seen.now.table.serial c.args.first c.args.asks.items c.args.replies.now c.args.self.rolled (string_bytes c.args.text.now) (into_iter_items c.loop-ask.ask-iterator) c.loop-ask.left.now
    c.loop-ask.number (string_bytes c.loop-ask.text) c.loop-ask.invariant (nil_from_length (into_iter_items c.loop-ask.ask-iterator) (sym c.loop-ask.ask-iterator.rest.ok.0 ∙ c.in-None.ensures.steps.0))
