use Rattle.change_log.proofs.Texts.{due_printed}
use Rattle.change_log.proofs.text_lines.put_due.Goals as goal

pub returns : goal.returns
returns c = due_printed _ _ _ _ c.args.number c.args.area c.args.due.kind c.args.due.metric c.args.due.dest c.requires c.in_ok-write.ensures.bytes c.in_ok-put_dest.ensures c.in_ok-writeln.ensures.bytes
