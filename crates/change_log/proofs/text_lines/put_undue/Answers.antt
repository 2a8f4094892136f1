use Rattle.change_log.proofs.Texts.{undue_printed}
use Rattle.change_log.proofs.text_lines.put_undue.Goals as goal

pub returns : goal.returns
returns c = undue_printed _ _ _ _ c.args.number c.args.area c.args.due.kind c.args.due.dest c.requires c.in_ok-write.ensures.bytes c.in_ok-put_dest.ensures c.in_ok-push_str.ensures.bytes
