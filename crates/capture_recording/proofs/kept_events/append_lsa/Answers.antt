use Rattle.std.proofs.Common.{rules}
use Rattle.capture_recording.proofs.Keeping.{lsa_at, own_bytes}
use Rattle.capture_recording.proofs.kept_events.append_lsa.Goals as goal

pub returns-in-Ok-Ok-clause-place : goal.returns-in-Ok-Ok-clause-place
returns-in-Ok-Ok-clause-place c =
    lsa_at c.args.bytes.now.items c.write.new.out.items c.args.lsa.now c.in_ok-write.ensures.ok c.in-Ok-Ok.start c.in-Ok-Ok.size (search rules) (search rules) c.write.ensures.sound c.write.ensures.spells

pub returns-in-Ok-Ok-clause-bytes : goal.returns-in-Ok-Ok-clause-bytes
returns-in-Ok-Ok-clause-bytes c =
    own_bytes c.args.bytes.now.items c.write.new.out.items c.args.lsa.now c.in_ok-write.ensures.ok (search rules)
