use Rattle.std.proofs.Common.{◌++◌, ap, ◌∙◌}
use lib.Utf8.{encode}
use Rattle.recording.specs.Forms.{line_text}
use Rattle.recording.specs.Recordings.{event_form, ended}
use Rattle.replay.proofs.lines.put_event.Goals as goal

-- the line ends with a line feed
pub unreachable-requires : goal.unreachable-requires
unfolding encode
unreachable-requires c =
    let form = event_form c.args.event.now in
    c.in_default.ensures.cases (line_text form) (c.deref.ensures ∙ c.in_ok-append_event-in-Json.ensures.text ∙ ap (λ l. l ++ ended form) c.new-ended.ensures.bytes)
