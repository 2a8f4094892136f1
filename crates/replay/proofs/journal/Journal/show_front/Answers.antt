use Rattle.std.proofs.Common.{◌++◌, OnOk, IfErr, string_bytes}
use Rattle.replay.specs.Pages.{AddsLines, AddsPart}
use Rattle.replay.specs.Stops.{AreWholeLines}
use Rattle.replay.proofs.Recorded.{front_put, front_shown}
use Rattle.replay.proofs.journal.Journal.show_front.Goals as goal

pub returns-in_ok-append_preamble-in-Text-clause-ok : goal.returns-in_ok-append_preamble-in-Text-clause-ok
returns-in_ok-append_preamble-in-Text-clause-ok g c = front_put c.args.format _ _ _ c.args.self.version c.base.result.now _ c.in-Text.is c.base.ensures.value c.in_ok-append_preamble-in-Text.ensures.text

pub returns-in_ok-append_preamble-in-Json-clause-ok : goal.returns-in_ok-append_preamble-in-Json-clause-ok
returns-in_ok-append_preamble-in-Json-clause-ok g c =
    front_shown (λ l. OnOk c.show_recorded.result (AddsLines (g.W.Write.contents c.args.out.now) (g.W.Write.contents c.show_recorded.new.out) (string_bytes c.args.buffer.now) (string_bytes c.show_recorded.new.buffer) l))
    c.args.format c.args.self.version c.base-in-Json.result.now _ _ _ _ c.in-Json.is c.base-in-Json.ensures.value c.as_str.ensures.value c.in_ok-append_preamble-in-Json.ensures.text
    c.new-front.ensures.bytes c.in_ok-append_preamble-in-Json.ensures.forms c.show_recorded.ensures.ok

pub returns-in_ok-append_preamble-in-Json-clause-err : goal.returns-in_ok-append_preamble-in-Json-clause-err
returns-in_ok-append_preamble-in-Json-clause-err g c =
    front_shown (λ l. AreWholeLines (string_bytes c.args.buffer.now)
    → IfErr c.show_recorded.result (λ why. AddsPart why (g.W.Write.contents c.args.out.now) (g.W.Write.contents c.show_recorded.new.out) (string_bytes c.args.buffer.now ++ l)))
    c.args.format c.args.self.version c.base-in-Json.result.now _ _ _ _ c.in-Json.is c.base-in-Json.ensures.value c.as_str.ensures.value c.in_ok-append_preamble-in-Json.ensures.text
    c.new-front.ensures.bytes c.in_ok-append_preamble-in-Json.ensures.forms c.show_recorded.ensures.err
