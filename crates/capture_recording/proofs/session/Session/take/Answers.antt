use Rattle.std.proofs.Common.{inl, inr}
use Rattle.std.proofs.lemmas.Result.{on_ok_weaker}
use Rattle.captures.specs.Positions.{shown_packet}
use Rattle.capture_recording.proofs.Taking.{takes_nothing, takes_fault, takes_whole}
use Rattle.capture_recording.proofs.session.Session.take.Goals as goal

pub returns-in-Other : goal.returns-in-Other
returns-in-Other c =
    takes_nothing c.args.self.now c.hear.new.self (shown_packet c.args.packet.now) c.in_ok-hear.field-0 c.in_ok-hear.ensures.heard c.in_ok-hear.ensures.counted c.in_ok-hear.ensures.others (inl c.in-Other.is)

pub returns-in-Fault : goal.returns-in-Fault
returns-in-Fault c =
    on_ok_weaker c.put_fault_note.result
    (takes_fault c.args.self.now c.hear.new.self (shown_packet c.args.packet.now) c.in_ok-hear.field-0 c.in_ok-hear.ensures.heard c.in_ok-hear.ensures.counted c.in_ok-hear.ensures.others c.in-Fault.fault _ c.in-Fault.is)
    c.put_fault_note.ensures

pub returns-in-Part : goal.returns-in-Part
returns-in-Part c =
    takes_nothing c.args.self.now c.hear.new.self (shown_packet c.args.packet.now) c.in_ok-hear.field-0 c.in_ok-hear.ensures.heard c.in_ok-hear.ensures.counted c.in_ok-hear.ensures.others (inr c.in-Part.is)

pub returns-in-Whole : goal.returns-in-Whole
returns-in-Whole c =
    on_ok_weaker c.take_payload.result
    (takes_whole c.args.self.now c.hear.new.self (shown_packet c.args.packet.now) c.in_ok-hear.field-0 c.in_ok-hear.ensures.heard c.in_ok-hear.ensures.counted c.in_ok-hear.ensures.others
    c.in-Whole.sender c.in-Whole.payload _ c.take_payload.new.self c.in-Whole.is c.bytes.ensures)
    c.take_payload.ensures
