use Rattle.captured_lsas.proofs.Pieces.{other_recorded, other_noted}
use Rattle.captured_lsas.proofs.recorder.Recorder.take_body.Goals as goal

pub returns-in_default : goal.returns-in_default
returns-in_default c = record {
  recorded = other_recorded c.args.self.now c.args.packet.now.area c.args.packet.now.kind c.args.packet.now.body.now c.new.result.items c.in_default.not-LinkStateUpdate c.new.ensures.items;
  noted = other_noted c.args.self.now c.args.packet.now.area c.args.packet.now.kind c.args.packet.now.body.now c.in_default.not-LinkStateUpdate;
  stopped = tt {0};
}
