use Rattle.std.proofs.Common.{string_bytes, take, map}
use Rattle.ospf_types.specs.declared.config.Range.{Range}
use Rattle.recording.specs.Forms.{RangeLine}
use Rattle.recording.proofs.Pieces.{Appended}
use Rattle.recording.proofs.printing.append_area.Given as goal

abbrev pub invariant-loop-range : goal.invariant-loop-range
invariant-loop-range l =
    Appended (string_bytes l.initial.out) (string_bytes l.out) (map (λ (range : Range). RangeLine l.area.id range) (take l.range-index l.range-items))
