use Rattle.std.proofs.Common.{sym, ap, ◌∙◌, not}
use Rattle.std.specs.Prelude.{is_none}
use Rattle.recording.proofs.BaseSound.{sound_told}
use Rattle.recording.proofs.recording.is_sound.Goals as goal

pub returns-then-is_none : goal.returns-then-is_none
returns-then-is_none c =
    let none = ap is_none (sym c.fault_in.ensures) ∙ ap not (c.is_none.ensures ∙ ap not c.if-is_none.true) in
    sound_told c.args.base.now c.requires none c.is_fit.result c.is_fit.ensures
