-- The printed text of a refused event: number and name.
use Rattle.std.specs.Prelude.{ℕ, List}
use Rattle.event_state.specs.Texts.{refusal_text}
use Rattle.engine.specs.declared.answer.Refused.{Refused}

abbrev pub refused_text : Refused → List ℕ
refused_text r = refusal_text r.refusal
