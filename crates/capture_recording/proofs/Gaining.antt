-- The case of no events.
use Rattle.std.proofs.Common.{List, [], ℕ, sym, append-nil}
use Rattle.std.proofs.lemmas.List.Elements.{All-nil}
use Rattle.capture_recording.specs.Events.{IsRecordable, AreAppended}

pub appended_none : (old : List ℕ) → AreAppended old old []
appended_none old = record { text = sym (append-nil old); each = All-nil IsRecordable }
