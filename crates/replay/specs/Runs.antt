-- The run of a recording, line by line.
use Rattle.std.specs.Prelude.{ℕ, ◌≡◌, ◌+◌, ◌++◌, List, [], ◌∷◌, Result, Ok, Err}
use Rattle.event_state.specs.declared.base.Base.{Base}
use Rattle.event_state.specs.declared.refusal.Refusal.{Refusal}
use Rattle.event_state.specs.States.{serial_of}
use Rattle.event_state.specs.Steps.{standard_limits}
use Rattle.output_lines.specs.declared.format.Format.{Format}
use Rattle.route_table.specs.declared.table.Match.{Match}
use Rattle.route_table.specs.Tables.{IsMatch}
use Rattle.event_core.specs.declared.reply.Reply.{Reply}
use Rattle.event_core.specs.Cores.{CoreValue, Applies, IsCore, IsCurrent, IsOpening, IsRollRefusal, Rolls, state_of}
use Rattle.recording.specs.declared.line.Line.{Line}
use Rattle.recording.specs.declared.line.Line.TheVariants as line
use Rattle.replay.specs.Lines.{lookup_line, answer_line, roll_line}

-- the answer to an event or to a roll
pub data Answer : Type 0 where
  OfEvent : (given : Result Reply Refusal) → Answer
  OfRoll : (given : Result ℕ Refusal) → Answer

-- the answers to events and rolls, one after the other
abbrev pub Answers : Type 0
Answers = List Answer

-- A core whose table and due summaries reflect the whole journal is rolled, and returns its serial.
-- A refusal changes nothing.
abbrev pub RollsBy : CoreValue → Result ℕ Refusal → CoreValue → Type 0
RollsBy old (Ok serial) new = IsCurrent old × Rolls old new × (serial ≡ serial_of (state_of old))
RollsBy old (Err refusal) new = IsRollRefusal old refusal × (new ≡ old)

-- the line leads from one core to the other with this answer
abbrev pub IsLineAnswered : CoreValue → Line → Answer → CoreValue → Type 0
IsLineAnswered old (line.Event e) (OfEvent given) new = Applies old e given new
IsLineAnswered old line.Roll (OfRoll given) new = RollsBy old given new
IsLineAnswered old (line.Event e) (OfRoll given) new = ⊥
IsLineAnswered old line.Roll (OfEvent given) new = ⊥
IsLineAnswered old (line.Lookup address) answer new = ⊥

-- its printed line
abbrev pub text_of_answer : Format → ℕ → Answer → List ℕ
text_of_answer format number (OfEvent given) = answer_line format number given
text_of_answer format number (OfRoll given) = roll_line format number given

-- From one core to the other, over lines with these numbers: each event and each roll has its
-- answer, and this is printed.
abbrev pub Prints : Format → CoreValue → ℕ → List Line → Answers → List ℕ → CoreValue → Type 0
Prints format old number [] [] text new = (text ≡ []) × (new ≡ old)
Prints format old number [] (answer ∷ answers) text new = ⊥
Prints format old number (line.Lookup address ∷ lines) answers text new =
    (found : Match) × (rest : List ℕ) × IsMatch old.table.items address found × (text ≡ lookup_line format number address old.table.serial found ++ rest)
    × Prints format old (number + 1) lines answers rest new
Prints format old number (line.Event e ∷ lines) [] text new = ⊥
Prints format old number (line.Event e ∷ lines) (answer ∷ answers) text new =
    (mid : CoreValue) × (rest : List ℕ) × IsLineAnswered old (line.Event e) answer mid × (text ≡ text_of_answer format number answer ++ rest) × Prints format mid (number + 1) lines answers rest new
Prints format old number (line.Roll ∷ lines) [] text new = ⊥
Prints format old number (line.Roll ∷ lines) (answer ∷ answers) text new =
    (mid : CoreValue) × (rest : List ℕ) × IsLineAnswered old line.Roll answer mid × (text ≡ text_of_answer format number answer ++ rest) × Prints format mid (number + 1) lines answers rest new

-- the start of a run: the base, no event since, and the table of the base
pub record IsOpened (base : Base) (c : CoreValue) : Type 0 where
  pub opening : IsOpening base standard_limits c
  pub core : IsCore c
