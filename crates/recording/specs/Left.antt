-- The lines that a reader has left.
use Rattle.std.specs.Prelude.{ℕ, ◌≡◌, ◌+◌, List, [], ◌∷◌, Option, Some, None, Result, IfOk, IfSome, drop, length}
use Rattle.ospf_types.specs.declared.key.Scope.{Scope}
use Rattle.ospf_types.specs.Lsa.{Lsa}
use Rattle.event_state.specs.Bases.{lsas_under}
use Rattle.recording.specs.declared.base_lines.BaseLines.{BaseLines}
use Rattle.recording.specs.Places.{last_of}
use Rattle.event_state.specs.declared.base.Base.{Base}
use Rattle.recording.specs.declared.fault.Fault.{Fault}
use Rattle.recording.specs.declared.fault.LineFault.{LineFault}
use Rattle.recording.specs.declared.header.Setting.{Setting}
use Rattle.recording.specs.declared.reader.Lines.{Lines}
use Rattle.recording.specs.declared.version.Version.{Version}
use Rattle.recording.specs.Faults.{parts_of, EndsHeader}
use Rattle.recording.specs.Forms.{Form, VersionLine, RouterLine, CompatLine}
use Rattle.recording.specs.Progress.{HasRead, HasHeader, HasLines, EndsBase, headed_base, with_has}
use Rattle.recording.specs.Recordings.{RecordingValue, CanSpell, first_forms}

-- how many of a base's LSAs have the scope of the last one
abbrev pub row_at : List (Scope × Lsa) → Option (Scope × Lsa) → ℕ
row_at lsas None = 0
row_at lsas (Some last) = length (lsas_under lsas last.0)

-- the row belongs to the last LSA
abbrev pub IsCounted : BaseLines → Type 0
IsCounted b = b.row ≡ row_at b.base.lsas (last_of b.base.lsas)

-- the base has what the line adds, and nothing else changed in it
abbrev pub AddsForm : (old new : BaseLines) → Form → Type 0
AddsForm old new form = new.base ≡ with_has old.base form

-- what is left of the text
abbrev pub left_in : Lines → List ℕ
left_in lines = drop lines.start lines.text.now

-- its lines, and what comes after the last line feed
abbrev pub parts_left : Lines → List (List ℕ)
parts_left lines = parts_of (left_in lines)

-- the line is the next one that was left, and these are left after it
abbrev pub IsNextLine : Lines → List ℕ → Lines → Type 0
IsNextLine lines line after = parts_left lines ≡ line ∷ parts_left after

-- a fault of the next line
abbrev pub fault_at : Lines → Fault → LineFault
fault_at lines f = record { line = lines.taken + 1; fault = f }

-- The fact holds of what is left after one more line, if there is one and it has no fault.
abbrev pub IfMore : {E : Type 0} → Result (Option Lines) E → (Lines → Type 0) → Type 0
IfMore read Holds = IfOk read (λ next. IfSome next Holds)

-- the lines taken say these forms, and no more
abbrev pub HasReadAt : Version → Lines → List Form → Type 0
HasReadAt v lines forms = HasRead v lines.text.now lines.taken (parts_left lines) forms

-- the version and the Router ID are read
abbrev pub HasRouterAt : Version → Lines → (router : ℕ) → Type 0
HasRouterAt v lines router = HasReadAt v lines (VersionLine v ∷ RouterLine router ∷ [])

-- the version, the Router ID and the setting of RFC1583Compatibility are read
abbrev pub HasCompatAt : Version → Lines → Setting → Type 0
HasCompatAt v lines setting = HasReadAt v lines (VersionLine v ∷ RouterLine setting.router ∷ CompatLine setting.compat ∷ [])

-- the first lines are read, and set this
abbrev pub HasSettingAt : Version → Lines → Setting → Type 0
HasSettingAt v lines setting = HasReadAt v lines (first_forms v (headed_base setting [])) × CanSpell v (headed_base setting [])

-- the lines taken are a header as far as it goes, and say this base
abbrev pub HasHeaderAt : Version → Lines → Base → Type 0
HasHeaderAt v lines b = HasHeader v lines.text.now lines.taken (parts_left lines) b

-- the lines taken are the whole header and lines after it, and say this recording
abbrev pub HasLinesAt : Lines → RecordingValue → Type 0
HasLinesAt lines r = HasLines lines.text.now lines.taken (parts_left lines) r

-- the lines taken say this base, of which more may come
abbrev pub HasBaseAt : Version → Lines → Base → Type 0
HasBaseAt v lines b = HasLinesAt lines (record { version = v; base = b; lines = [] })

-- the header ends here
abbrev pub EndsHeaderAt : Version → Lines → Type 0
EndsHeaderAt v lines = EndsHeader v (parts_left lines)

-- the base ends here
abbrev pub EndsBaseAt : Version → Lines → Type 0
EndsBaseAt v lines = EndsBase v (parts_left lines)
