-- The first words of the lines of the front.
use Rattle.std.proofs.Common.{ℕ, ◌≡◌, List, refl, ap, ◌∙◌}
use Rattle.recording.specs.Forms.{Form, VersionLine, RouterLine, CompatLine, SerialLine, AreaLine, RangeLine, HasInterfaceLine, HasLsaLine, BodyLine, InterfaceLine, InstallLine, FlushLine, PurgeLine, RangeSetLine, RangeDropLine, SecondLine, LookupLine, RollLine, Says, words_of}
use Rattle.recording.specs.Places.{is_front_word, is_preamble_line}
use Rattle.recording.specs.Reading.{cut, first_word}
use Rattle.recording.specs.declared.version.Version.{Version}
use Rattle.recording.proofs.Forms.{line_split}

first_told : (form : Form) → is_front_word (first_word (words_of form)) ≡ is_preamble_line form
first_told (VersionLine version) = refl
first_told (RouterLine router) = refl
first_told (CompatLine compat) = refl
first_told (SerialLine serial) = refl
first_told (AreaLine id stub) = refl
first_told (RangeLine area range) = refl
first_told (HasInterfaceLine id interface) = refl
first_told (HasLsaLine at bytes) = refl
first_told (BodyLine (InterfaceLine id area address peer up)) = refl
first_told (BodyLine (InstallLine at bytes)) = refl
first_told (BodyLine (FlushLine at key)) = refl
first_told (BodyLine (PurgeLine at key)) = refl
first_told (BodyLine (RangeSetLine area range)) = refl
first_told (BodyLine (RangeDropLine area prefix)) = refl
first_told (BodyLine SecondLine) = refl
first_told (BodyLine (LookupLine address)) = refl
first_told (BodyLine RollLine) = refl

-- by the first word of a line, its meaning belongs to the front or not
pub front_told : (v : Version) (line : List ℕ) (form : Form) → Says v line form → is_front_word (first_word (cut line)) ≡ is_preamble_line form
front_told v line form said =
    ap (λ (l : List ℕ). is_front_word (first_word (cut l))) said.spelled
    ∙ ap (λ (words : List (List ℕ)). is_front_word (first_word words)) (line_split form said.legal)
    ∙ first_told form
