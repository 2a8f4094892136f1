-- Lines, and the forms that they say.
use Rattle.std.proofs.Common.{ℕ, ◌≡◌, ◌++◌, List, [], ◌∷◌, length, drop, All, refl, arith}
use Rattle.std.specs.List.{flat_map}
use Rattle.std.proofs.lemmas.List.Elements.{All-nil, All-cons}
use Rattle.event_state.specs.declared.base.Base.{Base}
use Rattle.recording.specs.declared.version.Version.{Version}
use Rattle.recording.specs.declared.version.Version.TheVariants.{One, Two, Three}
use Rattle.recording.specs.Forms.{Form, VersionLine, RouterLine, IsForm, Says, AllSay}
use Rattle.recording.specs.Places.{AreSaid, first_lines}
use Rattle.recording.specs.Recordings.{setting_forms, header_forms, area_forms}
use Rattle.recording.proofs.Forms.{says_one}

module _ (v : Version) where
  pub said_append : (ls ms : List (List ℕ)) (fs gs : List Form) → AllSay v ls fs → AllSay v ms gs → AllSay v (ls ++ ms) (fs ++ gs)
  said_append [] ms [] gs first second = second
  said_append [] ms (f ∷ fs) gs first second = absurd first
  said_append (l ∷ ls) ms [] gs first second = absurd first
  said_append (l ∷ ls) ms (f ∷ fs) gs first second = (first.0, said_append ls ms fs gs first.1 second)

  pub said_push : (ls : List (List ℕ)) (fs : List Form) (line : List ℕ) (form : Form) → AllSay v ls fs → Says v line form → AllSay v (ls ++ line ∷ []) (fs ++ form ∷ [])
  said_push ls fs line form all said = said_append ls (line ∷ []) fs (form ∷ []) all (said, tt)

  pub said_once : (ls : List (List ℕ)) (fs gs : List Form) → AllSay v ls fs → AllSay v ls gs → fs ≡ gs
  said_once [] [] [] first second = refl
  said_once [] [] (g ∷ gs) first second = absurd second
  said_once [] (f ∷ fs) gs first second = absurd first
  said_once (l ∷ ls) [] gs first second = absurd first
  said_once (l ∷ ls) (f ∷ fs) [] first second = absurd second
  said_once (l ∷ ls) (f ∷ fs) (g ∷ gs) first second =
      let head : f ≡ g = says_one l f g first.0 second.0 in
      let tail : fs ≡ gs = said_once ls fs gs first.1 second.1 in
      cc

  pub said_length : (ls : List (List ℕ)) (fs : List Form) → AllSay v ls fs → length ls ≡ length fs
  said_length [] [] all = refl
  said_length [] (f ∷ fs) all = absurd all
  said_length (l ∷ ls) [] all = absurd all
  said_length (l ∷ ls) (f ∷ fs) all = let tail = said_length ls fs all.1 in omega arith

  pub said_legal : (ls : List (List ℕ)) (fs : List Form) → AllSay v ls fs → All IsForm fs
  said_legal [] [] all = All-nil IsForm
  said_legal [] (f ∷ fs) all = absurd all
  said_legal (l ∷ ls) [] all = absurd all
  said_legal (l ∷ ls) (f ∷ fs) all = All-cons IsForm f fs all.0.legal (said_legal ls fs all.1)

-- ---- a header, and what comes after it

-- what the first lines say, and then this
abbrev pub begun_with : Version → Base → List Form → List Form
begun_with v b fs = VersionLine v ∷ RouterLine b.config.router ∷ (setting_forms v b.config.compat b.serial ++ fs)

pub said_behind : (v : Version) (ls : List (List ℕ)) (b : Base) (fs : List Form) → AllSay v ls (begun_with v b fs) → AreSaid v ls fs
said_behind One [] b fs all = absurd all
said_behind One (l ∷ []) b fs all = absurd all.1
said_behind One (l ∷ m ∷ ls) b fs all = record { many = omega arith; said = all.1.1 }
said_behind Two [] b fs all = absurd all
said_behind Two (l ∷ []) b fs all = absurd all.1
said_behind Two (l ∷ m ∷ []) b fs all = absurd all.1.1
said_behind Two (l ∷ m ∷ n ∷ ls) b fs all = record { many = omega arith; said = all.1.1.1 }
said_behind Three [] b fs all = absurd all
said_behind Three (l ∷ []) b fs all = absurd all.1
said_behind Three (l ∷ m ∷ []) b fs all = absurd all.1.1
said_behind Three (l ∷ m ∷ n ∷ []) b fs all = absurd all.1.1.1
said_behind Three (l ∷ m ∷ n ∷ o ∷ ls) b fs all = record { many = omega arith; said = all.1.1.1.1 }

pub said_header : (v : Version) (before : List (List ℕ)) (b : Base) → AllSay v before (header_forms v b) → AreSaid v before (flat_map area_forms b.config.areas)
said_header v before b all = said_behind v before b (flat_map area_forms b.config.areas) all

pub forms_behind : (v : Version) (before : List (List ℕ)) (b : Base) (fs forms : List Form) → AllSay v before (begun_with v b fs) → AreSaid v before forms → forms ≡ fs
forms_behind v before b fs forms all said =
    said_once v (drop (first_lines v) before) forms fs said.said (said_behind v before b fs all).said
