-- The header after one more line, or at the end of what is left.
use Rattle.std.proofs.Common.{ℕ, ◌≡◌, ◌≢◌, ◌+◌, Bool, true, false, List, [], ◌∷◌, refl, sym, subst, inl, inr}
use Rattle.event_state.specs.declared.base.Base.{Base}
use Rattle.recording.specs.declared.fault.Fault.{Fault}
use Rattle.recording.specs.declared.fault.Fault.TheVariants as fault
use Rattle.recording.specs.declared.version.Version.{Version}
use Rattle.recording.specs.Forms.{Form, Says}
use Rattle.recording.specs.Places.{is_of_header, is_next_area, with_form}
use Rattle.recording.specs.Faults.{parts_of, EndsHeader, IsFaultOf}
use Rattle.recording.specs.Progress.{HasHeader, IsRefusal, with_areas}
use Rattle.recording.proofs.Forms.{says_one}
use Rattle.recording.proofs.HeaderSteps.{to_end, header_step, header_more, header_order, header_cut}
use Rattle.recording.proofs.Parts.{parts_full}

-- a line of no form ends a header
pub no_form_ends : (v : Version) {left : List (List ℕ)} (line behind : List ℕ) → left ≡ line ∷ parts_of behind → ((form : Form) → ¬ Says v line form) → EndsHeader v left
no_form_ends v {left} line behind is none =
    subst (EndsHeader v) (sym is) (to_end v line (parts_of behind) (parts_full behind) (λ form said. absurd (none form said)))

differ : (b : Bool) → b ≡ true → b ≡ false → ⊥
differ b here other = cc

-- and so does a line of another form
pub other_ends : (v : Version) {left : List (List ℕ)} (line behind : List ℕ) → left ≡ line ∷ parts_of behind → (form : Form) → Says v line form → is_of_header form ≡ false → EndsHeader v left
other_ends v {left} line behind is form said other =
    subst (EndsHeader v) (sym is) (to_end v line (parts_of behind) (parts_full behind) (λ g says here. differ (is_of_header form) (subst (λ f. is_of_header f ≡ true) (says_one line g form says said) here) other))

module _ {v : Version} {text : List ℕ} {taken : ℕ} {left : List (List ℕ)} {b : Base} (h : HasHeader v text taken left b) where
  pub cut_in_header : (cut : List ℕ) → left ≡ cut ∷ [] → cut ≢ [] → IsFaultOf text (record { line = taken + 1; fault = fault.Truncated })
  cut_in_header cut is some = inr (header_cut h cut is some)

  pub refused_line : (line behind : List ℕ) → left ≡ line ∷ parts_of behind → (form : Form) → Says v line form → is_of_header form ≡ true → (f : Fault) → IsRefusal b.config.areas form f → IsFaultOf text (record { line = taken + 1; fault = f })
  refused_line line behind is form said here fault.Order other =
      inr (header_order h line (parts_of behind) is (parts_full behind) form said here other)
  refused_line line behind is form said here fault.Memory other =
      inl (refl, header_more h line (parts_of behind) is (parts_full behind) form said here)
  refused_line line behind is form said here fault.Truncated other = absurd other
  refused_line line behind is form said here fault.Version other = absurd other
  refused_line line behind is form said here fault.Line other = absurd other
  refused_line line behind is form said here (fault.Wire f) other = absurd other
  refused_line line behind is form said here (fault.Config f) other = absurd other
  refused_line line behind is form said here (fault.Base u) other = absurd other

  pub added_line : (line behind : List ℕ) → left ≡ line ∷ parts_of behind → (form : Form) → Says v line form → is_next_area b.config.areas form ≡ true → (new : Base) → new ≡ with_areas b (with_form b.config.areas form) → HasHeader v text (taken + 1) (parts_of behind) new
  added_line line behind is form said next new same =
      subst (HasHeader v text (taken + 1) (parts_of behind)) (sym same) (header_step h line (parts_of behind) is (parts_full behind) form said next)
