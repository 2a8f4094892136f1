-- The lines of events, as they are written one after the other.
use Rattle.std.proofs.Common.{◌≡◌, ◌∙◌, ◌++◌, true, List, [], ◌∷◌, ℕ, map, ap, sym, subst, append_assoc, append-nil}
use Rattle.std.specs.List.{flat_map}
use Rattle.std.proofs.lemmas.List.{map-append}
use Rattle.std.proofs.lemmas.List.Concat.{flat_map-append}
use Rattle.std.proofs.lemmas.List.Elements.{All-append}
use Rattle.ospf_types.specs.declared.key.Key.{Key}
use Rattle.ospf_types.specs.declared.key.Scope.{Scope}
use Rattle.ospf_types.specs.Lsa.{Lsa, key_of}
use Rattle.lsa_codec.specs.Spelling.{IsLegal}
use Rattle.event_state.specs.declared.event.Event.{Event}
use Rattle.recording.specs.Forms.{IsKind}
use Rattle.recording.specs.Recordings.{event_form, ended, text_of_forms}
use Rattle.capture_recording.specs.Events.{IsRecordable, AreAppended, install_events, installed, lines_of, purged}
use Rattle.capture_recording.proofs.LsTypes.{kind_is_known}

lines_more : (events more : List Event) → lines_of (events ++ more) ≡ lines_of events ++ lines_of more
lines_more events more = ap text_of_forms (map-append event_form events more) ∙ flat_map-append ended (map event_form events) (map event_form more)

-- some events, and then others
pub appended_more : (old mid new : List ℕ) (events more : List Event) → AreAppended old mid events → AreAppended mid new more → AreAppended old new (events ++ more)
appended_more old mid new events more p q = record {
  text = q.text ∙ ap (λ text. text ++ lines_of more) p.text ∙ append_assoc old (lines_of events) (lines_of more) ∙ ap (λ text. old ++ text) (sym (lines_more events more));
  each = All-append IsRecordable events more p.each q.each;
}

-- the events of one item more
pub appended_item : {X : Type 0} (f : X → List Event) (old mid new : List ℕ) (done : List X) (x : X) → AreAppended old mid (flat_map f done) → AreAppended mid new (f x)
    → AreAppended old new (flat_map f (done ++ x ∷ []))
appended_item f old mid new done x p q =
    let same : flat_map f (done ++ x ∷ []) ≡ flat_map f done ++ f x = flat_map-append f done (x ∷ []) ∙ ap (λ events. flat_map f done ++ events) (append-nil (f x)) in
    subst (AreAppended old new) (sym same) (appended_more old mid new (flat_map f done) (f x) p q)

-- one more item of a list in a loop
pub one_more : {X : Type 0} (done left more all : List X) (x : X) → done ++ left ≡ all → left ≡ x ∷ more → (done ++ x ∷ []) ++ more ≡ all
one_more done left more all x whole is = append_assoc done (x ∷ []) more ∙ ap (λ l. done ++ l) (sym is) ∙ whole

-- an LSA is installed, and then purged by its key
pub appended_purge : (old mid new : List ℕ) (scope : Scope) (lsa : Lsa) (key : Key) → key ≡ key_of lsa → IsLegal lsa → AreAppended old mid (installed scope lsa)
    → (IsKind key.kind → AreAppended mid new (purged scope key)) → AreAppended old new (install_events scope lsa true)
appended_purge old mid new scope lsa key is legal first second =
    let known : IsKind key.kind = subst (λ (k : Key). IsKind k.kind) (sym is) (kind_is_known lsa legal) in
    appended_more old mid new (installed scope lsa) (purged scope (key_of lsa)) first (subst (λ (k : Key). AreAppended mid new (purged scope k)) is (second known))

-- the same, where other lines come before
pub appended_behind : (front old new : List ℕ) (events : List Event) → AreAppended old new events → AreAppended (front ++ old) (front ++ new) events
appended_behind front old new events are = record { text = ap (λ (text : List ℕ). front ++ text) are.text ∙ sym (append_assoc front old (lines_of events)); each = are.each }
