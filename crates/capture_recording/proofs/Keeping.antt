-- Events are kept, one after the other.
use Rattle.std.proofs.Common.{◌≡◌, ◌∙◌, ℕ, ◌+◌, ◌-◌, ◌<◌, ◌≤◌, Bool, true, false, List, [], ◌∷◌, ◌++◌, take, drop, length, refl, sym, ap, ap₂, subst, arith}
use Rattle.std.specs.List.{All}
use Rattle.std.proofs.Transfers.{drop-appended}
use Rattle.std.proofs.lemmas.List.{append-nil, length-append, length-drop, drop-append-le, take-append-le, take_all}
use Rattle.std.proofs.lemmas.List.Elements.{All-append, All-cons, All-drop, All-nil, All-push, All-replicate, All-rest, All-weaker}
use Rattle.std.proofs.lemmas.List.Concat.{flat_map-append}
use Rattle.event_state.specs.declared.event.Event.TheVariants.{Install as InstallEvent, Purge, Second}
use Rattle.ospf_types.specs.declared.key.Scope.{Scope}
use Rattle.ospf_types.specs.Lsa.{Lsa, key_of}
use Rattle.lsa_codec.specs.Checksum.{IsSound}
use Rattle.lsa_codec.specs.Decoding.{lsa_of}
use Rattle.lsa_codec.specs.Spelling.{Spells, spelling}
use Rattle.lsa_codec.proofs.Again.{spelled_same}
use Rattle.recording.specs.Forms.{AreBytes, IsScope}
use Rattle.recording.specs.Recordings.{IsLsaOfBytes}
use Rattle.capture_recording.specs.declared.kept_events.KeptEvent.{KeptEvent}
use Rattle.capture_recording.specs.declared.kept_events.KeptEvent.TheVariants.{Seconds, Install}
use Rattle.capture_recording.specs.Events.{IsRecordable, AreAppended, install_events, installed, lines_of, purged, second_events}
use Rattle.capture_recording.specs.Kept.{part, kept_lines, text_of, AreOfLsa, IsKeptWithin, AreKeptWithin, IsLsaAt}
use Rattle.capture_recording.proofs.LsTypes.{kind_is_known}

-- ---- what was kept, where more bytes come after it

part_stays : (bytes more : List ℕ) (start size : ℕ) → start + size ≤ length bytes → part (bytes ++ more) start size ≡ part bytes start size
part_stays bytes more start size within =
    let rest = length-drop start bytes in
    ap (take size) (drop-append-le start bytes more (omega arith)) ∙ take-append-le size (drop start bytes) more (omega arith)

within_stays : (bytes more : List ℕ) (kept : KeptEvent) → IsKeptWithin bytes kept → IsKeptWithin (bytes ++ more) kept
within_stays bytes more (Seconds seconds) is = tt {0}
within_stays bytes more (Install scope start size purges) is =
    let whole = length-append bytes more in
    let below = is.within in
    record { within = omega arith; are = subst AreOfLsa (sym (part_stays bytes more start size is.within)) is.are }

pub all_within : (bytes more : List ℕ) (all : List KeptEvent) → AreKeptWithin bytes all → AreKeptWithin (bytes ++ more) all
all_within bytes more all are = All-weaker (IsKeptWithin bytes) (IsKeptWithin (bytes ++ more)) (within_stays bytes more) all are

one_stays : (bytes more : List ℕ) (kept : KeptEvent) → IsKeptWithin bytes kept → kept_lines (bytes ++ more) kept ≡ kept_lines bytes kept
one_stays bytes more (Seconds seconds) is = refl
one_stays bytes more (Install scope start size purges) is = ap (λ (own : List ℕ). lines_of (install_events scope (lsa_of own) purges)) (part_stays bytes more start size is.within)

text_stays : (bytes more : List ℕ) (all : List KeptEvent) → AreKeptWithin bytes all → text_of (bytes ++ more) all ≡ text_of bytes all
text_stays bytes more [] are = refl
text_stays bytes more (k ∷ ks) are =
    ap₂ (λ (xs ys : List ℕ). xs ++ ys) (one_stays bytes more k (are 0 k (omega arith))) (text_stays bytes more ks (All-rest (IsKeptWithin bytes) k ks (k ∷ ks) refl are))

text_more : (bytes more : List ℕ) (all : List KeptEvent) (kept : KeptEvent) (text : List ℕ) → AreKeptWithin bytes all → kept_lines (bytes ++ more) kept ≡ text → text_of (bytes ++ more) (all ++ kept ∷ []) ≡ text_of bytes all ++ text
text_more bytes more all kept text are is =
    flat_map-append (kept_lines (bytes ++ more)) all (kept ∷ [])
    ∙ ap₂ (λ (xs ys : List ℕ). xs ++ ys) (text_stays bytes more all are) (append-nil (kept_lines (bytes ++ more) kept) ∙ is)

-- ---- seconds

second_recordable : IsRecordable Second
second_recordable = record { form = tt {0}; kind = tt {0}; lsa = tt {0}; version = λ v. tt {0} }

pub no_seconds : (text : List ℕ) → AreAppended text text (second_events 0)
no_seconds text = record { text = sym (append-nil text); each = All-nil IsRecordable }

pub seconds_kept : (bytes : List ℕ) (all : List KeptEvent) (seconds : ℕ) → AreAppended (text_of bytes all) (text_of bytes (all ++ Seconds seconds ∷ [])) (second_events seconds)
seconds_kept bytes all seconds = record {
  text =
      flat_map-append (kept_lines bytes) all (Seconds seconds ∷ [])
      ∙ ap (λ (xs : List ℕ). text_of bytes all ++ xs) (append-nil (kept_lines bytes (Seconds seconds)));
  each = All-replicate IsRecordable seconds Second second_recordable;
}

-- ---- an LSA

module _ (scope : Scope) (lsa : Lsa) (is_scope : IsScope scope) (are : AreBytes (spelling lsa)) (whole : IsLsaOfBytes lsa) where
  install_recordable : IsRecordable (InstallEvent scope lsa)
  install_recordable = record { form = (is_scope, are); kind = tt {0}; lsa = whole; version = λ v. tt {0} }

  purge_recordable : IsRecordable (Purge scope (key_of lsa))
  purge_recordable =
      let legal = whole.spelled.legal in
      let known = kind_is_known lsa legal in
      record { form = (is_scope, record { kind = known; id = legal.id; router = legal.router }); kind = known; lsa = tt {0}; version = λ v. tt {0} }

  only_install : All IsRecordable (installed scope lsa)
  only_install = All-cons IsRecordable (InstallEvent scope lsa) [] install_recordable (All-nil IsRecordable)

  all_recordable : (purges : Bool) → All IsRecordable (install_events scope lsa purges)
  all_recordable true = All-append IsRecordable (installed scope lsa) (purged scope (key_of lsa)) only_install (All-cons IsRecordable (Purge scope (key_of lsa)) [] purge_recordable (All-nil IsRecordable))
  all_recordable false = only_install

  pub lsa_kept : (bytes more : List ℕ) (all : List KeptEvent) (start size : ℕ) (purges : Bool) → AreKeptWithin bytes all → IsLsaAt (bytes ++ more) start size lsa
      → AreAppended (text_of bytes all) (text_of (bytes ++ more) (all ++ Install scope start size purges ∷ [])) (install_events scope lsa purges)
  lsa_kept bytes more all start size purges within at = record {
    text = text_more bytes more all (Install scope start size purges) (lines_of (install_events scope lsa purges)) within (ap (λ (l : Lsa). lines_of (install_events scope l purges)) at.is);
    each = all_recordable purges;
  }

pub one_within : (bytes more : List ℕ) (all : List KeptEvent) (kept : KeptEvent) → AreKeptWithin bytes all → IsKeptWithin (bytes ++ more) kept → AreKeptWithin (bytes ++ more) (all ++ kept ∷ [])
one_within bytes more all kept are is = All-push (IsKeptWithin (bytes ++ more)) all kept (all_within bytes more all are) is

-- ---- its bytes

module _ (old new : List ℕ) (lsa : Lsa) (is : new ≡ old ++ spelling lsa) where
  pub own_bytes : All (λ b. b < 256) new → AreBytes (spelling lsa)
  own_bytes are = subst AreBytes (drop-appended old new (spelling lsa) is) (All-drop (λ b. b < 256) (length old) new are)

  own_part : (start size : ℕ) → start ≡ length old → size ≡ length new - start → part new start size ≡ spelling lsa
  own_part start size first count =
      let whole = ap length is ∙ length-append old (spelling lsa) in
      ap (take size) (ap (λ (n : ℕ). drop n new) first ∙ drop-appended old new (spelling lsa) is)
      ∙ take_all size (spelling lsa) (omega (arith, whole, first, count))

  pub lsa_at : (start size : ℕ) → start ≡ length old → size ≡ length new - start → IsSound (spelling lsa) → Spells (spelling lsa) lsa → IsLsaAt new start size lsa
  lsa_at start size first count sound spells =
      let whole = ap length is ∙ length-append old (spelling lsa) in
      let same = spelled_same (spelling lsa) lsa spells in
      let here = own_part start size first count in
      record {
        within = record {
          within = omega (arith, whole, first, count);
          are = subst AreOfLsa (sym here) (record { sound = sound; spelled = subst (Spells (spelling lsa)) (sym same) spells });
        };
        is = ap lsa_of here ∙ same;
      }
