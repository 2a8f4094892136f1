-- From line to line of a base, after its header.
use Rattle.std.proofs.Common.{ℕ, ◌≡◌, ◌≢◌, ◌+◌, ◌<◌, ◌++◌, ◌&&◌, ◌||◌, Bool, true, false, List, [], ◌∷◌, length, map, Option, Some, None, All, refl, sym, ap, subst, ◌∙◌, inl, inr, append_assoc, append-nil}
use Rattle.std.specs.Prelude.{is_some, is_none}
use Rattle.std.specs.Cmp.{IsTotalOrder, nat_cmp_total}
use Rattle.std.specs.List.{flat_map}
use Rattle.std.specs.Ordering.{nat_cmp}
use Rattle.std.specs.declared.cmp.Ordering.TheVariants.{Less}
use Rattle.std.proofs.lemmas.Bool.{and_from, and_parts}
use Rattle.std.proofs.lemmas.Cmp.{on_total, then_total}
use Rattle.std.proofs.lemmas.List.{map-append}
use Rattle.std.proofs.lemmas.List.Elements.{All-push}
use Rattle.lsa_codec.specs.Decoding.{lsa_of}
use Rattle.lsa_codec.specs.Faults.{fault_of}
use Rattle.lsa_codec.specs.Spelling.{spelling}
use Rattle.lsa_codec.specs.declared.fault.WireFault.{WireFault}
use Rattle.ospf_types.specs.declared.config.Interface.{Interface}
use Rattle.ospf_types.specs.declared.key.Key.{Key}
use Rattle.ospf_types.specs.declared.key.Scope.{Scope}
use Rattle.ospf_types.specs.declared.config.AreaConfig.{AreaConfig}
use Rattle.ospf_types.specs.Lsa.{Lsa, key_of}
use Rattle.lsa_codec.proofs.Again.{spelled_none}
use Rattle.event_state.specs.Bases.{lsas_under}
use Rattle.ospf_types.proofs.Orders.{key_total, scope_total}
use Rattle.event_state.specs.declared.base.Base.{Base}
use Rattle.event_state.specs.declared.base_fault.EntryFault.{EntryFault}
use Rattle.recording.specs.declared.fault.Fault.{Fault}
use Rattle.recording.specs.declared.fault.Fault.TheVariants as fault
use Rattle.recording.specs.declared.version.Version.{Version}
use Rattle.recording.specs.declared.version.Version.TheVariants.{Three}
use Rattle.recording.specs.Forms.{Form, VersionLine, RouterLine, CompatLine, SerialLine, AreaLine, RangeLine, HasInterfaceLine, HasLsaLine, BodyLine, IsOfVersion, Says}
use Rattle.recording.specs.Places.{LinesSoFar, AreSaid, IsLinePlaced, based, front_of, has_ended, is_of_base, is_of_header, is_next, is_past_id, is_past_lsa, is_past_place, is_past_scope, last_of, lsa_place, place_cmp, unfit_at, unfit_lsa, unfit_under}
use Rattle.recording.specs.Faults.{parts_of, IsFaultOf}
use Rattle.recording.specs.Progress.{HasLines, EndsBase, IsFormRefusal, IsFormTaken, later_forms, with_has}
use Rattle.recording.specs.Recordings.{RecordingValue, IsRecording, AreLsasOfBytes, CanSpell, HasWholeLsa, IsBaseOrdered, IsLsaOfBytes, area_forms, has_forms, interface_form, lsa_form}
use Rattle.recording.proofs.Areas.{nat_less, of_is_less}
use Rattle.recording.proofs.BaseSound.{interface_fits, lsa_fits, usable_from, usable_to}
use Rattle.recording.proofs.Forms.{says_one}
use Rattle.recording.proofs.Fronts.{base_forms, front_of_base, lsa_again}
use Rattle.recording.proofs.HeaderSteps.{not_both}
use Rattle.recording.proofs.LineSteps.{IsLonger, line_at, later_said, later_are, longer_step, no_config, not_first}
use Rattle.recording.proofs.Parts.{base_fault, line_there, order_fault, parts_full, wire_fault}
use Rattle.recording.proofs.Sorting.{last_cases, last_of-push, sorted_push_by}

-- ---- places

-- a line of the base does not ask whether the header has ended
next_same : (b : Base) (ended : Bool) (form : Form) → is_of_base form ≡ true → is_next (record (based b) { ended = ended }) form ≡ is_next (based b) form
next_same b ended (HasInterfaceLine id i) here = refl
next_same b ended (HasLsaLine at bytes) here = refl
next_same b ended (AreaLine id stub) here = cc
next_same b ended (RangeLine area range) here = cc
next_same b ended (VersionLine version) here = cc
next_same b ended (RouterLine router) here = cc
next_same b ended (CompatLine compat) here = cc
next_same b ended (SerialLine serial) here = cc
next_same b ended (BodyLine body) here = cc

unfit_same : (b : Base) (ended : Bool) (form : Form) → is_of_base form ≡ true → unfit_at (record (based b) { ended = ended }) form ≡ unfit_at (based b) form
unfit_same b ended (HasInterfaceLine id i) here = refl
unfit_same b ended (HasLsaLine at bytes) here = refl
unfit_same b ended (AreaLine id stub) here = cc
unfit_same b ended (RangeLine area range) here = cc
unfit_same b ended (VersionLine version) here = cc
unfit_same b ended (RouterLine router) here = cc
unfit_same b ended (CompatLine compat) here = cc
unfit_same b ended (SerialLine serial) here = cc
unfit_same b ended (BodyLine body) here = cc

abbrev IsNextIn : Version → List (List ℕ) → Form → Type 0
IsNextIn v before form = (forms : List Form) × AreSaid v before forms × (is_next (front_of forms) form ≡ true)

place_to : (v : Version) (before : List (List ℕ)) (form : Form) → is_of_base form ≡ true → IsNextIn v before form → IsLinePlaced v before form
place_to v before (HasInterfaceLine id i) here h = h
place_to v before (HasLsaLine at bytes) here h = h
place_to v before (AreaLine id stub) here h = cc
place_to v before (RangeLine area range) here h = cc
place_to v before (VersionLine version) here h = cc
place_to v before (RouterLine router) here h = cc
place_to v before (CompatLine compat) here h = cc
place_to v before (SerialLine serial) here h = cc
place_to v before (BodyLine body) here h = cc

place_from : (v : Version) (before : List (List ℕ)) (form : Form) → is_of_base form ≡ true → IsLinePlaced v before form → IsNextIn v before form
place_from v before (HasInterfaceLine id i) here h = h
place_from v before (HasLsaLine at bytes) here h = h
place_from v before (AreaLine id stub) here h = cc
place_from v before (RangeLine area range) here h = cc
place_from v before (VersionLine version) here h = cc
place_from v before (RouterLine router) here h = cc
place_from v before (CompatLine compat) here h = cc
place_from v before (SerialLine serial) here h = cc
place_from v before (BodyLine body) here h = cc

not_of_header : (form : Form) → is_of_base form ≡ true → is_of_header form ≡ false
not_of_header (HasInterfaceLine id i) here = refl
not_of_header (HasLsaLine at bytes) here = refl
not_of_header (AreaLine id stub) here = cc
not_of_header (RangeLine area range) here = cc
not_of_header (VersionLine version) here = cc
not_of_header (RouterLine router) here = cc
not_of_header (CompatLine compat) here = cc
not_of_header (SerialLine serial) here = cc
not_of_header (BodyLine body) here = cc

-- ---- the order

pub place_total : IsTotalOrder place_cmp
place_total = then_total (on_total (λ (p : Scope × Key). p.0) scope_total) (on_total (λ (p : Scope × Key). p.1) key_total)

id_less : (o : Option (ℕ × Interface)) (id : ℕ) → is_past_id o id ≡ true → (x : ℕ × Interface) → o ≡ Some x → nat_cmp x.0 id ≡ Less
id_less o id past x is = nat_less x.0 id (subst (λ (t : Option (ℕ × Interface)). is_past_id t id ≡ true) is past)

place_less : (o : Option (Scope × Lsa)) (place : Scope × Key) → is_past_place o place ≡ true → (x : Scope × Lsa) → o ≡ Some x → place_cmp (lsa_place x) place ≡ Less
place_less o place past x is = of_is_less (place_cmp (lsa_place x) place) (subst (λ (t : Option (Scope × Lsa)). is_past_place t place ≡ true) is past)

pub no_last : {X : Type 0} (xs : List X) → is_none (last_of xs) ≡ true → xs ≡ []
no_last xs none =
    elim (last_cases xs) [
      | inl e ↦ e
      | inr w ↦
          let some : is_none (last_of xs) ≡ false = ap (λ t. is_none (last_of t)) w.2 ∙ ap is_none (last_of-push w.0 w.1) in
          absurd (not_both (is_none (last_of xs)) none some)
    ]

second_false : (a b : Bool) → b ≡ false → (a && b) ≡ false
second_false true b is = is
second_false false b is = refl

second_true : (a b : Bool) → a ≡ false → (a || b) ≡ true → b ≡ true
second_true true b first h = cc
second_true false b first h = h

-- bytes that are read give the whole place
place_past : (last : Option (Scope × Lsa)) (at : Scope) (bytes : List ℕ) → is_past_lsa last at bytes ≡ true → fault_of bytes ≡ None → is_past_place last (lsa_place (at, lsa_of bytes)) ≡ true
place_past last at bytes past readable =
    let two = and_parts (is_past_scope last at) (is_some (fault_of bytes) || is_past_place last (lsa_place (at, lsa_of bytes))) past in
    second_true (is_some (fault_of bytes)) (is_past_place last (lsa_place (at, lsa_of bytes))) (ap is_some readable) two.1

ordered_has : (b : Base) (form : Form) → IsBaseOrdered b → IsFormTaken b form → IsBaseOrdered (with_has b form)
ordered_has b (HasInterfaceLine id i) ordered taken =
    let two = and_parts (is_none (last_of b.lsas)) (is_past_id (last_of b.interfaces) id) taken.next in
    record {
      areas = ordered.areas;
      interfaces = sorted_push_by nat_cmp (λ (x : ℕ × Interface). x.0) nat_cmp_total b.interfaces (id, i) ordered.interfaces (id_less (last_of b.interfaces) id two.1);
      lsas = ordered.lsas;
    }
ordered_has b (HasLsaLine at bytes) ordered taken =
    let x : Scope × Lsa = (at, lsa_of bytes) in
    record {
      areas = ordered.areas;
      interfaces = ordered.interfaces;
      lsas = sorted_push_by place_cmp lsa_place place_total b.lsas x ordered.lsas (place_less (last_of b.lsas) (lsa_place x) (place_past (last_of b.lsas) at bytes taken.next taken.readable));
    }
ordered_has b (AreaLine id stub) ordered taken = ordered
ordered_has b (RangeLine area range) ordered taken = ordered
ordered_has b (VersionLine version) ordered taken = ordered
ordered_has b (RouterLine router) ordered taken = ordered
ordered_has b (CompatLine compat) ordered taken = ordered
ordered_has b (SerialLine serial) ordered taken = ordered
ordered_has b (BodyLine body) ordered taken = ordered

-- ---- an LSA that was read

-- the bytes belong to the LSA, and it has this key
pub record IsReadAs (bytes : List ℕ) (l : Lsa) (key : Key) : Type 0 where
  pub spelled : spelling l ≡ bytes
  pub whole : IsLsaOfBytes l
  pub keyed : key ≡ key_of l

module _ {bytes : List ℕ} {l : Lsa} {key : Key} (read : IsReadAs bytes l key) where
  pub read_again : lsa_of bytes ≡ l
  read_again = ap lsa_of (sym read.spelled) ∙ lsa_again l read.whole

  pub read_sound : fault_of bytes ≡ None
  read_sound = ap fault_of (sym read.spelled) ∙ spelled_none (spelling l) l read.whole.sound read.whole.spelled

  place_is : (at : Scope) → lsa_place (at, lsa_of bytes) ≡ (at, key)
  place_is at = ap (λ (m : Lsa). lsa_place (at, m)) read_again ∙ ap (λ (k : Key). let p : Scope × Key = (at, k) in p) (sym read.keyed)

  past_is : (last : Option (Scope × Lsa)) (at : Scope) (r : Bool) → r ≡ is_past_place last (at, key) → (is_some (fault_of bytes) || is_past_place last (lsa_place (at, lsa_of bytes))) ≡ r
  past_is last at r told =
      ap (λ (o : Option WireFault). is_some o || is_past_place last (lsa_place (at, lsa_of bytes))) read_sound
      ∙ ap (is_past_place last) (place_is at)
      ∙ sym told

  pub key_refused : (last : Option (Scope × Lsa)) (at : Scope) (r : Bool) → r ≡ is_past_place last (at, key) → r ≡ false → is_past_lsa last at bytes ≡ false
  key_refused last at r told other = second_false (is_past_scope last at) _ (past_is last at r told ∙ other)

  pub key_taken : (last : Option (Scope × Lsa)) (at : Scope) (r : Bool) → is_past_scope last at ≡ true → r ≡ is_past_place last (at, key) → r ≡ true → is_past_lsa last at bytes ≡ true
  key_taken last at r scope told here = and_from _ _ scope (past_is last at r told ∙ here)

  pub unfit_told : (areas : List AreaConfig) (lsas : List (Scope × Lsa)) (at : Scope) (row : ℕ) (o : Option EntryFault) → row ≡ length (lsas_under lsas at) → o ≡ unfit_under areas at key.kind row → unfit_lsa areas lsas (at, lsa_of bytes) ≡ o
  unfit_told areas lsas at row o counted told =
      ap (λ (m : Lsa). unfit_under areas at (key_of m).kind (length (lsas_under lsas at))) read_again
      ∙ ap (λ (k : Key). unfit_under areas at k.kind (length (lsas_under lsas at))) (sym read.keyed)
      ∙ ap (unfit_under areas at key.kind) (sym counted)
      ∙ sym told

  pub lsa_taken : (b : Base) (at : Scope) → is_past_lsa (last_of b.lsas) at bytes ≡ true → unfit_lsa b.config.areas b.lsas (at, lsa_of bytes) ≡ None → IsFormTaken b (HasLsaLine at bytes)
  lsa_taken b at past fit = record {
    next = past;
    readable = read_sound;
    whole = (subst IsLsaOfBytes (sym read_again) read.whole, ap spelling read_again ∙ read.spelled);
    fit = fit;
  }

-- ---- one more

-- the recording of a base, and nothing that happened
abbrev pub of_base : Version → Base → RecordingValue
of_base v b = record { version = v; base = b; lines = [] }

later_of_base : (v : Version) (b : Base) → later_forms (of_base v b) ≡ base_forms b
later_of_base v b = ap (λ (fs : List Form). flat_map area_forms b.config.areas ++ fs) (append-nil (has_forms b))

more_has : (v : Version) (b c : Base) (form : Form) → has_forms c ≡ has_forms b ++ form ∷ [] → c.config ≡ b.config → later_forms (of_base v c) ≡ later_forms (of_base v b) ++ form ∷ []
more_has v b c form more same =
    let hs : List Form = flat_map area_forms b.config.areas in
    later_of_base v c
    ∙ ap (λ k. flat_map area_forms k.areas ++ has_forms c) same
    ∙ ap (λ (fs : List Form). hs ++ fs) more
    ∙ sym (append_assoc hs (has_forms b) (form ∷ []))
    ∙ ap (λ (fs : List Form). fs ++ form ∷ []) (sym (later_of_base v b))

interface_more : (b : Base) (x : ℕ × Interface) → b.lsas ≡ [] → has_forms (record b { interfaces = b.interfaces ++ x ∷ [] }) ≡ has_forms b ++ interface_form x ∷ []
interface_more b x none =
    let is : List Form = map interface_form b.interfaces in
    ap (λ (ls : List (Scope × Lsa)). map interface_form (b.interfaces ++ x ∷ []) ++ map lsa_form ls) none
    ∙ append-nil (map interface_form (b.interfaces ++ x ∷ []))
    ∙ map-append interface_form b.interfaces (x ∷ [])
    ∙ ap (λ (fs : List Form). fs ++ interface_form x ∷ []) (sym (append-nil is))
    ∙ ap (λ (ls : List (Scope × Lsa)). (is ++ map lsa_form ls) ++ interface_form x ∷ []) (sym none)

lsa_more : (b : Base) (at : Scope) (bytes : List ℕ) → spelling (lsa_of bytes) ≡ bytes → has_forms (record b { lsas = b.lsas ++ (at, lsa_of bytes) ∷ [] }) ≡ has_forms b ++ HasLsaLine at bytes ∷ []
lsa_more b at bytes again =
    let is : List Form = map interface_form b.interfaces in
    let ls : List Form = map lsa_form b.lsas in
    ap (λ (fs : List Form). is ++ fs) (map-append lsa_form b.lsas ((at, lsa_of bytes) ∷ []))
    ∙ ap (λ (bs : List ℕ). is ++ (ls ++ HasLsaLine at bs ∷ [])) again
    ∙ sym (append_assoc is ls (HasLsaLine at bytes ∷ []))

spelled_more : (v : Version) (b c : Base) → v ≡ Three → c.config ≡ b.config → CanSpell v b → CanSpell v c
spelled_more v b c own same spelled = record {
  compat = λ one. ap (λ k. k.compat) same ∙ spelled.compat one;
  serial = λ other. absurd (other own);
  interfaces = λ other. absurd (other own);
  lsas = λ other. absurd (other own);
}

longer_base : (v : Version) (b : Base) (form : Form) → IsOfVersion v form → is_of_base form ≡ true → IsRecording (of_base v b) → AreLsasOfBytes b.lsas → All HasWholeLsa [] → IsFormTaken b form → IsLonger (of_base v b) form (with_has b form) []
longer_base v b (HasInterfaceLine id i) own here kept held none taken =
    let two = and_parts (is_none (last_of b.lsas)) (is_past_id (last_of b.interfaces) id) taken.next in
    let ordered = ordered_has b (HasInterfaceLine id i) kept.ordered taken in
    record {
      first = refl;
      later = more_has v b (with_has b (HasInterfaceLine id i)) (HasInterfaceLine id i) (interface_more b (id, i) (no_last b.lsas two.0)) refl;
      kept = record {
        spelled = spelled_more v b (with_has b (HasInterfaceLine id i)) own refl kept.spelled;
        sound = usable_to (with_has b (HasInterfaceLine id i)) ordered (interface_fits b (id, i) (usable_from b kept.sound) taken.fit);
        ordered = ordered;
        kinds = kept.kinds;
        lines = kept.lines;
      };
      held = held;
      lsas = none;
    }
longer_base v b (HasLsaLine at bytes) own here kept held none taken =
    let ordered = ordered_has b (HasLsaLine at bytes) kept.ordered taken in
    record {
      first = refl;
      later = more_has v b (with_has b (HasLsaLine at bytes)) (HasLsaLine at bytes) (lsa_more b at bytes taken.whole.1) refl;
      kept = record {
        spelled = spelled_more v b (with_has b (HasLsaLine at bytes)) own refl kept.spelled;
        sound = usable_to (with_has b (HasLsaLine at bytes)) ordered (lsa_fits b (at, lsa_of bytes) (usable_from b kept.sound) taken.fit);
        ordered = ordered;
        kinds = kept.kinds;
        lines = kept.lines;
      };
      held = All-push (λ x. IsLsaOfBytes x.1) b.lsas (at, lsa_of bytes) held taken.whole.0;
      lsas = none;
    }
longer_base v b (AreaLine id stub) own here kept held none taken = cc
longer_base v b (RangeLine area range) own here kept held none taken = cc
longer_base v b (VersionLine version) own here kept held none taken = cc
longer_base v b (RouterLine router) own here kept held none taken = cc
longer_base v b (CompatLine compat) own here kept held none taken = cc
longer_base v b (SerialLine serial) own here kept held none taken = cc
longer_base v b (BodyLine body) own here kept held none taken = cc

-- ---- the lines of the base

module _ {v : Version} {text : List ℕ} {taken : ℕ} {left : List (List ℕ)} {b : Base} (h : HasLines text taken left (of_base v b)) where
  same_front : (forms : List Form) → AreSaid v h.before forms → front_of forms ≡ record (based b) { ended = has_ended (base_forms b) }
  same_front forms said = ap front_of (later_are h forms said ∙ later_of_base v b) ∙ front_of_base b h.held

  next_is : (form : Form) → is_of_base form ≡ true → (forms : List Form) → AreSaid v h.before forms → is_next (front_of forms) form ≡ is_next (based b) form
  next_is form here forms said = ap (λ (f : LinesSoFar). is_next f form) (same_front forms said) ∙ next_same b (has_ended (base_forms b)) form here

  unfit_is : (form : Form) → is_of_base form ≡ true → (forms : List Form) → AreSaid v h.before forms → unfit_at (front_of forms) form ≡ unfit_at (based b) form
  unfit_is form here forms said = ap (λ (f : LinesSoFar). unfit_at f form) (same_front forms said) ∙ unfit_same b (has_ended (base_forms b)) form here

  placed : (form : Form) → is_of_base form ≡ true → is_next (based b) form ≡ true → IsLinePlaced v h.before form
  placed form here next =
      place_to v h.before form here (later_forms (of_base v b), later_said h, next_is form here (later_forms (of_base v b)) (later_said h) ∙ next)

  pub refused_base : (line behind : List ℕ) → left ≡ line ∷ parts_of behind → (form : Form) → Says v line form → is_of_base form ≡ true → (f : Fault) → IsFormRefusal b form f → IsFaultOf text (record { line = taken + 1; fault = f })
  refused_base line behind is form said here fault.Order other =
      inr (order_fault (line_at h line (parts_of behind) is (parts_full behind)) h.right (not_first h) form said
      (λ at. let found = place_from v h.before form here at in not_both (is_next (based b) form) (sym (next_is form here found.0 found.1) ∙ found.2) other))
  refused_base line behind is form said here (fault.Wire f) has =
      inr (wire_fault (line_at h line (parts_of behind) is (parts_full behind)) h.right form f said (placed form here has.0) has.1)
  refused_base line behind is form said here (fault.Base u) has =
      let all : List Form = later_forms (of_base v b) in
      inr (base_fault (line_at h line (parts_of behind) is (parts_full behind)) h.right form u said (placed form here has.0) has.1 (no_config h line (parts_of behind) form said (not_of_header form here))
      (record { form = form; says = said; forms = all; said = later_said h; has = unfit_is form here all (later_said h) ∙ has.2 }))
  refused_base line behind is form said here fault.Memory has = inl (refl, record { there = line_there (line_at h line (parts_of behind) is (parts_full behind)); lines = h.right })
  refused_base line behind is form said here fault.Truncated has = absurd has
  refused_base line behind is form said here fault.Version has = absurd has
  refused_base line behind is form said here fault.Line has = absurd has
  refused_base line behind is form said here (fault.Config f) has = absurd has

  pub base_step : (line : List ℕ) (rest : List (List ℕ)) → left ≡ line ∷ rest → 0 < length rest → (form : Form) → Says v line form → is_of_base form ≡ true → IsFormTaken b form → HasLines text (taken + 1) rest (of_base v (with_has b form))
  base_step line rest is full form said here takes =
      longer_step h line rest is full form said (not_of_header form here) (placed form here takes.next) takes.readable
      (λ forms all. unfit_is form here forms all ∙ takes.fit) (with_has b form) []
      (longer_base v b form said.of_version here h.kept h.held h.lsas takes)

  pub added_base : (line behind : List ℕ) → left ≡ line ∷ parts_of behind → (form : Form) → Says v line form → is_of_base form ≡ true → IsFormTaken b form → (new : Base) → new ≡ with_has b form → HasLines text (taken + 1) (parts_of behind) (of_base v new)
  added_base line behind is form said here takes new same =
      subst (λ (c : Base). HasLines text (taken + 1) (parts_of behind) (of_base v c)) (sym same) (base_step line (parts_of behind) is (parts_full behind) form said here takes)

-- ---- where the base ends

to_base_end : (v : Version) (line : List ℕ) (rest : List (List ℕ)) → ((form : Form) → Says v line form → is_of_base form ≢ true) → EndsBase v (line ∷ rest)
to_base_end v line [] other = tt
to_base_end v line (next ∷ more) other = other

pub cut_ends : (v : Version) {left : List (List ℕ)} (cut : List ℕ) → left ≡ cut ∷ [] → EndsBase v left
cut_ends v cut is = subst (EndsBase v) (sym is) tt

-- a line of no form ends a base
pub no_form_ends : (v : Version) {left : List (List ℕ)} (line : List ℕ) (rest : List (List ℕ)) → left ≡ line ∷ rest → ((form : Form) → ¬ Says v line form) → EndsBase v left
no_form_ends v line rest is none = subst (EndsBase v) (sym is) (to_base_end v line rest (λ form said. absurd (none form said)))

-- and so does a line of another form
pub other_ends : (v : Version) {left : List (List ℕ)} (line : List ℕ) (rest : List (List ℕ)) → left ≡ line ∷ rest → (form : Form) → Says v line form → is_of_base form ≡ false → EndsBase v left
other_ends v line rest is form said other =
    subst (EndsBase v) (sym is) (to_base_end v line rest (λ g says here. not_both (is_of_base form) (subst (λ (f : Form). is_of_base f ≡ true) (says_one line g form says said) here) other))
