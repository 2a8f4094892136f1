-- The beginning of a recording, as a recording.
use Rattle.std.proofs.Common.{◌≡◌, ◌∙◌, ℕ, false, List, [], ◌∷◌, All, None, Result, Ok, Err, OnOk, map, refl, sym, ap, subst}
use Rattle.std.specs.List.Sorted.{IsStrictlySortedBy}
use Rattle.std.specs.Ordering.{nat_cmp}
use Rattle.std.proofs.lemmas.List.Elements.{All-nil, All-cons}
use Rattle.ospf_types.specs.declared.config.AreaConfig.{AreaConfig}
use Rattle.ospf_types.specs.declared.config.Config.{Config}
use Rattle.ospf_types.specs.declared.config.Interface.{Interface}
use Rattle.ospf_types.specs.Configs.{config_fault_of}
use Rattle.event_state.specs.declared.base.Base.{Base}
use Rattle.event_state.specs.Bases.{bare}
use Rattle.event_state.specs.BaseFaults.{unfit_of, has_overfull_area}
use Rattle.event_state.specs.Steps.{standard_limits}
use Rattle.recording.specs.declared.version.Version.TheVariants.{One}
use Rattle.recording.specs.Forms.{IsForm}
use Rattle.recording.specs.Recordings.{RecordingValue, IsText, IsBaseOrdered, AreByNetworks, HasKind, HasWholeLsa, IsLineIn, IsLsaOfBytes, form_of, forms_of, front_forms, text_of}
use Rattle.recording.proofs.BaseSound.{ordered_sound}
use Rattle.recording.proofs.Pieces.{Appended, appended_more}
use Rattle.captured_config.specs.Areas.{ascending}
use Rattle.captured_config.specs.Lsas.{Captured}
use Rattle.captured_config.specs.declared.found.Found.{Found}
use Rattle.captured_config.specs.Interfaces.{interfaces_in}
use Rattle.captured_config.specs.Configs.{area_of, config_of, config_with}
use Rattle.captured_config.specs.Facts.{AreFacts, Facts, facts_in, facts_of}
use Rattle.captured_config.specs.Finding.{config_by, interfaces_by}
use Rattle.captured_config.specs.Fronts.{HasText, captured_recording, interface_event, interface_forms, recording_by, recording_with}
use Rattle.captured_config.proofs.Ascending.{ascending_sorted}
use Rattle.captured_config.proofs.KeptFacts.{same_config, same_interfaces}

-- ---- the text

mapped_twice : {X Y Z : Type 0} (f : Y → Z) (g : X → Y) (xs : List X) → map f (map g xs) ≡ map (λ x. f (g x)) xs
mapped_twice f g [] = refl
mapped_twice f g (x ∷ xs) = ap (λ zs. f (g x) ∷ zs) (mapped_twice f g xs)

pub lines_appended : (old mid new : List ℕ) (config : Config) (interfaces : List (ℕ × Interface)) (base : Base) → base ≡ bare config
    → Appended old mid (front_forms One base) → Appended mid new (interface_forms interfaces) → Appended old new (forms_of (recording_with config interfaces))
lines_appended old mid new config interfaces base is front lines =
    let first : Appended old mid (front_forms One (bare config)) = subst (λ (b : Base). Appended old mid (front_forms One b)) is front in
    let rest : Appended mid new (map form_of (map interface_event interfaces)) = subst (Appended mid new) (sym (mapped_twice form_of interface_event interfaces)) lines in
    appended_more old mid new (front_forms One (bare config)) (map form_of (map interface_event interfaces)) first rest.text rest.legal

-- ---- what is kept by a recording

module _ (c : Captured) where
  ids_kept : (ids : List ℕ) → map (λ (a : AreaConfig). a.id) (map (area_of c) ids) ≡ ids
  ids_kept [] = refl
  ids_kept (k ∷ ks) = ap (λ (rest : List ℕ). k ∷ rest) (ids_kept ks)

  no_ranges : (ids : List ℕ) → All (λ a. AreByNetworks a.ranges) (map (area_of c) ids)
  unfolding IsStrictlySortedBy
  no_ranges [] = All-nil (λ a. AreByNetworks a.ranges)
  no_ranges (k ∷ ks) = All-cons (λ a. AreByNetworks a.ranges) (area_of c k) (map (area_of c) ks) tt (no_ranges ks)

  base_ordered : (ids : List ℕ) → IsStrictlySortedBy nat_cmp ids → IsBaseOrdered (bare (config_with c ids))
  unfolding IsStrictlySortedBy
  base_ordered ids sorted = record {
    areas = record { ascending = subst (IsStrictlySortedBy nat_cmp) (sym (ids_kept ids)) sorted; ranges = no_ranges ids };
    interfaces = tt;
    lsas = tt;
  }

-- no area has too many LSAs, where there are none
none_overfull : (areas : List AreaConfig) → has_overfull_area areas [] standard_limits.area_lsas ≡ false
none_overfull [] = refl
none_overfull (a ∷ areas) = none_overfull areas

fit : (config : Config) → unfit_of standard_limits (bare config) ≡ None
fit config = rw (none_overfull config.areas) refl

all_kinds : (interfaces : List (ℕ × Interface)) → All HasKind (map interface_event interfaces)
all_kinds [] = All-nil HasKind
all_kinds (x ∷ xs) = All-cons HasKind (interface_event x) (map interface_event xs) tt (all_kinds xs)

all_in : (interfaces : List (ℕ × Interface)) → All (IsLineIn One) (map interface_event interfaces)
all_in [] = All-nil (IsLineIn One)
all_in (x ∷ xs) = All-cons (IsLineIn One) (interface_event x) (map interface_event xs) tt (all_in xs)

all_whole : (interfaces : List (ℕ × Interface)) → All HasWholeLsa (map interface_event interfaces)
all_whole [] = All-nil HasWholeLsa
all_whole (x ∷ xs) = All-cons HasWholeLsa (interface_event x) (map interface_event xs) tt (all_whole xs)

is_text : (c : Captured) (ids : List ℕ) (interfaces : List (ℕ × Interface)) → IsStrictlySortedBy nat_cmp ids → config_fault_of (config_with c ids) ≡ None
    → All IsForm (forms_of (recording_with (config_with c ids) interfaces)) → IsText (text_of (recording_with (config_with c ids) interfaces)) (recording_with (config_with c ids) interfaces)
is_text c ids interfaces sorted sound forms =
    let ordered = base_ordered c ids sorted in
    record {
      spelled = refl;
      forms = forms;
      held = All-nil (λ x. IsLsaOfBytes x.1);
      lsas = all_whole interfaces;
      kept = record {
        spelled = record { compat = λ v. refl; serial = λ v. refl; interfaces = λ v. refl; lsas = λ v. refl };
        sound = ordered_sound (bare (config_with c ids)) ordered sound (fit (config_with c ids));
        ordered = ordered;
        kinds = all_kinds interfaces;
        lines = all_in interfaces;
      };
    }

-- ---- what the facts tell is what the LSAs tell

module _ (c : Captured) (areas ids : List ℕ) (facts : Facts) (are : AreFacts c facts) (in_order : ids ≡ ascending areas) where
  pub same_by : config_by facts ids ≡ config_of c areas
  same_by = ap (λ (f : Facts). config_by f ids) are ∙ ap (config_by (facts_of c)) in_order ∙ same_config c (ascending areas)

  pub is_captured : recording_by facts ids ≡ captured_recording c areas
  is_captured =
      let found : interfaces_by facts.lists ids ≡ interfaces_in c.router c.lsas (ascending areas) =
      ap (λ (f : Facts). interfaces_by f.lists ids) are ∙ ap (interfaces_by (facts_in c.router c.lsas)) in_order ∙ same_interfaces c.router c.lsas (ascending areas) in
      ap (λ (k : Config). recording_with k (interfaces_by facts.lists ids).interfaces) same_by ∙ ap (λ (f : Found). recording_with (config_of c areas) f.interfaces) found

  pub front_text : config_fault_of (config_by facts ids) ≡ None → All IsForm (forms_of (recording_by facts ids)) → HasText (captured_recording c areas)
  front_text sound forms =
      is_text c (ascending areas) (interfaces_in c.router c.lsas (ascending areas)).interfaces (ascending_sorted areas)
      (subst (λ (k : Config). config_fault_of k ≡ None) same_by sound)
      (subst (λ (r : RecordingValue). All IsForm (forms_of r)) is_captured forms)

pub both_ok : {T E P Q R : Type 0} (r : Result T E) → (P → Q → R) → OnOk r P → OnOk r Q → OnOk r R
both_ok (Ok x) f p q = f p q
both_ok (Err e) f p q = tt
