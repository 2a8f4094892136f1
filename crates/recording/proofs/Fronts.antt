-- The base that the lines give so far.
use Rattle.std.proofs.Common.{ℕ, ◌≡◌, ◌++◌, ◌||◌, Bool, true, false, List, [], ◌∷◌, map, refl, sym, ap, ◌∙◌, append-nil}
use Rattle.std.specs.List.{flat_map, list_any, AllPass}
use Rattle.std.proofs.lemmas.List.Concat.{flat_map-append}
use Rattle.std.proofs.lemmas.List.Elements.{All-head, All-tail}
use Rattle.std.proofs.lemmas.List.Folds.{list_any-append}
use Rattle.ospf_types.specs.declared.config.AreaConfig.{AreaConfig}
use Rattle.ospf_types.specs.declared.config.Interface.{Interface}
use Rattle.ospf_types.specs.declared.key.Scope.{Scope}
use Rattle.ospf_types.specs.Lsa.{Lsa}
use Rattle.lsa_codec.specs.Decoding.{lsa_of}
use Rattle.lsa_codec.specs.Spelling.{spelling}
use Rattle.lsa_codec.proofs.Again.{spelled_same}
use Rattle.event_state.specs.declared.base.Base.{Base}
use Rattle.recording.specs.Forms.{Form, AreaLine, RangeLine, HasInterfaceLine, HasLsaLine, BodyLine}
use Rattle.recording.specs.Places.{areas_from, areas_of, based, front_of, has_ended, headed, interfaces_in, is_of_body, is_of_header, lsas_in}
use Rattle.recording.specs.declared.version.Version.{Version}
use Rattle.recording.specs.Progress.{IsBare}
use Rattle.recording.specs.Recordings.{AreLsasOfBytes, IsLsaOfBytes, area_forms, forms_of, front_forms, has_forms, header_forms, interface_form, lsa_form}
use Rattle.recording.proofs.Areas.{areas_of_said, areas_not_ended, areas_of_header, areas_from-append}

-- ---- the lines of a header say no interface, no LSA and nothing that happened

header_interfaces : (form : Form) → is_of_header form ≡ true → interfaces_in form ≡ []
header_interfaces (HasInterfaceLine id i) here = cc
header_interfaces (AreaLine id stub) here = refl
header_interfaces (RangeLine area range) here = refl
header_interfaces (BodyLine body) here = cc
header_interfaces _ here = refl

header_lsas : (form : Form) → is_of_header form ≡ true → lsas_in form ≡ []
header_lsas (HasLsaLine at bytes) here = cc
header_lsas (AreaLine id stub) here = refl
header_lsas (RangeLine area range) here = refl
header_lsas (BodyLine body) here = cc
header_lsas _ here = refl

header_body : (form : Form) → is_of_header form ≡ true → is_of_body form ≡ false
header_body (BodyLine body) here = cc
header_body (AreaLine id stub) here = refl
header_body (RangeLine area range) here = refl
header_body _ here = refl

pub none_passes : {X : Type 0} (f : Form → List X) → ((form : Form) → is_of_header form ≡ true → f form ≡ []) → (fs : List Form) → AllPass is_of_header fs → flat_map f fs ≡ []
none_passes f none [] all = refl
none_passes {X} f none (g ∷ fs) all =
    let P : Form → Type 0 = λ form. is_of_header form ≡ true in
    ap (λ (xs : List X). xs ++ flat_map f fs) (none g (All-head P g fs all)) ∙ none_passes f none fs (All-tail P g fs all)

none_of_body : (fs : List Form) → AllPass is_of_header fs → list_any is_of_body fs ≡ false
none_of_body [] all = refl
none_of_body (g ∷ fs) all =
    let P : Form → Type 0 = λ form. is_of_header form ≡ true in
    ap (λ (b : Bool). b || list_any is_of_body fs) (header_body g (All-head P g fs all)) ∙ none_of_body fs (All-tail P g fs all)

-- ---- the lines of a base

pub none_mapped : {X Y : Type 0} (f : Form → List X) (g : Y → Form) → ((y : Y) → f (g y) ≡ []) → (ys : List Y) → flat_map f (map g ys) ≡ []
none_mapped f g none [] = refl
none_mapped {X} f g none (y ∷ ys) = ap (λ (xs : List X). xs ++ flat_map f (map g ys)) (none y) ∙ none_mapped f g none ys

none_of_body_mapped : {Y : Type 0} (g : Y → Form) → ((y : Y) → is_of_body (g y) ≡ false) → (ys : List Y) → list_any is_of_body (map g ys) ≡ false
none_of_body_mapped g none [] = refl
none_of_body_mapped g none (y ∷ ys) = ap (λ (b : Bool). b || list_any is_of_body (map g ys)) (none y) ∙ none_of_body_mapped g none ys

interfaces_said : (xs : List (ℕ × Interface)) → flat_map interfaces_in (map interface_form xs) ≡ xs
interfaces_said [] = refl
interfaces_said (x ∷ xs) = ap (λ (t : List (ℕ × Interface)). x ∷ t) (interfaces_said xs)

-- the bytes of an LSA are read as it
pub lsa_again : (l : Lsa) → IsLsaOfBytes l → lsa_of (spelling l) ≡ l
lsa_again l whole = spelled_same (spelling l) l whole.spelled

lsas_said : (xs : List (Scope × Lsa)) → AreLsasOfBytes xs → flat_map lsas_in (map lsa_form xs) ≡ xs
lsas_said [] whole = refl
lsas_said (x ∷ xs) whole =
    let P : Scope × Lsa → Type 0 = λ y. IsLsaOfBytes y.1 in
    ap (λ (l : Lsa). (x.0, l) ∷ flat_map lsas_in (map lsa_form xs)) (lsa_again x.1 (All-head P x xs whole))
    ∙ ap (λ (t : List (Scope × Lsa)). x ∷ t) (lsas_said xs (All-tail P x xs whole))

pub areas_stay : {Y : Type 0} (g : Y → Form) → ((areas : List AreaConfig) (y : Y) (fs : List Form) → areas_from areas (g y ∷ fs) ≡ areas_from areas fs) → (areas : List AreaConfig) (ys : List Y) → areas_from areas (map g ys) ≡ areas
areas_stay g stays areas [] = refl
areas_stay g stays areas (y ∷ ys) = stays areas y (map g ys) ∙ areas_stay g stays areas ys

-- all lines of a base after the first ones
abbrev pub base_forms : Base → List Form
base_forms b = flat_map area_forms b.config.areas ++ has_forms b

pub base_areas : (b : Base) → areas_of (base_forms b) ≡ b.config.areas
base_areas b =
    let hs : List Form = flat_map area_forms b.config.areas in
    let is : List Form = map interface_form b.interfaces in
    let ls : List Form = map lsa_form b.lsas in
    areas_from-append [] hs (is ++ ls)
    ∙ ap (λ (areas : List AreaConfig). areas_from areas (is ++ ls)) (areas_of_said b.config.areas)
    ∙ areas_from-append b.config.areas is ls
    ∙ ap (λ (areas : List AreaConfig). areas_from areas ls) (areas_stay interface_form (λ areas y fs. refl) b.config.areas b.interfaces)
    ∙ areas_stay lsa_form (λ areas y fs. refl) b.config.areas b.lsas

pub base_parts : {X : Type 0} (f : Form → List X) (b : Base) (xs ys : List X)
    → flat_map f (flat_map area_forms b.config.areas) ≡ [] → flat_map f (map interface_form b.interfaces) ≡ xs → flat_map f (map lsa_form b.lsas) ≡ ys → flat_map f (base_forms b) ≡ xs ++ ys
base_parts {X} f b xs ys none first second =
    let is : List Form = map interface_form b.interfaces in
    let ls : List Form = map lsa_form b.lsas in
    flat_map-append f (flat_map area_forms b.config.areas) (is ++ ls)
    ∙ ap (λ (t : List X). t ++ flat_map f (is ++ ls)) none
    ∙ flat_map-append f is ls
    ∙ ap (λ (t : List X). t ++ flat_map f ls) first
    ∙ ap (λ (t : List X). xs ++ t) second

pub base_interfaces : (b : Base) → flat_map interfaces_in (base_forms b) ≡ b.interfaces
base_interfaces b =
    base_parts interfaces_in b b.interfaces [] (none_passes interfaces_in header_interfaces _ (areas_of_header b.config.areas)) (interfaces_said b.interfaces) (none_mapped interfaces_in lsa_form (λ y. refl) b.lsas)
    ∙ append-nil b.interfaces

pub base_lsas : (b : Base) → AreLsasOfBytes b.lsas → flat_map lsas_in (base_forms b) ≡ b.lsas
base_lsas b whole =
    base_parts lsas_in b [] b.lsas (none_passes lsas_in header_lsas _ (areas_of_header b.config.areas)) (none_mapped lsas_in interface_form (λ y. refl) b.interfaces) (lsas_said b.lsas whole)

base_not_begun : (b : Base) → list_any is_of_body (base_forms b) ≡ false
base_not_begun b =
    let hs : List Form = flat_map area_forms b.config.areas in
    let is : List Form = map interface_form b.interfaces in
    let ls : List Form = map lsa_form b.lsas in
    list_any-append is_of_body hs (is ++ ls)
    ∙ ap (λ (c : Bool). c || list_any is_of_body (is ++ ls)) (none_of_body hs (areas_of_header b.config.areas))
    ∙ list_any-append is_of_body is ls
    ∙ ap (λ (c : Bool). c || list_any is_of_body ls) (none_of_body_mapped interface_form (λ y. refl) b.interfaces)
    ∙ none_of_body_mapped lsa_form (λ y. refl) b.lsas

-- what the lines of a base say is the base, and whether the header has ended
pub front_of_base : (b : Base) → AreLsasOfBytes b.lsas → front_of (base_forms b) ≡ record (based b) { ended = has_ended (base_forms b) }
front_of_base b whole = λ i. record {
  areas = base_areas b i;
  interfaces = base_interfaces b i;
  lsas = base_lsas b whole i;
  ended = has_ended (base_forms b);
  begun = base_not_begun b i;
}

-- and those of a header its areas
pub front_of_said : (areas : List AreaConfig) → front_of (flat_map area_forms areas) ≡ headed areas
front_of_said areas = λ i. record {
  areas = areas_of_said areas i;
  interfaces = none_passes interfaces_in header_interfaces (flat_map area_forms areas) (areas_of_header areas) i;
  lsas = none_passes lsas_in header_lsas (flat_map area_forms areas) (areas_of_header areas) i;
  ended = areas_not_ended areas i;
  begun = none_of_body (flat_map area_forms areas) (areas_of_header areas) i;
}

-- ---- a base of which the header alone is read

none_held : (b : Base) → IsBare b → has_forms b ≡ []
none_held b bare =
    ap (λ (xs : List (ℕ × Interface)). map interface_form xs ++ map lsa_form b.lsas) bare.interfaces
    ∙ ap (λ (ls : List (Scope × Lsa)). map lsa_form ls) bare.lsas

pub bare_forms : (v : Version) (b : Base) → IsBare b → header_forms v b ≡ forms_of (record { version = v; base = b; lines = [] })
bare_forms v b bare =
    sym (append-nil (header_forms v b))
    ∙ ap (λ (fs : List Form). header_forms v b ++ fs) (sym (none_held b bare))
    ∙ sym (append-nil (front_forms v b))
