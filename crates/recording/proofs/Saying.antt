-- The meaning of a line's words, by the first of them.
use Rattle.std.proofs.Common.{ℕ, ◌≡◌, Bool, true, false, cond, List, [], ◌∷◌, Option, Ok, codes, decimal, refl, sym, ap, subst, ◌∙◌}
use Rattle.std.proofs.lemmas.List.Splits.{join_with_byte-slice_split}
use Rattle.std.proofs.lemmas.Bool.{both_ways}
use Rattle.std.proofs.lemmas.Slice.Eq.{bytes_eq-Decides}
use Rattle.std.specs.Str.{bytes_eq}
use Rattle.std.specs.List.{join_with_byte}
use Rattle.hex.specs.Hex.{decode_of, encode_lower}
use Rattle.hex.proofs.HexLemmas.{decode_of-encode_lower}
use Rattle.ospf_types.specs.declared.config.Range.{Range}
use Rattle.ospf_types.specs.declared.config.Stub.{Stub}
use Rattle.ospf_types.specs.declared.key.Scope.{Scope}
use Rattle.ospf_types.specs.declared.prefix.Prefix.{Prefix}
use Rattle.ospf_types.specs.Text.{address_text, prefix_text}
use Rattle.recording.specs.Forms.{Form, VersionLine, RouterLine, CompatLine, SerialLine, AreaLine, RangeLine, HasInterfaceLine, HasLsaLine, BodyLine, InterfaceLine, InstallLine, RangeSetLine, RangeDropLine, LookupLine, SecondLine, AreBytes, IsScope, IsSerial, IsPrefix, IsStub, IsAddress, IsOfVersion, Says, scope_text, stub_words, lsa_words, range_words, version_word}
use Rattle.recording.specs.Reading.{AreHexDigits, SaysWords, IsPair, bytes_of, cut, pair_words}
use Rattle.recording.specs.declared.version.Version.{Version}
use Rattle.ospf_types.specs.declared.config.Interface.{Interface}
use Rattle.recording.proofs.Forms.{are_bytes, bytes_again, line_split, words_one}

-- another first word
another : (a b : List ℕ) (s t : List (List ℕ)) → a ∷ s ≡ b ∷ t → bytes_eq a b ≡ false → ⊥
another a b s t same apart = let word : a ≡ b = cc same in both_ways (bytes_eq a b) apart ((bytes_eq-Decides a b).1 word)

-- the words after the first
pub same_rest : {before s t : List (List ℕ)} {a b : List ℕ} → before ≡ a ∷ s → before ≡ b ∷ t → s ≡ t
same_rest first second = cc (first, second)

-- ---- the words of one form

pub record ChoiceWords (first second : List ℕ) (words : List (List ℕ)) : Type 0 where
  pub is_first : Bool
  pub spelled : words ≡ cond is_first first second ∷ []

pub record VersionWords (words : List (List ℕ)) : Type 0 where
  pub version : Version
  pub spelled : words ≡ version_word version ∷ []

pub version_words : (words : List (List ℕ)) (form : Form) → SaysWords (codes "abr" ∷ words) form → VersionWords words
version_words words (VersionLine version) said = let spelled = said.spelled in record { version = version; spelled = cc spelled }
version_words words (BodyLine SecondLine) said = absurd (another (codes "abr") _ words _ said.spelled refl)
version_words words _ said = absurd (another (codes "abr") _ words _ said.spelled refl)

pub record AddressWords (words : List (List ℕ)) : Type 0 where
  pub address : ℕ
  pub legal : IsAddress address
  pub spelled : words ≡ address_text address ∷ []

pub router_words : (words : List (List ℕ)) (form : Form) → SaysWords (codes "router" ∷ words) form → AddressWords words
router_words words (RouterLine router) said = let spelled = said.spelled in record { address = router; legal = said.legal; spelled = cc spelled }
router_words words (BodyLine SecondLine) said = absurd (another (codes "router") _ words _ said.spelled refl)
router_words words _ said = absurd (another (codes "router") _ words _ said.spelled refl)

pub lookup_words : (words : List (List ℕ)) (form : Form) → SaysWords (codes "lookup" ∷ words) form → AddressWords words
lookup_words words (BodyLine (LookupLine address)) said = let spelled = said.spelled in record { address = address; legal = said.legal; spelled = cc spelled }
lookup_words words _ said = absurd (another (codes "lookup") _ words _ said.spelled refl)

pub record SerialWords (words : List (List ℕ)) : Type 0 where
  pub serial : ℕ
  pub legal : IsSerial serial
  pub spelled : words ≡ decimal serial ∷ []

pub serial_words : (words : List (List ℕ)) (form : Form) → SaysWords (codes "serial" ∷ words) form → SerialWords words
serial_words words (SerialLine serial) said = let spelled = said.spelled in record { serial = serial; legal = said.legal; spelled = cc spelled }
serial_words words (BodyLine SecondLine) said = absurd (another (codes "serial") _ words _ said.spelled refl)
serial_words words _ said = absurd (another (codes "serial") _ words _ said.spelled refl)

pub compat_words : (words : List (List ℕ)) (form : Form) → SaysWords (codes "compat" ∷ words) form → ChoiceWords (codes "enabled") (codes "disabled") words
compat_words words (CompatLine compat) said = let spelled = said.spelled in record { is_first = compat; spelled = cc spelled }
compat_words words (BodyLine SecondLine) said = absurd (another (codes "compat") _ words _ said.spelled refl)
compat_words words _ said = absurd (another (codes "compat") _ words _ said.spelled refl)

pub record AreaWords (words : List (List ℕ)) : Type 0 where
  pub id : ℕ
  pub stub : Option Stub
  pub address : IsAddress id
  pub legal : IsStub stub
  pub spelled : words ≡ address_text id ∷ stub_words stub

pub area_words : (words : List (List ℕ)) (form : Form) → SaysWords (codes "area" ∷ words) form → AreaWords words
area_words words (AreaLine id stub) said = let spelled = said.spelled in record { id = id; stub = stub; address = said.legal.0; legal = said.legal.1; spelled = cc spelled }
area_words words (BodyLine SecondLine) said = absurd (another (codes "area") _ words _ said.spelled refl)
area_words words _ said = absurd (another (codes "area") _ words _ said.spelled refl)

pub record RangeWords (words : List (List ℕ)) : Type 0 where
  pub area : ℕ
  pub range : Range
  pub address : IsAddress area
  pub legal : IsPrefix range.prefix
  pub spelled : words ≡ range_words area range

pub range_words_of : (words : List (List ℕ)) (form : Form) → SaysWords (codes "range" ∷ words) form → RangeWords words
range_words_of words (RangeLine area range) said = let spelled = said.spelled in record { area = area; range = range; address = said.legal.0; legal = said.legal.1; spelled = cc spelled }
range_words_of words (BodyLine SecondLine) said = absurd (another (codes "range") _ words _ said.spelled refl)
range_words_of words _ said = absurd (another (codes "range") _ words _ said.spelled refl)

pub range_set_words : (words : List (List ℕ)) (form : Form) → SaysWords (codes "range-set" ∷ words) form → RangeWords words
range_set_words words (BodyLine (RangeSetLine area range)) said =
    let spelled = said.spelled in record { area = area; range = range; address = said.legal.0; legal = said.legal.1; spelled = cc spelled }
range_set_words words _ said = absurd (another (codes "range-set") _ words _ said.spelled refl)

pub record PrefixWords (words : List (List ℕ)) : Type 0 where
  pub area : ℕ
  pub prefix : Prefix
  pub address : IsAddress area
  pub legal : IsPrefix prefix
  pub spelled : words ≡ address_text area ∷ prefix_text prefix ∷ []

pub range_drop_words : (words : List (List ℕ)) (form : Form) → SaysWords (codes "range-drop" ∷ words) form → PrefixWords words
range_drop_words words (BodyLine (RangeDropLine area prefix)) said =
    let spelled = said.spelled in record { area = area; prefix = prefix; address = said.legal.0; legal = said.legal.1; spelled = cc spelled }
range_drop_words words _ said = absurd (another (codes "range-drop") _ words _ said.spelled refl)

pub record InterfaceWords (words : List (List ℕ)) : Type 0 where
  pub pair : ℕ × Interface
  pub legal : IsPair pair
  pub spelled : words ≡ pair_words pair

pub interface_words_of : (words : List (List ℕ)) (form : Form) → SaysWords (codes "interface" ∷ words) form → InterfaceWords words
interface_words_of words (BodyLine (InterfaceLine id area address peer up)) said =
    let spelled = said.spelled in
    record { pair = (id, record { area = area; address = address; peer = peer; up = up }); legal = said.legal; spelled = cc spelled }
interface_words_of words _ said = absurd (another (codes "interface") _ words _ said.spelled refl)

pub record LsaWords (words : List (List ℕ)) : Type 0 where
  pub at : Scope
  pub bytes : List ℕ
  pub scope : IsScope at
  pub small : AreBytes bytes
  pub spelled : words ≡ lsa_words at bytes

pub install_words_of : (words : List (List ℕ)) (form : Form) → SaysWords (codes "install" ∷ words) form → LsaWords words
install_words_of words (BodyLine (InstallLine at bytes)) said =
    let spelled = said.spelled in record { at = at; bytes = bytes; scope = said.legal.0; small = said.legal.1; spelled = cc spelled }
install_words_of words _ said = absurd (another (codes "install") _ words _ said.spelled refl)

-- of the two words behind `has` the first
pub record HasWords (words : List (List ℕ)) : Type 0 where
  pub is_interface : Bool
  pub rest : List (List ℕ)
  pub spelled : words ≡ cond is_interface (codes "interface") (codes "lsa") ∷ rest

pub has_words : (words : List (List ℕ)) (form : Form) → SaysWords (codes "has" ∷ words) form → HasWords words
has_words words (HasInterfaceLine id i) said = let spelled = said.spelled in record { is_interface = true; rest = pair_words (id, i); spelled = cc spelled }
has_words words (HasLsaLine at bytes) said = let spelled = said.spelled in record { is_interface = false; rest = lsa_words at bytes; spelled = cc spelled }
has_words words (BodyLine SecondLine) said = absurd (another (codes "has") _ words _ said.spelled refl)
has_words words _ said = absurd (another (codes "has") _ words _ said.spelled refl)

-- another second word
another_second : (a b c : List ℕ) (s t : List (List ℕ)) → c ∷ a ∷ s ≡ c ∷ b ∷ t → bytes_eq a b ≡ false → ⊥
another_second a b c s t same apart =
    let behind : a ∷ s ≡ b ∷ t = cc same in another a b s t behind apart

pub has_interface_words : (words : List (List ℕ)) (form : Form) → SaysWords (codes "has" ∷ codes "interface" ∷ words) form → InterfaceWords words
has_interface_words words (HasInterfaceLine id i) said = let spelled = said.spelled in record { pair = (id, i); legal = said.legal; spelled = cc spelled }
has_interface_words words (HasLsaLine at bytes) said =
    absurd (another_second (codes "interface") (codes "lsa") (codes "has") words (lsa_words at bytes) said.spelled refl)
has_interface_words words (BodyLine SecondLine) said = absurd (another (codes "has") _ (codes "interface" ∷ words) _ said.spelled refl)
has_interface_words words _ said = absurd (another (codes "has") _ (codes "interface" ∷ words) _ said.spelled refl)

pub has_lsa_words : (words : List (List ℕ)) (form : Form) → SaysWords (codes "has" ∷ codes "lsa" ∷ words) form → LsaWords words
has_lsa_words words (HasLsaLine at bytes) said =
    let spelled = said.spelled in record { at = at; bytes = bytes; scope = said.legal.0; small = said.legal.1; spelled = cc spelled }
has_lsa_words words (HasInterfaceLine id i) said =
    absurd (another_second (codes "lsa") (codes "interface") (codes "has") words (pair_words (id, i)) said.spelled refl)
has_lsa_words words (BodyLine SecondLine) said = absurd (another (codes "has") _ (codes "lsa" ∷ words) _ said.spelled refl)
has_lsa_words words _ said = absurd (another (codes "has") _ (codes "lsa" ∷ words) _ said.spelled refl)

-- ---- a line and its words

-- the words belong to the form
words_said : {v : Version} (line : List ℕ) (form : Form) → Says v line form → SaysWords (cut line) form
words_said line form said = record { spelled = ap cut said.spelled ∙ line_split form said.legal; legal = said.legal }

pub form_said : (v : Version) (line : List ℕ) (form : Form) → SaysWords (cut line) form → IsOfVersion v form → Says v line form
form_said v line form words own = record {
  spelled = sym (join_with_byte-slice_split 32 line) ∙ ap (join_with_byte 32) words.spelled;
  legal = words.legal;
  of_version = own;
}

pub no_form_said : (v : Version) (line : List ℕ) → ((form : Form) → SaysWords (cut line) form → ⊥) → (form : Form) → Says v line form → ⊥
no_form_said v line none form said = none form (words_said line form said)

-- a form of another version
pub other_version_said : (v : Version) (line : List ℕ) (found : Form) → SaysWords (cut line) found → (IsOfVersion v found → ⊥) → (form : Form) → Says v line form → ⊥
other_version_said v line found words other form said =
    let at = words_said line form said in
    let same : form ≡ found = words_one form found said.legal words.legal (sym at.spelled ∙ words.spelled) in
    other (subst (IsOfVersion v) same said.of_version)

-- ---- digits

-- the bytes that digits write, and the digits of bytes
pub digits_again : (digits : List ℕ) → AreHexDigits digits
    → AreBytes (bytes_of digits) × (digits ≡ encode_lower (bytes_of digits)) × (decode_of digits ≡ Ok (bytes_of digits))
digits_again digits h =
    let same : bytes_of digits ≡ h.0 = ap bytes_of h.2 ∙ bytes_again h.0 h.1 in
    let small : AreBytes (bytes_of digits) = rw same h.1 in
    let spelled : digits ≡ encode_lower (bytes_of digits) = h.2 ∙ ap encode_lower (sym same) in
    (small, spelled, ap decode_of spelled ∙ decode_of-encode_lower (bytes_of digits) (are_bytes (bytes_of digits) small))

pub lsa_said : (words : List (List ℕ)) (at : Scope) (digits : List ℕ) → words ≡ scope_text at ∷ digits ∷ [] → AreHexDigits digits → words ≡ lsa_words at (bytes_of digits)
lsa_said words at digits is h = is ∙ ap (λ (d : List ℕ). scope_text at ∷ d ∷ []) (digits_again digits h).1
