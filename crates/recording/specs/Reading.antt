-- The contents of a line that was read.
use Rattle.std.specs.Prelude.{ℕ, Bool, cond, ◌≡◌, ◌≢◌, ◌<◌, ◌≤◌, ◌^◌, ◌⊎◌, ◌++◌, ◌==◌, List, [], ◌∷◌, length, slice_index, Option, Some, None, MatchOption, Result, Ok, Err, All}
use Rattle.std.specs.Borrow.{Bor}
use Rattle.std.specs.List.{slice_split}
use Rattle.std.specs.Str.Parse.{AllDigits, digits_value}
use Rattle.hex.specs.Hex.{decode_of, encode_lower}
use Rattle.hex.specs.declared.error.FromHexError.{FromHexError}
use Rattle.ospf_types.specs.declared.config.Interface.{Interface}
use Rattle.ospf_types.specs.declared.config.Range.{Range}
use Rattle.ospf_types.specs.declared.key.Key.{Key}
use Rattle.ospf_types.specs.declared.key.Scope.{Scope}
use Rattle.recording.specs.declared.form.LineForm.{LineForm}
use Rattle.recording.specs.declared.form.LineForm.TheVariants as read
use Rattle.recording.specs.Forms.{Form, VersionLine, RouterLine, CompatLine, SerialLine, AreaLine, RangeLine, HasInterfaceLine, HasLsaLine, BodyLine, InterfaceLine, InstallLine, FlushLine, PurgeLine, RangeSetLine, RangeDropLine, SecondLine, LookupLine, RollLine, AreBytes, IsAddress, IsForm, IsInterface, IsKey, IsPrefix, IsScope, IsSerial, interface_words, key_words, lsa_words, range_words, scope_text, words_of}

abbrev pub bytes_or_none : Result (List ℕ) FromHexError → List ℕ
bytes_or_none (Ok bytes) = bytes
bytes_or_none (Err e) = []

-- the bytes that the digits write
abbrev pub bytes_of : List ℕ → List ℕ
bytes_of digits = bytes_or_none (decode_of digits)

abbrev pub said_by : LineForm → Form
said_by (read.Version version) = VersionLine version
said_by (read.Router router) = RouterLine router
said_by (read.Compat compat) = CompatLine compat
said_by (read.Serial serial) = SerialLine serial
said_by (read.Area id stub) = AreaLine id stub
said_by (read.Range area range) = RangeLine area range
said_by (read.HasInterface id interface) = HasInterfaceLine id interface
said_by (read.HasLsa at digits) = HasLsaLine at (bytes_of digits.now)
said_by (read.Interface id i) = BodyLine (InterfaceLine id i.area i.address i.peer i.up)
said_by (read.Install at digits) = BodyLine (InstallLine at (bytes_of digits.now))
said_by (read.Flush at key) = BodyLine (FlushLine at key)
said_by (read.Purge at key) = BodyLine (PurgeLine at key)
said_by (read.RangeSet area range) = BodyLine (RangeSetLine area range)
said_by (read.RangeDrop area prefix) = BodyLine (RangeDropLine area prefix)
said_by read.Second = BodyLine SecondLine
said_by (read.Lookup address) = BodyLine (LookupLine address)
said_by read.Roll = BodyLine RollLine

-- the digits of an LSA spell bytes
abbrev pub HasDigits : LineForm → Type 0
HasDigits (read.Install at digits) = decode_of digits.now ≡ Ok (bytes_of digits.now)
HasDigits (read.HasLsa at digits) = decode_of digits.now ≡ Ok (bytes_of digits.now)
HasDigits _ = Unit {0}

-- ---- words

-- a text, cut at its spaces
abbrev pub cut : List ℕ → List (List ℕ)
cut text = slice_split (λ b. b == 32) text

-- the first of the words
abbrev pub first_word : List (List ℕ) → List ℕ
first_word [] = []
first_word (word ∷ words) = word

-- the words of what is left of a line
abbrev pub words_left : Option (Bor (List ℕ)) → List (List ℕ)
words_left None = []
words_left (Some text) = cut text.now

-- the text was read: a legal value that it spells, or `None` if it spells none
abbrev pub IsRead : {X : Type 0} → (X → List ℕ) → (X → Type 0) → List ℕ → Option X → Type 0
IsRead {X} spell Legal text read = MatchOption read ((x : X) → Legal x → text ≢ spell x) (λ x. Legal x × (text ≡ spell x))

-- the first of the words were read, and those are left after them
abbrev pub TakesWords : {X : Type 0} → (X → List (List ℕ)) → (X → Type 0) → (before after : List (List ℕ)) → Option X → Type 0
TakesWords {X} spell Legal before after read =
    MatchOption read ((x : X) (rest : List (List ℕ)) → Legal x → before ≢ spell x ++ rest) (λ x. Legal x × (before ≡ spell x ++ after))

-- the first of the words was read
abbrev pub TakesWord : {X : Type 0} → (X → List ℕ) → (X → Type 0) → (before after : List (List ℕ)) → Option X → Type 0
TakesWord {X} spell Legal before after read = TakesWords (λ (x : X). spell x ∷ []) Legal before after read

-- the first of the words was read, and the others are left, or `None` if there is none
abbrev pub IsFirstWord : (before after : List (List ℕ)) → Option (Bor (List ℕ)) → Type 0
IsFirstWord before after read = MatchOption read ((before ≡ []) × (after ≡ [])) (λ word. before ≡ word.now ∷ after)

-- the first word if it is true, else the second
abbrev pub either_word : (first second : List ℕ) → Bool → List ℕ
either_word first second = λ b. cond b first second

-- the value of a number of at most 64 bits that decimal digits write, or `None` if the text is no
-- such number
abbrev pub IsDecimalValue : List ℕ → Option ℕ → Type 0
IsDecimalValue text read =
    MatchOption read (AllDigits 10 text → 2 ^ 64 ≤ digits_value 10 text) (λ n. AllDigits 10 text × (n ≡ digits_value 10 text) × IsSerial n)

-- an interface with its id
abbrev pub pair_words : ℕ × Interface → List (List ℕ)
pair_words x = interface_words x.0 x.1

abbrev pub IsPair : ℕ × Interface → Type 0
IsPair x = IsInterface x.0 x.1.area x.1.address x.1.peer

-- at least one byte, and more than one only where the first is no zero
pub record IsUnpadded (text : List ℕ) : Type 0 where
  pub some : 0 < length text
  pub alone : slice_index text 0 ≡ 48 → length text ≡ 1

-- a hexadecimal digit, in lower case
abbrev pub IsLowerDigit : ℕ → Type 0
IsLowerDigit b = ((48 ≤ b) × (b ≤ 57)) ⊎ ((97 ≤ b) × (b ≤ 102))

-- the text spells bytes
abbrev pub AreHexDigits : List ℕ → Type 0
AreHexDigits text = (bytes : List ℕ) × All (λ b. b < 2 ^ 8) bytes × (text ≡ encode_lower bytes)

-- the digits of bytes are the only word, or `None` if the words are not that
abbrev pub AreLastDigits : List (List ℕ) → Option (Bor (List ℕ)) → Type 0
AreLastDigits words read =
    MatchOption read ((bytes : List ℕ) → AreBytes bytes → words ≢ encode_lower bytes ∷ []) (λ word. AreHexDigits word.now × (words ≡ word.now ∷ []))

-- ---- fields: each is what the words say, or `None` if they say no such thing

-- a range of an area
abbrev pub IsRangeRead : List (List ℕ) → Option (ℕ × Range) → Type 0
IsRangeRead words read =
    MatchOption read
    ((area : ℕ) (range : Range) → IsAddress area → IsPrefix range.prefix → words ≢ range_words area range)
    (λ p. IsAddress p.0 × IsPrefix p.1.prefix × (words ≡ range_words p.0 p.1))

-- an interface with its id
abbrev pub IsInterfaceRead : List (List ℕ) → Option (ℕ × Interface) → Type 0
IsInterfaceRead words read = MatchOption read ((x : ℕ × Interface) → IsPair x → words ≢ pair_words x) (λ x. IsPair x × (words ≡ pair_words x))

-- a database, and the digits of an LSA's bytes
abbrev pub IsLsaRead : List (List ℕ) → Option (Scope × Bor (List ℕ)) → Type 0
IsLsaRead words read =
    MatchOption read
    ((at : Scope) (bytes : List ℕ) → IsScope at → AreBytes bytes → words ≢ lsa_words at bytes)
    (λ p. IsScope p.0 × AreBytes (bytes_of p.1.now) × (words ≡ lsa_words p.0 (bytes_of p.1.now)))

-- a database, and the key of an LSA
abbrev pub IsKeyRead : List (List ℕ) → Option (Scope × Key) → Type 0
IsKeyRead words read =
    MatchOption read
    ((at : Scope) (key : Key) → IsScope at → IsKey key → words ≢ scope_text at ∷ key_words key)
    (λ p. IsScope p.0 × IsKey p.1 × (words ≡ scope_text p.0 ∷ key_words p.1))

-- ---- forms

-- the `has` line of the LSA whose bytes the digits write
abbrev pub has_lsa_line : Scope → (digits : List ℕ) → Form
has_lsa_line at digits = HasLsaLine at (bytes_of digits)

-- the words belong to a line that says this
pub record SaysWords (words : List (List ℕ)) (form : Form) : Type 0 where
  pub spelled : words ≡ words_of form
  pub legal : IsForm form

-- the words were read: what they say, or `None` if they say nothing
abbrev pub AreRead : List (List ℕ) → Option LineForm → Type 0
AreRead words read = MatchOption read ((form : Form) → ¬ SaysWords words form) (λ found. SaysWords words (said_by found) × HasDigits found)
