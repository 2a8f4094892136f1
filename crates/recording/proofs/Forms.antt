-- The meaning of a line: its words again, and that no line says two things.
use Rattle.std.proofs.Common.{ℕ, ◌≡◌, ◌/◌, ◌%◌, ◌^◌, ◌<◌, ◌≤◌, Bool, true, false, cond, List, [], ◌∷◌, ◌++◌, length, get_or, drop, Option, Some, None, All, codes, decimal, refl, sym, ap, ◌∙◌, zero, suc, ◌==◌, inl, inr, arith, ltb, append_assoc, lit≤}
use Rattle.std.proofs.lemmas.Bool.{ne_eqb, false_from_ne_true}
use Rattle.std.proofs.lemmas.Bool.Decides.{Decides-by_and, Decides-ltb}
use Rattle.std.proofs.lemmas.Fmt.{decimal_is_IsNumeral}
use Rattle.std.proofs.lemmas.List.Elements.{All-nil, All-cons, All-head, All-append, All-weaker, All-get_or, All-from_get_or}
use Rattle.std.proofs.lemmas.List.Splits.{slice_split_none, slice_split_at}
use Rattle.std.proofs.lemmas.Slice.Eq.{bytes_eq-Decides}
use Rattle.std.proofs.lemmas.Str.Parse.{digit_at}
use Rattle.std.proofs.NetLemmas.Alphabet.{IsDigitOrDot, All-ipv4_text}
use Rattle.std.proofs.lemmas.Nat.{from_be_bytes-to_be_bytes_4}
use Rattle.std.proofs.NetLemmas.Ipv4.{read_ipv4_complete}
use Rattle.std.specs.Int.{w32, to_be_bytes, from_be_bytes}
use Rattle.std.specs.List.{join_with_byte, list_all, slice_split}
use Rattle.std.specs.Net.Reader.{read_ipv4}
use Rattle.std.specs.Str.{bytes_eq}
use Rattle.std.specs.Str.Parse.{digits_value}
use Rattle.hex.specs.Hex.{IsBytes, encode_lower, encode_with, lower_digits}
use Rattle.hex.proofs.HexLemmas.{decode_of-encode_lower}
use Rattle.ospf_types.specs.declared.config.Interface.{Interface}
use Rattle.ospf_types.specs.declared.config.Range.{Range}
use Rattle.ospf_types.specs.declared.config.Stub.{Stub}
use Rattle.ospf_types.specs.declared.key.Key.{Key}
use Rattle.ospf_types.specs.declared.key.Scope.{Scope}
use Rattle.ospf_types.specs.declared.key.Scope.TheVariants as scope
use Rattle.ospf_types.specs.declared.prefix.Prefix.{Prefix}
use Rattle.ospf_types.specs.Text.{address_text, prefix_text}
use Rattle.ospf_types.proofs.Addresses.{address_dotted}
use Rattle.recording.specs.Reading.{bytes_of, bytes_or_none}
use Rattle.recording.specs.declared.version.Version.{Version}
use Rattle.recording.specs.declared.version.Version.TheVariants.{One, Two, Three}
use Rattle.recording.specs.Forms.{Form, Body, VersionLine, RouterLine, CompatLine, SerialLine, AreaLine, RangeLine, HasInterfaceLine, HasLsaLine, BodyLine, InterfaceLine, InstallLine, FlushLine, PurgeLine, RangeSetLine, RangeDropLine, SecondLine, LookupLine, RollLine, AreBytes, IsForm, IsBody, IsAddress, IsScope, IsKey, IsPrefix, IsStub, IsInterface, Says, words_of, body_words, interface_words, line_text, lsa_words, range_words, scope_text, stub_words, key_words}
use Rattle.recording.specs.Recordings.{interface_line}

-- ---- the bytes of words

-- no byte up to a space, so neither a space nor a line feed
pub record Plain (word : List ℕ) : Type 0 where
  pub all : All (λ b. 32 < b) word

pub Plain-literal : (word : List ℕ) → list_all (λ b. ltb 32 b) word ≡ true → Plain word
Plain-literal word h = record {
  all = (Decides-by_and (λ b. ltb 32 b) (λ b. 32 < b) (list_all (λ b. ltb 32 b)) (λ b. Decides-ltb 32 b) refl (λ _ _. refl) word).0 h;
}

Plain-cons : {b : ℕ} {word : List ℕ} → 32 < b → Plain word → Plain (b ∷ word)
Plain-cons {b} {word} above h = record { all = All-cons (λ c. 32 < c) b word above h.all }

Plain-append : (front rest : List ℕ) → Plain front → Plain rest → Plain (front ++ rest)
Plain-append front rest f r = record { all = All-append (λ b. 32 < b) front rest f.all r.all }

pub Plain-decimal : (n : ℕ) → n < 2 ^ 64 → Plain (decimal n)
Plain-decimal n fits = record {
  all = All-from_get_or (λ b. 32 < b) (decimal n) 0 λ i h.
      let digit = digit_at (decimal n) i (decimal_is_IsNumeral n fits).0.1 h in omega (arith, digit);
}

address_bytes : (n : ℕ) → n < 2 ^ 32 → (k : ℕ) → get_or (to_be_bytes w32 n) k 0 < 2 ^ 8
address_bytes n fits zero = omega arith
address_bytes n fits (suc zero) = omega arith
address_bytes n fits (suc (suc zero)) = omega arith
address_bytes n fits (suc (suc (suc zero))) = omega arith
address_bytes n fits (suc (suc (suc (suc k)))) = omega arith

-- the text of an address has digits and dots alone
pub address_alphabet : (n : ℕ) → n < 2 ^ 32 → All IsDigitOrDot (address_text n)
address_alphabet n fits = All-ipv4_text (to_be_bytes w32 n) (address_bytes n fits)

digit_or_dot_plain : (b : ℕ) → IsDigitOrDot b → 32 < b
digit_or_dot_plain b h = elim h [ inl digit ↦ omega arith | inr dot ↦ omega arith ]

pub Plain-address : (n : ℕ) → n < 2 ^ 32 → Plain (address_text n)
Plain-address n fits = record { all = All-weaker IsDigitOrDot (λ b. 32 < b) digit_or_dot_plain (address_text n) (address_alphabet n fits) }

digit_plain : (d : ℕ) → d < 16 → 32 < get_or lower_digits d 0
digit_plain d h = All-get_or (λ b. 32 < b) lower_digits d 0 h (Plain-literal lower_digits refl).all

pub Plain-encode : (bytes : List ℕ) → All (λ b. b < 2 ^ 8) bytes → Plain (encode_lower bytes)
unfolding encode_with
Plain-encode [] h = Plain-literal [] refl
Plain-encode (b ∷ bytes) h =
    let small : b < 2 ^ 8 = h 0 0 (omega arith) in
    let rest = Plain-encode bytes (λ k d l. h (suc k) d (omega arith)) in
    Plain-cons (digit_plain (b / 16) (omega arith)) (Plain-cons (digit_plain (b % 16) (omega arith)) rest)

Plain-cond : (b : Bool) (first second : List ℕ) → Plain first → Plain second → Plain (cond b first second)
Plain-cond true first second f s = f
Plain-cond false first second f s = s

Plain-scope : (at : Scope) → IsScope at → Plain (scope_text at)
Plain-scope (scope.Area id) h = Plain-address id h
Plain-scope scope.As h = Plain-literal (codes "as") refl

Plain-prefix : (prefix : Prefix) → IsPrefix prefix → Plain (prefix_text prefix)
Plain-prefix prefix h =
    let slash = Plain-literal (codes "/") refl in
    let bound = h.length in
    Plain-append (address_text prefix.address ++ codes "/") _ (Plain-append (address_text prefix.address) (codes "/") (Plain-address prefix.address h.address) slash) (Plain-decimal prefix.length (omega arith))

-- ---- the words of a form

abbrev pub AllPlain : List (List ℕ) → Type 0
AllPlain [] = Unit {0}
AllPlain (word ∷ words) = Plain word × AllPlain words

stub_plain : (stub : Option Stub) → IsStub stub → AllPlain (stub_words stub)
stub_plain None h = (Plain-literal (codes "normal") refl, tt)
stub_plain (Some stub) h = (
  Plain-literal (codes "stub") refl,
  (
    Plain-decimal stub.cost (omega arith),
    (Plain-cond stub.summaries _ _ (Plain-literal (codes "all") refl) (Plain-literal (codes "default") refl), tt),
  ),
)

key_plain : (key : Key) → IsKey key → AllPlain (key_words key)
key_plain key h =
    let kind = h.kind in
    (Plain-decimal key.kind (omega arith), (Plain-address key.id h.id, (Plain-address key.router h.router, tt)))

interface_plain : (id : ℕ) (i : Interface) → IsInterface id i.area i.address i.peer → AllPlain (interface_words id i)
interface_plain id i h = (
  Plain-decimal id (omega arith),
  (
    Plain-address i.area h.1,
    (
      Plain-address i.address h.2,
      (Plain-address i.peer h.3, (Plain-cond i.up _ _ (Plain-literal (codes "up") refl) (Plain-literal (codes "down") refl), tt)),
    ),
  ),
)

lsa_plain : (at : Scope) (bytes : List ℕ) → IsScope at → AreBytes bytes → AllPlain (lsa_words at bytes)
lsa_plain at bytes scope small = (Plain-scope at scope, (Plain-encode bytes small, tt))

range_plain : (area : ℕ) (range : Range) → IsAddress area → IsPrefix range.prefix → AllPlain (range_words area range)
range_plain area range address legal = (
  Plain-address area address,
  (Plain-prefix range.prefix legal, (Plain-cond range.advertise _ _ (Plain-literal (codes "advertise") refl) (Plain-literal (codes "hide") refl), tt)),
)

body_plain : (body : Body) → IsBody body → AllPlain (body_words body)
body_plain (InterfaceLine id area address peer up) h =
    (Plain-literal (codes "interface") refl, interface_plain id (record { area = area; address = address; peer = peer; up = up }) h)
body_plain (InstallLine at bytes) h = (Plain-literal (codes "install") refl, lsa_plain at bytes h.0 h.1)
body_plain (FlushLine at key) h = (Plain-literal (codes "flush") refl, (Plain-scope at h.0, key_plain key h.1))
body_plain (PurgeLine at key) h = (Plain-literal (codes "purge") refl, (Plain-scope at h.0, key_plain key h.1))
body_plain (RangeSetLine area range) h = (Plain-literal (codes "range-set") refl, range_plain area range h.0 h.1)
body_plain (RangeDropLine area prefix) h = (Plain-literal (codes "range-drop") refl, (Plain-address area h.0, (Plain-prefix prefix h.1, tt)))
body_plain SecondLine h = (Plain-literal (codes "second") refl, tt)
body_plain (LookupLine address) h = (Plain-literal (codes "lookup") refl, (Plain-address address h, tt))
body_plain RollLine h = (Plain-literal (codes "roll") refl, tt)

pub words_plain : (form : Form) → IsForm form → AllPlain (words_of form)
words_plain (VersionLine One) h = (Plain-literal (codes "abr") refl, (Plain-literal (codes "1") refl, tt))
words_plain (VersionLine Two) h = (Plain-literal (codes "abr") refl, (Plain-literal (codes "2") refl, tt))
words_plain (VersionLine Three) h = (Plain-literal (codes "abr") refl, (Plain-literal (codes "3") refl, tt))
words_plain (SerialLine serial) h = (Plain-literal (codes "serial") refl, (Plain-decimal serial h, tt))
words_plain (HasInterfaceLine id i) h = (Plain-literal (codes "has") refl, (Plain-literal (codes "interface") refl, interface_plain id i h))
words_plain (HasLsaLine at bytes) h = (Plain-literal (codes "has") refl, (Plain-literal (codes "lsa") refl, lsa_plain at bytes h.0 h.1))
words_plain (CompatLine compat) h =
    (Plain-literal (codes "compat") refl, (Plain-cond compat _ _ (Plain-literal (codes "enabled") refl) (Plain-literal (codes "disabled") refl), tt))
words_plain (RouterLine router) h = (Plain-literal (codes "router") refl, (Plain-address router h, tt))
words_plain (AreaLine id stub) h = (Plain-literal (codes "area") refl, (Plain-address id h.0, stub_plain stub h.1))
words_plain (RangeLine area range) h = (Plain-literal (codes "range") refl, range_plain area range h.0 h.1)
words_plain (BodyLine body) h = body_plain body h

-- ---- no line feed

plain_without : (word : List ℕ) (c : ℕ) → c ≤ 32 → Plain word → All (λ b. (b == c) ≡ false) word
plain_without word c small h = All-weaker (λ b. 32 < b) (λ b. (b == c) ≡ false) (λ b above. ne_eqb b c (omega arith)) word h.all

joined_without_feed : (words : List (List ℕ)) → AllPlain words → All (λ b. (b == 10) ≡ false) (join_with_byte 32 words)
joined_without_feed [] h = All-nil (λ b. (b == 10) ≡ false)
joined_without_feed (word ∷ []) h = plain_without word 10 (omega arith) h.0
joined_without_feed (word ∷ next ∷ words) h =
    All-append (λ b. (b == 10) ≡ false) word _ (plain_without word 10 (omega arith) h.0)
    (All-cons (λ b. (b == 10) ≡ false) 32 _ refl (joined_without_feed (next ∷ words) h.1))

-- a line has no line feed in it
pub no_line_feed : (form : Form) → IsForm form → All (λ b. (b == 10) ≡ false) (line_text form)
no_line_feed form h = joined_without_feed (words_of form) (words_plain form h)

-- ---- the words again

joined_split : (word : List ℕ) (words : List (List ℕ)) → Plain word → AllPlain words → slice_split (λ b. b == 32) (join_with_byte 32 (word ∷ words)) ≡ word ∷ words
joined_split word [] p h = slice_split_none (λ b. b == 32) word (plain_without word 32 (omega arith) p)
joined_split word (next ∷ words) p h =
    slice_split_at (λ b. b == 32) word 32 (join_with_byte 32 (next ∷ words)) (plain_without word 32 (omega arith) p) refl ∙ ap (λ rest. word ∷ rest) (joined_split next words h.0 h.1)

split_again : (words : List (List ℕ)) → 0 < length words → AllPlain words → slice_split (λ b. b == 32) (join_with_byte 32 words) ≡ words
split_again [] some h = absurd (omega arith)
split_again (word ∷ words) some h = joined_split word words h.0 h.1

some_body_word : (body : Body) → 0 < length (body_words body)
some_body_word (InterfaceLine id area address peer up) = omega arith
some_body_word (InstallLine at bytes) = omega arith
some_body_word (FlushLine at key) = omega arith
some_body_word (PurgeLine at key) = omega arith
some_body_word (RangeSetLine area range) = omega arith
some_body_word (RangeDropLine area prefix) = omega arith
some_body_word SecondLine = omega arith
some_body_word (LookupLine address) = omega arith
some_body_word RollLine = omega arith

some_word : (form : Form) → 0 < length (words_of form)
some_word (VersionLine version) = omega arith
some_word (CompatLine compat) = omega arith
some_word (RouterLine router) = omega arith
some_word (SerialLine serial) = omega arith
some_word (HasInterfaceLine id i) = omega arith
some_word (HasLsaLine at bytes) = omega arith
some_word (AreaLine id stub) = omega arith
some_word (RangeLine area range) = omega arith
some_word (BodyLine body) = some_body_word body

-- a line, cut at its spaces, is its words
pub line_split : (form : Form) → IsForm form → slice_split (λ b. b == 32) (line_text form) ≡ words_of form
line_split form h = split_again (words_of form) (some_word form) (words_plain form h)

-- ---- a form from its words, where they belong to one

address_of : Option (List ℕ × List ℕ) → ℕ
address_of None = 0
address_of (Some read) = from_be_bytes w32 read.0

abbrev address_in : List ℕ → ℕ
address_in word = address_of (read_ipv4 (word ++ []))

abbrev number_in : List ℕ → ℕ
number_in word = digits_value 10 word

abbrev scope_in : List ℕ → Scope
scope_in word = cond (bytes_eq word (codes "as")) scope.As (scope.Area (address_in word))

abbrev network_in : List (List ℕ) → Prefix
network_in parts = record { address = address_in (get_or parts 0 []); length = number_in (get_or parts 1 []) }

abbrev prefix_in : List ℕ → Prefix
prefix_in word = network_in (slice_split (λ b. b == 47) word)

abbrev stub_in : List (List ℕ) → Option Stub
stub_in [] = None
stub_in (word ∷ []) = None
stub_in (word ∷ cost ∷ words) = Some (record { cost = number_in cost; summaries = bytes_eq (get_or words 0 []) (codes "all") })

abbrev key_in : List (List ℕ) → Key
key_in words = record { kind = number_in (get_or words 0 []); id = address_in (get_or words 1 []); router = address_in (get_or words 2 []) }

abbrev range_in : List (List ℕ) → Range
range_in words = record { prefix = prefix_in (get_or words 0 []); advertise = bytes_eq (get_or words 1 []) (codes "advertise") }

abbrev interface_in : List (List ℕ) → Interface
interface_in words = record {
  area = address_in (get_or words 1 []);
  address = address_in (get_or words 2 []);
  peer = address_in (get_or words 3 []);
  up = bytes_eq (get_or words 4 []) (codes "up");
}

abbrev version_in : List ℕ → Version
version_in word = cond (bytes_eq word (codes "3")) Three (cond (bytes_eq word (codes "2")) Two One)

abbrev body_behind : List ℕ → List (List ℕ) → Body
body_behind word words =
    cond (bytes_eq word (codes "interface")) (interface_line (number_in (get_or words 0 [])) (interface_in words))
    (cond (bytes_eq word (codes "install")) (InstallLine (scope_in (get_or words 0 [])) (bytes_of (get_or words 1 [])))
    (cond (bytes_eq word (codes "flush")) (FlushLine (scope_in (get_or words 0 [])) (key_in (drop 1 words)))
    (cond (bytes_eq word (codes "purge")) (PurgeLine (scope_in (get_or words 0 [])) (key_in (drop 1 words)))
    (cond (bytes_eq word (codes "second")) SecondLine
    (cond (bytes_eq word (codes "roll")) RollLine
    (cond (bytes_eq word (codes "range-set")) (RangeSetLine (address_in (get_or words 0 [])) (range_in (drop 1 words)))
    (cond (bytes_eq word (codes "range-drop")) (RangeDropLine (address_in (get_or words 0 [])) (prefix_in (get_or words 1 [])))
    (LookupLine (address_in (get_or words 0 []))))))))))

abbrev has_behind : List (List ℕ) → Form
has_behind words =
    cond (bytes_eq (get_or words 0 []) (codes "interface")) (HasInterfaceLine (number_in (get_or words 1 [])) (interface_in (drop 1 words)))
    (HasLsaLine (scope_in (get_or words 1 [])) (bytes_of (get_or words 2 [])))

abbrev form_behind : List ℕ → List (List ℕ) → Form
form_behind word words =
    cond (bytes_eq word (codes "abr")) (VersionLine (version_in (get_or words 0 [])))
    (cond (bytes_eq word (codes "compat")) (CompatLine (bytes_eq (get_or words 0 []) (codes "enabled")))
    (cond (bytes_eq word (codes "router")) (RouterLine (address_in (get_or words 0 [])))
    (cond (bytes_eq word (codes "serial")) (SerialLine (number_in (get_or words 0 [])))
    (cond (bytes_eq word (codes "area")) (AreaLine (address_in (get_or words 0 [])) (stub_in (drop 1 words)))
    (cond (bytes_eq word (codes "range")) (RangeLine (address_in (get_or words 0 [])) (range_in (drop 1 words)))
    (cond (bytes_eq word (codes "has")) (has_behind words) (BodyLine (body_behind word words))))))))

abbrev form_in : List (List ℕ) → Form
form_in words = form_behind (get_or words 0 []) (drop 1 words)

address_again : (n : ℕ) → n < 2 ^ 32 → address_in (address_text n) ≡ n
unfolding address_of
address_again n fits = ap address_of (read_ipv4_complete (address_text n) (to_be_bytes w32 n) [] (address_dotted n fits) (lit≤ tt)) ∙ from_be_bytes-to_be_bytes_4 n fits

-- no text spells two addresses
pub address_one : (m n : ℕ) → m < 2 ^ 32 → n < 2 ^ 32 → address_text m ≡ address_text n → m ≡ n
address_one m n first second same = sym (address_again m first) ∙ ap address_in same ∙ address_again n second

number_again : (n : ℕ) → n < 2 ^ 64 → number_in (decimal n) ≡ n
number_again n fits = (decimal_is_IsNumeral n fits).1

pub are_bytes : (bytes : List ℕ) → All (λ b. b < 2 ^ 8) bytes → IsBytes bytes
are_bytes [] h i = omega arith
are_bytes (b ∷ bytes) h zero = h 0 0 (omega arith)
are_bytes (b ∷ bytes) h (suc i) = are_bytes bytes (λ k d l. h (suc k) d (omega arith)) i

-- a word that is another one
pub differs : (word other : List ℕ) → (word ≡ other → ⊥) → bytes_eq word other ≡ false
differs word other apart = false_from_ne_true (bytes_eq word other) (λ same. apart ((bytes_eq-Decides word other).0 same))

-- no address is written with a letter or a slash
address_not : (n c : ℕ) (rest : List ℕ) → n < 2 ^ 32 → 57 < c → address_text n ≡ c ∷ rest → ⊥
address_not n c rest fits above same =
    let alphabet : All IsDigitOrDot (c ∷ rest) = rw same at (address_alphabet n fits) in
    elim (All-head IsDigitOrDot c rest alphabet) [ inl digit ↦ omega arith | inr dot ↦ omega arith ]

scope_again : (at : Scope) → IsScope at → scope_in (scope_text at) ≡ at
scope_again (scope.Area id) h =
    let other = differs (address_text id) (codes "as") (address_not id 97 (115 ∷ []) h (omega arith)) in
    rw (other, address_again id h)
scope_again scope.As h = refl

without_slash : (b : ℕ) → IsDigitOrDot b → (b == 47) ≡ false
without_slash b h = ne_eqb b 47 (elim h [ inl digit ↦ omega arith | inr dot ↦ omega arith ])

number_alphabet : (n : ℕ) → n < 2 ^ 64 → All IsDigitOrDot (decimal n)
number_alphabet n fits = All-from_get_or IsDigitOrDot (decimal n) 0 (λ i h. inl (digit_at (decimal n) i (decimal_is_IsNumeral n fits).0.1 h))

pub prefix_split : (prefix : Prefix) → IsPrefix prefix → slice_split (λ b. b == 47) (prefix_text prefix) ≡ address_text prefix.address ∷ decimal prefix.length ∷ []
prefix_split prefix h =
    let bound = h.length in
    let front = All-weaker IsDigitOrDot (λ b. (b == 47) ≡ false) without_slash (address_text prefix.address) (address_alphabet prefix.address h.address) in
    let rest = All-weaker IsDigitOrDot (λ b. (b == 47) ≡ false) without_slash (decimal prefix.length) (number_alphabet prefix.length (omega arith)) in
    ap (slice_split (λ b. b == 47)) (append_assoc (address_text prefix.address) (codes "/") (decimal prefix.length))
    ∙ slice_split_at (λ b. b == 47) (address_text prefix.address) 47 (decimal prefix.length) front refl
    ∙ ap (λ parts. address_text prefix.address ∷ parts) (slice_split_none (λ b. b == 47) (decimal prefix.length) rest)

prefix_again : (prefix : Prefix) → IsPrefix prefix → prefix_in (prefix_text prefix) ≡ prefix
prefix_again prefix h =
    let bound = h.length in
    ap network_in (prefix_split prefix h) ∙ rw (address_again prefix.address h.address, number_again prefix.length (omega arith))

choice_again : (b : Bool) (first second : List ℕ) → bytes_eq first first ≡ true → bytes_eq second first ≡ false → bytes_eq (cond b first second) first ≡ b
choice_again true first second f s = f
choice_again false first second f s = s

stub_again : (stub : Option Stub) → IsStub stub → stub_in (stub_words stub) ≡ stub
stub_again None h = refl
stub_again (Some stub) h = rw (number_again stub.cost (omega arith), choice_again stub.summaries (codes "all") (codes "default") refl refl)

key_again : (key : Key) → IsKey key → key_in (key_words key) ≡ key
key_again key h =
    let kind = h.kind in
    rw (number_again key.kind (omega arith), address_again key.id h.id, address_again key.router h.router)

range_again : (range : Range) → IsPrefix range.prefix → range_in (prefix_text range.prefix ∷ cond range.advertise (codes "advertise") (codes "hide") ∷ []) ≡ range
range_again range h = rw (prefix_again range.prefix h, choice_again range.advertise (codes "advertise") (codes "hide") refl refl)

pub bytes_again : (bytes : List ℕ) → All (λ b. b < 2 ^ 8) bytes → bytes_of (encode_lower bytes) ≡ bytes
bytes_again bytes h = ap bytes_or_none (decode_of-encode_lower bytes (are_bytes bytes h))

interface_again : (id : ℕ) (i : Interface) → IsInterface id i.area i.address i.peer → interface_in (interface_words id i) ≡ i
interface_again id i h = rw (address_again i.area h.1, address_again i.address h.2, address_again i.peer h.3, choice_again i.up (codes "up") (codes "down") refl refl)

abbrev body_in : List (List ℕ) → Body
body_in words = body_behind (get_or words 0 []) (drop 1 words)

body_again : (body : Body) → IsBody body → body_in (body_words body) ≡ body
body_again (InterfaceLine id area address peer up) h =
    let i : Interface = record { area = area; address = address; peer = peer; up = up } in
    ap (λ n. interface_line n (interface_in (interface_words id i))) (number_again id (omega arith)) ∙ ap (interface_line id) (interface_again id i h)
body_again (InstallLine at bytes) h = ap (λ s. InstallLine s (bytes_of (encode_lower bytes))) (scope_again at h.0) ∙ ap (InstallLine at) (bytes_again bytes h.1)
body_again (FlushLine at key) h = ap (λ s. FlushLine s (key_in (key_words key))) (scope_again at h.0) ∙ ap (FlushLine at) (key_again key h.1)
body_again (PurgeLine at key) h = ap (λ s. PurgeLine s (key_in (key_words key))) (scope_again at h.0) ∙ ap (PurgeLine at) (key_again key h.1)
body_again (RangeSetLine area range) h =
    ap (λ a. RangeSetLine a (range_in (drop 1 (range_words area range)))) (address_again area h.0) ∙ ap (RangeSetLine area) (range_again range h.1)
body_again (RangeDropLine area prefix) h =
    ap (λ a. RangeDropLine a (prefix_in (prefix_text prefix))) (address_again area h.0) ∙ ap (RangeDropLine area) (prefix_again prefix h.1)
body_again SecondLine h = refl
body_again (LookupLine address) h = ap LookupLine (address_again address h)
body_again RollLine h = refl

-- the first word of such a line is none of the others
is_body : (body : Body) → form_in (body_words body) ≡ BodyLine (body_in (body_words body))
is_body (InterfaceLine id area address peer up) = refl
is_body (InstallLine at bytes) = refl
is_body (FlushLine at key) = refl
is_body (PurgeLine at key) = refl
is_body (RangeSetLine area range) = refl
is_body (RangeDropLine area prefix) = refl
is_body SecondLine = refl
is_body (LookupLine address) = refl
is_body RollLine = refl

form_again : (form : Form) → IsForm form → form_in (words_of form) ≡ form
form_again (VersionLine One) h = refl
form_again (VersionLine Two) h = refl
form_again (VersionLine Three) h = refl
form_again (SerialLine serial) h = ap SerialLine (number_again serial h)
form_again (HasInterfaceLine id i) h =
    ap (λ n. HasInterfaceLine n (interface_in (interface_words id i))) (number_again id (omega arith)) ∙ ap (HasInterfaceLine id) (interface_again id i h)
form_again (HasLsaLine at bytes) h =
    ap (λ s. HasLsaLine s (bytes_of (encode_lower bytes))) (scope_again at h.0) ∙ ap (HasLsaLine at) (bytes_again bytes h.1)
form_again (CompatLine true) h = refl
form_again (CompatLine false) h = refl
form_again (RouterLine router) h = ap RouterLine (address_again router h)
form_again (AreaLine id stub) h = ap (λ i. AreaLine i (stub_in (stub_words stub))) (address_again id h.0) ∙ ap (AreaLine id) (stub_again stub h.1)
form_again (RangeLine area range) h =
    ap (λ a. RangeLine a (range_in (prefix_text range.prefix ∷ cond range.advertise (codes "advertise") (codes "hide") ∷ []))) (address_again area h.0) ∙ ap (RangeLine area) (range_again range h.1)
form_again (BodyLine body) h = is_body body ∙ ap BodyLine (body_again body h)

-- no words belong to two forms
pub words_one : (f g : Form) → IsForm f → IsForm g → words_of f ≡ words_of g → f ≡ g
words_one f g first second same = sym (form_again f first) ∙ ap form_in same ∙ form_again g second

-- no line belongs to two forms
pub line_one : (f g : Form) → IsForm f → IsForm g → line_text f ≡ line_text g → f ≡ g
line_one f g first second same = words_one f g first second (sym (line_split f first) ∙ ap (slice_split (λ b. b == 32)) same ∙ line_split g second)

-- no line of a recording says two things
pub says_one : {v : Version} (line : List ℕ) (f g : Form) → Says v line f → Says v line g → f ≡ g
says_one line f g said again = line_one f g said.legal again.legal (sym said.spelled ∙ again.spelled)
