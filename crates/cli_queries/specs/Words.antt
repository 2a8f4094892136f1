-- The meaning of the words of a command.
use Rattle.std.specs.Prelude.{ℕ, ◌≡◌, ◌^◌, ◌<◌, ◌⊎◌, List, Some, None, Ok, IsOk, codes}
use Rattle.hex.specs.Hex.{decode_of}
use Rattle.ospf_types.specs.Lsa.{Lsa}
use Rattle.ospf_types.specs.Text.{address_text}
use Rattle.lsa_codec.specs.Checksum.{IsSound}
use Rattle.lsa_codec.specs.Spelling.{Spells}
use Rattle.lsa_codec.specs.Faults.{fault_of}
use Rattle.lsa_codec.specs.declared.fault.WireFault.{WireFault}
use Rattle.lsa_codec.specs.declared.fault.WireFault.TheVariants as wire
use Rattle.cli_queries.specs.declared.argument_values.WordFault.{WordFault}
use Rattle.cli_queries.specs.declared.argument_values.WordFault.TheVariants.{NotAnAddress, NotHexadecimal, NotANumber, NotANetwork, Memory}
use Rattle.cli_args.specs.Command.{OneTexts}
use Rattle.ospf_types.specs.declared.prefix.Prefix.{Prefix}
use Rattle.cli_queries.specs.Writing.{WritesNetwork}

-- the word writes this address
pub record WritesAddress (word : List ℕ) (address : ℕ) : Type 0 where
  pub within : address < 2 ^ 32
  pub spelled : word ≡ address_text address

-- the word writes an address
abbrev pub IsAddress : List ℕ → Type 0
IsAddress word = (address : ℕ) × (address < 2 ^ 32) × (word ≡ address_text address)

-- the word is an even number of hexadecimal digits, in either case
abbrev pub IsHexadecimal : List ℕ → Type 0
IsHexadecimal word = IsOk (decode_of word)

-- the reason why a word has no bytes
abbrev pub IsBytesFault : List ℕ → WordFault → Type 0
IsBytesFault word NotHexadecimal = ¬ IsHexadecimal word
IsBytesFault word Memory = Unit {0}
IsBytesFault word NotAnAddress = ⊥
IsBytesFault word NotANumber = ⊥
IsBytesFault word NotANetwork = ⊥

-- the word writes no network
abbrev pub IsNoNetwork : List ℕ → Type 0
IsNoNetwork word = (p : Prefix) → ¬ WritesNetwork word p

-- the word is the bytes of this LSA, which are sound, in hexadecimal
pub record WritesLsa (word : List ℕ) (lsa : Lsa) : Type 0 where
  pub bytes : List ℕ
  pub given : decode_of word ≡ Ok bytes
  pub sound : IsSound bytes
  pub spelled : Spells bytes lsa

-- the bytes of the word have this fault first, or memory ran out
abbrev pub HasWireFault : List ℕ → WireFault → Type 0
HasWireFault word f = (bytes : List ℕ) × (decode_of word ≡ Ok bytes) × ((fault_of bytes ≡ Some f) ⊎ ((f ≡ wire.Memory) × (fault_of bytes ≡ None)))

-- the first word that cannot be read has this fault
abbrev pub IsFirstFault : OneTexts → WordFault → Type 0
IsFirstFault t NotAnAddress =
    (¬ IsAddress t.router) ⊎ (¬ IsAddress t.area) ⊎ (¬ IsAddress t.address) ⊎ (IsHexadecimal t.lsa × ¬ IsAddress t.lookup)
IsFirstFault t NotHexadecimal = IsAddress t.router × IsAddress t.area × IsAddress t.address × ¬ IsHexadecimal t.lsa
IsFirstFault t NotANumber = ⊥
IsFirstFault t NotANetwork = ⊥
IsFirstFault t Memory = Unit {0}

-- each word of `abr one` can be read
pub record AreArgumentsRead (t : OneTexts) : Type 0 where
  pub router : IsAddress t.router
  pub area : IsAddress t.area
  pub address : IsAddress t.address
  pub lsa : IsHexadecimal t.lsa
  pub lookup : IsAddress t.lookup

abbrev pub fault_text : WordFault → List ℕ
fault_text NotAnAddress = codes "not an address"
fault_text NotHexadecimal = codes "not hexadecimal"
fault_text NotANumber = codes "not a number of a fault"
fault_text NotANetwork = codes "not a network"
fault_text Memory = codes "30 Memory"
