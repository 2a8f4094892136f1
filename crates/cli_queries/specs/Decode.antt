-- The output of `abr decode`: the fields of an LSA (RFC 2328, A.4).
use Rattle.std.specs.Prelude.{ℕ, ◌≡◌, ◌++◌, List, [], ◌∷◌, codes, decimal, Bool, if◌then◌else◌}
use Rattle.std.specs.Int.{w16, w32, to_be_bytes}
use Rattle.hex.specs.Hex.{encode_lower}
use Rattle.ospf_types.specs.declared.lsa.Header.{Header}
use Rattle.ospf_types.specs.Lsa.{Lsa}
use Rattle.ospf_types.specs.Text.{address_text}
use Rattle.lsa_codec.specs.Spelling.{body_bytes}
use Rattle.output_lines.specs.Words.{words_of}
use Rattle.cli_queries.specs.declared.argument_values.WordFault.TheVariants.{NotAnAddress, NotHexadecimal, NotANumber, NotANetwork, Memory}
use Rattle.cli_queries.specs.declared.command_fault.CommandFault.{CommandFault}
use Rattle.cli_queries.specs.declared.command_fault.CommandFault.TheVariants as fault
use Rattle.cli_queries.specs.Words.{IsHexadecimal, WritesLsa, HasWireFault}
use Rattle.cli_queries.specs.Answers.{AnswerValue, IsAnswer}

-- the fields of a header, each after its name; Options, sequence number and checksum in hexadecimal
abbrev pub front_text : Header → List ℕ
front_text h = codes "age " ++ decimal h.age ++ codes " options " ++ encode_lower (h.options ∷ []) ++ codes " kind " ++ decimal h.kind

abbrev pub ids_text : Header → List ℕ
ids_text h = codes "id " ++ address_text h.id ++ codes " router " ++ address_text h.router

abbrev pub instance_text : Header → List ℕ
instance_text h = codes "seq " ++ encode_lower (to_be_bytes w32 h.seq) ++ codes " sum " ++ encode_lower (to_be_bytes w16 h.sum) ++ codes " length " ++ decimal h.length

-- two lines: the header, and the bytes after it in hexadecimal
abbrev pub fields_text : Header → List ℕ → List ℕ
fields_text h body =
    front_text h ++ codes " " ++ ids_text h ++ codes " " ++ instance_text h ++ codes "\nbody " ++ body ++ codes "\n"

abbrev pub decoded_text : Lsa → List ℕ
decoded_text l = fields_text l.header (encode_lower (body_bytes l.body))

-- in words, or in two lines
abbrev pub printed_lsa : Bool → Lsa → List ℕ
printed_lsa long l = if long then words_of l else decoded_text l

-- the text has the LSA of the word
pub record Decodes (long : Bool) (word text : List ℕ) : Type 0 where
  pub lsa : Lsa
  pub given : WritesLsa word lsa
  pub printed : text ≡ printed_lsa long lsa

-- the reason why no lines are printed
abbrev pub IsDecodeFault : List ℕ → CommandFault → Type 0
IsDecodeFault word (fault.Word NotAnAddress) = ⊥
IsDecodeFault word (fault.Word NotHexadecimal) = ¬ IsHexadecimal word
IsDecodeFault word (fault.Word NotANumber) = ⊥
IsDecodeFault word (fault.Word NotANetwork) = ⊥
IsDecodeFault word (fault.Word Memory) = Unit {0}
IsDecodeFault word (fault.Wire f) = HasWireFault word f
IsDecodeFault word fault.Memory = Unit {0}
IsDecodeFault word _ = ⊥

-- the answer of `abr decode` with this word, with a line for each field if asked for
abbrev pub IsDecodeAnswer : Bool → List ℕ → AnswerValue → Type 0
IsDecodeAnswer long word = IsAnswer (Decodes long word) (IsDecodeFault word)
