-- The answer of `abr one` for its words.
use Rattle.std.proofs.Common.{◌≡◌, ◌⊎◌, ◌∙◌, ◌++◌, List, ℕ, Ok, ap, sym, inl, inr, codes, append_assoc}
use Rattle.std.specs.Prelude.{decimal}
use Rattle.hex.specs.Hex.{decode_of}
use Rattle.ospf_types.specs.Lsa.{Lsa}
use Rattle.lsa_codec.specs.Checksum.{IsSound}
use Rattle.lsa_codec.specs.Spelling.{Spells}
use Rattle.route_table.specs.declared.table.Match.{Match}
use Rattle.route_table.specs.Tables.{TableValue}
use Rattle.route_table.specs.Texts.{match_text}
use Rattle.cli_queries.specs.declared.command_fault.CommandFault.{CommandFault}
use Rattle.cli_queries.specs.declared.command_fault.CommandFault.TheVariants as fault
use Rattle.cli_args.specs.Command.{OneTexts}
use Rattle.cli_queries.specs.Words.{WritesLsa}
use Rattle.cli_queries.specs.Answers.{AnswerValue, IsAnswer, faulty}
use Rattle.cli_queries.specs.One.{OneArguments, Say, PrintsMatch, HasAnswerLine, IsEngineFault, IsFault, lookup_line}

pub writes_lsa : (word read bytes : List ℕ) (lsa : Lsa) → decode_of word ≡ Ok read → bytes ≡ read → IsSound bytes → Spells bytes lsa → WritesLsa word lsa
writes_lsa word read bytes lsa given same sound spelled = record { bytes = bytes; given = given ∙ ap Ok (sym same); sound = sound; spelled = spelled }

pub fault_widens : (words : OneTexts) (g : OneArguments) (f : CommandFault) → Say words g → IsEngineFault g f → IsFault words f
fault_widens words g (fault.Word f) say h = absurd h
fault_widens words g (fault.Wire f) say h = absurd h
fault_widens words g (fault.Config f) say h = (g, say, h)
fault_widens words g (fault.Refused r) say h = (g, say, h)
fault_widens words g (fault.Read file) say h = absurd h
fault_widens words g (fault.Line f) say h = absurd h
fault_widens words g (fault.Capture file place kind) say h = absurd h
fault_widens words g fault.Beginning say h = absurd h
fault_widens words g fault.Memory say h = tt
fault_widens words g fault.Write say h = absurd h
fault_widens words g (fault.WriteTo file) say h = absurd h
fault_widens words g fault.Spawn say h = absurd h
fault_widens words g fault.Place say h = (g, say, h)
fault_widens words g fault.NoEntry say h = (g, say, h)

pub answers : (words : OneTexts) (g : OneArguments) (line : List ℕ) → Say words g → PrintsMatch g line → HasAnswerLine words line
answers words g line say h = record {
  given = g;
  say = say;
  table = h.table;
  right = h.right;
  found = h.found;
  matched = h.matched;
  printed = h.printed ∙ ap (λ (w : List ℕ). lookup_line w h.table h.found) (sym say.lookup.spelled);
}

-- the pieces of the format, as they are written one after the other
pub line_printed : (line word : List ℕ) (serial : ℕ) (t : TableValue) (found : Match)
    → line ≡ codes "lookup " ++ (word ++ (codes " " ++ (decimal serial ++ (codes " " ++ (match_text found ++ codes "\n"))))) → serial ≡ t.serial → line ≡ lookup_line word t found
line_printed line word serial t found written is = written ∙ rw is (simp append_assoc)

-- the answer for a fault is for the fault, or for a lack of memory
pub fault_answers : (PrintsMatch : List ℕ → Type 0) (Is : CommandFault → Type 0) (f : CommandFault) (a : AnswerValue) → Is f → Is fault.Memory → (a ≡ faulty f) ⊎ (a ≡ faulty fault.Memory) → IsAnswer PrintsMatch Is a
fault_answers PrintsMatch Is f a h memory (inl e) = inr (f, h, e)
fault_answers PrintsMatch Is f a h memory (inr e) = inr (fault.Memory, memory, e)
