-- The place in memory of the names that options take does not matter to the command line.
use Rattle.std.proofs.Common.{◌≡◌, ◌∙◌, ◌||◌, Bool, sym, ap, ap₂, subst, refl, List, [], ◌∷◌, map, Option, Some, None, is_some, true}
use Rattle.std.specs.Prelude.{option_map, if◌then◌else◌}
use Rattle.std.specs.List.{list_any}
use Rattle.std.specs.Borrow.{Bor}
use Rattle.clap.specs.Values.{reading_of, same_text}
use Rattle.clap.specs.Facts.{parser_of_value}
use Rattle.clap.specs.Kinds.{HasKind, Kinds, value_kinds}
use Rattle.clap.specs.Walk.{Text, nothing_held, stop_after}
use Rattle.clap.specs.Simple.{App, HasMatchesOf, argument_words, built, entered, is_simple, names_of, subcommand_of, subcommand_rows_of}
use Rattle.clap.specs.Faults.{entered_fault, fault_of, is_simple_and_free, level_fault}
use Rattle.clap.specs.declared.builder.value_parser.ValueParser.{ValueParser}
use Rattle.clap.specs.declared.builder.value_parser.ValueParser.TheVariants.{Names}
use Rattle.clap.specs.declared.parser.matches.ArgMatches.{ArgMatches}
use Rattle.clap.specs.declared.error.Error.{Error}
use Rattle.clap.specs.declared.error.kind.ErrorKind.TheVariants.{InvalidValue}
use Rattle.clap.proofs.OnLiterals.{clap_on_literals}
use Rattle.cli_args.proofs.Parsers.{below, entered_fault_same, entered_same}
use Rattle.cli_args.specs.Command.{HaveNames, IsProgram, Places, References, format_names, program, program_with, reference, references, show_names}

-- the parser with other references to its names
abbrev moved : ValueParser → ValueParser
moved (Names names) = Names (reference (map reference (map (λ s. s.now) names.now)))
moved p = p

abbrev moved_if_some : Option ValueParser → Option ValueParser
moved_if_some p = option_map moved p

reads : (p : Option ValueParser) → reading_of (parser_of_value (moved_if_some p)) ≡ reading_of (parser_of_value p)
reads None = refl
reads (Some (Names names)) = refl
reads (Some _) = refl

names_pass : (ignore_case : Bool) (t : Text) (names : List (Bor Text))
    → list_any (λ name. same_text ignore_case name.now t) (map reference (map (λ s. s.now) names)) ≡ list_any (λ name. same_text ignore_case name.now t) names
names_pass ignore_case t [] = refl
names_pass ignore_case t (name ∷ names) = ap (λ b. same_text ignore_case name.now t || b) (names_pass ignore_case t names)

checks : (ignore_case : Bool) (p : Option ValueParser) (t : Text) → value_kinds ignore_case (parser_of_value (moved_if_some p)) t ≡ value_kinds ignore_case (parser_of_value p) t
checks ignore_case None t = refl
checks ignore_case (Some (Names names)) t = ap (λ (b : Bool). let k : Kinds = if b then [] else InvalidValue ∷ [] in k) (names_pass ignore_case t names.now)
checks ignore_case (Some _) t = refl

abbrev stop_of : List Text → Option (Text × List Text)
stop_of words = stop_after (built program).top.rules (names_of (built program)) (argument_words program words)

abbrev texts_at : References → List Text
texts_at names = map (λ s. s.now) names.now

-- the places of these names
abbrev placed : List Text → List Text → List Text → List Text → List Text → Places
placed a b c d e =
    record { shows = references a; of_replay = references b; of_changes = references c; of_follow = references d; of_explain = references e }

placed_same : (a b c d e a2 b2 c2 d2 e2 : List Text) → a ≡ a2 → b ≡ b2 → c ≡ c2 → d ≡ d2 → e ≡ e2 → placed a b c d e ≡ placed a2 b2 c2 d2 e2
placed_same a b c d e a2 b2 c2 d2 e2 p q r s u = rw (p, q, r, s, u) refl

program_is : (p : Places) → HaveNames p → below moved_if_some reads checks (built (program_with p)) ≡ built program
program_is p h =
    ap (λ (q : Places). built (program_with q))
    (placed_same (texts_at p.shows) (texts_at p.of_replay) (texts_at p.of_changes) (texts_at p.of_follow) (texts_at p.of_explain)
    show_names format_names format_names format_names format_names h.shows h.of_replay h.of_changes h.of_follow h.of_explain)

entered_is : (p : Places) (stop : Option (Text × List Text)) → HaveNames p → entered (built (program_with p)) stop ≡ entered (built program) stop
entered_is p stop h =
    sym (entered_same moved_if_some reads checks (built (program_with p)) stop) ∙ ap (λ (a : App). entered a stop) (program_is p h)

subcommand_is : (p : Places) (words : List Text) → HaveNames p → subcommand_of (program_with p) words ≡ subcommand_of program words
subcommand_is p words h = entered_is p (stop_of words) h

fault_is : (p : Places) (words : List Text) → HaveNames p → fault_of (program_with p) words ≡ fault_of program words
fault_is p words h =
    ap₂ (λ (has_subcommand : Bool) (kinds : Kinds). level_fault (built program).top (names_of (built program)) nothing_held (argument_words program words) has_subcommand kinds)
    (ap is_some (entered_is p (stop_of words) h))
    (sym (entered_fault_same moved_if_some reads checks (built (program_with p)) (stop_of words)) ∙ ap (λ (a : App). entered_fault a (stop_of words)) (program_is p h))

is_simple_with : (p : Places) → is_simple (program_with p) ≡ true
unfolding clap_on_literals
is_simple_with p = refl

is_free_with : (p : Places) → is_simple_and_free (program_with p) ≡ true
unfolding clap_on_literals
is_free_with p = refl

-- the matches of the program, and the reason why it fails, depend on its words
pub met_as_given : (a : App) (m : ArgMatches) (words : List Text) → IsProgram a → HasMatchesOf a words m → subcommand_rows_of m ≡ subcommand_of program words
met_as_given a m words is h =
    (h (ap is_simple is.2 ∙ is_simple_with is.0)).1 ∙ ap (λ (x : App). subcommand_of x words) is.2 ∙ subcommand_is is.0 words is.1

pub fails_as_given : (a : App) (words : List Text) (e : Error) → IsProgram a → (is_simple_and_free a ≡ true → HasKind (fault_of a words) e) → HasKind (fault_of program words) e
fails_as_given a words e is h =
    subst (λ (kinds : Kinds). HasKind kinds e) (ap (λ (x : App). fault_of x words) is.2 ∙ fault_is is.0 words is.1) (h (ap is_simple_and_free is.2 ∙ is_free_with is.0))
