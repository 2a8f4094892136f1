-- The command line: `abr one ROUTER AREA ADDRESS HEX LOOKUP`, `abr decode HEX [--long]`, `abr
-- replay FILE [--workers N] [--show NAME] [--format NAME] [--progress]`, `abr changes FILE [--only
-- PREFIX] [--format NAME] [--progress]`, `abr follow [--only PREFIX] [--strict] [--format NAME]`,
-- `abr explain FILE ADDRESS [--due AREA] [--format NAME] [--progress]`, `abr page FILE [-o OUT]
-- [--progress]`, `abr capture FILE [--router ADDRESS] [--begin HEAD] [--all] [--no-seconds]` and
-- `abr fault NUMBER`.
use Rattle.std.specs.Prelude.{ℕ, ◌≡◌, ◌⊎◌, ◌≤◌, Bool, true, false, List, [], ◌∷◌, ◌++◌, Option, Some, None, Result, MatchResult, codes, map, option_map}
use Rattle.std.specs.Borrow.{Bor}
use Rattle.std.specs.Str.{bytes_eq}
use Rattle.std.specs.Str.Parse.{IsNumeral, digits_value, without_leading_plus}
use Rattle.clap.specs.Words.{App, Row, Rule, Text, IsAmong, fault_of, first_of, kind_of, new_app, new_rule, subcommand_of, with_rule, with_subcommand}
use Rattle.clap.specs.Lexer.{strip_byte}
use Rattle.clap.specs.declared.builder.action.ArgAction.TheVariants.{SetTrue}
use Rattle.clap.specs.declared.builder.value_parser.ValueParser.TheVariants.{Names, Unsigned}
use Rattle.clap.specs.declared.error.kind.ErrorKind.TheVariants.{MissingRequiredArgument}
use Rattle.output_lines.specs.declared.format.Format.{Format}
use Rattle.output_lines.specs.declared.format.Format.TheVariants as form
use Rattle.output_lines.specs.declared.format.Show.{Show}
use Rattle.output_lines.specs.declared.format.Show.TheVariants.{Routes, Due, Lsdb, Journal}
use Rattle.cli_args.specs.declared.command.OneWords.{OneWords}
use Rattle.cli_args.specs.declared.command.Job.{Job}
use Rattle.cli_args.specs.declared.command.Job.TheVariants.{One, Decode, Replay, Changes, Follow, Explain, Page, Capture, Fault}
use Rattle.cli_args.specs.declared.command.Usage.{Usage}
use Rattle.cli_args.specs.declared.command.Usage.TheVariants.{Told, Memory}

-- a word that has to be there
abbrev pub required_word : Text → Rule
required_word id = record (new_rule id) { required = true }

abbrev pub one_command : App
one_command =
    with_rule (with_rule (with_rule (with_rule (with_rule (new_app (codes "one")) (required_word (codes "ROUTER"))) (required_word (codes "AREA"))) (required_word (codes "ADDRESS"))) (required_word (codes "HEX"))) (required_word (codes "LOOKUP"))

-- the flag `--long`
abbrev pub long_flag : Rule
long_flag = record (new_rule (codes "long")) { long = Some (codes "long"); action = Some SetTrue }

abbrev pub decode_command : App
decode_command = with_rule (with_rule (new_app (codes "decode")) (required_word (codes "HEX"))) long_flag

-- `--only PREFIX`
abbrev pub only_option : Rule
only_option = record (new_rule (codes "only")) { long = Some (codes "only"); value_names = 1 }

-- `--due AREA`
abbrev pub due_option : Rule
due_option = record (new_rule (codes "due")) { long = Some (codes "due"); value_names = 1 }

-- `-o OUT` or `--output OUT`
abbrev pub output_option : Rule
output_option = record (new_rule (codes "output")) { short = Some 111; long = Some (codes "output"); value_names = 1 }

-- `--router ADDRESS`
abbrev pub router_option : Rule
router_option = record (new_rule (codes "router")) { long = Some (codes "router"); value_names = 1 }

-- `--begin HEAD`
abbrev pub begin_option : Rule
begin_option = record (new_rule (codes "begin")) { long = Some (codes "begin"); value_names = 1 }

-- the flag `--all`
abbrev pub all_flag : Rule
all_flag = record (new_rule (codes "all")) { long = Some (codes "all"); action = Some SetTrue }

-- the flag `--no-seconds`
abbrev pub no_seconds_flag : Rule
no_seconds_flag = record (new_rule (codes "no-seconds")) { long = Some (codes "no-seconds"); action = Some SetTrue }

-- the flag `--progress`
abbrev pub progress_flag : Rule
progress_flag = record (new_rule (codes "progress")) { long = Some (codes "progress"); action = Some SetTrue }

-- the flag `--strict`
abbrev pub strict_flag : Rule
strict_flag = record (new_rule (codes "strict")) { long = Some (codes "strict"); action = Some SetTrue }

abbrev pub fault_command : App
fault_command = with_rule (new_app (codes "fault")) (required_word (codes "NUMBER"))

-- the name of what is shown
abbrev pub show_name : Show → Text
show_name Routes = codes "routes"
show_name Due = codes "due"
show_name Lsdb = codes "lsdb"
show_name Journal = codes "journal"

-- the names that `--show` takes
abbrev pub show_names : List Text
show_names = show_name Routes ∷ show_name Due ∷ show_name Lsdb ∷ show_name Journal ∷ []

-- the name of the form
abbrev pub format_name : Format → Text
format_name form.Text = codes "text"
format_name form.Json = codes "json"

-- the names that `--format` takes
abbrev pub format_names : List Text
format_names = format_name form.Text ∷ format_name form.Json ∷ []

-- a reference to references to names
abbrev pub References : Type 0
References = Bor (List (Bor Text))

-- they point to the names that `--show` takes
abbrev pub AreShowNames : References → Type 0
AreShowNames names = map (λ s. s.now) names.now ≡ show_names

-- they point to the names that `--format` takes
abbrev pub AreFormatNames : References → Type 0
AreFormatNames names = map (λ s. s.now) names.now ≡ format_names

-- `--show NAME`, by default `routes`
abbrev pub show_option : References → Rule
show_option names = record (new_rule (codes "show")) {
  long = Some (codes "show");
  value_names = 1;
  parser = Some (Names names);
  defaults = show_name Routes ∷ [];
}

-- `--format NAME`, by default `text`
abbrev pub format_option : References → Rule
format_option names = record (new_rule (codes "format")) {
  long = Some (codes "format");
  value_names = 1;
  parser = Some (Names names);
  defaults = format_name form.Text ∷ [];
}

-- `--workers N`, by default 1
abbrev pub workers_option : Rule
workers_option = record (new_rule (codes "workers")) {
  long = Some (codes "workers");
  value_names = 1;
  parser = Some (Unsigned 1 16);
  defaults = codes "1" ∷ [];
}

-- a command that reads a file
abbrev pub file_command : Text → App
file_command name = with_rule (new_app name) (required_word (codes "FILE"))

-- with the names that `--show` takes, and those that `--format` does
abbrev pub replay_command : References → References → App
replay_command shows formats =
    with_rule (with_rule (with_rule (with_rule (file_command (codes "replay")) workers_option) (show_option shows)) (format_option formats)) progress_flag

abbrev pub changes_command : References → App
changes_command formats = with_rule (with_rule (with_rule (file_command (codes "changes")) only_option) (format_option formats)) progress_flag

abbrev pub follow_command : References → App
follow_command formats = with_rule (with_rule (with_rule (new_app (codes "follow")) only_option) strict_flag) (format_option formats)

abbrev pub explain_command : References → App
explain_command formats =
    with_rule (with_rule (with_rule (with_rule (file_command (codes "explain")) (required_word (codes "ADDRESS"))) due_option) (format_option formats)) progress_flag

abbrev pub page_command : App
page_command = with_rule (with_rule (file_command (codes "page")) output_option) progress_flag

abbrev pub capture_command : App
capture_command =
    with_rule (with_rule (with_rule (with_rule (file_command (codes "capture")) router_option) begin_option) all_flag) no_seconds_flag

-- the command `abr replay`, wherever its references point
abbrev pub IsReplayCommand : App → Type 0
IsReplayCommand a = (shows formats : References) × AreShowNames shows × AreFormatNames formats × (a ≡ replay_command shows formats)

-- the command `abr changes`, wherever its references point
abbrev pub IsChangesCommand : App → Type 0
IsChangesCommand a = (formats : References) × AreFormatNames formats × (a ≡ changes_command formats)

-- the command `abr follow`, wherever its references point
abbrev pub IsFollowCommand : App → Type 0
IsFollowCommand a = (formats : References) × AreFormatNames formats × (a ≡ follow_command formats)

-- the command `abr explain`, wherever its references point
abbrev pub IsExplainCommand : App → Type 0
IsExplainCommand a = (formats : References) × AreFormatNames formats × (a ≡ explain_command formats)

-- the option `--show`, wherever its references point
abbrev pub IsShowOption : Rule → Type 0
IsShowOption rule = (names : References) × AreShowNames names × (rule ≡ show_option names)

-- the option `--format`, wherever its references point
abbrev pub IsFormatOption : Rule → Type 0
IsFormatOption rule = (names : References) × AreFormatNames names × (rule ≡ format_option names)

-- the places of the names of options: those of `--show`, and of `--format` in each command
pub record Places : Type 0 where
  pub shows : References
  pub of_replay : References
  pub of_changes : References
  pub of_follow : References
  pub of_explain : References

-- the names are at these places
pub record HaveNames (p : Places) : Type 0 where
  pub shows : AreShowNames p.shows
  pub of_replay : AreFormatNames p.of_replay
  pub of_changes : AreFormatNames p.of_changes
  pub of_follow : AreFormatNames p.of_follow
  pub of_explain : AreFormatNames p.of_explain

-- the program's name is followed by one of its commands, or by an option for its version
abbrev pub program_with : Places → App
program_with p =
    let named = new_app (codes "abr") in
    let top = record named { top = record named.top { has_version = true; subcommand_required = true; arg_required_else_help = true } } in
    let first = with_subcommand (with_subcommand top one_command.top) decode_command.top in
    let second = with_subcommand (with_subcommand first (replay_command p.shows p.of_replay).top) (changes_command p.of_changes).top in
    let third = with_subcommand (with_subcommand second (follow_command p.of_follow).top) (explain_command p.of_explain).top in
    let fourth = with_subcommand (with_subcommand third page_command.top) capture_command.top in
    with_subcommand fourth fault_command.top

-- the program, wherever its references point
abbrev pub IsProgram : App → Type 0
IsProgram a = (p : Places) × HaveNames p × (a ≡ program_with p)

-- a reference to the value, at no place
abbrev pub reference : {X : Type 0} → X → Bor X
reference x = record { ref_ptr = (0, 0); now = x }

-- references to the names, at no place
abbrev pub references : List Text → References
references names = reference (map reference names)

-- The program. A parse gives the same for all its references, and here they point nowhere.
abbrev pub program : App
program = program_with (record {
  shows = references show_names;
  of_replay = references format_names;
  of_changes = references format_names;
  of_follow = references format_names;
  of_explain = references format_names;
})

-- the texts of the words of `abr one`
pub record OneTexts : Type 0 where
  pub router : Text
  pub area : Text
  pub address : Text
  pub lsa : Text
  pub lookup : Text

abbrev pub texts_of : OneWords → OneTexts
texts_of w = record {
  router = w.router.now;
  area = w.area.now;
  address = w.address.now;
  lsa = w.lsa.now;
  lookup = w.lookup.now;
}

-- each word was given
abbrev pub HasWords : List Row → OneTexts → Type 0
HasWords rows t = (first_of (codes "ROUTER") rows ≡ Some t.router)
    × (first_of (codes "AREA") rows ≡ Some t.area)
    × (first_of (codes "ADDRESS") rows ≡ Some t.address)
    × (first_of (codes "HEX") rows ≡ Some t.lsa)
    × (first_of (codes "LOOKUP") rows ≡ Some t.lookup)

-- the flag has a value, and it is set where this is `true`
abbrev pub HasFlag : List Row → Text → Bool → Type 0
HasFlag rows id is_set = (value : Text) × (first_of id rows ≡ Some value) × (bytes_eq value (codes "true") ≡ is_set)

-- this LSA was given, and `--long` or not; if not, the matches have `false`
abbrev pub HasDecodeWords : List Row → Text → Bool → Type 0
HasDecodeWords rows hex long = (first_of (codes "HEX") rows ≡ Some hex) × HasFlag rows (codes "long") long

-- the number of workers is allowed
abbrev pub AreWorkers : ℕ → Type 0
AreWorkers n = (1 ≤ n) × (n ≤ 16)

-- the word writes this number of workers: decimal digits, which may follow a plus sign
pub record WritesWorkers (word : Text) (n : ℕ) : Type 0 where
  pub numeral : IsNumeral 10 (without_leading_plus word)
  pub written : digits_value 10 (without_leading_plus word) ≡ n
  pub within : AreWorkers n

-- the content of the words of `abr replay`
pub record ReplayTexts : Type 0 where
  pub file : Text
  pub workers : ℕ
  pub show : Show
  pub format : Format
  pub progress : Bool

-- the content of the words of `abr changes`
pub record ChangesTexts : Type 0 where
  pub file : Text
  pub only : Option Text
  pub format : Format
  pub progress : Bool

-- the content of the words of `abr follow`
pub record FollowTexts : Type 0 where
  pub only : Option Text
  pub strict : Bool
  pub format : Format

-- the content of the words of `abr explain`
pub record ExplainTexts : Type 0 where
  pub file : Text
  pub address : Text
  pub due : Option Text
  pub format : Format
  pub progress : Bool

-- the content of the words of `abr page`
pub record PageTexts : Type 0 where
  pub file : Text
  pub output : Option Text
  pub progress : Bool

-- the content of the words of `abr capture`
pub record CaptureTexts : Type 0 where
  pub file : Text
  pub router : Option Text
  pub begin : Option Text
  pub keeps_all : Bool
  pub without_seconds : Bool

-- the name of the form was given; if none was, the matches have `text`
abbrev pub HasFormat : List Row → Format → Type 0
HasFormat rows format = first_of (codes "format") rows ≡ Some (format_name format)

-- This file, this number of workers, the name of the show, its form, and `--progress` or not were
-- given. The matches have 1 if no number was given, `routes` if no name was, and `false` if
-- `--progress` was not.
abbrev pub HasReplayWords : List Row → ReplayTexts → Type 0
HasReplayWords rows t = (first_of (codes "FILE") rows ≡ Some t.file)
    × ((word : Text) × (first_of (codes "workers") rows ≡ Some word) × WritesWorkers word t.workers)
    × (first_of (codes "show") rows ≡ Some (show_name t.show))
    × HasFormat rows t.format
    × HasFlag rows (codes "progress") t.progress

-- this file was given, this network or none, the form, and `--progress` or not; if not, the matches
-- have `false`
abbrev pub HasChangesWords : List Row → ChangesTexts → Type 0
HasChangesWords rows t = (first_of (codes "FILE") rows ≡ Some t.file)
    × (first_of (codes "only") rows ≡ t.only)
    × HasFormat rows t.format
    × HasFlag rows (codes "progress") t.progress

-- this network was given or none, `--strict` or not, and the form; if `--strict` was not given, the
-- matches have `false`
abbrev pub HasFollowWords : List Row → FollowTexts → Type 0
HasFollowWords rows t = (first_of (codes "only") rows ≡ t.only) × HasFlag rows (codes "strict") t.strict × HasFormat rows t.format

-- this file and this address were given, this area or none, the form, and `--progress` or not; if
-- not, the matches have `false`
abbrev pub HasExplainWords : List Row → ExplainTexts → Type 0
HasExplainWords rows t = (first_of (codes "FILE") rows ≡ Some t.file)
    × (first_of (codes "ADDRESS") rows ≡ Some t.address)
    × (first_of (codes "due") rows ≡ t.due)
    × HasFormat rows t.format
    × HasFlag rows (codes "progress") t.progress

-- this file was given, this file for the page or none, and `--progress` or not; if not, the matches
-- have `false`
abbrev pub HasPageWords : List Row → PageTexts → Type 0
HasPageWords rows t = (first_of (codes "FILE") rows ≡ Some t.file) × (first_of (codes "output") rows ≡ t.output) × HasFlag rows (codes "progress") t.progress

-- this file was given, this router or none, this file with a beginning or none, and `--all` and
-- `--no-seconds` or not; if one is not, the matches have `false`
abbrev pub HasCaptureWords : List Row → CaptureTexts → Type 0
HasCaptureWords rows t = (first_of (codes "FILE") rows ≡ Some t.file)
    × (first_of (codes "router") rows ≡ t.router)
    × (first_of (codes "begin") rows ≡ t.begin)
    × HasFlag rows (codes "all") t.keeps_all
    × HasFlag rows (codes "no-seconds") t.without_seconds

-- a job, with the texts of its words
pub data JobTexts : Type 0 where
  OfOne : (texts : OneTexts) → JobTexts
  OfDecode : (hex : Text) (long : Bool) → JobTexts
  OfReplay : (texts : ReplayTexts) → JobTexts
  OfChanges : (texts : ChangesTexts) → JobTexts
  OfFollow : (texts : FollowTexts) → JobTexts
  OfExplain : (texts : ExplainTexts) → JobTexts
  OfPage : (texts : PageTexts) → JobTexts
  OfCapture : (texts : CaptureTexts) → JobTexts
  OfFault : (number : Text) → JobTexts

-- the text of the word, where there is one
abbrev pub word_text : Option (Bor Text) → Option Text
word_text given = option_map (λ word. word.now) given

abbrev pub job_texts : Job → JobTexts
job_texts (One w) = OfOne (texts_of w)
job_texts (Decode word long) = OfDecode word.now long
job_texts (Replay file workers show format progress) =
    OfReplay (record { file = file.now; workers = workers; show = show; format = format; progress = progress })
job_texts (Changes file only format progress) = OfChanges (record { file = file.now; only = word_text only; format = format; progress = progress })
job_texts (Follow only strict format) = OfFollow (record { only = word_text only; strict = strict; format = format })
job_texts (Explain file address due format progress) =
    OfExplain (record { file = file.now; address = address.now; due = word_text due; format = format; progress = progress })
job_texts (Page file output progress) = OfPage (record { file = file.now; output = word_text output; progress = progress })
job_texts (Capture w) =
    OfCapture (record { file = w.file.now; router = word_text w.router; begin = word_text w.begin; keeps_all = w.keeps_all; without_seconds = w.without_seconds })
job_texts (Fault number) = OfFault number.now

-- the name of its command
abbrev pub command_name : JobTexts → Text
command_name (OfOne t) = codes "one"
command_name (OfDecode hex long) = codes "decode"
command_name (OfReplay t) = codes "replay"
command_name (OfChanges t) = codes "changes"
command_name (OfFollow t) = codes "follow"
command_name (OfExplain t) = codes "explain"
command_name (OfPage t) = codes "page"
command_name (OfCapture t) = codes "capture"
command_name (OfFault number) = codes "fault"

-- its words were given
abbrev pub HasJobWords : List Row → JobTexts → Type 0
HasJobWords rows (OfOne t) = HasWords rows t
HasJobWords rows (OfDecode hex long) = HasDecodeWords rows hex long
HasJobWords rows (OfReplay t) = HasReplayWords rows t
HasJobWords rows (OfChanges t) = HasChangesWords rows t
HasJobWords rows (OfFollow t) = HasFollowWords rows t
HasJobWords rows (OfExplain t) = HasExplainWords rows t
HasJobWords rows (OfPage t) = HasPageWords rows t
HasJobWords rows (OfCapture t) = HasCaptureWords rows t
HasJobWords rows (OfFault number) = first_of (codes "NUMBER") rows ≡ Some number

-- the job is one of the command with this name, and its words were given
abbrev pub IsJobOf : Text → List Row → Job → Type 0
IsJobOf name rows job = (command_name (job_texts job) ≡ name) × HasJobWords rows (job_texts job)

-- its command was met, and its words were given for it
abbrev pub HasTexts : Option (Text × List Row) → JobTexts → Type 0
HasTexts met texts = (rows : List Row) × (met ≡ Some (command_name texts, rows)) × HasJobWords rows texts

-- a command was met, and its words were given
abbrev pub HasJob : Option (Text × List Row) → Type 0
HasJob met = (texts : JobTexts) × HasTexts met texts

-- the job is the command that was met, with the words that were given for it
abbrev pub IsJob : Option (Text × List Row) → Job → Type 0
IsJob met job = HasTexts met (job_texts job)

-- the job can be done: if it is a replay, its number of workers is allowed
abbrev pub IsJobFit : Job → Type 0
IsJobFit (One w) = Unit {0}
IsJobFit (Decode word long) = Unit {0}
IsJobFit (Replay file workers show format progress) = AreWorkers workers
IsJobFit (Changes file only format progress) = Unit {0}
IsJobFit (Follow only strict format) = Unit {0}
IsJobFit (Explain file address due format progress) = Unit {0}
IsJobFit (Page file output progress) = Unit {0}
IsJobFit (Capture words) = Unit {0}
IsJobFit (Fault number) = Unit {0}

-- A mistake is one that the command line has. If no mistake is found and there is no job, a word is
-- missing.
abbrev pub IsMistake : List Text → Usage → Type 0
IsMistake words (Told e) = IsAmong (kind_of e) (fault_of program words)
    ⊎ ((kind_of e ≡ MissingRequiredArgument) × (¬ HasJob (subcommand_of program words)))
IsMistake words Memory = Unit {0}

-- the word does not begin with a hyphen
abbrev pub IsPlainWord : Text → Type 0
IsPlainWord word = strip_byte 45 word ≡ None

pub record ArePlain (t : OneTexts) : Type 0 where
  pub router : IsPlainWord t.router
  pub area : IsPlainWord t.area
  pub address : IsPlainWord t.address
  pub lsa : IsPlainWord t.lsa
  pub lookup : IsPlainWord t.lookup

-- the word does not begin with a hyphen, or is one
abbrev pub IsFileWord : Text → Type 0
IsFileWord word = IsPlainWord word ⊎ (word ≡ codes "-")

-- a word that names the file for the page
abbrev pub IsOutputFlag : Text → Type 0
IsOutputFlag flag = (flag ≡ codes "-o") ⊎ (flag ≡ codes "--output")

-- the words of an option, if it has a value
abbrev pub option_words : Text → Option Text → List Text
option_words option None = []
option_words option (Some value) = option ∷ value ∷ []

-- the word of a flag, if it is set
abbrev pub flag_words : Text → Bool → List Text
flag_words flag false = []
flag_words flag true = flag ∷ []

-- the words of `abr capture` after its file that say this
abbrev pub capture_words : CaptureTexts → List Text
capture_words t =
    option_words (codes "--router") t.router
    ++ (option_words (codes "--begin") t.begin ++ (flag_words (codes "--all") t.keeps_all ++ flag_words (codes "--no-seconds") t.without_seconds))

-- the word does not begin with a hyphen, if there is one
abbrev pub IsPlainIfGiven : Option Text → Type 0
IsPlainIfGiven None = Unit {0}
IsPlainIfGiven (Some word) = IsPlainWord word

-- the word does not begin with a hyphen, or is one, if there is one
abbrev pub IsFileIfGiven : Option Text → Type 0
IsFileIfGiven None = Unit {0}
IsFileIfGiven (Some word) = IsFileWord word

-- the content can be read from its words
pub record AreReadable (t : CaptureTexts) : Type 0 where
  pub file : IsFileWord t.file
  pub router : IsPlainIfGiven t.router
  pub begin : IsFileIfGiven t.begin

-- ---- what each command line gives

-- `abr replay` with this file only: one worker, and the routing table as text, without progress
abbrev pub plain_replay : Text → ReplayTexts
plain_replay file = record { file = file; workers = 1; show = Routes; format = form.Text; progress = false }

-- `abr changes` with this file only: of all networks, as text, without progress
abbrev pub plain_changes : Text → ChangesTexts
plain_changes file = record { file = file; only = None; format = form.Text; progress = false }

-- `abr follow` with no further word: of all networks, not strict, as text
abbrev pub plain_follow : FollowTexts
plain_follow = record { only = None; strict = false; format = form.Text }

-- `abr explain` with this file and this address only: by the routing table, as text, without
-- progress
abbrev pub plain_explain : Text → Text → ExplainTexts
plain_explain file address = record { file = file; address = address; due = None; format = form.Text; progress = false }

-- `abr page` with this file only: the page to standard output, without progress
abbrev pub plain_page : Text → PageTexts
plain_page file = record { file = file; output = None; progress = false }

-- The command line spells the job, whatever the program is called: its command, with the words that
-- are required and at most one option. For `capture` any options may be given, in the order of the
-- help.
pub data Spells : List Text → JobTexts → Type 0 where
  SpellsOne : (name : Text) (t : OneTexts) → ArePlain t → Spells (name ∷ codes "one" ∷ t.router ∷ t.area ∷ t.address ∷ t.lsa ∷ t.lookup ∷ []) (OfOne t)
  SpellsDecode : (name hex : Text) → IsPlainWord hex → Spells (name ∷ codes "decode" ∷ hex ∷ []) (OfDecode hex false)
  SpellsLong : (name hex : Text) → IsPlainWord hex → Spells (name ∷ codes "decode" ∷ hex ∷ codes "--long" ∷ []) (OfDecode hex true)
  SpellsReplay : (name file : Text) → IsFileWord file → Spells (name ∷ codes "replay" ∷ file ∷ []) (OfReplay (plain_replay file))
  SpellsWorkers : (name file number : Text) (count : ℕ) → IsFileWord file → WritesWorkers number count
      → Spells (name ∷ codes "replay" ∷ file ∷ codes "--workers" ∷ number ∷ []) (OfReplay (record (plain_replay file) { workers = count }))
  SpellsShow : (name file : Text) (show : Show) → IsFileWord file
      → Spells (name ∷ codes "replay" ∷ file ∷ codes "--show" ∷ show_name show ∷ []) (OfReplay (record (plain_replay file) { show = show }))
  SpellsReplayFormat : (name file : Text) (format : Format) → IsFileWord file
      → Spells (name ∷ codes "replay" ∷ file ∷ codes "--format" ∷ format_name format ∷ []) (OfReplay (record (plain_replay file) { format = format }))
  SpellsReplayProgress : (name file : Text) → IsFileWord file
      → Spells (name ∷ codes "replay" ∷ file ∷ codes "--progress" ∷ []) (OfReplay (record (plain_replay file) { progress = true }))
  SpellsChanges : (name file : Text) → IsFileWord file → Spells (name ∷ codes "changes" ∷ file ∷ []) (OfChanges (plain_changes file))
  SpellsOnly : (name file prefix : Text) → IsFileWord file → IsPlainWord prefix
      → Spells (name ∷ codes "changes" ∷ file ∷ codes "--only" ∷ prefix ∷ []) (OfChanges (record (plain_changes file) { only = Some prefix }))
  SpellsChangesFormat : (name file : Text) (format : Format) → IsFileWord file
      → Spells (name ∷ codes "changes" ∷ file ∷ codes "--format" ∷ format_name format ∷ []) (OfChanges (record (plain_changes file) { format = format }))
  SpellsChangesProgress : (name file : Text) → IsFileWord file
      → Spells (name ∷ codes "changes" ∷ file ∷ codes "--progress" ∷ []) (OfChanges (record (plain_changes file) { progress = true }))
  SpellsFollow : (name : Text) → Spells (name ∷ codes "follow" ∷ []) (OfFollow plain_follow)
  SpellsStrict : (name : Text) → Spells (name ∷ codes "follow" ∷ codes "--strict" ∷ []) (OfFollow (record plain_follow { strict = true }))
  SpellsFollowOnly : (name prefix : Text) → IsPlainWord prefix
      → Spells (name ∷ codes "follow" ∷ codes "--only" ∷ prefix ∷ []) (OfFollow (record plain_follow { only = Some prefix }))
  SpellsFollowFormat : (name : Text) (format : Format)
      → Spells (name ∷ codes "follow" ∷ codes "--format" ∷ format_name format ∷ []) (OfFollow (record plain_follow { format = format }))
  SpellsExplain : (name file address : Text) → IsFileWord file → IsPlainWord address
      → Spells (name ∷ codes "explain" ∷ file ∷ address ∷ []) (OfExplain (plain_explain file address))
  SpellsDue : (name file address area : Text) → IsFileWord file → IsPlainWord address → IsPlainWord area
      → Spells (name ∷ codes "explain" ∷ file ∷ address ∷ codes "--due" ∷ area ∷ []) (OfExplain (record (plain_explain file address) { due = Some area }))
  SpellsExplainFormat : (name file address : Text) (format : Format) → IsFileWord file → IsPlainWord address
      → Spells (name ∷ codes "explain" ∷ file ∷ address ∷ codes "--format" ∷ format_name format ∷ []) (OfExplain (record (plain_explain file address) { format = format }))
  SpellsExplainProgress : (name file address : Text) → IsFileWord file → IsPlainWord address
      → Spells (name ∷ codes "explain" ∷ file ∷ address ∷ codes "--progress" ∷ []) (OfExplain (record (plain_explain file address) { progress = true }))
  SpellsPage : (name file : Text) → IsFileWord file → Spells (name ∷ codes "page" ∷ file ∷ []) (OfPage (plain_page file))
  SpellsOutput : (name file flag output : Text) → IsOutputFlag flag → IsFileWord file → IsFileWord output
      → Spells (name ∷ codes "page" ∷ file ∷ flag ∷ output ∷ []) (OfPage (record (plain_page file) { output = Some output }))
  SpellsPageProgress : (name file : Text) → IsFileWord file
      → Spells (name ∷ codes "page" ∷ file ∷ codes "--progress" ∷ []) (OfPage (record (plain_page file) { progress = true }))
  SpellsCapture : (name : Text) (t : CaptureTexts) → AreReadable t → Spells (name ∷ codes "capture" ∷ t.file ∷ capture_words t) (OfCapture t)
  SpellsFault : (name number : Text) → IsPlainWord number → Spells (name ∷ codes "fault" ∷ number ∷ []) (OfFault number)

-- the command line that the words are
abbrev pub command_words : List (Bor Text) → List Text
command_words words = map (λ w. w.now) words

-- the job is this one, unless memory runs out
abbrev pub GivesJob : Result Job Usage → JobTexts → Type 0
GivesJob result texts = MatchResult result (λ job. job_texts job ≡ texts) (λ u. u ≡ Memory)
