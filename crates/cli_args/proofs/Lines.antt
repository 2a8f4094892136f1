-- The parse of each command line that spells a job.
use Rattle.std.proofs.Common.{ℕ, ◌≡◌, ◌==◌, ◌++◌, ap, inl, inr, subst, refl, arith, eqb-true, lit<, Bool, true, false, List, [], ◌∷◌, Option, Some, None, codes}
use Rattle.std.specs.Str.Parse.{IsNumeral, without_leading_plus}
use Rattle.clap.specs.Lexer.{strip_byte}
use Rattle.clap.specs.Walk.{Text, Walk, nothing_held, value, walked}
use Rattle.clap.specs.Simple.{Shape, built_leaf, inherited}
use Rattle.clap.specs.Faults.{step_fault, turn_fault}
use Rattle.clap.specs.Kinds.{Kinds, or_else, value_kinds}
use Rattle.clap.specs.declared.builder.value_parser.ValueParser.TheVariants.{Unsigned}
use Rattle.clap.proofs.KindLemmas.{value_kinds-ok}
use Rattle.clap.proofs.OnLiterals.{clap_on_literals}
use Rattle.output_lines.specs.declared.format.Format.{Format}
use Rattle.output_lines.specs.declared.format.Format.TheVariants as form
use Rattle.output_lines.specs.declared.format.Show.{Show}
use Rattle.output_lines.specs.declared.format.Show.TheVariants.{Routes, Due, Lsdb, Journal}
use Rattle.cli_args.specs.Command.{AreReadable, CaptureTexts, ExplainTexts, IsFileIfGiven, IsFileWord, IsOutputFlag, IsPlainIfGiven, IsPlainWord, JobTexts, OfCapture, OfChanges, OfDecode, OfExplain, OfFault, OfFollow, OfOne, OfPage, OfReplay, OneTexts, Spells, SpellsCapture, SpellsChanges, SpellsChangesFormat, SpellsChangesProgress, SpellsDecode, SpellsDue, SpellsExplain, SpellsExplainFormat, SpellsExplainProgress, SpellsFault, SpellsFollow, SpellsFollowFormat, SpellsFollowOnly, SpellsLong, SpellsOne, SpellsOnly, SpellsOutput, SpellsPage, SpellsPageProgress, SpellsReplay, SpellsReplayFormat, SpellsReplayProgress, SpellsShow, SpellsStrict, SpellsWorkers, WritesWorkers, capture_command, capture_words, changes_command, command_name, decode_command, explain_command, fault_command, flag_words, follow_command, format_name, format_names, one_command, option_words, page_command, plain_changes, plain_explain, plain_follow, plain_page, plain_replay, program, references, replay_command, show_name, show_names}
use Rattle.cli_args.proofs.Walks.{IsCommand, Leads, Reads, after_word, at_rest, line_reads, option_given, positional_word, start, walk_waiting}

-- ---- the commands

abbrev one : Shape
one = built_leaf (inherited program.top one_command.top)

is_one : IsCommand (codes "one") one
unfolding clap_on_literals
is_one = record { stops = refl; passes = refl; enters = λ _. refl; fails = λ _. refl }

abbrev decode : Shape
decode = built_leaf (inherited program.top decode_command.top)

is_decode : IsCommand (codes "decode") decode
unfolding clap_on_literals
is_decode = record { stops = refl; passes = refl; enters = λ _. refl; fails = λ _. refl }

abbrev replay : Shape
replay = built_leaf (inherited program.top (replay_command (references show_names) (references format_names)).top)

is_replay : IsCommand (codes "replay") replay
unfolding clap_on_literals
is_replay = record { stops = refl; passes = refl; enters = λ _. refl; fails = λ _. refl }

abbrev changes : Shape
changes = built_leaf (inherited program.top (changes_command (references format_names)).top)

is_changes : IsCommand (codes "changes") changes
unfolding clap_on_literals
is_changes = record { stops = refl; passes = refl; enters = λ _. refl; fails = λ _. refl }

abbrev follow : Shape
follow = built_leaf (inherited program.top (follow_command (references format_names)).top)

is_follow : IsCommand (codes "follow") follow
unfolding clap_on_literals
is_follow = record { stops = refl; passes = refl; enters = λ _. refl; fails = λ _. refl }

abbrev explain : Shape
explain = built_leaf (inherited program.top (explain_command (references format_names)).top)

is_explain : IsCommand (codes "explain") explain
unfolding clap_on_literals
is_explain = record { stops = refl; passes = refl; enters = λ _. refl; fails = λ _. refl }

abbrev page : Shape
page = built_leaf (inherited program.top page_command.top)

is_page : IsCommand (codes "page") page
unfolding clap_on_literals
is_page = record { stops = refl; passes = refl; enters = λ _. refl; fails = λ _. refl }

abbrev capture : Shape
capture = built_leaf (inherited program.top capture_command.top)

is_capture : IsCommand (codes "capture") capture
unfolding clap_on_literals
is_capture = record { stops = refl; passes = refl; enters = λ _. refl; fails = λ _. refl }

abbrev fault : Shape
fault = built_leaf (inherited program.top fault_command.top)

is_fault : IsCommand (codes "fault") fault
unfolding clap_on_literals
is_fault = record { stops = refl; passes = refl; enters = λ _. refl; fails = λ _. refl }

-- the walk after a first word, and after a second
abbrev first : Shape → Text → Walk
first s word = after_word s.rules (at_rest nothing_held 1) word

abbrev second : Shape → Text → Text → Walk
second s word next = after_word s.rules (first s word) next

-- ---- `one`, `decode` and `fault`

abbrev third : OneTexts → Walk
third t = after_word one.rules (second one t.router t.area) t.address

abbrev fourth : OneTexts → Walk
fourth t = after_word one.rules (third t) t.lsa

leads_one : (t : OneTexts) → Leads one (after_word one.rules (fourth t) t.lookup) [] (OfOne t)
unfolding clap_on_literals
leads_one t = (refl, refl, (refl, refl, refl, refl, refl))

leads_decode : (hex : Text) → Leads decode (first decode hex) [] (OfDecode hex false)
unfolding clap_on_literals
leads_decode hex = (refl, refl, (refl, (codes "false", refl, refl)))

leads_long : (hex : Text) → Leads decode (first decode hex) (codes "--long" ∷ []) (OfDecode hex true)
unfolding clap_on_literals
leads_long hex = (refl, refl, (refl, (codes "true", refl, refl)))

leads_fault : (number : Text) → Leads fault (first fault number) [] (OfFault number)
unfolding clap_on_literals
leads_fault number = (refl, refl, refl)

-- ---- `replay`

one_worker : WritesWorkers (codes "1") 1
one_worker = record { numeral = (lit< tt, (lit< tt, tt)); written = refl; within = (omega arith, omega arith) }

leads_replay : (file : Text) → Leads replay (first replay file) [] (OfReplay (plain_replay file))
unfolding clap_on_literals
leads_replay file = (refl, refl, (refl, (codes "1", refl, one_worker), refl, refl, (codes "false", refl, refl)))

leads_show : (file : Text) (show : Show)
    → Leads replay (first replay file) (codes "--show" ∷ show_name show ∷ []) (OfReplay (record (plain_replay file) { show = show }))
unfolding clap_on_literals
leads_show file Routes = (refl, refl, (refl, (codes "1", refl, one_worker), refl, refl, (codes "false", refl, refl)))
leads_show file Due = (refl, refl, (refl, (codes "1", refl, one_worker), refl, refl, (codes "false", refl, refl)))
leads_show file Lsdb = (refl, refl, (refl, (codes "1", refl, one_worker), refl, refl, (codes "false", refl, refl)))
leads_show file Journal = (refl, refl, (refl, (codes "1", refl, one_worker), refl, refl, (codes "false", refl, refl)))

leads_replay_format : (file : Text) (format : Format)
    → Leads replay (first replay file) (codes "--format" ∷ format_name format ∷ []) (OfReplay (record (plain_replay file) { format = format }))
unfolding clap_on_literals
leads_replay_format file form.Text = (refl, refl, (refl, (codes "1", refl, one_worker), refl, refl, (codes "false", refl, refl)))
leads_replay_format file form.Json = (refl, refl, (refl, (codes "1", refl, one_worker), refl, refl, (codes "false", refl, refl)))

leads_replay_progress : (file : Text) → Leads replay (first replay file) (codes "--progress" ∷ []) (OfReplay (record (plain_replay file) { progress = true }))
unfolding clap_on_literals
leads_replay_progress file = (refl, refl, (refl, (codes "1", refl, one_worker), refl, refl, (codes "true", refl, refl)))

-- a word that writes a number does not begin with a hyphen
plain_number : (word : Text) → IsNumeral 10 (without_leading_plus word) → IsPlainWord word
plain_number [] h = refl
plain_number (x ∷ xs) h = go (x == 45) refl
  where
    go : (b : Bool) → (x == 45) ≡ b → strip_byte 45 (x ∷ xs) ≡ None
    go false e = rw e refl
    go true e =
        let digits : IsNumeral 10 (45 ∷ xs) = subst (λ (y : ℕ). IsNumeral 10 (without_leading_plus (y ∷ xs))) (eqb-true x 45 e) h in
        let less = digits.1.0 in absurd (omega arith)

accepted : (number : Text) (count : ℕ) → WritesWorkers number count → value_kinds false (Unsigned 1 16) number ≡ []
accepted number count h =
    let same = h.written in
    value_kinds-ok false (Unsigned 1 16) number (h.numeral, omega (arith, h.within), omega (arith, h.within), omega (arith, h.within))

leads_workers : (file number : Text) (count : ℕ) → WritesWorkers number count
    → Leads replay (first replay file) (codes "--workers" ∷ number ∷ []) (OfReplay (record (plain_replay file) { workers = count }))
unfolding clap_on_literals
leads_workers file number count h =
    option_given replay (codes "workers") (codes "--workers") (first replay file) number [] (OfReplay (record (plain_replay file) { workers = count })) (inl (plain_number number h.numeral)) refl refl
    (refl, ap (λ (k : Kinds). or_else (or_else k []) []) (accepted number count h), (refl, (number, refl, h), refl, refl, (codes "false", refl, refl)))

-- ---- `changes`

leads_changes : (file : Text) → Leads changes (first changes file) [] (OfChanges (plain_changes file))
unfolding clap_on_literals
leads_changes file = (refl, refl, (refl, refl, refl, (codes "false", refl, refl)))

leads_only : (file prefix : Text) → IsPlainWord prefix
    → Leads changes (first changes file) (codes "--only" ∷ prefix ∷ []) (OfChanges (record (plain_changes file) { only = Some prefix }))
unfolding clap_on_literals
leads_only file prefix p =
    option_given changes (codes "only") (codes "--only") (first changes file) prefix [] (OfChanges (record (plain_changes file) { only = Some prefix })) (inl p) refl refl
    (refl, refl, (refl, refl, refl, (codes "false", refl, refl)))

leads_changes_format : (file : Text) (format : Format)
    → Leads changes (first changes file) (codes "--format" ∷ format_name format ∷ []) (OfChanges (record (plain_changes file) { format = format }))
unfolding clap_on_literals
leads_changes_format file form.Text = (refl, refl, (refl, refl, refl, (codes "false", refl, refl)))
leads_changes_format file form.Json = (refl, refl, (refl, refl, refl, (codes "false", refl, refl)))

leads_changes_progress : (file : Text) → Leads changes (first changes file) (codes "--progress" ∷ []) (OfChanges (record (plain_changes file) { progress = true }))
unfolding clap_on_literals
leads_changes_progress file = (refl, refl, (refl, refl, refl, (codes "true", refl, refl)))

-- ---- `follow`

leads_follow : Leads follow start [] (OfFollow plain_follow)
unfolding clap_on_literals
leads_follow = (refl, refl, (refl, (codes "false", refl, refl), refl))

leads_strict : Leads follow start (codes "--strict" ∷ []) (OfFollow (record plain_follow { strict = true }))
unfolding clap_on_literals
leads_strict = (refl, refl, (refl, (codes "true", refl, refl), refl))

leads_follow_only : (prefix : Text) → IsPlainWord prefix → Leads follow start (codes "--only" ∷ prefix ∷ []) (OfFollow (record plain_follow { only = Some prefix }))
unfolding clap_on_literals
leads_follow_only prefix p =
    option_given follow (codes "only") (codes "--only") start prefix [] (OfFollow (record plain_follow { only = Some prefix })) (inl p) refl refl
    (refl, refl, (refl, (codes "false", refl, refl), refl))

leads_follow_format : (format : Format) → Leads follow start (codes "--format" ∷ format_name format ∷ []) (OfFollow (record plain_follow { format = format }))
unfolding clap_on_literals
leads_follow_format form.Text = (refl, refl, (refl, (codes "false", refl, refl), refl))
leads_follow_format form.Json = (refl, refl, (refl, (codes "false", refl, refl), refl))

-- ---- `explain`

leads_explain : (file address : Text) → Leads explain (second explain file address) [] (OfExplain (plain_explain file address))
unfolding clap_on_literals
leads_explain file address = (refl, refl, (refl, refl, refl, refl, (codes "false", refl, refl)))

leads_due : (file address area : Text) → IsPlainWord area
    → Leads explain (second explain file address) (codes "--due" ∷ area ∷ []) (OfExplain (record (plain_explain file address) { due = Some area }))
unfolding clap_on_literals
leads_due file address area p =
    option_given explain (codes "due") (codes "--due") (second explain file address) area [] (OfExplain (record (plain_explain file address) { due = Some area })) (inl p) refl refl
    (refl, refl, (refl, refl, refl, refl, (codes "false", refl, refl)))

leads_explain_format : (file address : Text) (format : Format)
    → Leads explain (second explain file address) (codes "--format" ∷ format_name format ∷ []) (OfExplain (record (plain_explain file address) { format = format }))
unfolding clap_on_literals
leads_explain_format file address form.Text = (refl, refl, (refl, refl, refl, refl, (codes "false", refl, refl)))
leads_explain_format file address form.Json = (refl, refl, (refl, refl, refl, refl, (codes "false", refl, refl)))

leads_explain_progress : (file address : Text)
    → Leads explain (second explain file address) (codes "--progress" ∷ []) (OfExplain (record (plain_explain file address) { progress = true }))
unfolding clap_on_literals
leads_explain_progress file address = (refl, refl, (refl, refl, refl, refl, (codes "true", refl, refl)))

-- a line of `explain` with these two words
explain_reads : (name file address : Text) (rest : List Text) (t : ExplainTexts) → IsFileWord file → IsPlainWord address
    → Leads explain (second explain file address) rest (OfExplain t) → Reads (name ∷ codes "explain" ∷ file ∷ address ∷ rest) (OfExplain t)
explain_reads name file address rest t p q on =
    line_reads explain (OfExplain t) is_explain name (file ∷ address ∷ rest)
    (positional_word explain nothing_held 1 file (address ∷ rest) (OfExplain t) p refl
    (positional_word explain (first explain file).held 2 address rest (OfExplain t) (inl q) refl on))

-- ---- `page`

leads_page : (file : Text) → Leads page (first page file) [] (OfPage (plain_page file))
unfolding clap_on_literals
leads_page file = (refl, refl, (refl, refl, (codes "false", refl, refl)))

leads_output : (file flag output : Text) → IsOutputFlag flag → IsFileWord output
    → Leads page (first page file) (flag ∷ output ∷ []) (OfPage (record (plain_page file) { output = Some output }))
unfolding clap_on_literals
leads_output file flag output f p =
    option_given page (codes "output") flag (first page file) output [] (OfPage (record (plain_page file) { output = Some output })) p (none f) (waits f)
    (refl, refl, (refl, refl, (codes "false", refl, refl)))
  where
    none : IsOutputFlag flag → turn_fault page [] (first page file) flag ≡ []
    none (inl e) = rw e refl
    none (inr e) = rw e refl

    waits : IsOutputFlag flag → walked page.rules [] (first page file) flag ≡ walk_waiting page (codes "output") (first page file)
    waits (inl e) = rw e refl
    waits (inr e) = rw e refl

leads_page_progress : (file : Text) → Leads page (first page file) (codes "--progress" ∷ []) (OfPage (record (plain_page file) { progress = true }))
unfolding clap_on_literals
leads_page_progress file = (refl, refl, (refl, refl, (codes "true", refl, refl)))

-- ---- `capture`

-- the option has its value, if one was given
abbrev after_option : Text → Walk → Option Text → Walk
after_option id before None = before
after_option id before (Some word) = after_word capture.rules (walk_waiting capture id before) word

abbrev after_options : Text → Option Text → Option Text → Walk
after_options file router begin = after_option (codes "begin") (after_option (codes "router") (first capture file) router) begin

abbrev flags : Bool → Bool → List Text
flags keeps_all without_seconds = flag_words (codes "--all") keeps_all ++ flag_words (codes "--no-seconds") without_seconds

abbrev texts : Text → Option Text → Option Text → Bool → Bool → CaptureTexts
texts file router begin keeps_all without_seconds =
    record { file = file; router = router; begin = begin; keeps_all = keeps_all; without_seconds = without_seconds }

leads_flags : (file : Text) (router begin : Option Text) (keeps_all without_seconds : Bool)
    → Leads capture (after_options file router begin) (flags keeps_all without_seconds) (OfCapture (texts file router begin keeps_all without_seconds))
unfolding clap_on_literals
leads_flags file None None false false = (refl, refl, (refl, refl, refl, (codes "false", refl, refl), (codes "false", refl, refl)))
leads_flags file None None false true = (refl, refl, (refl, refl, refl, (codes "false", refl, refl), (codes "true", refl, refl)))
leads_flags file None None true false = (refl, refl, (refl, refl, refl, (codes "true", refl, refl), (codes "false", refl, refl)))
leads_flags file None None true true = (refl, refl, (refl, refl, refl, (codes "true", refl, refl), (codes "true", refl, refl)))
leads_flags file None (Some head) false false = (refl, refl, (refl, refl, refl, (codes "false", refl, refl), (codes "false", refl, refl)))
leads_flags file None (Some head) false true = (refl, refl, (refl, refl, refl, (codes "false", refl, refl), (codes "true", refl, refl)))
leads_flags file None (Some head) true false = (refl, refl, (refl, refl, refl, (codes "true", refl, refl), (codes "false", refl, refl)))
leads_flags file None (Some head) true true = (refl, refl, (refl, refl, refl, (codes "true", refl, refl), (codes "true", refl, refl)))
leads_flags file (Some address) None false false = (refl, refl, (refl, refl, refl, (codes "false", refl, refl), (codes "false", refl, refl)))
leads_flags file (Some address) None false true = (refl, refl, (refl, refl, refl, (codes "false", refl, refl), (codes "true", refl, refl)))
leads_flags file (Some address) None true false = (refl, refl, (refl, refl, refl, (codes "true", refl, refl), (codes "false", refl, refl)))
leads_flags file (Some address) None true true = (refl, refl, (refl, refl, refl, (codes "true", refl, refl), (codes "true", refl, refl)))
leads_flags file (Some address) (Some head) false false = (refl, refl, (refl, refl, refl, (codes "false", refl, refl), (codes "false", refl, refl)))
leads_flags file (Some address) (Some head) false true = (refl, refl, (refl, refl, refl, (codes "false", refl, refl), (codes "true", refl, refl)))
leads_flags file (Some address) (Some head) true false = (refl, refl, (refl, refl, refl, (codes "true", refl, refl), (codes "false", refl, refl)))
leads_flags file (Some address) (Some head) true true = (refl, refl, (refl, refl, refl, (codes "true", refl, refl), (codes "true", refl, refl)))

leads_begin : (file : Text) (router begin : Option Text) (rest : List Text) (t : CaptureTexts) → IsFileIfGiven begin
    → Leads capture (after_options file router begin) rest (OfCapture t)
    → Leads capture (after_option (codes "router") (first capture file) router) (option_words (codes "--begin") begin ++ rest) (OfCapture t)
unfolding clap_on_literals
leads_begin file router None rest t p on = on
leads_begin file None (Some head) rest t p on = option_given capture (codes "begin") (codes "--begin") (first capture file) head rest (OfCapture t) p refl refl on
leads_begin file (Some address) (Some head) rest t p on =
    option_given capture (codes "begin") (codes "--begin") (after_option (codes "router") (first capture file) (Some address)) head rest (OfCapture t) p refl refl on

leads_router : (file : Text) (router : Option Text) (rest : List Text) (t : CaptureTexts) → IsPlainIfGiven router
    → Leads capture (after_option (codes "router") (first capture file) router) rest (OfCapture t)
    → Leads capture (first capture file) (option_words (codes "--router") router ++ rest) (OfCapture t)
unfolding clap_on_literals
leads_router file None rest t p on = on
leads_router file (Some address) rest t p on = option_given capture (codes "router") (codes "--router") (first capture file) address rest (OfCapture t) (inl p) refl refl on

leads_capture : (t : CaptureTexts) → AreReadable t → Leads capture (first capture t.file) (capture_words t) (OfCapture t)
leads_capture t p =
    leads_router t.file t.router _ t p.router
    (leads_begin t.file t.router t.begin _ t p.begin (leads_flags t.file t.router t.begin t.keeps_all t.without_seconds))

-- ---- each line

-- a line of a command with a positional
first_reads : (s : Shape) (t : JobTexts) → IsCommand (command_name t) s → step_fault s 1 nothing_held value ≡ [] → (name word : Text) (rest : List Text) → IsFileWord word
    → Leads s (first s word) rest t → Reads (name ∷ command_name t ∷ word ∷ rest) t
first_reads s t is takes name word rest p on = line_reads s t is name (word ∷ rest) (positional_word s nothing_held 1 word rest t p takes on)

pub reads : (line : List Text) (t : JobTexts) → Spells line t → Reads line t
reads _ _ (SpellsOne name t p) =
    first_reads one _ is_one refl name t.router _ (inl p.router)
    (positional_word one (first one t.router).held 2 t.area (t.address ∷ t.lsa ∷ t.lookup ∷ []) (OfOne t) (inl p.area) refl
    (positional_word one (second one t.router t.area).held 3 t.address (t.lsa ∷ t.lookup ∷ []) (OfOne t) (inl p.address) refl
    (positional_word one (third t).held 4 t.lsa (t.lookup ∷ []) (OfOne t) (inl p.lsa) refl
    (positional_word one (fourth t).held 5 t.lookup [] (OfOne t) (inl p.lookup) refl (leads_one t)))))
reads _ _ (SpellsDecode name hex p) = first_reads decode _ is_decode refl name hex _ (inl p) (leads_decode hex)
reads _ _ (SpellsLong name hex p) = first_reads decode _ is_decode refl name hex _ (inl p) (leads_long hex)
reads _ _ (SpellsReplay name file p) = first_reads replay _ is_replay refl name file _ p (leads_replay file)
reads _ _ (SpellsWorkers name file number count p h) = first_reads replay _ is_replay refl name file _ p (leads_workers file number count h)
reads _ _ (SpellsShow name file show p) = first_reads replay _ is_replay refl name file _ p (leads_show file show)
reads _ _ (SpellsReplayFormat name file format p) = first_reads replay _ is_replay refl name file _ p (leads_replay_format file format)
reads _ _ (SpellsReplayProgress name file p) = first_reads replay _ is_replay refl name file _ p (leads_replay_progress file)
reads _ _ (SpellsChanges name file p) = first_reads changes _ is_changes refl name file _ p (leads_changes file)
reads _ _ (SpellsOnly name file prefix p q) = first_reads changes _ is_changes refl name file _ p (leads_only file prefix q)
reads _ _ (SpellsChangesFormat name file format p) = first_reads changes _ is_changes refl name file _ p (leads_changes_format file format)
reads _ _ (SpellsChangesProgress name file p) = first_reads changes _ is_changes refl name file _ p (leads_changes_progress file)
reads _ _ (SpellsFollow name) = line_reads follow _ is_follow name _ leads_follow
reads _ _ (SpellsStrict name) = line_reads follow _ is_follow name _ leads_strict
reads _ _ (SpellsFollowOnly name prefix p) = line_reads follow _ is_follow name _ (leads_follow_only prefix p)
reads _ _ (SpellsFollowFormat name format) = line_reads follow _ is_follow name _ (leads_follow_format format)
reads _ _ (SpellsExplain name file address p q) = explain_reads name file address _ _ p q (leads_explain file address)
reads _ _ (SpellsDue name file address area p q r) = explain_reads name file address _ _ p q (leads_due file address area r)
reads _ _ (SpellsExplainFormat name file address format p q) = explain_reads name file address _ _ p q (leads_explain_format file address format)
reads _ _ (SpellsExplainProgress name file address p q) = explain_reads name file address _ _ p q (leads_explain_progress file address)
reads _ _ (SpellsPage name file p) = first_reads page _ is_page refl name file _ p (leads_page file)
reads _ _ (SpellsOutput name file flag output f p q) = first_reads page _ is_page refl name file _ p (leads_output file flag output f q)
reads _ _ (SpellsPageProgress name file p) = first_reads page _ is_page refl name file _ p (leads_page_progress file)
reads _ _ (SpellsCapture name t p) = first_reads capture _ is_capture refl name t.file _ p.file (leads_capture t p)
reads _ _ (SpellsFault name number p) = first_reads fault _ is_fault refl name number _ (inl p) (leads_fault number)
