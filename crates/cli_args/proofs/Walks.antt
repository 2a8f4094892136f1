-- The parse of the words after a command's name, and of the whole line.
use Rattle.std.proofs.Common.{ℕ, ◌≡◌, ◌∙◌, ◌==◌, ◌++◌, sym, ap, ap₂, subst, refl, inl, inr, is_some, Bool, true, false, List, [], ◌∷◌, Option, Some, None, append-nil, append_assoc}
use Rattle.std.specs.Prelude.{fold, option_and_then}
use Rattle.std.specs.Str.{bytes_eq}
use Rattle.clap.specs.Lexer.{long_of, long_of_rest, short_of, short_of_rest, strip_byte}
use Rattle.clap.specs.Walk.{Held, Names, Rule, Text, Waiting, Walk, after_step, finished, idle, nothing_held, option, plain_word, rows_after, settled, stop_after, value, walk, walk_from, walked}
use Rattle.clap.specs.Simple.{Shape, argument_words, built, entered, names_of, subcommand_of}
use Rattle.clap.specs.Faults.{check_fault, defaults_fault, entered_fault, fault_of, level_fault, settle_fault, step_fault, turn_fault, walk_fault}
use Rattle.clap.specs.Kinds.{Kinds, or_else}
use Rattle.clap.proofs.OnLiterals.{clap_on_literals}
use Rattle.cli_args.specs.Command.{HasJobWords, HasTexts, IsFileWord, IsPlainWord, JobTexts, command_name, program}

-- ---- a word that is no flag

no_dashes : (word : Text) → IsPlainWord word → bytes_eq word (45 ∷ 45 ∷ []) ≡ false
no_dashes [] p = refl
no_dashes (x ∷ xs) p = go (x == 45) refl
  where
    go : (b : Bool) → (x == 45) ≡ b → bytes_eq (x ∷ xs) (45 ∷ 45 ∷ []) ≡ false
    go true e = let bad : strip_byte 45 (x ∷ xs) ≡ Some xs = rw e refl in cc
    go false e = rw e refl

is_no_flag : (word : Text) → IsFileWord word → (bytes_eq word (45 ∷ 45 ∷ []) ≡ false) × (long_of word ≡ None) × (short_of word ≡ None)
is_no_flag word (inl p) = (
  no_dashes word p,
  ap (λ (o : Option Text). option_and_then long_of_rest (option_and_then (strip_byte 45) o)) p,
  ap (λ (o : Option Text). option_and_then short_of_rest o) p,
)
is_no_flag word (inr e) = rw e (refl, refl, refl)

-- nothing waits for a value
abbrev pub at_rest : Held → ℕ → Walk
at_rest h position = record { held = h; waiting = idle; position = position; is_trailing = false; stopped = None }

-- an option waits for its value
abbrev pub waiting_at : Held → ℕ → Text → Walk
waiting_at h position id = record { held = h; waiting = option id; position = position; is_trailing = false; stopped = None }

-- the walk after a word that is no flag
abbrev pub after_word : List Rule → Walk → Text → Walk
after_word c w word = after_step c word w (plain_word c w.waiting word w.held).0 (plain_word c w.waiting word w.held).1

rest_step : (c : List Rule) (h : Held) (position : ℕ) (word : Text) → IsFileWord word → walked c [] (at_rest h position) word ≡ after_word c (at_rest h position) word
unfolding walked
rest_step c h position word p = let q = is_no_flag word p in rw (q.0, q.1, q.2) refl

rest_fault : (s : Shape) (h : Held) (position : ℕ) (word : Text) → IsFileWord word → turn_fault s [] (at_rest h position) word ≡ step_fault s position h value
rest_fault s h position word p = let q = is_no_flag word p in rw (q.0, q.1, q.2) refl

option_step : (c : List Rule) (h : Held) (position : ℕ) (id word : Text) → IsFileWord word
    → walked c [] (waiting_at h position id) word ≡ after_word c (waiting_at h position id) word
unfolding walked
option_step c h position id word p = let q = is_no_flag word p in rw (q.0, q.1, q.2) refl

option_fault : (s : Shape) (h : Held) (position : ℕ) (id word : Text) → IsFileWord word → turn_fault s [] (waiting_at h position id) word ≡ []
option_fault s h position id word p = let q = is_no_flag word p in rw (q.0, q.1, q.2) refl

-- ---- the words that follow, to the end

-- the fault after the words
abbrev end_fault : Shape → Walk → Kinds
end_fault s w =
    or_else (settle_fault s.rules s.args_override_self w.held)
    (or_else (defaults_fault (settled s.rules w.held).rows s.rules) (check_fault s (finished s.rules w.held) false))

-- from here the words have no fault, and they are the words of this job
abbrev pub Leads : Shape → Walk → List Text → JobTexts → Type 0
Leads s w words t =
    (walk_fault s [] w words ≡ [])
    × (end_fault s (fold (walked s.rules []) w words) ≡ [])
    × HasJobWords (finished s.rules (fold (walked s.rules []) w words).held) t

one_word : (s : Shape) (w after : Walk) (word : Text) (rest : List Text) (t : JobTexts) → turn_fault s [] w word ≡ [] → walked s.rules [] w word ≡ after
    → Leads s after rest t → Leads s w (word ∷ rest) t
unfolding walk_fault
one_word s w after word rest t none is h = (
  ap₂ or_else none (ap (λ (v : Walk). walk_fault s [] v rest) is ∙ h.0),
  ap (λ (v : Walk). end_fault s (fold (walked s.rules []) v rest)) is ∙ h.1,
  subst (λ (v : Walk). HasJobWords (finished s.rules (fold (walked s.rules []) v rest).held) t) (sym is) h.2,
)

-- a word for the positional at this place
pub positional_word : (s : Shape) (h : Held) (position : ℕ) (word : Text) (rest : List Text) (t : JobTexts) → IsFileWord word → step_fault s position h value ≡ []
    → Leads s (after_word s.rules (at_rest h position) word) rest t → Leads s (at_rest h position) (word ∷ rest) t
positional_word s h position word rest t p none on =
    one_word s (at_rest h position) _ word rest t (rest_fault s h position word p ∙ none) (rest_step s.rules h position word p) on

-- an option, with its id, after the words so far
abbrev pub walk_waiting : Shape → Text → Walk → Walk
walk_waiting s id w = waiting_at (record (settled s.rules w.held) { pending = Some (id, []) }) w.position id

-- the option and its value
pub option_given : (s : Shape) (id flag : Text) (w : Walk) (given : Text) (rest : List Text) (t : JobTexts) → IsFileWord given
    → turn_fault s [] w flag ≡ [] → walked s.rules [] w flag ≡ walk_waiting s id w
    → Leads s (after_word s.rules (walk_waiting s id w) given) rest t → Leads s w (flag ∷ given ∷ rest) t
option_given s id flag w given rest t p none waits on =
    let h : Held = record (settled s.rules w.held) { pending = Some (id, []) } in
    one_word s w (walk_waiting s id w) flag (given ∷ rest) t none waits
    (one_word s (walk_waiting s id w) _ given rest t (option_fault s h w.position id given p) (option_step s.rules h w.position id given p) on)

-- ---- the whole line: the program's name, a command's, and the command's words

abbrev top : Shape
top = (built program).top

abbrev labels : Names
labels = names_of (built program)

-- before any word
abbrev pub start : Walk
start = walk_from nothing_held

-- the command was met, and these words after it
abbrev stopped_at : Text → List Text → Walk
stopped_at command words = record start { stopped = Some (command, words) }

-- all further words are the command's
carried : (command : Text) (before rest : List Text) → fold (walked top.rules labels) (stopped_at command before) rest ≡ stopped_at command (before ++ rest)
unfolding walked
carried command before [] = ap (stopped_at command) (sym (append-nil before))
carried command before (word ∷ rest) = carried command (before ++ word ∷ []) rest ∙ ap (stopped_at command) (append_assoc before (word ∷ []) rest)

silent : (command : Text) (before rest : List Text) → walk_fault top labels (stopped_at command before) rest ≡ []
unfolding walk_fault walked
silent command before [] = refl
silent command before (word ∷ rest) = silent command (before ++ word ∷ []) rest

-- the word is the name of the command with these rules
pub record IsCommand (command : Text) (s : Shape) : Type 0 where
  pub stops : walked top.rules labels start command ≡ stopped_at command []
  pub passes : turn_fault top labels start command ≡ []
  pub enters : (words : List Text) → entered (built program) (Some (command, words)) ≡ Some (command, rows_after s.rules [] words)
  pub fails : (words : List Text) → entered_fault (built program) (Some (command, words)) ≡ level_fault s [] nothing_held words false []

-- the fault after the words
abbrev top_end : Walk → Kinds
top_end w =
    or_else (settle_fault top.rules top.args_override_self w.held)
    (or_else (defaults_fault (settled top.rules w.held).rows top.rules) (check_fault top (finished top.rules w.held) true))

top_ends : (command : Text) (words : List Text) → top_end (stopped_at command words) ≡ []
unfolding clap_on_literals
top_ends command words = refl

-- the line has no fault, and has the words of this job
pub record Reads (line : List Text) (t : JobTexts) : Type 0 where
  pub has : HasTexts (subcommand_of program line) t
  pub faultless : fault_of program line ≡ []

module _ (s : Shape) (t : JobTexts) (is : IsCommand (command_name t) s) (name : Text) (words : List Text) (leads : Leads s start words t) where
  abbrev command : Text
  command = command_name t

  walk_is : walk top.rules labels nothing_held (command ∷ words) ≡ stopped_at command words
  walk_is = ap (λ (w : Walk). fold (walked top.rules labels) w words) is.stops ∙ carried command [] words

  walks : walk_fault top labels start (command ∷ words) ≡ []
  unfolding walk_fault
  walks = ap₂ or_else is.passes (ap (λ (w : Walk). walk_fault top labels w words) is.stops ∙ silent command [] words)

  stop_is : stop_after top.rules labels (argument_words program (name ∷ command ∷ words)) ≡ Some (command, words)
  stop_is = ap (λ (w : Walk). w.stopped) walk_is

  met : subcommand_of program (name ∷ command ∷ words) ≡ Some (command, rows_after s.rules [] words)
  met = ap (entered (built program)) stop_is ∙ is.enters words

  -- the command's words have no fault, so the line has none
  passes : fault_of program (name ∷ command ∷ words) ≡ []
  passes =
      ap (λ (o : Option (Text × List Text)). level_fault top labels nothing_held (command ∷ words) (is_some (entered (built program) o)) (entered_fault (built program) o)) stop_is
      ∙ ap₂ (λ (b : Bool) (kinds : Kinds). level_fault top labels nothing_held (command ∷ words) b kinds)
      (ap is_some (is.enters words)) (is.fails words ∙ ap₂ or_else leads.0 leads.1)
      ∙ ap₂ or_else walks (ap top_end walk_is ∙ top_ends command words)

  pub line_reads : Reads (name ∷ command ∷ words) t
  line_reads = record { has = (rows_after s.rules [] words, met, leads.2); faultless = passes }
