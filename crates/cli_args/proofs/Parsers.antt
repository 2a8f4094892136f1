-- The parse of a simple command does not change if the parsers of values change and take the same
-- values.
use Rattle.std.proofs.Common.{◌≡◌, ◌∙◌, ◌==◌, ◌+◌, ◌&&◌, ◌||◌, ℕ, Bool, false, not, zero, suc, refl, sym, ap, ap₂, List, [], ◌∷◌, map, length, drop, min, Option, Some, None, is_some}
use Rattle.std.specs.Prelude.{encode_utf8, slice_get, find, fold, option_map, if◌then◌else◌}
use Rattle.std.specs.List.{list_any}
use Rattle.std.specs.Option.{option_map_or}
use Rattle.std.specs.Str.{bytes_eq, chars}
use Rattle.clap.specs.Lexer.{long_of, short_of}
use Rattle.clap.specs.Values.{reading_of}
use Rattle.clap.specs.Facts.{parser_of_value}
use Rattle.clap.specs.Walk.{Held, Names, Outcome, Row, Rule, Step, Text, Waiting, Walk, action_of, after_flag, after_step, answers_to, arg_by_id, arg_by_index, arg_by_long, arg_by_short, attached_value, bundle_met, bundle_step, count_of, default_rows, done, finished, flag_met, has_long, has_row, has_short, idle, is_empty, is_multiple, is_pending, long_met, long_or_other, long_word, most_values, next, next_position, nothing_held, option, option_met, option_word, plain, plain_word, positional, pushed, reacted, refused, rows_after, settled, settled_rows, short_met, short_or_plain, short_word, subcommand, subcommand_met, subcommand_or_other, takes_several, takes_values, to_positional, trailing, used, used_as, used_by_id, value, values_or_missing, waits, walk, walk_from, walked, walked_from, with_default, word_met}
use Rattle.clap.specs.declared.builder.value_parser.Reading.{Reading}
use Rattle.clap.specs.declared.builder.value_parser.ValueParser.{ValueParser}
use Rattle.clap.specs.declared.builder.action.ArgAction.{ArgAction}
use Rattle.clap.specs.declared.builder.action.ArgAction.TheVariants.{Set, Append, SetTrue, SetFalse, Count}
use Rattle.clap.specs.declared.error.kind.ErrorKind.TheVariants as kind
use Rattle.clap.specs.Matches.{count_text}
use Rattle.clap.specs.Facts.{explicit_source, unwrap_or_range}
use Rattle.clap.specs.Takes.{is_given}
use Rattle.clap.specs.Simple.{App, Shape, entered, label_of, rows_at}
use Rattle.clap.specs.Faults.{action_fault, bundle_fault, bundle_step_fault, check_fault, count_fault, default_fault, defaults_fault, entered_fault, flag_word_fault, flags_fault, level_fault, long_fault, option_fault, other_fault, positional_fault, react_fault, repeat_fault, settle_fault, short_fault, step_fault, stray_fault, turn_fault, use_fault, values_fault, walk_fault, word_fault}
use Rattle.clap.specs.Kinds.{Kinds, check_kinds, or_else, range_kinds, request_kinds, value_kinds}
use Rattle.clap.proofs.WalkLemmas.{find-map, list_any-map}

module _ (f : Option ValueParser → Option ValueParser)
    (reads : (p : Option ValueParser) → reading_of (parser_of_value (f p)) ≡ reading_of (parser_of_value p))
    (checks : (ignore_case : Bool) (p : Option ValueParser) (t : Text) → value_kinds ignore_case (parser_of_value (f p)) t ≡ value_kinds ignore_case (parser_of_value p) t) where
  abbrev pub changed : Rule → Rule
  changed a = record a { parser = f a.parser }

  abbrev pub all : List Rule → List Rule
  all c = map changed c

  by_id : (c : List Rule) (id : Text) → arg_by_id (all c) id ≡ option_map changed (arg_by_id c id)
  by_id c id = sym (find-map (λ (a : Rule). bytes_eq a.id id) changed c)

  by_long : (c : List Rule) (name : Text) → arg_by_long (all c) name ≡ option_map changed (arg_by_long c name)
  by_long c name = sym (find-map (λ (a : Rule). not (is_some a.index) && has_long a name) changed c)

  by_short : (c : List Rule) (x : ℕ) → arg_by_short (all c) x ≡ option_map changed (arg_by_short c x)
  by_short c x = sym (find-map (λ (a : Rule). not (is_some a.index) && has_short a x) changed c)

  by_index : (c : List Rule) (i : ℕ) → arg_by_index (all c) i ≡ option_map changed (arg_by_index c i)
  by_index c i = sym (find-map (λ (a : Rule). option_map_or (λ k. k == i) a.index false) changed c)

  -- ---- the walk

  used_same : (a : Rule) (values : List Text) (rows : List Row) → used (changed a) values rows ≡ used a values rows
  used_same a values rows = ap (λ (how : Reading). used_as (action_of a) a.id how (values_or_missing a values) rows) (reads a.parser)

  used_found : (o : Option Rule) (values : List Text) (rows : List Row) → used_by_id (option_map changed o) values rows ≡ used_by_id o values rows
  used_found None values rows = refl
  used_found (Some a) values rows = used_same a values rows

  settled_found : (c : List Rule) (o : Option (Text × List Text)) (rows : List Row) → settled_rows (all c) o rows ≡ settled_rows c o rows
  settled_found c None rows = refl
  settled_found c (Some p) rows = ap (λ (o : Option Rule). used_by_id o p.1 rows) (by_id c p.0) ∙ used_found (arg_by_id c p.0) p.1 rows

  settled_same : (c : List Rule) (h : Held) → settled (all c) h ≡ settled c h
  settled_same c h = ap (λ (rows : List Row). let x : Held = record h { rows = rows; pending = None } in x) (settled_found c h.pending h.rows)

  reacted_same : (c : List Rule) (a : Rule) (values : List Text) (h : Held) → reacted (all c) (changed a) values h ≡ reacted c a values h
  reacted_same c a values h =
      ap (λ (rows : List Row). let x : Held = record h { rows = rows; pending = None } in x)
      (used_same a values (settled (all c) h).rows ∙ ap (λ (s : Held). used a values s.rows) (settled_same c h))

  option_same : (c : List Rule) (a : Rule) (v : Option Text) (h : Held) → option_met (all c) (changed a) v h ≡ option_met c a v h
  option_same c a (Some v) h = ap (λ (k : Held). (k, done)) (reacted_same c a (v ∷ []) h)
  option_same c a None h = ap (λ (k : Held). let x : Held = record k { pending = Some (a.id, []) } in (x, waits a.id)) (settled_same c h)

  flag_same : (c : List Rule) (a : Rule) (v : Option Text) (h : Held) → flag_met (all c) (changed a) v h ≡ flag_met c a v h
  flag_same c a (Some v) h = refl
  flag_same c a None h = ap (λ (k : Held). (k, done)) (reacted_same c a [] h)

  long_found : (c : List Rule) (o : Option Rule) (v : Option Text) (h : Held) → long_met (all c) (option_map changed o) v h ≡ long_met c o v h
  long_found c None v h = refl
  long_found c (Some a) v h = ap₂ (λ (x y : Held × Outcome). if takes_values a then x else y) (option_same c a v h) (flag_same c a v h)

  long_same : (c : List Rule) (name : Text) (v : Option Text) (h : Held) → long_met (all c) (arg_by_long (all c) name) v h ≡ long_met c (arg_by_long c name) v h
  long_same c name v h = ap (λ (o : Option Rule). long_met (all c) o v h) (by_long c name) ∙ long_found c (arg_by_long c name) v h

  short_found : (c : List Rule) (o : Option Rule) (rest : Text) (h : Held) (following before : Held → Held × Outcome) → ((k : Held) → following k ≡ before k)
      → short_met (all c) (option_map changed o) rest h following ≡ short_met c o rest h before
  short_found c None rest h following before same = refl
  short_found c (Some a) rest h following before same =
      ap₂ (λ (x y : Held × Outcome). if takes_values a then x else y) (option_same c a (attached_value rest) h)
      (ap following (reacted_same c a [] h) ∙ same (reacted c a [] h))

  step_same : (c : List Rule) (o : Option ℕ) (flags : Text) (skip : ℕ) (so_far : Outcome) (h : Held)
      (following before : Text → ℕ → Outcome → Held → Held × Outcome)
      → ((rest : Text) (n : ℕ) (r : Outcome) (k : Held) → following rest n r k ≡ before rest n r k)
      → bundle_step (all c) o flags skip so_far h following ≡ bundle_step c o flags skip so_far h before
  step_same c None flags skip so_far h following before same = refl
  step_same c (Some x) flags zero so_far h following before same =
      let rest : Text = drop (length (encode_utf8 x)) flags in
      ap (λ (o : Option Rule). short_met (all c) o rest h (following rest 0 done)) (by_short c x)
      ∙ short_found c (arg_by_short c x) rest h (following rest 0 done) (before rest 0 done) (same rest 0 done)
  step_same c (Some x) flags (suc skip) so_far h following before same = same (drop (length (encode_utf8 x)) flags) skip so_far h

  bundle_same : (c : List Rule) (k : ℕ) (flags : Text) (skip : ℕ) (so_far : Outcome) (h : Held)
      → bundle_met (all c) k flags skip so_far h ≡ bundle_met c k flags skip so_far h
  unfolding bundle_met
  bundle_same c zero flags skip so_far h = refl
  bundle_same c (suc k) flags skip so_far h =
      step_same c (slice_get (chars flags) 0) flags skip so_far h (bundle_met (all c) k) (bundle_met c k) (bundle_same c k)

  option_word_found : (o : Option Rule) (id word : Text) (h : Held) → option_word (option_map changed o) id word h ≡ option_word o id word h
  option_word_found None id word h = refl
  option_word_found (Some a) id word h = refl

  plain_same : (c : List Rule) (waiting : Waiting) (word : Text) (h : Held) → plain_word (all c) waiting word h ≡ plain_word c waiting word h
  plain_same c (option id) word h =
      ap (λ (x : Held × Waiting). (x.0, next x.1)) (ap (λ (o : Option Rule). option_word o id word h) (by_id c id) ∙ option_word_found (arg_by_id c id) id word h)
  plain_same c idle word h = refl
  plain_same c positional word h = refl

  after_same : (c : List Rule) (waiting : Waiting) (word : Text) (m n : Held × Outcome) → m ≡ n → after_flag (all c) waiting word m.0 m.1 ≡ after_flag c waiting word n.0 n.1
  after_same c waiting word m n e = ap (λ (x : Held × Outcome). after_flag (all c) waiting word x.0 x.1) e ∙ go n.0 n.1
    where
      go : (h : Held) (o : Outcome) → after_flag (all c) waiting word h o ≡ after_flag c waiting word h o
      go h done = refl
      go h (waits id) = refl
      go h plain = plain_same c waiting word h
      go h refused = plain_same c waiting word h

  long_word_same : (c : List Rule) (waiting : Waiting) (word name : Text) (v : Option Text) (h : Held)
      → long_word (all c) waiting word name v h ≡ long_word c waiting word name v h
  long_word_same c waiting word name v h = after_same c waiting word _ _ (long_same c name v h)

  short_word_same : (c : List Rule) (waiting : Waiting) (word flags : Text) (h : Held) → short_word (all c) waiting word flags h ≡ short_word c waiting word flags h
  short_word_same c waiting word flags h =
      after_same c waiting word _ _ (bundle_same c (length flags) flags h.skip plain (let k : Held = record h { skip = 0 } in k))

  short_other_same : (c : List Rule) (waiting : Waiting) (word : Text) (o : Option Text) (h : Held) → short_or_plain (all c) waiting word o h ≡ short_or_plain c waiting word o h
  short_other_same c waiting word (Some flags) h = short_word_same c waiting word flags h
  short_other_same c waiting word None h = plain_same c waiting word h

  other_same : (c : List Rule) (waiting : Waiting) (word : Text) (o : Option (Text × Option Text)) (h : Held) → long_or_other (all c) waiting word o h ≡ long_or_other c waiting word o h
  other_same c waiting word (Some p) h = long_word_same c waiting word p.0 p.1 h
  other_same c waiting word None h = short_other_same c waiting word (short_of word) h

  met_same : (c : List Rule) (names : Names) (is_trailing : Bool) (waiting : Waiting) (position : ℕ) (word : Text) (h : Held)
      → word_met (all c) names is_trailing waiting position word h ≡ word_met c names is_trailing waiting position word h
  met_same c names is_trailing waiting position word h =
      ap (λ (x : Held × Step). if is_trailing then (h, value) else x) (go (subcommand_met names waiting word))
    where
      go : (o : Option Text) → subcommand_or_other (all c) o waiting position word h ≡ subcommand_or_other c o waiting position word h
      go (Some name) = refl
      go None = ap (λ (x : Held × Step). if bytes_eq word (45 ∷ 45 ∷ []) then (h, trailing position) else x) (other_same c waiting word (long_of word) h)

  positional_found : (c : List Rule) (o : Option Rule) (word : Text) (w : Walk) (h : Held) → to_positional (all c) (option_map changed o) word w h ≡ to_positional c o word w h
  positional_found c None word w h = refl
  positional_found c (Some a) word w h =
      ap (λ (k : Held). let x : Walk = record {
        held = pushed a.id word (if is_pending a h.pending && takes_several a then h else k);
        waiting = if is_multiple a then positional else idle;
        position = next_position a w.position;
        is_trailing = w.is_trailing || a.trailing_var_arg;
        stopped = None;
      } in x) (settled_same c h)

  after_step_same : (c : List Rule) (word : Text) (w : Walk) (h : Held) (s : Step) → after_step (all c) word w h s ≡ after_step c word w h s
  after_step_same c word w h (next waiting) = refl
  after_step_same c word w h (trailing position) = refl
  after_step_same c word w h (subcommand name) = refl
  after_step_same c word w h value = ap (λ (o : Option Rule). to_positional (all c) o word w h) (by_index c w.position) ∙ positional_found c (arg_by_index c w.position) word w h

  walked_same : (c : List Rule) (names : Names) (w : Walk) (word : Text) → walked (all c) names w word ≡ walked c names w word
  unfolding walked
  walked_same c names w word = go w.stopped
    where
      go : (o : Option (Text × List Text)) → walked_from (all c) names o w word ≡ walked_from c names o w word
      go (Some p) = refl
      go None =
          ap (λ (m : Held × Step). after_step (all c) word w m.0 m.1) (met_same c names w.is_trailing w.waiting w.position word w.held)
          ∙ after_step_same c word w (word_met c names w.is_trailing w.waiting w.position word w.held).0 (word_met c names w.is_trailing w.waiting w.position word w.held).1

  walk_same : (c : List Rule) (names : Names) (words : List Text) (w : Walk) → fold (walked (all c) names) w words ≡ fold (walked c names) w words
  walk_same c names [] w = refl
  walk_same c names (word ∷ rest) w = ap (λ (x : Walk). fold (walked (all c) names) x rest) (walked_same c names w word) ∙ walk_same c names rest (walked c names w word)

  default_same : (a : Rule) (rows : List Row) → with_default rows (changed a) ≡ with_default rows a
  default_same a rows = ap (λ (how : Reading). if has_row a.id rows then rows else default_rows a.id how a.defaults rows) (reads a.parser)

  defaults_same : (c : List Rule) (rows : List Row) → fold with_default rows (all c) ≡ fold with_default rows c
  defaults_same [] rows = refl
  defaults_same (a ∷ c) rows = ap (λ (r : List Row). fold with_default r (all c)) (default_same a rows) ∙ defaults_same c (with_default rows a)

  finished_same : (c : List Rule) (h : Held) → finished (all c) h ≡ finished c h
  finished_same c h = ap (λ (s : Held). fold with_default s.rows (all c)) (settled_same c h) ∙ defaults_same c (settled c h).rows

  pub rows_same : (c : List Rule) (names : Names) (words : List Text) → rows_after (all c) names words ≡ rows_after c names words
  rows_same c names words =
      ap (λ (w : Walk). finished (all c) w.held) (walk_same c names words (walk_from nothing_held)) ∙ finished_same c (walk c names nothing_held words).held

  -- ---- what fails

  values_same : (a : Rule) (values : List Text) → values_fault (changed a) values ≡ values_fault a values
  values_same a [] = refl
  values_same a (v ∷ vs) = ap₂ or_else (checks a.ignore_case a.parser v) (values_same a vs)

  count_same : (a : Rule) (values : List Text) (rows : List Row) → count_fault (changed a) values rows ≡ count_fault a values rows
  count_same a [] rows = checks a.ignore_case a.parser (count_text (min (count_of a.id rows + 1) 255))
  count_same a (v ∷ vs) rows = values_same a (v ∷ vs)

  action_same : (x : ArgAction) (again : Bool) (a : Rule) (values : List Text) (rows : List Row) → action_fault x again (changed a) values rows ≡ action_fault x again a values rows
  action_same Set again a values rows = ap (or_else (repeat_fault again a.id rows)) (values_same a values)
  action_same SetTrue again a values rows = ap (or_else (repeat_fault again a.id rows)) (values_same a values)
  action_same SetFalse again a values rows = ap (or_else (repeat_fault again a.id rows)) (values_same a values)
  action_same Append again a values rows = values_same a values
  action_same Count again a values rows = count_same a values rows
  action_same _ again a values rows = refl

  use_same : (again : Bool) (a : Rule) (values : List Text) (rows : List Row) → use_fault again (changed a) values rows ≡ use_fault again a values rows
  use_same again a values rows =
      ap (or_else (range_kinds (unwrap_or_range a.range).start_inclusive (most_values a) (length values)))
      (action_same (action_of a) again a (values_or_missing a values) rows)

  settle_fault_same : (c : List Rule) (again : Bool) (h : Held) → settle_fault (all c) again h ≡ settle_fault c again h
  settle_fault_same c again h = go h.pending
    where
      found : (o : Option Rule) (values : List Text)
          → option_map_or (λ a. use_fault again a values h.rows) (option_map changed o) [] ≡ option_map_or (λ a. use_fault again a values h.rows) o []
      found None values = refl
      found (Some a) values = use_same again a values h.rows

      go : (o : Option (Text × List Text))
          → option_map_or (λ p. option_map_or (λ a. use_fault again a p.1 h.rows) (arg_by_id (all c) p.0) []) o []
          ≡ option_map_or (λ p. option_map_or (λ a. use_fault again a p.1 h.rows) (arg_by_id c p.0) []) o []
      go None = refl
      go (Some p) = ap (λ (o : Option Rule). option_map_or (λ a. use_fault again a p.1 h.rows) o []) (by_id c p.0) ∙ found (arg_by_id c p.0) p.1

  react_fault_same : (c : List Rule) (again : Bool) (a : Rule) (values : List Text) (h : Held) → react_fault (all c) again (changed a) values h ≡ react_fault c again a values h
  react_fault_same c again a values h =
      ap₂ or_else (settle_fault_same c again h)
      (use_same again a values (settled (all c) h).rows ∙ ap (λ (s : Held). use_fault again a values s.rows) (settled_same c h))

  option_fault_same : (c : List Rule) (again : Bool) (a : Rule) (v : Option Text) (h : Held) → option_fault (all c) again (changed a) v h ≡ option_fault c again a v h
  option_fault_same c again a (Some v) h = react_fault_same c again a (v ∷ []) h
  option_fault_same c again a None h = settle_fault_same c again h

  long_fault_found : (c : List Rule) (again : Bool) (o : Option Rule) (v : Option Text) (h : Held) → long_fault (all c) again (option_map changed o) v h ≡ long_fault c again o v h
  long_fault_found c again None v h = refl
  long_fault_found c again (Some a) v h =
      ap₂ (λ (x y : Kinds). if takes_values a then x else (if is_some v then kind.TooManyValues ∷ [] else y))
      (option_fault_same c again a v h) (react_fault_same c again a [] h)

  short_fault_found : (c : List Rule) (again : Bool) (o : Option Rule) (rest : Text) (h : Held) (following before : Held → Kinds) → ((k : Held) → following k ≡ before k)
      → short_fault (all c) again (option_map changed o) rest h following ≡ short_fault c again o rest h before
  short_fault_found c again None rest h following before same = refl
  short_fault_found c again (Some a) rest h following before same =
      ap₂ (λ (x y : Kinds). if takes_values a then x else y) (option_fault_same c again a (attached_value rest) h)
      (ap₂ or_else (react_fault_same c again a [] h) (ap following (reacted_same c a [] h) ∙ same (reacted c a [] h)))

  step_fault_same : (c : List Rule) (again : Bool) (o : Option ℕ) (flags : Text) (skip : ℕ) (h : Held) (following before : Text → ℕ → Held → Kinds)
      → ((rest : Text) (n : ℕ) (k : Held) → following rest n k ≡ before rest n k)
      → bundle_step_fault (all c) again o flags skip h following ≡ bundle_step_fault c again o flags skip h before
  step_fault_same c again None flags skip h following before same = refl
  step_fault_same c again (Some x) flags zero h following before same =
      let rest : Text = drop (length (encode_utf8 x)) flags in
      ap (λ (o : Option Rule). short_fault (all c) again o rest h (following rest 0)) (by_short c x)
      ∙ short_fault_found c again (arg_by_short c x) rest h (following rest 0) (before rest 0) (same rest 0)
  step_fault_same c again (Some x) flags (suc skip) h following before same = same (drop (length (encode_utf8 x)) flags) skip h

  flags_fault_same : (c : List Rule) (again : Bool) (k : ℕ) (flags : Text) (skip : ℕ) (h : Held) → flags_fault (all c) again k flags skip h ≡ flags_fault c again k flags skip h
  unfolding flags_fault
  flags_fault_same c again zero flags skip h = refl
  flags_fault_same c again (suc k) flags skip h =
      step_fault_same c again (slice_get (chars flags) 0) flags skip h (flags_fault (all c) again k) (flags_fault c again k) (flags_fault_same c again k)

  flag_word_fault_same : (c : List Rule) (again : Bool) (o : Option (Text × Option Text)) (word : Text) (h : Held)
      → flag_word_fault (all c) again o word h ≡ flag_word_fault c again o word h
  flag_word_fault_same c again (Some p) word h =
      ap (λ (o : Option Rule). long_fault (all c) again o p.1 h) (by_long c p.0) ∙ long_fault_found c again (arg_by_long c p.0) p.1 h
  flag_word_fault_same c again None word h = go (short_of word)
    where
      go : (o : Option Text) → option_map_or (λ flags. bundle_fault (all c) again flags h) o [] ≡ option_map_or (λ flags. bundle_fault c again flags h) o []
      go None = refl
      go (Some flags) = flags_fault_same c again (length flags) flags h.skip (let k : Held = record h { skip = 0 } in k)

  abbrev pub shape : Shape → Shape
  shape s = record s { rules = all s.rules }

  word_fault_same : (s : Shape) (names : Names) (is_trailing : Bool) (waiting : Waiting) (word : Text) (h : Held)
      → word_fault (shape s) names is_trailing waiting word h ≡ word_fault s names is_trailing waiting word h
  word_fault_same s names is_trailing waiting word h = ap (λ (k : Kinds). if is_trailing then [] else k) (go (subcommand_met names waiting word))
    where
      go : (o : Option Text) → other_fault (shape s) o word h ≡ other_fault s o word h
      go (Some name) = refl
      go None =
          ap (λ (k : Kinds). if bytes_eq word (45 ∷ 45 ∷ []) then [] else k)
          (flag_word_fault_same s.rules s.args_override_self (long_of word) word h)

  place_fault_same : (s : Shape) (position : ℕ) (h : Held) (step : Step) → step_fault (shape s) position h step ≡ step_fault s position h step
  place_fault_same s position h (next waiting) = refl
  place_fault_same s position h (trailing n) = refl
  place_fault_same s position h (subcommand name) = refl
  place_fault_same s position h value =
      ap (λ (o : Option Rule). option_map_or (λ a. positional_fault (all s.rules) s.args_override_self a h) o (stray_fault s)) (by_index s.rules position)
      ∙ go (arg_by_index s.rules position)
    where
      go : (o : Option Rule) → option_map_or (λ a. positional_fault (all s.rules) s.args_override_self a h) (option_map changed o) (stray_fault s)
          ≡ option_map_or (λ a. positional_fault s.rules s.args_override_self a h) o (stray_fault s)
      go None = refl
      go (Some a) = ap (λ (k : Kinds). if is_pending a h.pending && takes_several a then [] else k) (settle_fault_same s.rules s.args_override_self h)

  turn_fault_same : (s : Shape) (names : Names) (w : Walk) (word : Text) → turn_fault (shape s) names w word ≡ turn_fault s names w word
  turn_fault_same s names w word =
      let met : Held × Step = word_met (all s.rules) names w.is_trailing w.waiting w.position word w.held in
      ap₂ (λ (x y : Kinds). if is_some w.stopped then [] else or_else x y) (word_fault_same s names w.is_trailing w.waiting word w.held)
      (place_fault_same s w.position met.0 met.1
      ∙ ap (λ (m : Held × Step). step_fault s w.position m.0 m.1) (met_same s.rules names w.is_trailing w.waiting w.position word w.held))

  walk_fault_same : (s : Shape) (names : Names) (words : List Text) (w : Walk) → walk_fault (shape s) names w words ≡ walk_fault s names w words
  unfolding walk_fault
  walk_fault_same s names [] w = refl
  walk_fault_same s names (word ∷ rest) w =
      ap₂ or_else (turn_fault_same s names w word)
      (ap (λ (x : Walk). walk_fault (shape s) names x rest) (walked_same s.rules names w word) ∙ walk_fault_same s names rest (walked s.rules names w word))

  default_fault_same : (a : Rule) (rows : List Row) → default_fault rows (changed a) ≡ default_fault rows a
  default_fault_same a rows =
      ap (λ (k : Kinds). if has_row a.id rows || is_empty a.defaults then [] else or_else (request_kinds (action_of a)) k) (values_same a a.defaults)

  defaults_fault_same : (c : List Rule) (rows : List Row) → defaults_fault rows (all c) ≡ defaults_fault rows c
  unfolding defaults_fault
  defaults_fault_same [] rows = refl
  defaults_fault_same (a ∷ c) rows =
      ap₂ or_else (default_fault_same a rows) (ap (λ (r : List Row). defaults_fault r (all c)) (default_same a rows) ∙ defaults_fault_same c (with_default rows a))

  check_fault_same : (s : Shape) (rows : List Row) (has_subcommand : Bool) → check_fault (shape s) rows has_subcommand ≡ check_fault s rows has_subcommand
  check_fault_same s rows has_subcommand =
      ap (λ (b : Bool). check_kinds (not has_subcommand && (s.arg_required_else_help && not (list_any (λ r. explicit_source r.source) rows)))
      (not has_subcommand && s.subcommand_required)
      (not (s.subcommand_negates_reqs && has_subcommand) && b))
      (sym (list_any-map (λ (a : Rule). a.required && not (is_given a.id rows)) changed s.rules))

  abbrev end_fault : Shape → Held → Bool → Kinds
  end_fault s h has_subcommand =
      or_else (settle_fault s.rules s.args_override_self h)
      (or_else (defaults_fault (settled s.rules h).rows s.rules) (check_fault s (finished s.rules h) has_subcommand))

  end_fault_same : (s : Shape) (h : Held) (has_subcommand : Bool) → end_fault (shape s) h has_subcommand ≡ end_fault s h has_subcommand
  end_fault_same s h has_subcommand =
      ap₂ or_else (settle_fault_same s.rules s.args_override_self h)
      (ap₂ or_else
      (ap (λ (k : Held). defaults_fault k.rows (all s.rules)) (settled_same s.rules h) ∙ defaults_fault_same s.rules (settled s.rules h).rows)
      (ap (λ (r : List Row). check_fault (shape s) r has_subcommand) (finished_same s.rules h) ∙ check_fault_same s (finished s.rules h) has_subcommand))

  level_same : (s : Shape) (names : Names) (h : Held) (words : List Text) (has_subcommand : Bool) (below : Kinds)
      → level_fault (shape s) names h words has_subcommand below ≡ level_fault s names h words has_subcommand below
  level_same s names h words has_subcommand below =
      ap₂ or_else (walk_fault_same s names words (walk_from h))
      (ap (or_else below)
      (ap (λ (w : Walk). end_fault (shape s) w.held has_subcommand) (walk_same s.rules names words (walk_from h))
      ∙ end_fault_same s (walk s.rules names h words).held has_subcommand))

  -- ---- subcommands

  abbrev pub below : App → App
  below a = record a { subs = map shape a.subs }

  named : (subs : List Shape) (name : Text) → find (λ s. answers_to name (label_of s)) (map shape subs) ≡ option_map shape (find (λ s. answers_to name (label_of s)) subs)
  named subs name = sym (find-map (λ (s : Shape). answers_to name (label_of s)) shape subs)

  pub entered_same : (a : App) (stop : Option (Text × List Text)) → entered (below a) stop ≡ entered a stop
  entered_same a None = refl
  entered_same a (Some p) = ap (option_map (λ (s : Shape). rows_at s p.1)) (named a.subs p.0) ∙ go (find (λ s. answers_to p.0 (label_of s)) a.subs)
    where
      go : (o : Option Shape) → option_map (λ s. rows_at s p.1) (option_map shape o) ≡ option_map (λ s. rows_at s p.1) o
      go None = refl
      go (Some s) = ap (λ (rows : List Row). Some (s.name, rows)) (rows_same s.rules [] p.1)

  pub entered_fault_same : (a : App) (stop : Option (Text × List Text)) → entered_fault (below a) stop ≡ entered_fault a stop
  entered_fault_same a None = refl
  entered_fault_same a (Some p) =
      ap (λ (o : Option Shape). option_map_or (λ s. level_fault s [] nothing_held p.1 false []) o []) (named a.subs p.0) ∙ go (find (λ s. answers_to p.0 (label_of s)) a.subs)
    where
      go : (o : Option Shape) → option_map_or (λ s. level_fault s [] nothing_held p.1 false []) (option_map shape o) [] ≡ option_map_or (λ s. level_fault s [] nothing_held p.1 false []) o []
      go None = refl
      go (Some s) = level_same s [] nothing_held p.1 false []
