-- The getters of matches, in rows.
use Rattle.std.proofs.Common.{ℕ, Bool, true, false, ◌≡◌, ◌∙◌, sym, ap, subst, refl, List, Option, Some, None, codes, option_map}
use Rattle.std.specs.Prelude.{Box}
use Rattle.std.specs.Box.{box_value}
use Rattle.std.specs.Borrow.{Bor}
use Rattle.std.specs.Str.{bytes_eq}
use Rattle.std.proofs.lemmas.Slice.Eq.{bytes_eq-Decides}
use Rattle.clap.specs.Words.{Row, Text, first_of, first_value, rows_of, subcommand_rows}
use Rattle.clap.specs.declared.parser.matches.Found.{Found}
use Rattle.clap.specs.declared.parser.matches.SubCommand.{SubCommand}
use Rattle.clap.specs.declared.parser.matches.ArgMatches.TheViews.{out-SubCommand}
use Rattle.clap.proofs.WalkLemmas.{first_value-rows}
use Rattle.cli_args.specs.Command.{OneTexts, ReplayTexts, ChangesTexts, FollowTexts, ExplainTexts, PageTexts, CaptureTexts, HasCaptureWords, HasChangesWords, HasDecodeWords, HasExplainWords, HasFollowWords, HasJob, HasJobWords, HasPageWords, HasReplayWords, HasWords, IsJob, IsJobOf, JobTexts, OfOne, OfDecode, OfReplay, OfChanges, OfFollow, OfExplain, OfPage, OfCapture, OfFault, command_name}
use Rattle.cli_args.specs.declared.command.Job.{Job}

pub same_text : (xs ys : List ℕ) → bytes_eq xs ys ≡ true → xs ≡ ys
same_text xs ys e = (bytes_eq-Decides xs ys).0 e

pub word_given : (f : Found) (id : Text) (r : Option (Bor Text)) (v : Bor Text) → option_map (λ s. s.now) r ≡ first_value f id → r ≡ Some v
    → first_of id (rows_of f) ≡ Some v.now
word_given f id r v e is = sym (first_value-rows f id) ∙ sym e ∙ ap (option_map (λ (s : Bor Text). s.now)) is

pub no_word : (f : Found) (id : Text) (r : Option (Bor Text)) (t : Text) → option_map (λ s. s.now) r ≡ first_value f id → r ≡ None
    → first_of id (rows_of f) ≡ Some t → ⊥
no_word f id r t e is given =
    let none : first_of id (rows_of f) ≡ None = sym (first_value-rows f id) ∙ sym e ∙ ap (option_map (λ (s : Bor Text). s.now)) is in
    cc

-- a word was given once
pub one_given : (o : Option Text) (a b : Text) → o ≡ Some a → o ≡ Some b → a ≡ b
one_given o a b e f = let same : Some a ≡ Some b = sym e ∙ f in cc

pub name_in_rows : {Z : Type 0} (o : Option (Box SubCommand Z))
    → option_map (λ b. (out-SubCommand (box_value b)).name.now) o ≡ option_map (λ p. p.0) (subcommand_rows o)
name_in_rows None = refl
name_in_rows (Some b) = refl

pub met_is : (s : Option (Text × List Row)) (name : Text) (rows : List Row) → Some name ≡ option_map (λ p. p.0) s → Some rows ≡ option_map (λ p. p.1) s
    → s ≡ Some (name, rows)
met_is None name rows e f = cc
met_is (Some p) name rows e f = let a : name ≡ p.0 = cc in let b : rows ≡ p.1 = cc in rw (a, b) refl

-- the names of two commands
pub apart : (a b : Text) → bytes_eq a b ≡ false → a ≡ b → ⊥
apart a b differ e = let same : bytes_eq a b ≡ true = (bytes_eq-Decides a b).1 e in cc

-- ---- where there is no job

-- none of the jobs of the command has its words
abbrev NoJobOf : Text → List Row → Type 0
NoJobOf name rows = (texts : JobTexts) → command_name texts ≡ name → HasJobWords rows texts → ⊥

-- a command that was met without its words is no job
pub no_job : (s : Option (Text × List Row)) (name : Text) (rows : List Row) → s ≡ Some (name, rows) → NoJobOf name rows → HasJob s → ⊥
no_job s name rows met none h =
    let words = h.1 in
    let both : Some (name, rows) ≡ Some (command_name h.0, words.0) = sym met ∙ words.1 in
    let same : (name, rows) ≡ (command_name h.0, words.0) = cc in
    none h.0 (sym (ap (λ (m : Text × List Row). m.0) same))
    (subst (λ (r : List Row). HasJobWords r h.0) (sym (ap (λ (m : Text × List Row). m.1) same)) words.2)

pub no_one : (name : Text) (rows : List Row) → name ≡ codes "one" → ((t : OneTexts) → HasWords rows t → ⊥) → NoJobOf name rows
no_one name rows is none (OfOne t) e h = none t h
no_one name rows is none other e h = apart (command_name other) (codes "one") refl (e ∙ is)

pub no_decode : (name : Text) (rows : List Row) → name ≡ codes "decode" → ((hex : Text) (long : Bool) → HasDecodeWords rows hex long → ⊥) → NoJobOf name rows
no_decode name rows is none (OfDecode hex long) e h = none hex long h
no_decode name rows is none other e h = apart (command_name other) (codes "decode") refl (e ∙ is)

pub no_replay : (name : Text) (rows : List Row) → name ≡ codes "replay" → ((t : ReplayTexts) → HasReplayWords rows t → ⊥) → NoJobOf name rows
no_replay name rows is none (OfReplay t) e h = none t h
no_replay name rows is none other e h = apart (command_name other) (codes "replay") refl (e ∙ is)

pub no_changes : (name : Text) (rows : List Row) → name ≡ codes "changes" → ((t : ChangesTexts) → HasChangesWords rows t → ⊥) → NoJobOf name rows
no_changes name rows is none (OfChanges t) e h = none t h
no_changes name rows is none other e h = apart (command_name other) (codes "changes") refl (e ∙ is)

pub no_follow : (name : Text) (rows : List Row) → name ≡ codes "follow" → ((t : FollowTexts) → HasFollowWords rows t → ⊥) → NoJobOf name rows
no_follow name rows is none (OfFollow t) e h = none t h
no_follow name rows is none other e h = apart (command_name other) (codes "follow") refl (e ∙ is)

pub no_explain : (name : Text) (rows : List Row) → name ≡ codes "explain" → ((t : ExplainTexts) → HasExplainWords rows t → ⊥) → NoJobOf name rows
no_explain name rows is none (OfExplain t) e h = none t h
no_explain name rows is none other e h = apart (command_name other) (codes "explain") refl (e ∙ is)

pub no_page : (name : Text) (rows : List Row) → name ≡ codes "page" → ((t : PageTexts) → HasPageWords rows t → ⊥) → NoJobOf name rows
no_page name rows is none (OfPage t) e h = none t h
no_page name rows is none other e h = apart (command_name other) (codes "page") refl (e ∙ is)

pub no_capture : (name : Text) (rows : List Row) → name ≡ codes "capture" → ((t : CaptureTexts) → HasCaptureWords rows t → ⊥) → NoJobOf name rows
no_capture name rows is none (OfCapture t) e h = none t h
no_capture name rows is none other e h = apart (command_name other) (codes "capture") refl (e ∙ is)

pub no_fault : (name : Text) (rows : List Row) → name ≡ codes "fault" → ((number : Text) → first_of (codes "NUMBER") rows ≡ Some number → ⊥) → NoJobOf name rows
no_fault name rows is none (OfFault number) e h = none number h
no_fault name rows is none other e h = apart (command_name other) (codes "fault") refl (e ∙ is)

-- ---- where there is one

-- a job of the command that was met
pub job_met : (s : Option (Text × List Row)) (name : Text) (rows : List Row) (job : Job) → s ≡ Some (name, rows) → IsJobOf name rows job → IsJob s job
job_met s name rows job met is = (rows, met ∙ ap (λ (n : Text). Some (n, rows)) (sym is.0), is.1)
