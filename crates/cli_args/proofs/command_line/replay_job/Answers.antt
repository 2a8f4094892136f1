use Rattle.std.proofs.Common.{◌∙◌, Some, codes, sym, ap, subst, refl}
use Rattle.clap.specs.Words.{Text, found_of}
use Rattle.cli_args.proofs.Matches.{no_word, one_given, word_given}
use Rattle.cli_args.specs.Command.{WritesWorkers, format_name, show_name}
use Rattle.cli_args.proofs.command_line.replay_job.Goals as goal

pub returns-in_err-get_str-clause-none : goal.returns-in_err-get_str-clause-none
returns-in_err-get_str-clause-none c none t h = no_word (found_of c.args.words.now) (codes "FILE") c.get_str.result t.file c.get_str.ensures c.in_err-get_str.was h.0

pub returns-in_err-get_str-2-clause-none : goal.returns-in_err-get_str-2-clause-none
returns-in_err-get_str-2-clause-none c none t h =
    no_word (found_of c.args.words.now) (codes "workers") c.get_str-2.result h.1.0 c.get_str-2.ensures c.in_err-get_str-2.was h.1.1

pub returns-in_err-workers_of-clause-none : goal.returns-in_err-workers_of-clause-none
returns-in_err-workers_of-clause-none c none t h =
    let word = word_given (found_of c.args.words.now) (codes "workers") c.get_str-2.result _ c.get_str-2.ensures c.in_ok-get_str-2.was in
    c.in_err-workers_of.ensures.none refl t.workers (subst (λ (w : Text). WritesWorkers w t.workers) (one_given _ _ _ h.1.1 word) h.1.2)

pub returns-in_err-get_str-3-clause-none : goal.returns-in_err-get_str-3-clause-none
returns-in_err-get_str-3-clause-none c none t h = no_word (found_of c.args.words.now) (codes "show") c.get_str-3.result (show_name t.show) c.get_str-3.ensures c.in_err-get_str-3.was h.2

pub returns-in_err-show_of-clause-none : goal.returns-in_err-show_of-clause-none
returns-in_err-show_of-clause-none c none t h =
    let word = word_given (found_of c.args.words.now) (codes "show") c.get_str-3.result _ c.get_str-3.ensures c.in_ok-get_str-3.was in
    c.in_err-show_of.ensures.none refl t.show (one_given _ _ _ h.2 word)

pub returns-in_err-get_str-4-clause-none : goal.returns-in_err-get_str-4-clause-none
returns-in_err-get_str-4-clause-none c none t h =
    no_word (found_of c.args.words.now) (codes "format") c.get_str-4.result (format_name t.format) c.get_str-4.ensures c.in_err-get_str-4.was h.3

pub returns-in_err-format_of-clause-none : goal.returns-in_err-format_of-clause-none
returns-in_err-format_of-clause-none c none t h =
    let word = word_given (found_of c.args.words.now) (codes "format") c.get_str-4.result _ c.get_str-4.ensures c.in_ok-get_str-4.was in
    c.in_err-format_of.ensures.none refl t.format (one_given _ _ _ h.3 word)

pub returns-in_err-progress_of-clause-none : goal.returns-in_err-progress_of-clause-none
returns-in_err-progress_of-clause-none c none t h = c.in_err-progress_of.ensures.none refl t.progress h.4

pub returns-clause-some : goal.returns-clause-some
returns-clause-some c = (
  refl,
  (
    word_given (found_of c.args.words.now) (codes "FILE") c.get_str.result _ c.get_str.ensures c.in_ok-get_str.was,
    (c.in_ok-get_str-2.field-0.now, word_given (found_of c.args.words.now) (codes "workers") c.get_str-2.result _ c.get_str-2.ensures c.in_ok-get_str-2.was, c.in_ok-workers_of.ensures.some),
    word_given (found_of c.args.words.now) (codes "show") c.get_str-3.result _ c.get_str-3.ensures c.in_ok-get_str-3.was ∙ ap Some (sym c.in_ok-show_of.ensures.some),
    word_given (found_of c.args.words.now) (codes "format") c.get_str-4.result _ c.get_str-4.ensures c.in_ok-get_str-4.was ∙ ap Some (sym c.in_ok-format_of.ensures.some),
    c.in_ok-progress_of.ensures.some,
  ),
)
