use Rattle.std.proofs.Common.{◌∙◌, Some, codes, sym, ap, refl}
use Rattle.clap.specs.Words.{found_of}
use Rattle.clap.proofs.WalkLemmas.{first_value-rows}
use Rattle.cli_args.proofs.Matches.{no_word, one_given, word_given}
use Rattle.cli_args.specs.Command.{format_name}
use Rattle.cli_args.proofs.command_line.explain_job.Goals as goal

pub returns-in_err-get_str-clause-none : goal.returns-in_err-get_str-clause-none
returns-in_err-get_str-clause-none c none t h = no_word (found_of c.args.words.now) (codes "FILE") c.get_str.result t.file c.get_str.ensures c.in_err-get_str.was h.0

pub returns-in_err-get_str-2-clause-none : goal.returns-in_err-get_str-2-clause-none
returns-in_err-get_str-2-clause-none c none t h =
    no_word (found_of c.args.words.now) (codes "ADDRESS") c.get_str-2.result t.address c.get_str-2.ensures c.in_err-get_str-2.was h.1

pub returns-in_err-get_str-3-clause-none : goal.returns-in_err-get_str-3-clause-none
returns-in_err-get_str-3-clause-none c none t h =
    no_word (found_of c.args.words.now) (codes "format") c.get_str-4.result (format_name t.format) c.get_str-4.ensures c.in_err-get_str-3.was h.3

pub returns-in_err-format_of-clause-none : goal.returns-in_err-format_of-clause-none
returns-in_err-format_of-clause-none c none t h =
    let word = word_given (found_of c.args.words.now) (codes "format") c.get_str-4.result _ c.get_str-4.ensures c.in_ok-get_str-3.was in
    c.in_err-format_of.ensures.none refl t.format (one_given _ _ _ h.3 word)

pub returns-in_err-progress_of-clause-none : goal.returns-in_err-progress_of-clause-none
returns-in_err-progress_of-clause-none c none t h = c.in_err-progress_of.ensures.none refl t.progress h.4

pub returns-clause-some : goal.returns-clause-some
returns-clause-some c = (
  refl,
  (
    word_given (found_of c.args.words.now) (codes "FILE") c.get_str.result _ c.get_str.ensures c.in_ok-get_str.was,
    word_given (found_of c.args.words.now) (codes "ADDRESS") c.get_str-2.result _ c.get_str-2.ensures c.in_ok-get_str-2.was,
    sym (first_value-rows (found_of c.args.words.now) (codes "due")) ∙ sym c.get_str-3.ensures,
    word_given (found_of c.args.words.now) (codes "format") c.get_str-4.result _ c.get_str-4.ensures c.in_ok-get_str-3.was ∙ ap Some (sym c.in_ok-format_of.ensures.some),
    c.in_ok-progress_of.ensures.some,
  ),
)
