use Rattle.std.proofs.Common.{◌∙◌, codes, sym, refl}
use Rattle.clap.specs.Words.{found_of}
use Rattle.clap.proofs.WalkLemmas.{first_value-rows}
use Rattle.cli_args.proofs.Matches.{no_word, word_given}
use Rattle.cli_args.proofs.command_line.page_job.Goals as goal

pub returns-in_err-get_str-clause-none : goal.returns-in_err-get_str-clause-none
returns-in_err-get_str-clause-none c none t h = no_word (found_of c.args.words.now) (codes "FILE") c.get_str.result t.file c.get_str.ensures c.in_err-get_str.was h.0

pub returns-in_err-progress_of-clause-none : goal.returns-in_err-progress_of-clause-none
returns-in_err-progress_of-clause-none c none t h = c.in_err-progress_of.ensures.none refl t.progress h.2

pub returns-clause-some : goal.returns-clause-some
returns-clause-some c = (
  refl,
  (
    word_given (found_of c.args.words.now) (codes "FILE") c.get_str.result _ c.get_str.ensures c.in_ok-get_str.was,
    sym (first_value-rows (found_of c.args.words.now) (codes "output")) ∙ sym c.get_str-2.ensures,
    c.in_ok-progress_of.ensures.some,
  ),
)
