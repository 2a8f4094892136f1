use Rattle.std.proofs.Common.{sym, codes}
use Rattle.clap.specs.Words.{found_of}
use Rattle.cli_args.proofs.Matches.{no_word, word_given}
use Rattle.cli_args.proofs.command_line.progress_of.Goals as goal

pub returns-in_err-get_str-clause-none : goal.returns-in_err-get_str-clause-none
returns-in_err-get_str-clause-none c none progress h =
    no_word (found_of c.args.words.now) (codes "progress") c.get_str.result h.0 c.get_str.ensures c.in_err-get_str.was h.1

pub returns-clause-some : goal.returns-clause-some
returns-clause-some c = (
  c.in_ok-get_str.field-0.now,
  word_given (found_of c.args.words.now) (codes "progress") c.get_str.result _ c.get_str.ensures c.in_ok-get_str.was,
  sym c.eq.ensures,
)
