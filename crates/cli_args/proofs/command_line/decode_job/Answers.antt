use Rattle.std.proofs.Common.{sym, codes, refl}
use Rattle.clap.specs.Words.{found_of}
use Rattle.cli_args.proofs.Matches.{no_word, word_given}
use Rattle.cli_args.proofs.command_line.decode_job.Goals as goal

pub returns-in_err-get_str-clause-none : goal.returns-in_err-get_str-clause-none
returns-in_err-get_str-clause-none c none hex long h = no_word (found_of c.args.words.now) (codes "HEX") c.get_str.result hex c.get_str.ensures c.in_err-get_str.was h.0

pub returns-in_err-get_str-2-clause-none : goal.returns-in_err-get_str-2-clause-none
returns-in_err-get_str-2-clause-none c none hex long h =
    no_word (found_of c.args.words.now) (codes "long") c.get_str-2.result h.1.0 c.get_str-2.ensures c.in_err-get_str-2.was h.1.1

pub returns-clause-some : goal.returns-clause-some
returns-clause-some c = (
  refl,
  (
    word_given (found_of c.args.words.now) (codes "HEX") c.get_str.result _ c.get_str.ensures c.in_ok-get_str.was,
    (
      c.in_ok-get_str-2.field-0.now,
      word_given (found_of c.args.words.now) (codes "long") c.get_str-2.result _ c.get_str-2.ensures c.in_ok-get_str-2.was,
      sym c.eq.ensures,
    ),
  ),
)
