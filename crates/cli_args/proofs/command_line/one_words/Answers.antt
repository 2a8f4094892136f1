use Rattle.std.proofs.Common.{codes}
use Rattle.clap.specs.Words.{found_of}
use Rattle.cli_args.proofs.Matches.{no_word, word_given}
use Rattle.cli_args.proofs.command_line.one_words.Goals as goal

pub returns-in_err-get_str-clause-none : goal.returns-in_err-get_str-clause-none
returns-in_err-get_str-clause-none c none t h = no_word (found_of c.args.matches.now) (codes "ROUTER") c.get_str.result _ c.get_str.ensures c.in_err-get_str.was h.0

pub returns-in_err-get_str-2-clause-none : goal.returns-in_err-get_str-2-clause-none
returns-in_err-get_str-2-clause-none c none t h = no_word (found_of c.args.matches.now) (codes "AREA") c.get_str-2.result _ c.get_str-2.ensures c.in_err-get_str-2.was h.1

pub returns-in_err-get_str-3-clause-none : goal.returns-in_err-get_str-3-clause-none
returns-in_err-get_str-3-clause-none c none t h = no_word (found_of c.args.matches.now) (codes "ADDRESS") c.get_str-3.result _ c.get_str-3.ensures c.in_err-get_str-3.was h.2

pub returns-in_err-get_str-4-clause-none : goal.returns-in_err-get_str-4-clause-none
returns-in_err-get_str-4-clause-none c none t h = no_word (found_of c.args.matches.now) (codes "HEX") c.get_str-4.result _ c.get_str-4.ensures c.in_err-get_str-4.was h.3

pub returns-in_err-get_str-5-clause-none : goal.returns-in_err-get_str-5-clause-none
returns-in_err-get_str-5-clause-none c none t h = no_word (found_of c.args.matches.now) (codes "LOOKUP") c.get_str-5.result _ c.get_str-5.ensures c.in_err-get_str-5.was h.4

pub returns-clause-some : goal.returns-clause-some
returns-clause-some c = (
  word_given (found_of c.args.matches.now) (codes "ROUTER") c.get_str.result _ c.get_str.ensures c.in_ok-get_str.was,
  word_given (found_of c.args.matches.now) (codes "AREA") c.get_str-2.result _ c.get_str-2.ensures c.in_ok-get_str-2.was,
  word_given (found_of c.args.matches.now) (codes "ADDRESS") c.get_str-3.result _ c.get_str-3.ensures c.in_ok-get_str-3.was,
  word_given (found_of c.args.matches.now) (codes "HEX") c.get_str-4.result _ c.get_str-4.ensures c.in_ok-get_str-4.was,
  word_given (found_of c.args.matches.now) (codes "LOOKUP") c.get_str-5.result _ c.get_str-5.ensures c.in_ok-get_str-5.was,
)
