use Rattle.std.proofs.Common.{◌∙◌, codes, sym, refl}
use Rattle.clap.specs.Words.{found_of}
use Rattle.clap.proofs.WalkLemmas.{first_value-rows}
use Rattle.cli_args.proofs.Matches.{no_word, word_given}
use Rattle.cli_args.proofs.command_line.capture_job.Goals as goal

pub returns-in_err-get_str-clause-none : goal.returns-in_err-get_str-clause-none
returns-in_err-get_str-clause-none c none t h = no_word (found_of c.args.words.now) (codes "FILE") c.get_str.result t.file c.get_str.ensures c.in_err-get_str.was h.0

pub returns-in_err-get_str-2-clause-none : goal.returns-in_err-get_str-2-clause-none
returns-in_err-get_str-2-clause-none c none t h =
    no_word (found_of c.args.words.now) (codes "all") c.get_str-4.result h.3.0 c.get_str-4.ensures c.in_err-get_str-2.was h.3.1

pub returns-in_err-get_str-3-clause-none : goal.returns-in_err-get_str-3-clause-none
returns-in_err-get_str-3-clause-none c none t h =
    no_word (found_of c.args.words.now) (codes "no-seconds") c.get_str-5.result h.4.0 c.get_str-5.ensures c.in_err-get_str-3.was h.4.1

pub returns-clause-some : goal.returns-clause-some
returns-clause-some c = (
  refl,
  (
    word_given (found_of c.args.words.now) (codes "FILE") c.get_str.result _ c.get_str.ensures c.in_ok-get_str.was,
    sym (first_value-rows (found_of c.args.words.now) (codes "router")) ∙ sym c.get_str-2.ensures,
    sym (first_value-rows (found_of c.args.words.now) (codes "begin")) ∙ sym c.get_str-3.ensures,
    (
      c.in_ok-get_str-2.field-0.now,
      word_given (found_of c.args.words.now) (codes "all") c.get_str-4.result _ c.get_str-4.ensures c.in_ok-get_str-2.was,
      sym c.eq.ensures,
    ),
    (
      c.in_ok-get_str-3.field-0.now,
      word_given (found_of c.args.words.now) (codes "no-seconds") c.get_str-5.result _ c.get_str-5.ensures c.in_ok-get_str-3.was,
      sym c.eq-2.ensures,
    ),
  ),
)
