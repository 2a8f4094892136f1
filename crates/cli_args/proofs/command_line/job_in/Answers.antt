use Rattle.std.proofs.Common.{◌≡◌, ◌∙◌, Some, codes, sym, ap, refl}
use Rattle.std.proofs.lemmas.Option.{IfSome_then}
use Rattle.clap.specs.Words.{found_of, rows_of, subcommand_rows_of}
use Rattle.cli_args.proofs.Matches.{job_met, met_is, name_in_rows, no_job, no_one, no_decode, no_replay, no_changes, no_follow, no_explain, no_page, no_capture, no_fault, no_word, same_text, word_given}
use Rattle.cli_args.proofs.command_line.job_in.Goals as goal

pub returns-in_err-one_words-clause-none : goal.returns-in_err-one_words-clause-none
returns-in_err-one_words-clause-none c none =
    let named : c.in_ok-name.name.now ≡ codes "one" = same_text _ _ (sym c.eq.ensures ∙ c.if-eq.true) in
    let met = met_is _ c.in_ok-name.name.now _ (c.in_ok-name.ensures.name ∙ name_in_rows _) c.in_ok-name.ensures.rows in
    no_job (subcommand_rows_of c.args.matches.now) _ _ met (no_one c.in_ok-name.name.now (rows_of (found_of c.in_ok-name.words.now)) named (c.in_err-one_words.ensures.none refl))

pub returns-then-eq-2-clause-none : goal.returns-then-eq-2-clause-none
returns-then-eq-2-clause-none c none =
    let named : c.in_ok-name.name.now ≡ codes "decode" = same_text _ _ (sym c.eq-else-eq.ensures ∙ c.if-eq-2.true) in
    let met = met_is _ c.in_ok-name.name.now _ (c.in_ok-name.ensures.name ∙ name_in_rows _) c.in_ok-name.ensures.rows in
    no_job (subcommand_rows_of c.args.matches.now) _ _ met (no_decode c.in_ok-name.name.now (rows_of (found_of c.in_ok-name.words.now)) named (c.decode_job.ensures.none none))

pub returns-then-eq-2-clause-some : goal.returns-then-eq-2-clause-some
returns-then-eq-2-clause-some c =
    let named : c.in_ok-name.name.now ≡ codes "decode" = same_text _ _ (sym c.eq-else-eq.ensures ∙ c.if-eq-2.true) in
    let met = met_is _ (codes "decode") _ (ap Some (sym named) ∙ (c.in_ok-name.ensures.name ∙ name_in_rows _)) c.in_ok-name.ensures.rows in
    IfSome_then c.decode_job.result c.decode_job.ensures.some (λ j h. job_met _ (codes "decode") (rows_of (found_of c.in_ok-name.words.now)) j met h)

pub returns-then-eq-3-clause-none : goal.returns-then-eq-3-clause-none
returns-then-eq-3-clause-none c none =
    let named : c.in_ok-name.name.now ≡ codes "replay" = same_text _ _ (sym c.eq-else-eq-2.ensures ∙ c.if-eq-3.true) in
    let met = met_is _ c.in_ok-name.name.now _ (c.in_ok-name.ensures.name ∙ name_in_rows _) c.in_ok-name.ensures.rows in
    no_job (subcommand_rows_of c.args.matches.now) _ _ met (no_replay c.in_ok-name.name.now (rows_of (found_of c.in_ok-name.words.now)) named (c.replay_job.ensures.none none))

pub returns-then-eq-3-clause-some : goal.returns-then-eq-3-clause-some
returns-then-eq-3-clause-some c =
    let named : c.in_ok-name.name.now ≡ codes "replay" = same_text _ _ (sym c.eq-else-eq-2.ensures ∙ c.if-eq-3.true) in
    let met = met_is _ (codes "replay") _ (ap Some (sym named) ∙ (c.in_ok-name.ensures.name ∙ name_in_rows _)) c.in_ok-name.ensures.rows in
    IfSome_then c.replay_job.result c.replay_job.ensures.some (λ j h. job_met _ (codes "replay") (rows_of (found_of c.in_ok-name.words.now)) j met h)

pub returns-then-eq-4-clause-none : goal.returns-then-eq-4-clause-none
returns-then-eq-4-clause-none c none =
    let named : c.in_ok-name.name.now ≡ codes "changes" = same_text _ _ (sym c.eq-else-eq-3.ensures ∙ c.if-eq-4.true) in
    let met = met_is _ c.in_ok-name.name.now _ (c.in_ok-name.ensures.name ∙ name_in_rows _) c.in_ok-name.ensures.rows in
    no_job (subcommand_rows_of c.args.matches.now) _ _ met (no_changes c.in_ok-name.name.now (rows_of (found_of c.in_ok-name.words.now)) named (c.changes_job.ensures.none none))

pub returns-then-eq-4-clause-some : goal.returns-then-eq-4-clause-some
returns-then-eq-4-clause-some c =
    let named : c.in_ok-name.name.now ≡ codes "changes" = same_text _ _ (sym c.eq-else-eq-3.ensures ∙ c.if-eq-4.true) in
    let met = met_is _ (codes "changes") _ (ap Some (sym named) ∙ (c.in_ok-name.ensures.name ∙ name_in_rows _)) c.in_ok-name.ensures.rows in
    IfSome_then c.changes_job.result c.changes_job.ensures.some (λ j h. job_met _ (codes "changes") (rows_of (found_of c.in_ok-name.words.now)) j met h)

pub returns-then-eq-5-clause-none : goal.returns-then-eq-5-clause-none
returns-then-eq-5-clause-none c none =
    let named : c.in_ok-name.name.now ≡ codes "follow" = same_text _ _ (sym c.eq-else-eq-4.ensures ∙ c.if-eq-5.true) in
    let met = met_is _ c.in_ok-name.name.now _ (c.in_ok-name.ensures.name ∙ name_in_rows _) c.in_ok-name.ensures.rows in
    no_job (subcommand_rows_of c.args.matches.now) _ _ met (no_follow c.in_ok-name.name.now (rows_of (found_of c.in_ok-name.words.now)) named (c.follow_job.ensures.none none))

pub returns-then-eq-5-clause-some : goal.returns-then-eq-5-clause-some
returns-then-eq-5-clause-some c =
    let named : c.in_ok-name.name.now ≡ codes "follow" = same_text _ _ (sym c.eq-else-eq-4.ensures ∙ c.if-eq-5.true) in
    let met = met_is _ (codes "follow") _ (ap Some (sym named) ∙ (c.in_ok-name.ensures.name ∙ name_in_rows _)) c.in_ok-name.ensures.rows in
    IfSome_then c.follow_job.result c.follow_job.ensures.some (λ j h. job_met _ (codes "follow") (rows_of (found_of c.in_ok-name.words.now)) j met h)

pub returns-then-eq-6-clause-none : goal.returns-then-eq-6-clause-none
returns-then-eq-6-clause-none c none =
    let named : c.in_ok-name.name.now ≡ codes "explain" = same_text _ _ (sym c.eq-else-eq-5.ensures ∙ c.if-eq-6.true) in
    let met = met_is _ c.in_ok-name.name.now _ (c.in_ok-name.ensures.name ∙ name_in_rows _) c.in_ok-name.ensures.rows in
    no_job (subcommand_rows_of c.args.matches.now) _ _ met (no_explain c.in_ok-name.name.now (rows_of (found_of c.in_ok-name.words.now)) named (c.explain_job.ensures.none none))

pub returns-then-eq-6-clause-some : goal.returns-then-eq-6-clause-some
returns-then-eq-6-clause-some c =
    let named : c.in_ok-name.name.now ≡ codes "explain" = same_text _ _ (sym c.eq-else-eq-5.ensures ∙ c.if-eq-6.true) in
    let met = met_is _ (codes "explain") _ (ap Some (sym named) ∙ (c.in_ok-name.ensures.name ∙ name_in_rows _)) c.in_ok-name.ensures.rows in
    IfSome_then c.explain_job.result c.explain_job.ensures.some (λ j h. job_met _ (codes "explain") (rows_of (found_of c.in_ok-name.words.now)) j met h)

pub returns-then-eq-7-clause-none : goal.returns-then-eq-7-clause-none
returns-then-eq-7-clause-none c none =
    let named : c.in_ok-name.name.now ≡ codes "page" = same_text _ _ (sym c.eq-else-eq-6.ensures ∙ c.if-eq-7.true) in
    let met = met_is _ c.in_ok-name.name.now _ (c.in_ok-name.ensures.name ∙ name_in_rows _) c.in_ok-name.ensures.rows in
    no_job (subcommand_rows_of c.args.matches.now) _ _ met (no_page c.in_ok-name.name.now (rows_of (found_of c.in_ok-name.words.now)) named (c.page_job.ensures.none none))

pub returns-then-eq-7-clause-some : goal.returns-then-eq-7-clause-some
returns-then-eq-7-clause-some c =
    let named : c.in_ok-name.name.now ≡ codes "page" = same_text _ _ (sym c.eq-else-eq-6.ensures ∙ c.if-eq-7.true) in
    let met = met_is _ (codes "page") _ (ap Some (sym named) ∙ (c.in_ok-name.ensures.name ∙ name_in_rows _)) c.in_ok-name.ensures.rows in
    IfSome_then c.page_job.result c.page_job.ensures.some (λ j h. job_met _ (codes "page") (rows_of (found_of c.in_ok-name.words.now)) j met h)

pub returns-then-eq-8-clause-none : goal.returns-then-eq-8-clause-none
returns-then-eq-8-clause-none c none =
    let named : c.in_ok-name.name.now ≡ codes "capture" = same_text _ _ (sym c.eq-else-eq-7.ensures ∙ c.if-eq-8.true) in
    let met = met_is _ c.in_ok-name.name.now _ (c.in_ok-name.ensures.name ∙ name_in_rows _) c.in_ok-name.ensures.rows in
    no_job (subcommand_rows_of c.args.matches.now) _ _ met (no_capture c.in_ok-name.name.now (rows_of (found_of c.in_ok-name.words.now)) named (c.capture_job.ensures.none none))

pub returns-then-eq-8-clause-some : goal.returns-then-eq-8-clause-some
returns-then-eq-8-clause-some c =
    let named : c.in_ok-name.name.now ≡ codes "capture" = same_text _ _ (sym c.eq-else-eq-7.ensures ∙ c.if-eq-8.true) in
    let met = met_is _ (codes "capture") _ (ap Some (sym named) ∙ (c.in_ok-name.ensures.name ∙ name_in_rows _)) c.in_ok-name.ensures.rows in
    IfSome_then c.capture_job.result c.capture_job.ensures.some (λ j h. job_met _ (codes "capture") (rows_of (found_of c.in_ok-name.words.now)) j met h)

pub returns-in_err-get_str-clause-none : goal.returns-in_err-get_str-clause-none
returns-in_err-get_str-clause-none c none =
    let named : c.in_ok-name.name.now ≡ codes "fault" = same_text _ _ (sym c.eq-else-eq-8.ensures ∙ c.if-eq-9.true) in
    let met = met_is _ c.in_ok-name.name.now _ (c.in_ok-name.ensures.name ∙ name_in_rows _) c.in_ok-name.ensures.rows in
    no_job (subcommand_rows_of c.args.matches.now) _ _ met (no_fault c.in_ok-name.name.now (rows_of (found_of c.in_ok-name.words.now)) named (λ number given. no_word (found_of c.in_ok-name.words.now) (codes "NUMBER") c.get_str.result number c.get_str.ensures c.in_err-get_str.was given))

pub returns-in_ok-get_str-clause-some : goal.returns-in_ok-get_str-clause-some
returns-in_ok-get_str-clause-some c =
    let named : c.in_ok-name.name.now ≡ codes "fault" = same_text _ _ (sym c.eq-else-eq-8.ensures ∙ c.if-eq-9.true) in
    let met = met_is _ (codes "fault") _ (ap Some (sym named) ∙ (c.in_ok-name.ensures.name ∙ name_in_rows _)) c.in_ok-name.ensures.rows in (
      rows_of (found_of c.in_ok-name.words.now),
      met,
      word_given (found_of c.in_ok-name.words.now) (codes "NUMBER") c.get_str.result _ c.get_str.ensures c.in_ok-get_str.was,
    )
