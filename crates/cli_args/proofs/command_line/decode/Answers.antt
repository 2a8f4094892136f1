use Rattle.std.proofs.Common.{◌≡◌, ◌∙◌, ap, codes, false}
use Rattle.std.proofs.lemmas.Result.{IfOk-weaker}
use Rattle.clap.specs.Words.{app_of, new_app}
use Rattle.clap.specs.Simple.{app_of_fields}
use Rattle.clap.specs.declared.builder.command.Command.TheViews.{out-Command}
use Rattle.cli_args.proofs.Building.{added_app, added_local}
use Rattle.cli_args.proofs.command_line.decode.Goals as goal

pub returns-clause-app : goal.returns-clause-app
returns-clause-app c =
    let start : app_of c.after_help.result ≡ new_app (codes "decode") = ap app_of_fields c.after_help.ensures ∙ ap app_of_fields c.about.ensures ∙ c.new.ensures.app in
    let hex = added_app _ _ _ _ _ c.in_ok-arg.ensures c.word.ensures.local start c.word.ensures.rule in
    IfOk-weaker c.arg-2.result _ _ (λ r h. added_app _ _ _ _ _ h c.long_flag.ensures.local hex c.long_flag.ensures.rule) c.arg-2.ensures

pub returns-clause-local : goal.returns-clause-local
returns-clause-local c =
    let start : (out-Command c.after_help.result).has_globals ≡ false = ap (λ f. f.has_globals) c.after_help.ensures ∙ ap (λ f. f.has_globals) c.about.ensures ∙ c.new.ensures.local in
    let hex = added_local _ _ _ c.in_ok-arg.ensures c.word.ensures.local start in
    IfOk-weaker c.arg-2.result _ _ (λ r h. added_local _ _ _ h c.long_flag.ensures.local hex) c.arg-2.ensures
