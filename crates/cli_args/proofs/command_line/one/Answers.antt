use Rattle.std.proofs.Common.{◌≡◌, ◌∙◌, ap, codes, false}
use Rattle.std.proofs.lemmas.Result.{IfOk-weaker}
use Rattle.clap.specs.Words.{app_of, new_app}
use Rattle.clap.specs.Simple.{app_of_fields}
use Rattle.clap.specs.declared.builder.command.Command.TheViews.{out-Command}
use Rattle.cli_args.proofs.Building.{added_app, added_local}
use Rattle.cli_args.proofs.command_line.one.Goals as goal

pub returns-clause-app : goal.returns-clause-app
returns-clause-app c =
    let start : app_of c.after_help.result ≡ new_app (codes "one") = ap app_of_fields c.after_help.ensures ∙ ap app_of_fields c.about.ensures ∙ c.new.ensures.app in
    let first = added_app _ _ _ _ _ c.in_ok-arg.ensures c.word.ensures.local start c.word.ensures.rule in
    let second = added_app _ _ _ _ _ c.in_ok-arg-2.ensures c.word-2.ensures.local first c.word-2.ensures.rule in
    let third = added_app _ _ _ _ _ c.in_ok-arg-3.ensures c.word-3.ensures.local second c.word-3.ensures.rule in
    let fourth = added_app _ _ _ _ _ c.in_ok-arg-4.ensures c.word-4.ensures.local third c.word-4.ensures.rule in
    IfOk-weaker c.arg-5.result _ _ (λ r h. added_app _ _ _ _ _ h c.word-5.ensures.local fourth c.word-5.ensures.rule) c.arg-5.ensures

pub returns-clause-local : goal.returns-clause-local
returns-clause-local c =
    let start : (out-Command c.after_help.result).has_globals ≡ false = ap (λ f. f.has_globals) c.after_help.ensures ∙ ap (λ f. f.has_globals) c.about.ensures ∙ c.new.ensures.local in
    let first = added_local _ _ _ c.in_ok-arg.ensures c.word.ensures.local start in
    let second = added_local _ _ _ c.in_ok-arg-2.ensures c.word-2.ensures.local first in
    let third = added_local _ _ _ c.in_ok-arg-3.ensures c.word-3.ensures.local second in
    let fourth = added_local _ _ _ c.in_ok-arg-4.ensures c.word-4.ensures.local third in
    IfOk-weaker c.arg-5.result _ _ (λ r h. added_local _ _ _ h c.word-5.ensures.local fourth) c.arg-5.ensures
