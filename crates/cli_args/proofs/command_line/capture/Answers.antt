use Rattle.std.proofs.Common.{◌≡◌, ◌∙◌, ap, codes, false}
use Rattle.std.proofs.lemmas.Result.{IfOk-weaker}
use Rattle.clap.specs.Words.{app_of, new_app}
use Rattle.clap.specs.Simple.{app_of_fields}
use Rattle.clap.specs.declared.builder.command.Command.TheViews.{out-Command}
use Rattle.cli_args.proofs.Building.{added_app, added_local}
use Rattle.cli_args.proofs.command_line.capture.Goals as goal

pub returns-clause-app : goal.returns-clause-app
returns-clause-app c =
    let start : app_of c.after_help.result ≡ new_app (codes "capture") = ap app_of_fields c.after_help.ensures ∙ ap app_of_fields c.about.ensures ∙ c.new.ensures.app in
    let file = added_app _ _ _ _ _ c.in_ok-arg.ensures c.word.ensures.local start c.word.ensures.rule in
    let router = added_app _ _ _ _ _ c.in_ok-arg-2.ensures c.router_option.ensures.local file c.router_option.ensures.rule in
    let begin = added_app _ _ _ _ _ c.in_ok-arg-3.ensures c.begin_option.ensures.local router c.begin_option.ensures.rule in
    let all = added_app _ _ _ _ _ c.in_ok-arg-4.ensures c.all_flag.ensures.local begin c.all_flag.ensures.rule in
    IfOk-weaker c.arg-5.result _ _ (λ r h. added_app _ _ _ _ _ h c.no_seconds_flag.ensures.local all c.no_seconds_flag.ensures.rule) c.arg-5.ensures

pub returns-clause-local : goal.returns-clause-local
returns-clause-local c =
    let start : (out-Command c.after_help.result).has_globals ≡ false = ap (λ f. f.has_globals) c.after_help.ensures ∙ ap (λ f. f.has_globals) c.about.ensures ∙ c.new.ensures.local in
    let file = added_local _ _ _ c.in_ok-arg.ensures c.word.ensures.local start in
    let router = added_local _ _ _ c.in_ok-arg-2.ensures c.router_option.ensures.local file in
    let begin = added_local _ _ _ c.in_ok-arg-3.ensures c.begin_option.ensures.local router in
    let all = added_local _ _ _ c.in_ok-arg-4.ensures c.all_flag.ensures.local begin in
    IfOk-weaker c.arg-5.result _ _ (λ r h. added_local _ _ _ h c.no_seconds_flag.ensures.local all) c.arg-5.ensures
