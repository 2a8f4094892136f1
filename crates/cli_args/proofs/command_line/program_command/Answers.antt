use Rattle.std.proofs.Common.{◌≡◌, ◌∙◌, ap, ap₂, codes, true}
use Rattle.std.proofs.lemmas.Result.{IfOk-weaker}
use Rattle.clap.specs.Words.{App, app_of, new_app, with_subcommand}
use Rattle.clap.specs.Simple.{Shape, app_of_fields, on_top}
use Rattle.cli_args.proofs.command_line.program_command.Goals as goal

pub returns : goal.returns
returns c =
    let named : app_of c.about.result ≡ new_app (codes "abr") = ap app_of_fields c.about.ensures ∙ c.new.ensures.app in
    let versioned = ap app_of_fields c.version.ensures ∙ ap (on_top (λ (s : Shape). record s { has_version = true })) named in
    let wanting = ap app_of_fields c.subcommand_required.ensures ∙ ap (on_top (λ (s : Shape). record s { subcommand_required = true })) versioned in
    let top = ap app_of_fields c.arg_required_else_help.ensures ∙ ap (on_top (λ (s : Shape). record s { arg_required_else_help = true })) wanting in
    let one = c.in_ok-subcommand.ensures.shape c.in_ok-one.ensures.local ∙ ap₂ with_subcommand top (ap (λ (a : App). a.top) c.in_ok-one.ensures.app) in
    let decode = c.in_ok-subcommand-2.ensures.shape c.in_ok-decode.ensures.local ∙ ap₂ with_subcommand one (ap (λ (a : App). a.top) c.in_ok-decode.ensures.app) in
    let replay_at = c.in_ok-replay.ensures.app in
    let replay = c.in_ok-subcommand-3.ensures.shape c.in_ok-replay.ensures.local ∙ ap₂ with_subcommand decode (ap (λ (a : App). a.top) replay_at.4) in
    let changes_at = c.in_ok-changes.ensures.app in
    let changes = c.in_ok-subcommand-4.ensures.shape c.in_ok-changes.ensures.local ∙ ap₂ with_subcommand replay (ap (λ (a : App). a.top) changes_at.2) in
    let follow_at = c.in_ok-follow.ensures.app in
    let follow = c.in_ok-subcommand-5.ensures.shape c.in_ok-follow.ensures.local ∙ ap₂ with_subcommand changes (ap (λ (a : App). a.top) follow_at.2) in
    let explain_at = c.in_ok-explain.ensures.app in
    let explain = c.in_ok-subcommand-6.ensures.shape c.in_ok-explain.ensures.local ∙ ap₂ with_subcommand follow (ap (λ (a : App). a.top) explain_at.2) in
    let page = c.in_ok-subcommand-7.ensures.shape c.in_ok-page.ensures.local ∙ ap₂ with_subcommand explain (ap (λ (a : App). a.top) c.in_ok-page.ensures.app) in
    let capture = c.in_ok-subcommand-8.ensures.shape c.in_ok-capture.ensures.local ∙ ap₂ with_subcommand page (ap (λ (a : App). a.top) c.in_ok-capture.ensures.app) in
    IfOk-weaker c.subcommand-9.result _ _ (λ r h. (
      record { shows = replay_at.0; of_replay = replay_at.1; of_changes = changes_at.0; of_follow = follow_at.0; of_explain = explain_at.0 },
      record { shows = replay_at.2; of_replay = replay_at.3; of_changes = changes_at.1; of_follow = follow_at.1; of_explain = explain_at.1 },
      h.shape c.in_ok-fault.ensures.local ∙ ap₂ with_subcommand capture (ap (λ (a : App). a.top) c.in_ok-fault.ensures.app),
    )) c.subcommand-9.ensures
