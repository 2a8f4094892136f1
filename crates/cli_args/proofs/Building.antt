-- Commands that are built up word by word.
use Rattle.std.proofs.Common.{◌≡◌, ◌∙◌, ◌||◌, Bool, false, ap₂}
use Rattle.clap.specs.Words.{AddsArg, App, Rule, app_of, rule_of, with_rule}
use Rattle.clap.specs.declared.builder.arg.Arg.{Arg}
use Rattle.clap.specs.declared.builder.command.Command.{Command}
use Rattle.clap.specs.declared.builder.command.Command.TheViews.{out-Command}

pub added_app : (old new : Command) (a : Arg) (app : App) (rule : Rule) → AddsArg old a new → a.global ≡ false → app_of old ≡ app → rule_of a ≡ rule
    → app_of new ≡ with_rule app rule
added_app old new a app rule h local e r = h.shape local ∙ ap₂ with_rule e r

pub added_local : (old new : Command) (a : Arg) → AddsArg old a new → a.global ≡ false → (out-Command old).has_globals ≡ false
    → (out-Command new).has_globals ≡ false
added_local old new a h local e = h.globals ∙ ap₂ (λ (x y : Bool). x || y) e local
