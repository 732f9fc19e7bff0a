-- A command that gains options.
use Rattle.std.proofs.Common.{◌≡◌, ◌∙◌, ap₂, false}
use Rattle.clap.specs.Words.{AddsArg, App, Rule, app_of, rule_of, with_rule}
use Rattle.clap.specs.declared.builder.arg.Arg.{Arg}
use Rattle.clap.specs.declared.builder.command.Command.{Command}

pub app_of-arg : (old new : Command) (argument : Arg) (app : App) (rule : Rule) → AddsArg old argument new
    → argument.global ≡ false → app_of old ≡ app → rule_of argument ≡ rule → app_of new ≡ with_rule app rule
app_of-arg old new argument app rule adds global is_app is_rule = adds.shape global ∙ ap₂ with_rule is_app is_rule
