use Rattle.std.proofs.Common.{◌≡◌, ◌∙◌, ap, true}
use Rattle.clap.specs.Words.{App, app_of}
use Rattle.clap.specs.Simple.{app_of_fields, on_top}
use Rattle.clap.specs.declared.builder.command.Command.{Command}
use Rattle.clap.specs.declared.builder.command.Command.TheViews.{out-Command as fields_of}
use Rattle.command_line.proofs.words.bare_line.Goals as goal

-- each setting over any command

named : (old new : Command) (a : App) → fields_of new ≡ record (fields_of old) { no_binary_name = true } → app_of old ≡ a
    → app_of new ≡ on_top (λ s. record s { no_binary_name = true }) a
named old new a e of_old = ap app_of_fields e ∙ ap (on_top (λ s. record s { no_binary_name = true })) of_old

flagged : (old new : Command) (a : App) → fields_of new ≡ record (fields_of old) { disable_help_flag = true } → app_of old ≡ a
    → app_of new ≡ on_top (λ s. record s { disable_help_flag = true }) a
flagged old new a e of_old = ap app_of_fields e ∙ ap (on_top (λ s. record s { disable_help_flag = true })) of_old

helped : (old new : Command) (a : App) → fields_of new ≡ record (fields_of old) { disable_help_subcommand = true } → app_of old ≡ a
    → app_of new ≡ on_top (λ s. record s { disable_help_subcommand = true }) a
helped old new a e of_old = ap app_of_fields e ∙ ap (on_top (λ s. record s { disable_help_subcommand = true })) of_old

required : (old new : Command) (a : App) → fields_of new ≡ record (fields_of old) { subcommand_required = true } → app_of old ≡ a
    → app_of new ≡ on_top (λ s. record s { subcommand_required = true }) a
required old new a e of_old = ap app_of_fields e ∙ ap (on_top (λ s. record s { subcommand_required = true })) of_old

pub returns : goal.returns
returns c =
    let name = named _ _ _ c.no_binary_name.ensures c.new.ensures.app in
    let flag = flagged _ _ _ c.disable_help_flag.ensures name in
    let help = helped _ _ _ c.disable_help_subcommand.ensures flag in
    required _ _ _ c.subcommand_required.ensures help
