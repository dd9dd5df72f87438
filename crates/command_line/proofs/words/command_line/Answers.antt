use Rattle.std.proofs.Common.{◌∙◌, ap}
use Rattle.std.proofs.lemmas.Result.{IfOk-weaker}
use Rattle.clap.specs.Words.{App}
use Rattle.command_line.specs.CommandLine.{subcommands, with_each}
use Rattle.command_line.proofs.words.command_line.Goals as goal

pub returns : goal.returns
returns c = IfOk-weaker c.with_rows.result _ _ (λ r h. h ∙ ap (λ (a : App). with_each a subcommands) c.bare_line.ensures) c.with_rows.ensures
