-- The results of `run` follow from those of `explore`, with the exit status of each.
use Rattle.std.proofs.Common.{◌∙◌, inl, inr, ap}
use Rattle.command_shell.specs.Statuses.{code_of}
use Rattle.explore_cli.proofs.run.Goals as goal

pub returns-clause-ends : goal.returns-clause-ends
returns-clause-ends g c = (c.explore.result, c.from.ensures ∙ c.code.ensures, c.explore.ensures.ends)

pub returns-clause-complete : goal.returns-clause-complete
returns-clause-complete g c r words served read out err =
    elim (c.explore.ensures.complete r words served read out err) [
      | inl whole ↦ inl (c.explore.result, whole, c.from.ensures ∙ c.code.ensures)
      | inr memory ↦ inr (c.from.ensures ∙ c.code.ensures ∙ ap code_of memory)
    ]
