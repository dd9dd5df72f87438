use Rattle.std.proofs.Common.{◌∙◌}
use Rattle.code_typing.specs.Verdict.{is_ret}
use Rattle.code_verifier.proofs.NamesAndLastInstruction.{last_is}
use Rattle.code_verifier.proofs.existing.ends_in_ret.Goals as goal

pub returns-in-Some : goal.returns-in-Some
returns-in-Some c = c.is_ret.ensures ∙ last_is is_ret c.args.code.now c.in-Some.instr.now c.in-Some.ensures.value
