use Rattle.std.proofs.Common.{◌≡◌, drop}
use Rattle.std.specs.List.{list_any}
use Rattle.code_typing.specs.Verdict.{is_ret}
use Rattle.code_verifier.proofs.existing.has_ret.Given as goal

-- none so far is one
abbrev pub invariant-loop-instr : goal.invariant-loop-instr
invariant-loop-instr l = list_any is_ret (drop l.instr-index l.code) ≡ list_any is_ret l.code
