use Rattle.std.proofs.Common.{rules}
use Rattle.code_verifier.proofs.spread.Spread.note.Goals as goal

pub returns : goal.returns
returns c = record {
  stack = c.in_ok-stack.stack;
  keeps = search rules;
  holds = search rules;
  left = search rules;
  table = search rules;
  visits = search rules;
}
