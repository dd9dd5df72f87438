use Rattle.std.proofs.Common.{◌*◌}
use Rattle.node_state.specs.Words.{AreClear}
use Rattle.node_state.proofs.ready.first_in_words.Given as goal

abbrev pub invariant-loop-word : goal.invariant-loop-word
invariant-loop-word l = AreClear l.words (l.from * 64) (l.word * 64)
