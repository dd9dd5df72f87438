use Rattle.std.proofs.Common.{◌≡◌, ◌++◌, drop}
use Rattle.record_writer.specs.RecordText.{led}
use Rattle.station_text.specs.AnswerText.{count_words}
use Rattle.station_text.proofs.answers.push_counts.Given as goal

abbrev pub invariant-loop-node : goal.invariant-loop-node
invariant-loop-node l = l.text.items ++ led (count_words l.word (drop l.node-index l.counts)) ≡ l.initial.text.items ++ led (count_words l.word l.counts)
