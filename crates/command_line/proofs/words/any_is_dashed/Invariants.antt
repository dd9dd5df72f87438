use Rattle.std.proofs.Common.{◌≡◌, drop}
use Rattle.std.specs.List.{list_any}
use Rattle.command_line.specs.Commands.{is_option, texts_of}
use Rattle.command_line.proofs.words.any_is_dashed.Given as goal

-- whether a word begins with `-` is told by the words to come
abbrev pub invariant-loop-word : goal.invariant-loop-word
invariant-loop-word l = list_any is_option (texts_of l.words) ≡ list_any is_option (texts_of (drop l.word-index l.words))
