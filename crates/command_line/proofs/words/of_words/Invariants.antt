use Rattle.std.proofs.Common.{◌≡◌, drop, false, map}
use Rattle.std.specs.Prelude.{fold}
use Rattle.clap.specs.Words.{app_of, with_rule}
use Rattle.clap.specs.declared.builder.command.Command.TheViews.{out-Command as fields_of}
use Rattle.command_line.specs.CommandLine.{positional, words_app}
use Rattle.command_line.proofs.words.of_words.Given as goal

-- the words to come make of the command so far the command of all words
abbrev pub invariant-loop-id : goal.invariant-loop-id
invariant-loop-id l = record {
  app : words_app l.name (map (λ id. id.now) l.ids) ≡ fold (λ a id. with_rule a (positional id)) (app_of l.command) (map (λ id. id.now) (drop l.id-index l.ids));
  local : (fields_of l.command).has_globals ≡ false;
}
