use Rattle.std.proofs.Common.{◌∙◌, ◌||◌, ◌+◌, List, [], ap, ap₂, drop, map, sym}
use Rattle.std.proofs.lemmas.List.{at_drop_more}
use Rattle.std.specs.Prelude.{fold}
use Rattle.clap.specs.Words.{App, Text, app_of, with_rule}
use Rattle.command_line.specs.CommandLine.{positional}
use Rattle.command_line.proofs.words.of_words.Goals as goal
use denote.Bor.{Bor}

abbrev after : App → List (Bor Text) → App
after a rest = fold (λ b id. with_rule b (positional id)) a (map (λ id. id.now) rest)

pub loop-id-preserved : goal.loop-id-preserved
loop-id-preserved c =
    let none : Bor Text = record { ref_ptr = (0, 0); now = [] } in
    let added = c.in-Ok.ensures.shape c.positional.ensures.local ∙ ap (with_rule (app_of c.loop-id.command)) c.positional.ensures.rule in
    record {
      app = c.loop-id.invariant.app
          ∙ (at_drop_more (after (app_of c.loop-id.command)) c.args.ids.now c.loop-id.id-index none c.loop-id-test.true
          ∙ ap (λ a. after a (drop (c.loop-id.id-index + 1) c.args.ids.now)) (sym added));
      local = c.in-Ok.ensures.globals ∙ ap₂ (λ a b. a || b) c.loop-id.invariant.local c.positional.ensures.local;
    }
