use Rattle.std.proofs.Common.{refl, arith}
use Rattle.text_scan.proofs.WordLaws.{no_word_at, word_begins_at, word_at}
use Rattle.text_scan.proofs.lines.next_word.Goals as goal

pub returns-then-start-line-clause-none : goal.returns-then-start-line-clause-none
returns-then-start-line-clause-none c =
    (λ _. no_word_at _ _ _ c.run_end-start.ensures.run (omega arith), λ _. refl)

pub returns-clause-ordered : goal.returns-clause-ordered
returns-clause-ordered c =
    let begins = word_begins_at _ _ _ c.run_end-start.ensures.run (omega arith) in
    (omega arith, omega arith, omega arith)

pub returns-clause-word : goal.returns-clause-word
returns-clause-word c = word_at _ _ _ c.run_end-start.ensures.run _ (omega arith) c.run_end.ensures.run

pub returns-clause-none : goal.returns-clause-none
returns-clause-none c =
    let word = word_at _ _ _ c.run_end-start.ensures.run _ (omega arith) c.run_end.ensures.run in
    (λ e. cc, λ e. cc)
