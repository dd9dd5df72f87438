use Rattle.std.proofs.Common.{◌≡◌, refl, ℕ, zero, suc, ◌<◌, [], ◌∷◌, arith}
use Rattle.pool_syntax.specs.declared.token.Tok.{Tok}
use Rattle.pool_printer.specs.SinkState.{separator_at}
use Rattle.pool_printer.proofs.SequentialOutput.{prints_same}
use Rattle.pool_printer.proofs.token_writer.separate.Goals as goal

behind_first : (t : Tok) (i : ℕ) → 0 < i → t ∷ [] ≡ separator_at t i
behind_first t zero h = absurd (omega arith)
behind_first t (suc i) h = refl

pub returns-then-place-gt0 : goal.returns-then-place-gt0
returns-then-place-gt0 g c = prints_same _ _ _ _ _ (behind_first _ c.args.place (omega arith)) c.say.ensures
