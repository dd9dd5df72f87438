-- The unfolded body of a loop.
use Rattle.std.proofs.Common.{◌≡◌, sym, ap, ◌∙◌, List, [], ◌∷◌, ◌++◌, append_assoc, append-nil, codes, length, ◌<◌, arith}
use Rattle.text_scan.specs.Text.{Text}
use Rattle.pool_syntax.specs.declared.tree.Stmt.{Stmt}
use Rattle.pool_syntax.specs.TreeOf.{statement_of, statements_of}
use Rattle.pool_syntax.specs.Terms as T
use Rattle.pool_syntax.specs.Terms.{Expression, Statement, Statements, append}
use Rattle.term_text.specs.Words.{more_statements, statement_text, statements_text, word}
use Rattle.stepper_text.specs.Contents.{again}

more_and_one : (names : List Text) (ss : Statements) (w : Statement) → more_statements names (append ss (T.Then w T.Done)) ≡ more_statements names ss ++ (word (codes ";") ++ statement_text names w)
more_and_one names T.Done w = ap (λ t. word (codes ";") ++ t) (append-nil (statement_text names w))
more_and_one names (T.Then s ss) w =
    let last = word (codes ";") ++ statement_text names w in
    ap (λ t. word (codes ";") ++ (statement_text names s ++ t)) (more_and_one names ss w)
    ∙ ap (λ t. word (codes ";") ++ t) (sym (append_assoc (statement_text names s) (more_statements names ss) last))
    ∙ sym (append_assoc (word (codes ";")) (statement_text names s ++ more_statements names ss) last)

pub nothing_before : (names : List Text) (e : Expression) → again names e T.Done ≡ statement_text names (T.While e T.Done)
nothing_before names e = append-nil (statement_text names (T.While e T.Done))

pub body_before : (names : List Text) (e : Expression) (s : Stmt) (ss : List Stmt)
    → again names e (statements_of (s ∷ ss)) ≡ statements_text names (statements_of (s ∷ ss)) ++ (word (codes ";") ++ statement_text names (T.While e (statements_of (s ∷ ss))))
body_before names e s ss =
    ap (λ t. statement_text names (statement_of s) ++ t) (more_and_one names (statements_of ss) (T.While e (statements_of (s ∷ ss))))
    ∙ sym (append_assoc (statement_text names (statement_of s)) (more_statements names (statements_of ss)) (word (codes ";") ++ statement_text names (T.While e (statements_of (s ∷ ss)))))

pub body_long : (names : List Text) (e : Expression) (ss : List Stmt) → 0 < length ss
    → again names e (statements_of ss) ≡ statements_text names (statements_of ss) ++ (word (codes ";") ++ statement_text names (T.While e (statements_of ss)))
body_long names e [] h = absurd (omega (arith, h))
body_long names e (s ∷ ss) h = body_before names e s ss
