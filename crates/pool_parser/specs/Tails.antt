-- The ends of the rules of declarations that the parser reads by functions of their own.
use Rattle.std.specs.Prelude.{List, [], ◌++◌, None, Some}
use Rattle.text_scan.specs.declared.keywords.Keyword.TheVariants.{Begin, Result, End, Body}
use Rattle.pool_syntax.specs.declared.token.Sign.TheVariants.{Colon}
use Rattle.run_types.specs.declared.types.Value.TheVariants as value
use Rattle.pool_syntax.specs.declared.tree.Named.{Named}
use Rattle.pool_syntax.specs.declared.tree.Var.{Var}
use Rattle.pool_syntax.specs.Terms as t
use Rattle.pool_syntax.specs.Terms.{MethodTree, ClassTree}
use Rattle.pool_grammar.specs.Rules as r
use Rattle.pool_grammar.specs.Rules.{stmts, names, more_locals, post, Phrase, Tree, Rule, word, sign, phrase, tree, ◌*>=◌, ◌*>◌}
use Rattle.pool_grammar.specs.Grammar.{expr, variables}

-- the end of `class` after its variables and methods
abbrev pub body_part : Named → List Var → List MethodTree → Rule ClassTree
body_part n vs ms = word Body *> phrase stmts *>= λ ss. word End *> tree (record { name = n; vars = vs; methods = ms; body = ss })

-- the end of `method` after its parameters, without a result and with one
abbrev pub proper_part : Named → List Var → Rule MethodTree
proper_part n ps = phrase (more_locals []) *>= λ ls. word Begin *> phrase stmts *>= λ ss. phrase post *>= λ qs. word End *>
    tree (record { name = n; params = ps; locals = ls; outcome = None; outcome_pos = 0; body = ss; value = t.Literal value.Nil 0; post = qs })

abbrev pub result_part : Named → List Var → Rule MethodTree
result_part n ps = sign Colon *> phrase r.kind *>= λ k. phrase (more_locals []) *>= λ ls. word Begin *> phrase stmts *>= λ ss.
    word Result *> phrase expr *>= λ e. phrase post *>= λ qs. word End *>
    tree (record { name = n; params = ps; locals = ls; outcome = Some k.0; outcome_pos = k.1; body = ss; value = e; post = qs })

-- names, a colon and a type, which declare variables that follow those before, and the rest of a rule
abbrev pub declared_part : (p : Phrase) → List Var → (List Var → Rule (Tree p)) → Rule (Tree p)
declared_part p vs rest = phrase names *>= λ ns. sign Colon *> phrase r.kind *>= λ k. rest (vs ++ variables ns k)
