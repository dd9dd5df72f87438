-- The ends of the rules of statements that the parser reads by functions of their own.
use Rattle.std.specs.Prelude.{List, Option}
use Rattle.text_scan.specs.declared.keywords.Keyword.TheVariants.{Then, Else, Fi}
use Rattle.pool_syntax.specs.declared.token.Sign.TheVariants.{BangBang}
use Rattle.pool_syntax.specs.declared.tree.Named.{Named}
use Rattle.pool_syntax.specs.Terms as t
use Rattle.pool_syntax.specs.Terms.{Expression, Statement, Statements, Done}
use Rattle.pool_grammar.specs.Rules.{postfix, expression, invoke, args, stmts, OneAlternative, Rule, word, sign, name, phrase, tree, ◌*>=◌, ◌*>◌, ◌or◌}

-- the end of `stmt` that begins with a postfix expression
abbrev pub sending : Rule Statement
sending = (phrase (expression postfix) *>= λ to. sign BangBang *> name *>= λ n. phrase args *>= λ es. tree (t.Async to n.name.0 n.pos es))
    or (phrase invoke *>= λ e. tree (t.Do e))

-- the end of `stmt` after the first list of an `if`
abbrev pub else_part : Expression → Statements → Rule Statement
else_part e these = (word Else *> phrase stmts *>= λ those. word Fi *> tree (t.If e these those))
    or (word Fi *> tree (t.If e these Done))

-- the end of `alt` after its guard and answer list
abbrev pub then_part : Expression → Option (List Named) → Rule OneAlternative
then_part g ns = word Then *> phrase stmts *>= λ ss. tree (g, ns, ss)
