-- The context-free grammar of the language, in EBNF and as rules that give a syntax tree. Above each rule is its EBNF
-- text: square brackets mean at most once, and braces any number of times. A part in braces is a phrase `more_..` of
-- its own. Its argument is the tree of the part before it. Each alternative is in parentheses.
use Rattle.std.specs.Prelude.{ℕ, List, [], ◌∷◌, ◌++◌, map, true, false, Option, Some, None}
use Rattle.pool_syntax.specs.declared.token.Tok.{Tok}
use Rattle.pool_syntax.specs.declared.token.Tok.TheVariants.{Word, Sign}
use Rattle.text_scan.specs.declared.keywords.Keyword.TheVariants.{Class, Var, Method, Local, Begin, Result, Post, End, Body, If, Then, Else, Fi, While, Do, Od, Answer, Select, When, Write, New}
use Rattle.text_scan.specs.declared.keywords.Keyword.TheVariants.{SelfWord, Nil, True, False, Not, And, Or, Int, Bool as BoolWord}
use Rattle.pool_syntax.specs.declared.token.Sign.TheVariants.{Becomes, Colon, Semicolon, Comma, LeftParen, RightParen, Bang, BangBang, Equal, Differs, Less, LessEq, More, MoreEq, Plus, Minus, Star}
use Rattle.pool_syntax.specs.declared.token.Sign.TheVariants.{Slash, Percent}
use Rattle.run_types.specs.declared.types.Op.{Op}
use Rattle.run_types.specs.declared.types.Op.TheVariants as op
use Rattle.run_types.specs.declared.types.Value.TheVariants as value
use Rattle.run_types.specs.declared.types.Kind.{Kind}
use Rattle.run_types.specs.declared.types.Kind.TheVariants as kind
use Rattle.pool_syntax.specs.declared.tree.Named.{Named}
use Rattle.pool_syntax.specs.declared.tree.Var as variable
use Rattle.pool_syntax.specs.Terms as t
use Rattle.pool_syntax.specs.Terms.{Expression, Expressions, NoArgs, Arg, Statement, Statements, Done, Alternatives, NoAlts, Alt, MethodTree, ClassTree}
use Rattle.pool_grammar.specs.Rules as r
use Rattle.pool_grammar.specs.Rules.{Group, disjunction, conjunction, addition, multiplication, Level, group, comparison, factor, postfix, primary, Phrase, program, more_classes, class, more_vars}
use Rattle.pool_grammar.specs.Rules.{names, more_names, more_methods, method, post, params, more_params, param, more_locals, stmts, more_stmts, stmt, invoke, alt, more_alts, list, expression}
use Rattle.pool_grammar.specs.Rules.{more_operands, more_sends, args, more_args, OneAlternative, Tree, Part, word, sign, name, integer, string, end, operator, phrase, Rule, tree, ◌*>=◌, ◌*>◌, ◌or◌}

-- the list with one more item at its end; the same for the next two
abbrev pub arg_last : Expressions → Expression → Expressions
arg_last NoArgs e = Arg e NoArgs
arg_last (Arg x xs) e = Arg x (arg_last xs e)

abbrev pub then_last : Statements → Statement → Statements
then_last Done s = t.Then s Done
then_last (t.Then x xs) s = t.Then x (then_last xs s)

abbrev pub alt_last : Alternatives → OneAlternative → Alternatives
alt_last NoAlts a = Alt a.0 a.1 a.2 NoAlts
alt_last (Alt g ns ss xs) a = Alt g ns ss (alt_last xs a)

-- a variable for each name, with the declared type and the position of the type
abbrev pub variables : List Named → Kind × ℕ → List variable.Var
variables ns k = map (λ n. record { name = n.name; kind = k.0; pos = n.pos; kind_pos = k.1 }) ns

-- the operator of a level that a token is, if it is one
abbrev pub operator_of : Level → Tok → Option Op
operator_of (group disjunction) (Word Or) = Some op.Or
operator_of (group conjunction) (Word And) = Some op.And
operator_of comparison (Sign Equal) = Some op.Same
operator_of comparison (Sign Differs) = Some op.Differs
operator_of comparison (Sign Less) = Some op.Less
operator_of comparison (Sign LessEq) = Some op.LessEq
operator_of comparison (Sign More) = Some op.More
operator_of comparison (Sign MoreEq) = Some op.MoreEq
operator_of (group addition) (Sign Plus) = Some op.Add
operator_of (group addition) (Sign Minus) = Some op.Sub
operator_of (group multiplication) (Sign Star) = Some op.Mul
operator_of (group multiplication) (Sign Slash) = Some op.Div
operator_of (group multiplication) (Sign Percent) = Some op.Rem
operator_of factor (Word Not) = Some op.Not
operator_of factor (Sign Minus) = Some op.Neg
operator_of _ _ = None

-- the level of the operands of a group
abbrev pub operand : Group → Level
operand disjunction = group conjunction
operand conjunction = comparison
operand addition = group multiplication
operand multiplication = factor

abbrev pub expr : Phrase
expr = expression (group disjunction)

unfoldable pub rule : (p : Phrase) → Rule (Tree p)
-- program ::= class { class } End
rule program = phrase class *>= λ c. phrase (more_classes (c ∷ [])) *>= λ cs. end *> tree cs
rule (more_classes cs) =
    (phrase class *>= λ c. phrase (more_classes (cs ++ c ∷ [])) *>= λ all. tree all)
    or tree cs
-- class ::= "class" NAME { "var" names ":" kind } { method } "body" stmts "end"
rule class = word Class *> name *>= λ n. phrase (more_vars []) *>= λ vs. phrase (more_methods []) *>= λ ms.
    word Body *> phrase stmts *>= λ ss. word End *> tree (record { name = n; vars = vs; methods = ms; body = ss })
rule (more_vars vs) =
    (word Var *> phrase names *>= λ ns. sign Colon *> phrase r.kind *>= λ k. phrase (more_vars (vs ++ variables ns k)) *>= λ all. tree all)
    or tree vs
rule (more_methods ms) =
    (phrase method *>= λ m. phrase (more_methods (ms ++ m ∷ [])) *>= λ all. tree all)
    or tree ms
-- names ::= NAME { "," NAME }
rule names = name *>= λ n. phrase (more_names (n ∷ [])) *>= λ ns. tree ns
rule (more_names ns) =
    (sign Comma *> name *>= λ n. phrase (more_names (ns ++ n ∷ [])) *>= λ all. tree all)
    or tree ns
-- kind ::= "Int" | "Bool" | NAME
rule r.kind =
    (word Int *>= λ p. tree (kind.Int, p))
    or (word BoolWord *>= λ p. tree (kind.Bool, p))
    or (name *>= λ n. tree (kind.Class n.name, n.pos))
-- method ::= "method" NAME "(" [ param { "," param } ] ")" locals "begin" stmts [ "post" stmts ] "end"
--          | "method" NAME "(" [ param { "," param } ] ")" ":" kind locals "begin" stmts "result" expr [ "post" stmts ] "end"
rule method =
    (word Method *> name *>= λ n. phrase params *>= λ ps. phrase (more_locals []) *>= λ ls. word Begin *> phrase stmts *>= λ ss. phrase post *>= λ qs. word End *>
    tree (record { name = n; params = ps; locals = ls; outcome = None; outcome_pos = 0; body = ss; value = t.Literal value.Nil 0; post = qs }))
    or (word Method *> name *>= λ n. phrase params *>= λ ps. sign Colon *> phrase r.kind *>= λ k. phrase (more_locals []) *>= λ ls. word Begin *> phrase stmts *>= λ ss.
    word Result *> phrase expr *>= λ e. phrase post *>= λ qs. word End *>
    tree (record { name = n; params = ps; locals = ls; outcome = Some k.0; outcome_pos = k.1; body = ss; value = e; post = qs }))
-- post ::= [ "post" stmts ]
rule post =
    (word Post *> phrase stmts *>= λ ss. tree ss)
    or tree Done
rule params = sign LeftParen *>
    ((phrase param *>= λ p. phrase (more_params (p ∷ [])) *>= λ ps. sign RightParen *> tree ps)
    or (sign RightParen *> tree []))
rule (more_params ps) =
    (sign Comma *> phrase param *>= λ p. phrase (more_params (ps ++ p ∷ [])) *>= λ all. tree all)
    or tree ps
-- param ::= NAME ":" kind
rule param = name *>= λ n. sign Colon *> phrase r.kind *>= λ k. tree (record { name = n.name; kind = k.0; pos = n.pos; kind_pos = k.1 })
-- locals ::= { "local" names ":" kind }
rule (more_locals ls) =
    (word Local *> phrase names *>= λ ns. sign Colon *> phrase r.kind *>= λ k. phrase (more_locals (ls ++ variables ns k)) *>= λ all. tree all)
    or tree ls
-- stmts ::= [ stmt { ";" stmt } ]
rule stmts =
    (phrase stmt *>= λ s. phrase (more_stmts (t.Then s Done)) *>= λ ss. tree ss)
    or tree Done
rule (more_stmts ss) =
    (sign Semicolon *> phrase stmt *>= λ s. phrase (more_stmts (then_last ss s)) *>= λ all. tree all)
    or tree ss
-- stmt ::= NAME ":=" expr | "write" expr | "write" STRING | "if" expr "then" stmts [ "else" stmts ] "fi" | "while" expr "do" stmts "od"
--        | "answer" list | "select" alt { alt } "end" | postfix "!!" NAME args | invoke
rule stmt =
    (name *>= λ n. sign Becomes *> phrase expr *>= λ e. tree (t.Assign n.name.0 n.pos e))
    or (word Write *> phrase expr *>= λ e. tree (t.Write e))
    or (word Write *> string *>= λ s. tree (t.WriteText s.0))
    or (word If *> phrase expr *>= λ e. word Then *> phrase stmts *>= λ these.
    ((word Else *> phrase stmts *>= λ those. word Fi *> tree (t.If e these those))
    or (word Fi *> tree (t.If e these Done))))
    or (word While *> phrase expr *>= λ e. word Do *> phrase stmts *>= λ ss. word Od *> tree (t.While e ss))
    or (word Answer *> phrase list *>= λ ns. tree (t.Answer ns))
    or (word Select *> phrase alt *>= λ a. phrase (more_alts (alt_last NoAlts a)) *>= λ all. word End *> tree (t.Select all))
    or (phrase (expression postfix) *>= λ to. sign BangBang *> name *>= λ n. phrase args *>= λ es. tree (t.Async to n.name.0 n.pos es))
    or (phrase invoke *>= λ e. tree (t.Do e))
-- invoke ::= NAME args | "new" NAME | postfix "!" NAME args
rule invoke =
    (name *>= λ n. phrase args *>= λ es. tree (t.Call n.name.0 es n.pos))
    or (word New *> name *>= λ n. tree (t.Create n.name.0 n.pos))
    or (phrase (expression postfix) *>= λ to. sign Bang *> name *>= λ n. phrase args *>= λ es. tree (t.Send to n.name.0 es n.pos))
-- alt ::= "when" expr [ "answer" list ] "then" stmts
rule alt = word When *> phrase expr *>= λ g.
    ((word Answer *> phrase list *>= λ ns. word Then *> phrase stmts *>= λ ss. tree (g, Some ns, ss))
    or (word Then *> phrase stmts *>= λ ss. tree (g, None, ss)))
rule (more_alts before) =
    (phrase alt *>= λ a. phrase (more_alts (alt_last before a)) *>= λ all. tree all)
    or tree before
-- list ::= "(" NAME { "," NAME } ")"
rule list = sign LeftParen *> phrase names *>= λ ns. sign RightParen *> tree ns
-- expr ::= conj { "or" conj }    conj ::= comp { "and" comp }    sum ::= term { ("+" | "-") term }    term ::= factor { ("*" | "/" | "%") factor }
rule (expression (group g)) = phrase (expression (operand g)) *>= λ l. phrase (more_operands g l) *>= λ e. tree e
rule (more_operands g l) =
    (operator (group g) *>= λ o. phrase (expression (operand g)) *>= λ r. phrase (more_operands g (t.Infix o.0 l r o.1)) *>= λ e. tree e)
    or tree l
-- comp ::= sum [ ("==" | "!=" | "<" | "<=" | ">" | ">=") sum ]
rule (expression comparison) = phrase (expression (group addition)) *>= λ l.
    ((operator comparison *>= λ o. phrase (expression (group addition)) *>= λ r. tree (t.Infix o.0 l r o.1))
    or tree l)
-- factor ::= "not" factor | "-" factor | postfix
rule (expression factor) =
    (operator factor *>= λ o. phrase (expression factor) *>= λ e. tree (t.Prefix o.0 e o.1))
    or (phrase (expression postfix) *>= λ e. tree e)
-- postfix ::= primary { "!" NAME args }
rule (expression postfix) = phrase (expression primary) *>= λ to. phrase (more_sends to) *>= λ e. tree e
rule (more_sends to) =
    (sign Bang *> name *>= λ n. phrase args *>= λ es. phrase (more_sends (t.Send to n.name.0 es n.pos)) *>= λ e. tree e)
    or tree to
-- primary ::= INT | "true" | "false" | "nil" | "self" | NAME | NAME args | "new" NAME | "(" expr ")"
rule (expression primary) =
    (integer *>= λ n. tree (t.Literal (value.Int n.0) n.1))
    or (word True *>= λ p. tree (t.Literal (value.Bool true) p))
    or (word False *>= λ p. tree (t.Literal (value.Bool false) p))
    or (word Nil *>= λ p. tree (t.Literal value.Nil p))
    or (word SelfWord *>= λ p. tree (t.Me p))
    or (name *>= λ n. tree (t.Variable n.name.0 n.pos))
    or (name *>= λ n. phrase args *>= λ es. tree (t.Call n.name.0 es n.pos))
    or (word New *> name *>= λ n. tree (t.Create n.name.0 n.pos))
    or (sign LeftParen *> phrase expr *>= λ e. sign RightParen *> tree e)
-- args ::= "(" [ expr { "," expr } ] ")"
rule args = sign LeftParen *>
    ((phrase expr *>= λ e. phrase (more_args (Arg e NoArgs)) *>= λ es. sign RightParen *> tree es)
    or (sign RightParen *> tree NoArgs))
rule (more_args es) =
    (sign Comma *> phrase expr *>= λ e. phrase (more_args (arg_last es e)) *>= λ all. tree all)
    or tree es
