-- The form of a program of the grammar.
use Rattle.std.proofs.Common.{◌≡◌, refl, ℕ, List, [], ◌∷◌, ◌++◌, Bool, true, false, Option, Some, None, arith}
use Rattle.pool_syntax.specs.declared.token.Tok.{Tok}
use Rattle.run_types.specs.declared.types.Op.{Op}
use Rattle.run_types.specs.declared.types.Op.TheVariants as op
use Rattle.run_types.specs.declared.types.Value.{Value}
use Rattle.run_types.specs.declared.types.Value.TheVariants as value
use Rattle.run_types.specs.declared.types.Kind.{Kind}
use Rattle.pool_syntax.specs.declared.tree.Named.{Named}
use Rattle.pool_syntax.specs.Terms as T
use Rattle.pool_syntax.specs.Terms.{Expression, Expressions, NoArgs, Arg, Statement, Statements, Done, Then, Alternatives, NoAlts, Alt, MethodTree, ClassTree, ProgramTree}
use Rattle.pool_grammar.specs.Rules as r
use Rattle.pool_grammar.specs.Rules.{Group, disjunction, conjunction, addition, multiplication, Level, group, comparison, factor, postfix, primary, Phrase, Tree, Part, SemanticValue, Rule, tree, then}
use Rattle.pool_grammar.specs.Rules.{either}
use Rattle.pool_grammar.specs.Grammar.{rule, operator_of, arg_last, then_last, alt_last}
use Rattle.pool_grammar.specs.Derives.{IsToken, Derives, nothing, token, inner, first, second}
use Rattle.pool_grammar.specs.Grammatical.{IsGrammatical}

-- expressions

abbrev pub is_prefix : Op → Bool
is_prefix op.Neg = true
is_prefix op.Not = true
is_prefix _ = false

-- a value that a literal can have
abbrev pub IsLiteral : Value → Type 0
IsLiteral (value.Ref n) = ⊥
IsLiteral _ = Unit {0}

-- an expression that is a statement
abbrev pub IsInvocation : Expression → Type 0
IsInvocation (T.Create c p) = Unit {0}
IsInvocation (T.Call m es p) = Unit {0}
IsInvocation (T.Send e m es p) = Unit {0}
IsInvocation _ = ⊥

-- a list that is not empty
abbrev pub IsFilled : {A : Type 0} → List A → Type 0
IsFilled [] = ⊥
IsFilled (x ∷ xs) = Unit {0}

abbrev pub AnswerForm : Option (List Named) → Type 0
AnswerForm None = Unit {0}
AnswerForm (Some ns) = IsFilled ns

-- alternatives that are not none
abbrev pub HasAlternative : Alternatives → Type 0
HasAlternative NoAlts = ⊥
HasAlternative (Alt g ns ss alts) = Unit {0}

abbrev mutual
  pub ExpressionForm : Expression → Type 0
  ExpressionForm (T.Literal v p) = IsLiteral v
  ExpressionForm (T.Me p) = Unit {0}
  ExpressionForm (T.Variable x p) = Unit {0}
  ExpressionForm (T.Create c p) = Unit {0}
  ExpressionForm (T.Prefix o e p) = (is_prefix o ≡ true) × ExpressionForm e
  ExpressionForm (T.Infix o l m p) = (is_prefix o ≡ false) × ExpressionForm l × ExpressionForm m
  ExpressionForm (T.Call m es p) = ArgumentsForm es
  ExpressionForm (T.Send e m es p) = ExpressionForm e × ArgumentsForm es
  ExpressionForm (T.Frame m t ss e qs) = ⊥
  ExpressionForm (T.Wait b m) = ⊥

  pub ArgumentsForm : Expressions → Type 0
  ArgumentsForm NoArgs = Unit {0}
  ArgumentsForm (Arg e es) = ExpressionForm e × ArgumentsForm es

  pub StatementForm : Statement → Type 0
  StatementForm (T.Assign x p e) = ExpressionForm e
  StatementForm (T.Write e) = ExpressionForm e
  StatementForm (T.WriteText s) = Unit {0}
  StatementForm (T.Do e) = IsInvocation e × ExpressionForm e
  StatementForm (T.Async e m p es) = ExpressionForm e × ArgumentsForm es
  StatementForm (T.If e these those) = ExpressionForm e × StatementsForm these × StatementsForm those
  StatementForm (T.While e ss) = ExpressionForm e × StatementsForm ss
  StatementForm (T.Answer ns) = IsFilled ns
  StatementForm (T.Select alts) = HasAlternative alts × AlternativesForm alts
  StatementForm (T.Serve m k t ss e qs) = ⊥

  pub StatementsForm : Statements → Type 0
  StatementsForm Done = Unit {0}
  StatementsForm (Then s ss) = StatementForm s × StatementsForm ss

  pub AlternativesForm : Alternatives → Type 0
  AlternativesForm NoAlts = Unit {0}
  AlternativesForm (Alt g ns ss alts) = ExpressionForm g × AnswerForm ns × StatementsForm ss × AlternativesForm alts

-- declarations

-- the value of a method: nil where it has no result
abbrev pub OutcomeForm : Option Kind → Expression → Type 0
OutcomeForm None e = e ≡ T.Literal value.Nil 0
OutcomeForm (Some k) e = ExpressionForm e

abbrev pub MethodForm : MethodTree → Type 0
MethodForm m = StatementsForm m.body × OutcomeForm m.outcome m.value × StatementsForm m.post

abbrev pub MethodsForm : List MethodTree → Type 0
MethodsForm [] = Unit {0}
MethodsForm (m ∷ ms) = MethodForm m × MethodsForm ms

abbrev pub ClassForm : ClassTree → Type 0
ClassForm c = MethodsForm c.methods × StatementsForm c.body

abbrev pub ClassesForm : List ClassTree → Type 0
ClassesForm [] = Unit {0}
ClassesForm (c ∷ cs) = ClassForm c × ClassesForm cs

abbrev pub ProgramForm : ProgramTree → Type 0
ProgramForm p = IsFilled p × ClassesForm p

-- what is derived of a phrase; a phrase that goes on with what stands before it has the form where that has it
abbrev Formed : (p : Phrase) → Tree p → Type 0
Formed r.program ks = ProgramForm ks
Formed (r.more_classes before) ks = ProgramForm before → ProgramForm ks
Formed r.class k = ClassForm k
Formed r.names ns = IsFilled ns
Formed (r.more_names before) ns = IsFilled before → IsFilled ns
Formed (r.more_methods before) ms = MethodsForm before → MethodsForm ms
Formed r.method m = MethodForm m
Formed r.post ss = StatementsForm ss
Formed r.stmts ss = StatementsForm ss
Formed (r.more_stmts before) ss = StatementsForm before → StatementsForm ss
Formed r.stmt s = StatementForm s
Formed r.invoke e = IsInvocation e × ExpressionForm e
Formed r.alt a = ExpressionForm a.0 × AnswerForm a.1 × StatementsForm a.2
Formed (r.more_alts before) alts = HasAlternative before × AlternativesForm before → HasAlternative alts × AlternativesForm alts
Formed r.list ns = IsFilled ns
Formed (r.expression level) e = ExpressionForm e
Formed (r.more_operands g left) e = ExpressionForm left → ExpressionForm e
Formed (r.more_sends to) e = ExpressionForm to → ExpressionForm e
Formed r.args es = ArgumentsForm es
Formed (r.more_args before) es = ArgumentsForm before → ArgumentsForm es
Formed _ x = Unit {0}

abbrev OperatorAt : Level → Op → Type 0
OperatorAt factor o = is_prefix o ≡ true
OperatorAt _ o = is_prefix o ≡ false

-- what a part of a rule gives
abbrev GivesFormed : (part : Part) → SemanticValue part → Type 0
GivesFormed (r.operator level) y = OperatorAt level y.0
GivesFormed (r.phrase p) y = Formed p y
GivesFormed _ y = Unit {0}

-- a rule that makes a tree of this form from parts of this form
abbrev RuleFormed : (p : Phrase) → Rule (Tree p) → Type 0
RuleFormed p (tree x) = Formed p x
RuleFormed p (then part rest) = (y : SemanticValue part) → GivesFormed part y → RuleFormed p (rest y)
RuleFormed p (either a c) = RuleFormed p a × RuleFormed p c

operator_formed : (level : Level) (t : Tok) (o : Op) → operator_of level t ≡ Some o → OperatorAt level o
operator_formed (group disjunction) t o e = grind (arith, e)
operator_formed (group conjunction) t o e = grind (arith, e)
operator_formed (group addition) t o e = grind (arith, e)
operator_formed (group multiplication) t o e = grind (arith, e)
operator_formed comparison t o e = grind (arith, e)
operator_formed factor t o e = grind (arith, e)
operator_formed postfix t o e = grind (arith, e)
operator_formed primary t o e = grind (arith, e)

token_formed : (ts : List Tok) (part : Part) (i : ℕ) (y : SemanticValue part) → IsToken ts part i y → GivesFormed part y
token_formed ts (r.operator level) i y t = operator_formed level t.0 y.0 t.2
token_formed ts (r.phrase p) i y t = absurd t
token_formed ts _ i y t = tt

-- lists that are longer by one

filled_last : {A : Type 0} (xs : List A) (x : A) → IsFilled (xs ++ x ∷ [])
filled_last [] x = tt
filled_last (y ∷ xs) x = tt

classes_last : (ks : List ClassTree) (k : ClassTree) → ClassesForm ks → ClassForm k → ClassesForm (ks ++ k ∷ [])
classes_last [] k w v = (v, tt)
classes_last (l ∷ ks) k w v = (w.0, classes_last ks k w.1 v)

methods_last : (ms : List MethodTree) (m : MethodTree) → MethodsForm ms → MethodForm m → MethodsForm (ms ++ m ∷ [])
methods_last [] m w v = (v, tt)
methods_last (n ∷ ms) m w v = (w.0, methods_last ms m w.1 v)

arguments_last : (es : Expressions) (e : Expression) → ArgumentsForm es → ExpressionForm e → ArgumentsForm (arg_last es e)
arguments_last NoArgs e w v = (v, tt)
arguments_last (Arg x xs) e w v = (w.0, arguments_last xs e w.1 v)

statements_last : (ss : Statements) (s : Statement) → StatementsForm ss → StatementForm s → StatementsForm (then_last ss s)
statements_last Done s w v = (v, tt)
statements_last (Then t ss) s w v = (w.0, statements_last ss s w.1 v)

alternatives_last : (alts : Alternatives) (a : r.OneAlternative) → AlternativesForm alts → ExpressionForm a.0 × AnswerForm a.1 × StatementsForm a.2
    → HasAlternative (alt_last alts a) × AlternativesForm (alt_last alts a)
alternatives_last NoAlts a w v = (tt, (v.0, v.1, v.2, tt))
alternatives_last (Alt g ns ss alts) a w v = (tt, (w.0, w.1, w.2, (alternatives_last alts a w.3 v).1))

rule_formed : (p : Phrase) → RuleFormed p (rule p)
unfolding rule
rule_formed r.program = λ k w ks f n u. f (tt, (w, tt))
rule_formed (r.more_classes ks) = ((λ k w all f v. f (filled_last ks k, classes_last ks k v.1 w)), (λ v. v))
rule_formed r.class = λ n u m v vs x ms f i y ss w j z. (f tt, w)
rule_formed (r.more_methods ms) = ((λ m w all f v. f (methods_last ms m v w)), (λ v. v))
rule_formed r.method = (
  (λ i u n v ps x ls y j z ss w qs q k t. (w, refl, q)),
  (λ i u n v ps x j y k z ls t l a ss w m c e d qs g q f. (w, d, g)),
)
rule_formed r.post = ((λ i u ss w. w), tt)
rule_formed r.stmts = ((λ s w ss f. f (w, tt)), tt)
rule_formed (r.more_stmts ss) = ((λ i u s w all f v. f (statements_last ss s v w)), (λ v. v))
rule_formed r.stmt = (
  (λ n a i u e w. w),
  (
    (λ i u e w. w),
    (
      (λ i u t v. tt),
      (
        (λ i u e w j v these x. ((λ k y those z l a. (w, x, z)), (λ k y. (w, x, tt)))),
        (
          (λ i u e w j v ss x k y. (w, x)),
          (
            (λ i u ns v. v),
            (
              (λ i u a w all f j v. f (alternatives_last NoAlts a tt w)),
              ((λ e w i u n v es x. (w, x)), (λ e w. w)),
            ),
          ),
        ),
      ),
    ),
  ),
)
rule_formed r.invoke = ((λ n u es w. (tt, w)), ((λ i u n v. (tt, tt)), (λ e w i u n v es x. (tt, (w, x)))))
rule_formed r.alt = λ i u g w. ((λ j v ns x k y ss z. (w, x, z)), (λ j v ss z. (w, tt, z)))
rule_formed (r.more_alts before) = ((λ a w all f v. f (alternatives_last before a v.1 w)), (λ v. v))
rule_formed (r.expression (group g)) = λ l w e f. f w
rule_formed (r.expression comparison) = λ l w. ((λ o i m v. (i, w, v)), w)
rule_formed (r.expression factor) = ((λ o i e w. (i, w)), (λ e w. w))
rule_formed (r.expression postfix) = λ e w all f. f w
rule_formed (r.expression primary) = (
  (λ n u. tt),
  (
    (λ i u. tt),
    (
      (λ i u. tt),
      ((λ i u. tt), ((λ i u. tt), ((λ n u. tt), ((λ n u es w. w), ((λ i u n v. tt), (λ i u e w j v. w)))))),
    ),
  ),
)
rule_formed (r.more_operands g l) = ((λ o i m v e f w. f (i, w, v)), (λ w. w))
rule_formed (r.more_sends e) = ((λ i u n v es x all f w. f (w, x)), (λ w. w))
rule_formed r.args = λ i u. ((λ e w es f j v. f (w, tt)), (λ j v. tt))
rule_formed (r.more_args es) = ((λ i u e w all f v. f (arguments_last es e v w)), (λ v. v))
rule_formed (r.more_vars vs) = ((λ a u b v c w d x e y. tt), tt)
rule_formed r.names = λ n u ns f. f tt
rule_formed (r.more_names ns) = ((λ i u n v all f w. f (filled_last ns n)), (λ w. w))
rule_formed r.kind = ((λ i u. tt), ((λ i u. tt), (λ n u. tt)))
rule_formed r.params = λ i u. ((λ a v ps w j x. tt), (λ j v. tt))
rule_formed (r.more_params ps) = ((λ i u a v all w. tt), tt)
rule_formed r.param = λ n u i v k w. tt
rule_formed (r.more_locals ls) = ((λ i u ns v j w k x all y. tt), tt)
rule_formed r.list = λ i u ns v j w. v

derived : (ts : List Tok) (p : Phrase) (a : Rule (Tree p)) (i j : ℕ) (x : Tree p) → Derives ts p a i j x → RuleFormed p a → Formed p x
derived ts p a i j x nothing w = w
derived ts p a i j x (token {part = part} y t d) w = derived ts p _ _ j x d (w y (token_formed ts part i y t))
derived ts p a i j x (inner {q = q} y d e) w = derived ts p _ _ j x e (w y (derived ts q _ i _ y d (rule_formed q)))
derived ts p a i j x (first d) w = derived ts p _ i j x d w.0
derived ts p a i j x (second d) w = derived ts p _ i j x d w.1

pub grammatical_formed : (p : ProgramTree) → IsGrammatical p → ProgramForm p
grammatical_formed p g = derived g.0 r.program _ _ _ p g.2 (rule_formed r.program)
