-- A program of the grammar is a written program, and has at least one class.
use Rattle.std.proofs.Common.{◌≡◌, ◌≢◌, refl, IsTrue, ℕ, List, [], ◌∷◌, ◌++◌, Some, false, ◌&&◌, arith}
use Rattle.pool_syntax.specs.declared.token.Tok.{Tok}
use Rattle.run_types.specs.declared.types.Op.{Op}
use Rattle.pool_syntax.specs.Terms as T
use Rattle.pool_syntax.specs.Terms.{Expression, Expressions, NoArgs, Arg, Statement, Statements, Done, Then, Alternatives, NoAlts, Alt, MethodTree, ClassTree, ProgramTree}
use Rattle.pool_grammar.specs.Rules as r
use Rattle.pool_grammar.specs.Rules.{Group, disjunction, conjunction, addition, multiplication, Level, group, comparison, factor, postfix, primary, Phrase, Tree, Part, SemanticValue, Rule, tree, then}
use Rattle.pool_grammar.specs.Rules.{either}
use Rattle.pool_grammar.specs.Grammar.{rule, operator_of, arg_last, then_last, alt_last}
use Rattle.pool_grammar.specs.Derives.{IsToken, Derives, nothing, token, inner, first, second, IsProgram}
use Rattle.pool_grammar.specs.Grammatical.{IsGrammatical}
use Rattle.pool_syntax.specs.Written.{are_written, is_written}
use Rattle.pool_syntax.specs.SourceParts.{is_source, are_source, is_source_statement, are_source_statements, are_source_alternatives, is_prefix}
use Rattle.run_types.proofs.Laws as b

-- parts as they are written
abbrev Plain : Expression → Type 0
Plain e = IsTrue (is_source e)

abbrev PlainArguments : Expressions → Type 0
PlainArguments es = IsTrue (are_source es)

abbrev PlainStatement : Statement → Type 0
PlainStatement s = IsTrue (is_source_statement s)

abbrev PlainStatements : Statements → Type 0
PlainStatements ss = IsTrue (are_source_statements ss)

abbrev PlainAlternatives : Alternatives → Type 0
PlainAlternatives alts = IsTrue (are_source_alternatives alts)

-- what is derived of a phrase; a phrase that goes on with what stands before it is written where that is
abbrev Written : (p : Phrase) → Tree p → Type 0
Written r.program ks = IsTrue (is_written ks) × (ks ≢ [])
Written (r.more_classes before) ks = IsTrue (is_written before) × (before ≢ []) → IsTrue (is_written ks) × (ks ≢ [])
Written r.class k = IsTrue (is_written (k ∷ []))
Written (r.more_methods before) ms = IsTrue (are_written before) → IsTrue (are_written ms)
Written r.method m = IsTrue (are_written (m ∷ []))
Written r.post ss = PlainStatements ss
Written r.stmts ss = PlainStatements ss
Written (r.more_stmts before) ss = PlainStatements before → PlainStatements ss
Written r.stmt s = PlainStatement s
Written r.invoke e = Plain e
Written r.alt a = Plain a.0 × PlainStatements a.2
Written (r.more_alts before) alts = PlainAlternatives before → PlainAlternatives alts
Written (r.expression level) e = Plain e
Written (r.more_operands g left) e = Plain left → Plain e
Written (r.more_sends to) e = Plain to → Plain e
Written r.args es = PlainArguments es
Written (r.more_args before) es = PlainArguments before → PlainArguments es
Written _ x = Unit {0}

abbrev OperatorAt : Level → Op → Type 0
OperatorAt factor op = IsTrue (is_prefix op)
OperatorAt _ op = is_prefix op ≡ false

-- what a part of a rule gives
abbrev GivesWritten : (part : Part) → SemanticValue part → Type 0
GivesWritten (r.operator level) y = OperatorAt level y.0
GivesWritten (r.phrase p) y = Written p y
GivesWritten _ y = Unit {0}

-- a rule that makes a written tree from written parts
abbrev RuleWritten : (p : Phrase) → Rule (Tree p) → Type 0
RuleWritten p (tree x) = Written p x
RuleWritten p (then part rest) = (y : SemanticValue part) → GivesWritten part y → RuleWritten p (rest y)
RuleWritten p (either a c) = RuleWritten p a × RuleWritten p c

prefix_written : (t : Tok) (op : Op) → operator_of factor t ≡ Some op → IsTrue (is_prefix op)
prefix_written t op e = grind (arith, e)

infix_written : (level : Level) (t : Tok) (op : Op) → operator_of level t ≡ Some op → OperatorAt level op
infix_written (group disjunction) t op e = grind (arith, e)
infix_written (group conjunction) t op e = grind (arith, e)
infix_written (group addition) t op e = grind (arith, e)
infix_written (group multiplication) t op e = grind (arith, e)
infix_written comparison t op e = grind (arith, e)
infix_written factor t op e = prefix_written t op e
infix_written postfix t op e = grind (arith, e)
infix_written primary t op e = grind (arith, e)

token_written : (ts : List Tok) (part : Part) (i : ℕ) (y : SemanticValue part) → IsToken ts part i y → GivesWritten part y
token_written ts (r.operator level) i y t = infix_written level t.0 y.0 t.2
token_written ts (r.phrase p) i y t = absurd t
token_written ts _ i y t = tt

-- lists that are longer by one
classes_last : (ks : List ClassTree) (k : ClassTree) → IsTrue (is_written ks) → IsTrue (is_written (k ∷ []))
    → IsTrue (is_written (ks ++ k ∷ []))
classes_last [] k w v = v
classes_last (l ∷ ks) k w v = b.both _ _ (b.first _ (is_written ks) w) (classes_last ks k (b.second _ (is_written ks) w) v)

some_last : (ks : List ClassTree) (k : ClassTree) → ks ++ k ∷ [] ≢ []
some_last [] k e = cc
some_last (l ∷ ks) k e = cc

methods_last : (ms : List MethodTree) (m : MethodTree) → IsTrue (are_written ms) → IsTrue (are_written (m ∷ []))
    → IsTrue (are_written (ms ++ m ∷ []))
methods_last [] m w v = v
methods_last (n ∷ ms) m w v = b.both _ _ (b.first _ (are_written ms) w) (methods_last ms m (b.second _ (are_written ms) w) v)

arguments_last : (es : Expressions) (e : Expression) → PlainArguments es → Plain e → PlainArguments (arg_last es e)
arguments_last NoArgs e w v = b.both _ _ v refl
arguments_last (Arg x xs) e w v = b.both _ _ (b.first _ (are_source xs) w) (arguments_last xs e (b.second (is_source x) _ w) v)

statements_last : (ss : Statements) (s : Statement) → PlainStatements ss → PlainStatement s → PlainStatements (then_last ss s)
statements_last Done s w v = b.both _ _ v refl
statements_last (Then t ss) s w v = b.both _ _ (b.first _ (are_source_statements ss) w) (statements_last ss s (b.second (is_source_statement t) _ w) v)

alternatives_last : (alts : Alternatives) (a : r.OneAlternative) → PlainAlternatives alts → Plain a.0 × PlainStatements a.2
    → PlainAlternatives (alt_last alts a)
alternatives_last NoAlts a w v = b.both _ _ (b.both _ _ v.0 v.1) refl
alternatives_last (Alt g ns ss alts) a w v =
    b.both _ _ (b.first _ (are_source_alternatives alts) w) (alternatives_last alts a (b.second (is_source g && are_source_statements ss) _ w) v)

plain_infix : (op : Op) (l m : Expression) (p : ℕ) → is_prefix op ≡ false → Plain l → Plain m → Plain (T.Infix op l m p)
plain_infix op l m p i w v = b.both _ _ (b.both _ _ (rw i refl) w) v

plain_send : (e : Expression) (m : ℕ) (es : Expressions) (p : ℕ) → Plain e → PlainArguments es → Plain (T.Send e m es p)
plain_send e m es p w v = b.both _ _ w v

rule_written : (p : Phrase) → RuleWritten p (rule p)
unfolding rule
rule_written r.program = λ k w ks f n u. f (w, some_last [] k)
rule_written (r.more_classes ks) = ((λ k w all f v. f (classes_last ks k v.0 w, some_last ks k)), (λ v. v))
rule_written r.class = λ n u m v vs x ms f i y ss w j z. b.both _ _ (b.both _ _ w (f refl)) refl
rule_written (r.more_methods ms) = ((λ m w all f v. f (methods_last ms m v w)), (λ v. v))
rule_written r.method = (
  (λ i u n v ps x ls y j z ss w qs k l t. b.both _ _ (b.both _ _ (b.both _ _ (b.both _ _ w refl) refl) k) refl),
  (λ i u n v ps x j y k z ls t l a ss w m c e d qs f q o. b.both _ _ (b.both _ _ (b.both _ _ (b.both _ _ w d) refl) f) refl),
)
rule_written r.post = ((λ i u ss w. w), refl)
rule_written r.stmts = ((λ s w ss f. f (b.both _ _ w refl)), refl)
rule_written (r.more_stmts ss) = ((λ i u s w all f v. f (statements_last ss s v w)), (λ v. v))
rule_written r.stmt = (
  (λ n a i u e w. w),
  (
    (λ i u e w. w),
    (
      (λ i u t v. refl),
      (
        (λ i u e w j v these x. (
          (λ k y those z l a. b.both _ _ (b.both _ _ w x) z),
          (λ k y. b.both _ _ (b.both _ _ w x) refl),
        )),
        (
          (λ i u e w j v ss x k y. b.both _ _ w x),
          (
            (λ i u ns v. refl),
            (
              (λ i u a w all f j v. f (alternatives_last NoAlts a refl w)),
              (
                (λ e w i u n v es x. b.both _ _ w x),
                (λ e w. w),
              ),
            ),
          ),
        ),
      ),
    ),
  ),
)
rule_written r.invoke = (
  (λ n u es w. w),
  (
    (λ i u n v. refl),
    (λ e w i u n v es x. plain_send e n.name.0 es n.pos w x),
  ),
)
rule_written r.alt = λ i u g w. ((λ j v ns x k y ss z. (w, z)), (λ j v ss z. (w, z)))
rule_written (r.more_alts before) = ((λ a w all f v. f (alternatives_last before a v w)), (λ v. v))
rule_written (r.expression (group g)) = λ l w e f. f w
rule_written (r.expression comparison) = λ l w. ((λ o i m v. plain_infix o.0 l m o.1 i w v), w)
rule_written (r.expression factor) = ((λ o i e w. b.both _ _ i w), (λ e w. w))
rule_written (r.expression postfix) = λ e w all f. f w
rule_written (r.expression primary) = (
  (λ n u. refl),
  (
    (λ i u. refl),
    (
      (λ i u. refl),
      (
        (λ i u. refl),
        (
          (λ i u. refl),
          (
            (λ n u. refl),
            (
              (λ n u es w. w),
              (
                (λ i u n v. refl),
                (λ i u e w j v. w),
              ),
            ),
          ),
        ),
      ),
    ),
  ),
)
rule_written (r.more_operands g l) = ((λ o i m v e f w. f (plain_infix o.0 l m o.1 i w v)), (λ w. w))
rule_written (r.more_sends e) = ((λ i u n v es x all f w. f (plain_send e n.name.0 es n.pos w x)), (λ w. w))
rule_written r.args = λ i u. ((λ e w es f j v. f (b.both _ _ w refl)), (λ j v. refl))
rule_written (r.more_args es) = ((λ i u e w all f v. f (arguments_last es e v w)), (λ v. v))
rule_written (r.more_vars vs) = ((λ a u b v c w d x e y. tt), tt)
rule_written r.names = λ n u ns v. tt
rule_written (r.more_names ns) = ((λ i u n v all w. tt), tt)
rule_written r.kind = ((λ i u. tt), ((λ i u. tt), (λ n u. tt)))
rule_written r.params = λ i u. ((λ a v ps w j x. tt), (λ j v. tt))
rule_written (r.more_params ps) = ((λ i u a v all w. tt), tt)
rule_written r.param = λ n u i v k w. tt
rule_written (r.more_locals ls) = ((λ i u ns v j w k x all y. tt), tt)
rule_written r.list = λ i u ns v j w. tt

derived : (ts : List Tok) (p : Phrase) (a : Rule (Tree p)) (i j : ℕ) (x : Tree p) → Derives ts p a i j x → RuleWritten p a → Written p x
derived ts p a i j x nothing w = w
derived ts p a i j x (token {part = part} y t d) w = derived ts p _ _ j x d (w y (token_written ts part i y t))
derived ts p a i j x (inner {q = q} y d e) w = derived ts p _ _ j x e (w y (derived ts q _ i _ y d (rule_written q)))
derived ts p a i j x (first d) w = derived ts p _ i j x d w.0
derived ts p a i j x (second d) w = derived ts p _ i j x d w.1

pub derived_written : (ts : List Tok) (p : ProgramTree) → IsProgram ts p → IsTrue (is_written p)
derived_written ts p d = (derived ts r.program _ _ _ p d (rule_written r.program)).0

pub grammatical_written : (p : ProgramTree) → IsGrammatical p → IsTrue (is_written p)
grammatical_written p g = derived_written g.0 p g.2

pub has_a_class : (p : ProgramTree) → IsGrammatical p → p ≢ []
has_a_class p g = (derived g.0 r.program _ _ _ p g.2 (rule_written r.program)).1
