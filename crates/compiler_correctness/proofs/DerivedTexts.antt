-- A program of the grammar is a text: nothing is under way in it, and no literal is the name of an object.
use Rattle.std.proofs.Common.{◌≡◌, refl, IsTrue, ℕ, List, [], ◌∷◌, ◌++◌, ◌&&◌, true}
use Rattle.pool_syntax.specs.declared.token.Tok.{Tok}
use Rattle.pool_syntax.specs.Terms.{Expression, Expressions, NoArgs, Arg, Statement, Statements, Done, Then, Alternatives, NoAlts, Alt, MethodTree, ClassTree, ProgramTree}
use Rattle.pool_grammar.specs.Rules as r
use Rattle.pool_grammar.specs.Rules.{group, comparison, factor, postfix, primary, Phrase, Tree, Part, SemanticValue, Rule, tree, then, either}
use Rattle.pool_grammar.specs.Grammar.{rule, arg_last, then_last, alt_last}
use Rattle.pool_grammar.specs.Derives.{IsToken, Derives, nothing, token, inner, first, second, IsProgram}
use Rattle.run_types.proofs.Laws as b
use Rattle.pool_compile.specs.TextPrograms.{is_text, are_text, is_text_statement, are_text_statements, are_text_alternatives, are_text_methods, is_text_program}

-- parts of a text
abbrev Plain : Expression → Type 0
Plain e = IsTrue (is_text e)

abbrev PlainArguments : Expressions → Type 0
PlainArguments es = IsTrue (are_text es)

abbrev PlainStatement : Statement → Type 0
PlainStatement s = IsTrue (is_text_statement s)

abbrev PlainStatements : Statements → Type 0
PlainStatements ss = IsTrue (are_text_statements ss)

abbrev PlainAlternatives : Alternatives → Type 0
PlainAlternatives alts = IsTrue (are_text_alternatives alts)

-- what is derived of a phrase; a phrase that goes on with what stands before it is a text where that is
abbrev IsText : (p : Phrase) → Tree p → Type 0
IsText r.program ks = IsTrue (is_text_program ks)
IsText (r.more_classes before) ks = IsTrue (is_text_program before) → IsTrue (is_text_program ks)
IsText r.class k = IsTrue (is_text_program (k ∷ []))
IsText (r.more_methods before) ms = IsTrue (are_text_methods before) → IsTrue (are_text_methods ms)
IsText r.method m = IsTrue (are_text_methods (m ∷ []))
IsText r.post ss = PlainStatements ss
IsText r.stmts ss = PlainStatements ss
IsText (r.more_stmts before) ss = PlainStatements before → PlainStatements ss
IsText r.stmt s = PlainStatement s
IsText r.invoke e = Plain e
IsText r.alt a = Plain a.0 × PlainStatements a.2
IsText (r.more_alts before) alts = PlainAlternatives before → PlainAlternatives alts
IsText (r.expression level) e = Plain e
IsText (r.more_operands g left) e = Plain left → Plain e
IsText (r.more_sends to) e = Plain to → Plain e
IsText r.args es = PlainArguments es
IsText (r.more_args before) es = PlainArguments before → PlainArguments es
IsText _ x = Unit {0}

-- what a part of a rule gives
abbrev GivesText : (part : Part) → SemanticValue part → Type 0
GivesText (r.phrase p) y = IsText p y
GivesText _ y = Unit {0}

-- a rule that makes a text from texts
abbrev KeepsText : (p : Phrase) → Rule (Tree p) → Type 0
KeepsText p (tree x) = IsText p x
KeepsText p (then part rest) = (y : SemanticValue part) → GivesText part y → KeepsText p (rest y)
KeepsText p (either a c) = KeepsText p a × KeepsText p c

token_text : (ts : List Tok) (part : Part) (i : ℕ) (y : SemanticValue part) → IsToken ts part i y → GivesText part y
token_text ts (r.phrase p) i y t = absurd t
token_text ts _ i y t = tt

-- lists that are longer by one
classes_last : (ks : List ClassTree) (k : ClassTree) → IsTrue (is_text_program ks) → IsTrue (is_text_program (k ∷ []))
    → IsTrue (is_text_program (ks ++ k ∷ []))
classes_last [] k w v = v
classes_last (l ∷ ks) k w v = b.both _ _ (b.first _ (is_text_program ks) w) (classes_last ks k (b.second _ (is_text_program ks) w) v)

methods_last : (ms : List MethodTree) (m : MethodTree) → IsTrue (are_text_methods ms) → IsTrue (are_text_methods (m ∷ []))
    → IsTrue (are_text_methods (ms ++ m ∷ []))
methods_last [] m w v = v
methods_last (n ∷ ms) m w v = b.both _ _ (b.first _ (are_text_methods ms) w) (methods_last ms m (b.second _ (are_text_methods ms) w) v)

arguments_last : (es : Expressions) (e : Expression) → PlainArguments es → Plain e → PlainArguments (arg_last es e)
arguments_last NoArgs e w v = b.both _ _ v refl
arguments_last (Arg x xs) e w v = b.both _ _ (b.first _ (are_text xs) w) (arguments_last xs e (b.second (is_text x) _ w) v)

statements_last : (ss : Statements) (s : Statement) → PlainStatements ss → PlainStatement s → PlainStatements (then_last ss s)
statements_last Done s w v = b.both _ _ v refl
statements_last (Then t ss) s w v = b.both _ _ (b.first _ (are_text_statements ss) w) (statements_last ss s (b.second (is_text_statement t) _ w) v)

alternatives_last : (alts : Alternatives) (a : r.OneAlternative) → PlainAlternatives alts → Plain a.0 × PlainStatements a.2
    → PlainAlternatives (alt_last alts a)
alternatives_last NoAlts a w v = b.both _ _ (b.both _ _ v.0 v.1) refl
alternatives_last (Alt g ns ss alts) a w v =
    b.both _ _ (b.first _ (are_text_alternatives alts) w) (alternatives_last alts a (b.second (is_text g && are_text_statements ss) _ w) v)

rule_text : (p : Phrase) → KeepsText p (rule p)
unfolding rule
rule_text r.program = λ k w ks f n u. f w
rule_text (r.more_classes ks) = ((λ k w all f v. f (classes_last ks k v w)), (λ v. v))
rule_text r.class = λ n u m v vs x ms f i y ss w j z. b.both _ _ (b.both _ _ w (f refl)) refl
rule_text (r.more_methods ms) = ((λ m w all f v. f (methods_last ms m v w)), (λ v. v))
rule_text r.method = (
  (λ i u n v ps x ls y j z ss w qs q k t. b.both _ _ (b.both _ _ (b.both _ _ w refl) q) refl),
  (λ i u n v ps x j y k z ls t l a ss w m c e d qs g q f. b.both _ _ (b.both _ _ (b.both _ _ w d) g) refl),
)
rule_text r.post = ((λ i u ss w. w), refl)
rule_text r.stmts = ((λ s w ss f. f (b.both _ _ w refl)), refl)
rule_text (r.more_stmts ss) = ((λ i u s w all f v. f (statements_last ss s v w)), (λ v. v))
rule_text r.stmt = (
  (λ n a i u e w. w),
  (
    (λ i u e w. w),
    (
      (λ i u t v. refl),
      (
        (λ i u e w j v these x. (
          (λ k y those z l a. b.both _ _ (b.both _ _ w x) z),
          (λ k y. b.both _ _ (b.both _ _ w x) refl),
        )),
        (
          (λ i u e w j v ss x k y. b.both _ _ w x),
          (
            (λ i u ns v. refl),
            (
              (λ i u a w all f j v. f (alternatives_last NoAlts a refl w)),
              (
                (λ e w i u n v es x. b.both _ _ w x),
                (λ e w. w),
              ),
            ),
          ),
        ),
      ),
    ),
  ),
)
rule_text r.invoke = (
  (λ n u es w. w),
  (
    (λ i u n v. refl),
    (λ e w i u n v es x. b.both _ _ w x),
  ),
)
rule_text r.alt = λ i u g w. ((λ j v ns x k y ss z. (w, z)), (λ j v ss z. (w, z)))
rule_text (r.more_alts before) = ((λ a w all f v. f (alternatives_last before a v w)), (λ v. v))
rule_text (r.expression (group g)) = λ l w e f. f w
rule_text (r.expression comparison) = λ l w. ((λ o i m v. b.both _ _ w v), w)
rule_text (r.expression factor) = ((λ o i e w. w), (λ e w. w))
rule_text (r.expression postfix) = λ e w all f. f w
rule_text (r.expression primary) = (
  (λ n u. refl),
  (
    (λ i u. refl),
    (
      (λ i u. refl),
      (
        (λ i u. refl),
        (
          (λ i u. refl),
          (
            (λ n u. refl),
            (
              (λ n u es w. w),
              (
                (λ i u n v. refl),
                (λ i u e w j v. w),
              ),
            ),
          ),
        ),
      ),
    ),
  ),
)
rule_text (r.more_operands g l) = ((λ o i m v e f w. f (b.both _ _ w v)), (λ w. w))
rule_text (r.more_sends e) = ((λ i u n v es x all f w. f (b.both _ _ w x)), (λ w. w))
rule_text r.args = λ i u. ((λ e w es f j v. f (b.both _ _ w refl)), (λ j v. refl))
rule_text (r.more_args es) = ((λ i u e w all f v. f (arguments_last es e v w)), (λ v. v))
rule_text (r.more_vars vs) = ((λ a u b v c w d x e y. tt), tt)
rule_text r.names = λ n u ns v. tt
rule_text (r.more_names ns) = ((λ i u n v all w. tt), tt)
rule_text r.kind = ((λ i u. tt), ((λ i u. tt), (λ n u. tt)))
rule_text r.params = λ i u. ((λ a v ps w j x. tt), (λ j v. tt))
rule_text (r.more_params ps) = ((λ i u a v all w. tt), tt)
rule_text r.param = λ n u i v k w. tt
rule_text (r.more_locals ls) = ((λ i u ns v j w k x all y. tt), tt)
rule_text r.list = λ i u ns v j w. tt

derived : (ts : List Tok) (p : Phrase) (a : Rule (Tree p)) (i j : ℕ) (x : Tree p) → Derives ts p a i j x → KeepsText p a → IsText p x
derived ts p a i j x nothing w = w
derived ts p a i j x (token {part = part} y t d) w = derived ts p _ _ j x d (w y (token_text ts part i y t))
derived ts p a i j x (inner {q = q} y d e) w = derived ts p _ _ j x e (w y (derived ts q _ i _ y d (rule_text q)))
derived ts p a i j x (first d) w = derived ts p _ i j x d w.0
derived ts p a i j x (second d) w = derived ts p _ i j x d w.1

pub derived_text : (ts : List Tok) (p : ProgramTree) → IsProgram ts p → is_text_program p ≡ true
derived_text ts p d = derived ts r.program _ _ _ p d (rule_text r.program)
