-- Each select of a program of the grammar has an alternative.
use Rattle.std.proofs.Common.{◌≡◌, refl, IsTrue, ℕ, List, [], ◌∷◌, ◌++◌, ◌&&◌, true}
use Rattle.pool_syntax.specs.declared.token.Tok.{Tok}
use Rattle.pool_syntax.specs.Terms.{Statement, Statements, Done, Then, Alternatives, NoAlts, Alt, MethodTree, ClassTree, ProgramTree}
use Rattle.pool_grammar.specs.Rules as r
use Rattle.pool_grammar.specs.Rules.{group, comparison, factor, postfix, primary, Phrase, Tree, Part, SemanticValue, Rule, tree, then, either}
use Rattle.pool_grammar.specs.Grammar.{rule, then_last, alt_last}
use Rattle.pool_grammar.specs.Derives.{IsToken, Derives, nothing, token, inner, first, second, IsProgram}
use Rattle.run_types.proofs.Laws as b
use Rattle.compiler_correctness.proofs.CompiledStacks.{is_some_alternative, has_choices, have_choices, works_have_choices}
use Rattle.compiler_correctness.proofs.CompiledFiles.{methods_have_choices, program_has_choices}

-- alternatives, of which there is one
abbrev AreChosen : Alternatives → Type 0
AreChosen alts = IsTrue (is_some_alternative alts && works_have_choices alts)

-- what is derived of a phrase has choices; a phrase that goes on with what stands before it has them where that has
abbrev IsChosen : (p : Phrase) → Tree p → Type 0
IsChosen r.program ks = IsTrue (program_has_choices ks)
IsChosen (r.more_classes before) ks = IsTrue (program_has_choices before) → IsTrue (program_has_choices ks)
IsChosen r.class k = IsTrue (program_has_choices (k ∷ []))
IsChosen (r.more_methods before) ms = IsTrue (methods_have_choices before) → IsTrue (methods_have_choices ms)
IsChosen r.method m = IsTrue (methods_have_choices (m ∷ []))
IsChosen r.post ss = IsTrue (have_choices ss)
IsChosen r.stmts ss = IsTrue (have_choices ss)
IsChosen (r.more_stmts before) ss = IsTrue (have_choices before) → IsTrue (have_choices ss)
IsChosen r.stmt s = IsTrue (has_choices s)
IsChosen r.alt a = IsTrue (have_choices a.2)
IsChosen (r.more_alts before) alts = AreChosen before → AreChosen alts
IsChosen _ x = Unit {0}

-- what a part of a rule gives
abbrev GivesChosen : (part : Part) → SemanticValue part → Type 0
GivesChosen (r.phrase p) y = IsChosen p y
GivesChosen _ y = Unit {0}

-- a rule that keeps this
abbrev KeepsChosen : (p : Phrase) → Rule (Tree p) → Type 0
KeepsChosen p (tree x) = IsChosen p x
KeepsChosen p (then part rest) = (y : SemanticValue part) → GivesChosen part y → KeepsChosen p (rest y)
KeepsChosen p (either a c) = KeepsChosen p a × KeepsChosen p c

token_chosen : (ts : List Tok) (part : Part) (i : ℕ) (y : SemanticValue part) → IsToken ts part i y → GivesChosen part y
token_chosen ts (r.phrase p) i y t = absurd t
token_chosen ts _ i y t = tt

-- lists that are longer by one
classes_last : (ks : List ClassTree) (k : ClassTree) → IsTrue (program_has_choices ks) → IsTrue (program_has_choices (k ∷ []))
    → IsTrue (program_has_choices (ks ++ k ∷ []))
classes_last [] k w v = v
classes_last (l ∷ ks) k w v = b.both _ _ (b.first _ (program_has_choices ks) w) (classes_last ks k (b.second _ (program_has_choices ks) w) v)

methods_last : (ms : List MethodTree) (m : MethodTree) → IsTrue (methods_have_choices ms) → IsTrue (methods_have_choices (m ∷ []))
    → IsTrue (methods_have_choices (ms ++ m ∷ []))
methods_last [] m w v = v
methods_last (n ∷ ms) m w v = b.both _ _ (b.first _ (methods_have_choices ms) w) (methods_last ms m (b.second _ (methods_have_choices ms) w) v)

statements_last : (ss : Statements) (s : Statement) → IsTrue (have_choices ss) → IsTrue (has_choices s) → IsTrue (have_choices (then_last ss s))
statements_last Done s w v = b.both _ _ v refl
statements_last (Then t ss) s w v = b.both _ _ (b.first (has_choices t) (have_choices ss) w) (statements_last ss s (b.second (has_choices t) (have_choices ss) w) v)

works_last : (alts : Alternatives) (a : r.OneAlternative) → IsTrue (works_have_choices alts) → IsTrue (have_choices a.2) → IsTrue (works_have_choices (alt_last alts a))
works_last NoAlts a w v = b.both _ _ v refl
works_last (Alt g ns ss alts) a w v =
    b.both _ _ (b.first (have_choices ss) (works_have_choices alts) w) (works_last alts a (b.second (have_choices ss) (works_have_choices alts) w) v)

alternatives_last : (alts : Alternatives) (a : r.OneAlternative) → IsTrue (works_have_choices alts) → IsTrue (have_choices a.2) → AreChosen (alt_last alts a)
alternatives_last NoAlts a w v = works_last NoAlts a w v
alternatives_last (Alt g ns ss alts) a w v = works_last (Alt g ns ss alts) a w v

rule_chosen : (p : Phrase) → KeepsChosen p (rule p)
unfolding rule
rule_chosen r.program = λ k w ks f n u. f w
rule_chosen (r.more_classes ks) = ((λ k w all f v. f (classes_last ks k v w)), (λ v. v))
rule_chosen r.class = λ n u m v vs x ms f i y ss w j z. b.both _ _ (b.both _ _ w (f refl)) refl
rule_chosen (r.more_methods ms) = ((λ m w all f v. f (methods_last ms m v w)), (λ v. v))
rule_chosen r.method = (
  (λ i u n v ps x ls y j z ss w qs q k t. b.both _ _ (b.both _ _ w q) refl),
  (λ i u n v ps x j y k z ls t l a ss w m c e d qs g q f. b.both _ _ (b.both _ _ w g) refl),
)
rule_chosen r.post = ((λ i u ss w. w), refl)
rule_chosen r.stmts = ((λ s w ss f. f (b.both _ _ w refl)), refl)
rule_chosen (r.more_stmts ss) = ((λ i u s w all f v. f (statements_last ss s v w)), (λ v. v))
rule_chosen r.stmt = (
  (λ n a i u e w. refl),
  (
    (λ i u e w. refl),
    (
      (λ i u t v. refl),
      (
        (λ i u e w j v these x. (
          (λ k y those z l a. b.both _ _ x z),
          (λ k y. b.both _ _ x refl),
        )),
        (
          (λ i u e w j v ss x k y. x),
          (
            (λ i u ns v. refl),
            (
              (λ i u a w all f j v. f (alternatives_last NoAlts a refl w)),
              (
                (λ e w i u n v es x. refl),
                (λ e w. refl),
              ),
            ),
          ),
        ),
      ),
    ),
  ),
)
rule_chosen r.invoke = (
  (λ n u es w. tt),
  (
    (λ i u n v. tt),
    (λ e w i u n v es x. tt),
  ),
)
rule_chosen r.alt = λ i u g w. ((λ j v ns x k y ss z. z), (λ j v ss z. z))
rule_chosen (r.more_alts before) = ((λ a w all f v. f (alternatives_last before a (b.second (is_some_alternative before) (works_have_choices before) v) w)), (λ v. v))
rule_chosen (r.expression (group g)) = λ l w e f. tt
rule_chosen (r.expression comparison) = λ l w. ((λ o i m v. tt), tt)
rule_chosen (r.expression factor) = ((λ o i e w. tt), (λ e w. tt))
rule_chosen (r.expression postfix) = λ e w all f. tt
rule_chosen (r.expression primary) = (
  (λ n u. tt),
  (
    (λ i u. tt),
    (
      (λ i u. tt),
      (
        (λ i u. tt),
        (
          (λ i u. tt),
          (
            (λ n u. tt),
            (
              (λ n u es w. tt),
              (
                (λ i u n v. tt),
                (λ i u e w j v. tt),
              ),
            ),
          ),
        ),
      ),
    ),
  ),
)
rule_chosen (r.more_operands g l) = ((λ o i m v e f. tt), tt)
rule_chosen (r.more_sends e) = ((λ i u n v es x all f. tt), tt)
rule_chosen r.args = λ i u. ((λ e w es f j v. tt), (λ j v. tt))
rule_chosen (r.more_args es) = ((λ i u e w all f. tt), tt)
rule_chosen (r.more_vars vs) = ((λ a u b v c w d x e y. tt), tt)
rule_chosen r.names = λ n u ns v. tt
rule_chosen (r.more_names ns) = ((λ i u n v all w. tt), tt)
rule_chosen r.kind = ((λ i u. tt), ((λ i u. tt), (λ n u. tt)))
rule_chosen r.params = λ i u. ((λ a v ps w j x. tt), (λ j v. tt))
rule_chosen (r.more_params ps) = ((λ i u a v all w. tt), tt)
rule_chosen r.param = λ n u i v k w. tt
rule_chosen (r.more_locals ls) = ((λ i u ns v j w k x all y. tt), tt)
rule_chosen r.list = λ i u ns v j w. tt

derived : (ts : List Tok) (p : Phrase) (a : Rule (Tree p)) (i j : ℕ) (x : Tree p) → Derives ts p a i j x → KeepsChosen p a → IsChosen p x
derived ts p a i j x nothing w = w
derived ts p a i j x (token {part = part} y t d) w = derived ts p _ _ j x d (w y (token_chosen ts part i y t))
derived ts p a i j x (inner {q = q} y d e) w = derived ts p _ _ j x e (w y (derived ts q _ i _ y d (rule_chosen q)))
derived ts p a i j x (first d) w = derived ts p _ i j x d w.0
derived ts p a i j x (second d) w = derived ts p _ i j x d w.1

pub derived_choices : (ts : List Tok) (p : ProgramTree) → IsProgram ts p → program_has_choices p ≡ true
derived_choices ts p d = derived ts r.program _ _ _ p d (rule_chosen r.program)
