-- The answers of the functions of the parser, in the terms of the grammar.
use Rattle.std.specs.Prelude.{◌≡◌, ◌≢◌, ℕ, ◌+◌, ◌<◌, ◌≤◌, List, [], ◌∷◌, ◌++◌, length, Some, Result, Ok, Err, IfOk, slice_get, Bool, true, false}
use Rattle.pool_syntax.specs.Tokens.{toks}
use Rattle.pool_syntax.specs.declared.token.Token.{Token}
use Rattle.pool_syntax.specs.declared.token.Tok.{Tok}
use Rattle.pool_syntax.specs.declared.token.Tok.TheVariants as tok
use Rattle.pool_syntax.specs.declared.tree.Expr.{Expr}
use Rattle.pool_syntax.specs.Terms.{Expression}
use Rattle.pool_grammar.specs.Rules.{Level, Phrase, Tree, Rule, expression, invoke}
use Rattle.pool_grammar.specs.Grammar.{rule}
use Rattle.pool_grammar.specs.Derives.{Derives}
use Rattle.pool_syntax.specs.TreeOf.{expression_of}
use Rattle.expression_parser.specs.declared.fault.SyntaxFault.{SyntaxFault}
use Rattle.expression_parser.specs.declared.fault.SyntaxFault.TheVariants.{Unexpected, TooDeep, Memory}
use Rattle.expression_parser.specs.declared.expressions.PostfixTree.{PostfixTree}
use Rattle.expression_parser.specs.Reads.{Reads, read, refused}

-- the tokens that the parser looks at: those of a slice, followed by `End`
unfoldable pub seen : List Token → List Tok
seen ts = toks ts ++ tok.End ∷ []

-- after each token other than the last `End` comes another one
abbrev pub RunsToEnd : List Token → Type 0
RunsToEnd ts = (i : ℕ) (t : Tok) → slice_get (seen ts) i ≡ Some t → t ≢ tok.End → i + 1 ≤ length ts

-- the fault is the first unexpected token of the rule from the token i on, unless memory ran out
abbrev pub Refuses : List Tok → (p : Phrase) → Rule (Tree p) → ℕ → SyntaxFault → Type 0
Refuses ts p r i (Unexpected at) = Reads ts p r i (refused at)
Refuses ts p r i (TooDeep at) = ⊥
Refuses ts p r i Memory = Unit {0}

-- the answer agrees with the grammar for the rule from the token i on, unless memory ran out
abbrev pub ParsesRule : {A : Type 0} → List Token → (p : Phrase) → Rule (Tree p) → ℕ → (A → Tree p) → Result (A × ℕ) SyntaxFault → Type 0
ParsesRule ts p r i tree_of (Ok x) = Reads (seen ts) p r i (read (tree_of x.0) x.1)
ParsesRule ts p r i tree_of (Err e) = Refuses (seen ts) p r i e

-- the same for a phrase
abbrev pub Parses : {A : Type 0} → List Token → (p : Phrase) → ℕ → (A → Tree p) → Result (A × ℕ) SyntaxFault → Type 0
Parses ts p i tree_of r = ParsesRule ts p (rule p) i tree_of r

-- the same for an expression
abbrev pub ParsesExpression : List Token → Level → ℕ → Result (Expr × ℕ) SyntaxFault → Type 0
ParsesExpression ts level i r = Parses ts (expression level) i expression_of r

-- the tree of a postfix expression
abbrev pub postfix_tree : PostfixTree → Expression
postfix_tree x = expression_of x.tree

-- whether the tokens from the number i up to the number j are an invocation
abbrev pub Invokes : List Tok → ℕ → ℕ → Expression → Bool → Type 0
Invokes ts i j e true = Derives ts invoke (rule invoke) i j e
Invokes ts i j e false = Derives ts invoke (rule invoke) i j e → ⊥

-- the answer of the code about the invocation is right
abbrev pub TellsInvocation : List Token → ℕ → Result (PostfixTree × ℕ) SyntaxFault → Type 0
TellsInvocation ts i r = IfOk r (λ x. Invokes (seen ts) i x.1 (expression_of x.0.tree) x.0.invokes)

-- the tree ends after the token i, and at most at the final `End`
abbrev pub Advances : {A : Type 0} → List Token → ℕ → Result (A × ℕ) SyntaxFault → Type 0
Advances ts i r = IfOk r (λ x. (i < x.1) × (x.1 ≤ length ts))

-- the same for a tree that may have no token
abbrev pub Stays : {A : Type 0} → List Token → ℕ → Result (A × ℕ) SyntaxFault → Type 0
Stays ts i r = IfOk r (λ x. (i ≤ x.1) × (x.1 ≤ length ts))
