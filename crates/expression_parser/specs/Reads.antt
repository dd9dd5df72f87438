-- The specification of a parser of phrases: a tree with its end, or the first unexpected token.
use Rattle.std.specs.Prelude.{◌≡◌, ℕ, ◌+◌, ◌≤◌, ◌⊎◌, IsTrue, Bool, true, false, List, Some, slice_get}
use Rattle.pool_syntax.specs.declared.token.Tok.{Tok}
use Rattle.pool_syntax.specs.declared.token.Tok.TheVariants.{Word, Sign, Name, Int}
use Rattle.text_scan.specs.declared.keywords.Keyword.TheVariants as kw
use Rattle.pool_syntax.specs.declared.token.Sign.TheVariants as sg
use Rattle.pool_grammar.specs.Rules as r
use Rattle.pool_grammar.specs.Rules.{disjunction, conjunction, addition, multiplication, Level, group, comparison, factor, postfix, primary, Phrase, Tree, program, more_classes, class, more_vars}
use Rattle.pool_grammar.specs.Rules.{names, more_names, more_methods, method, post, params, more_params, param, more_locals, stmts, more_stmts, stmt, invoke, alt, more_alts, list, expression}
use Rattle.pool_grammar.specs.Rules.{more_operands, more_sends, args, more_args, Rule}
use Rattle.pool_grammar.specs.Grammar.{rule}
use Rattle.pool_grammar.specs.Derives.{Derives, Begins}

-- whether a statement can begin with the token
abbrev pub begins_statement : Tok → Bool
begins_statement (Name n) = true
begins_statement (Int z) = true
begins_statement (Sign sg.LeftParen) = true
begins_statement (Word kw.Write) = true
begins_statement (Word kw.If) = true
begins_statement (Word kw.While) = true
begins_statement (Word kw.Answer) = true
begins_statement (Word kw.Select) = true
begins_statement (Word kw.New) = true
begins_statement (Word kw.SelfWord) = true
begins_statement (Word kw.Nil) = true
begins_statement (Word kw.True) = true
begins_statement (Word kw.False) = true
begins_statement _ = false

-- the precedence by which a token continues the expression before it: the level of the operator, and 8 for the
-- parenthesis after a method's name
abbrev pub strength : Tok → ℕ
strength (Word kw.Or) = 1
strength (Word kw.And) = 2
strength (Sign sg.Equal) = 3
strength (Sign sg.Differs) = 3
strength (Sign sg.Less) = 3
strength (Sign sg.LessEq) = 3
strength (Sign sg.More) = 3
strength (Sign sg.MoreEq) = 3
strength (Sign sg.Plus) = 4
strength (Sign sg.Minus) = 4
strength (Sign sg.Star) = 5
strength (Sign sg.Slash) = 5
strength (Sign sg.Percent) = 5
strength (Sign sg.Bang) = 7
strength (Sign sg.LeftParen) = 8
strength _ = 0

-- the precedence of a level
abbrev pub level_number : Level → ℕ
level_number (group disjunction) = 1
level_number (group conjunction) = 2
level_number comparison = 3
level_number (group addition) = 4
level_number (group multiplication) = 5
level_number factor = 6
level_number postfix = 7
level_number primary = 8

-- the token may continue the phrase where it could end
abbrev pub GoesOn : Phrase → Tok → Type 0
GoesOn program t = ⊥
GoesOn (more_classes before) t = t ≡ Word kw.Class
GoesOn class t = ⊥
GoesOn (more_vars before) t = t ≡ Word kw.Var
GoesOn names t = t ≡ Sign sg.Comma
GoesOn (more_names before) t = t ≡ Sign sg.Comma
GoesOn r.kind t = ⊥
GoesOn (more_methods before) t = t ≡ Word kw.Method
GoesOn method t = ⊥
GoesOn post t = (t ≡ Word kw.Post) ⊎ IsTrue (begins_statement t) ⊎ (t ≡ Sign sg.Semicolon) ⊎ (1 ≤ strength t) ⊎ (t ≡ Sign sg.BangBang)
GoesOn params t = ⊥
GoesOn (more_params before) t = t ≡ Sign sg.Comma
GoesOn param t = ⊥
GoesOn (more_locals before) t = t ≡ Word kw.Local
GoesOn stmts t = IsTrue (begins_statement t) ⊎ (t ≡ Sign sg.Semicolon) ⊎ (1 ≤ strength t) ⊎ (t ≡ Sign sg.BangBang)
GoesOn (more_stmts before) t = (t ≡ Sign sg.Semicolon) ⊎ (1 ≤ strength t) ⊎ (t ≡ Sign sg.BangBang)
GoesOn stmt t = (1 ≤ strength t) ⊎ (t ≡ Sign sg.BangBang)
GoesOn invoke t = (7 ≤ strength t) ⊎ (t ≡ Sign sg.BangBang)
GoesOn alt t = IsTrue (begins_statement t) ⊎ (t ≡ Sign sg.Semicolon) ⊎ (1 ≤ strength t) ⊎ (t ≡ Sign sg.BangBang)
GoesOn (more_alts before) t = (t ≡ Word kw.When) ⊎ IsTrue (begins_statement t) ⊎ (t ≡ Sign sg.Semicolon) ⊎ (1 ≤ strength t) ⊎ (t ≡ Sign sg.BangBang)
GoesOn list t = ⊥
GoesOn (expression level) t = level_number level ≤ strength t
GoesOn (more_operands g left) t = level_number (group g) ≤ strength t
GoesOn (more_sends to) t = 7 ≤ strength t
GoesOn args t = ⊥
GoesOn (more_args before) t = (t ≡ Sign sg.Comma) ⊎ (1 ≤ strength t)

-- the token with the number i does not continue the phrase
abbrev pub Stops : List Tok → Phrase → ℕ → Type 0
Stops ts p i = (t : Tok) → slice_get ts i ≡ Some t → GoesOn p t → ⊥

-- the answer of a parser: a tree and the number of the token after it, or the number of the first unexpected token
pub data Outcome (A : Type 0) : Type 0 where
  read : (x : A) (next : ℕ) → Outcome A
  refused : (at : ℕ) → Outcome A

-- the tokens before this number begin the phrase, and those up to it do not
abbrev pub edge : {A : Type 0} → Outcome A → ℕ
edge (read x next) = next
edge (refused at) = at

-- o is a correct answer for the rule from the token i on: a tree that was read is derived; a derived tree that no
-- token continues is read; the tokens up to the edge begin the rule, but not those up to one more
pub record Reads (ts : List Tok) (p : Phrase) (r : Rule (Tree p)) (i : ℕ) (o : Outcome (Tree p)) : Type 0 where
  pub sound : (x : Tree p) (j : ℕ) → o ≡ read x j → Derives ts p r i j x
  pub only : (x : Tree p) (j : ℕ) → Derives ts p r i j x → Stops ts p j → o ≡ read x j
  pub begun : Begins ts p r i (edge o)
  pub ends : Begins ts p r i (edge o + 1) → ⊥

-- the same for a phrase
abbrev pub ReadsPhrase : List Tok → (p : Phrase) → ℕ → Outcome (Tree p) → Type 0
ReadsPhrase ts p i o = Reads ts p (rule p) i o
