-- The nesting depth of a token in a program, computed from the tokens before it.
use Rattle.std.specs.Prelude.{◌≡◌, ℕ, zero, suc, ◌+◌, ◌<◌, ◌≤◌, Bool, true, false, List, [], ◌∷◌, reverse, take}
use Rattle.pool_syntax.specs.declared.token.Tok.{Tok}
use Rattle.pool_syntax.specs.declared.token.Tok.TheVariants.{Word, Sign, End}
use Rattle.text_scan.specs.declared.keywords.Keyword.TheVariants as word
use Rattle.pool_syntax.specs.declared.token.Sign.TheVariants as sign

-- the role of a token in the nesting
pub data Role : Type 0 where
  -- a bracket that counts until it is closed
  opening : Role
  -- an opening that `end` closes and that is not counted
  beginning : Role
  closing : Role
  operating : Role
  -- between expressions, and in none of them
  parting : Role
  plain : Role

abbrev pub role : Tok → Role
role (Sign sign.LeftParen) = opening
role (Word word.If) = opening
role (Word word.While) = opening
role (Word word.Select) = opening
role (Word word.Begin) = beginning
role (Word word.Body) = beginning
role (Sign sign.RightParen) = closing
role (Word word.Fi) = closing
role (Word word.Od) = closing
role (Word word.End) = closing
role (Word word.Or) = operating
role (Word word.And) = operating
role (Word word.Not) = operating
role (Sign sign.Equal) = operating
role (Sign sign.Differs) = operating
role (Sign sign.Less) = operating
role (Sign sign.LessEq) = operating
role (Sign sign.More) = operating
role (Sign sign.MoreEq) = operating
role (Sign sign.Plus) = operating
role (Sign sign.Minus) = operating
role (Sign sign.Star) = operating
role (Sign sign.Slash) = operating
role (Sign sign.Percent) = operating
role (Sign sign.Bang) = operating
role (Sign sign.BangBang) = operating
role (Word word.Class) = parting
role (Word word.Var) = parting
role (Word word.Method) = parting
role (Word word.Local) = parting
role (Word word.Result) = parting
role (Word word.Post) = parting
role (Word word.Then) = parting
role (Word word.Else) = parting
role (Word word.Do) = parting
role (Word word.Answer) = parting
role (Word word.When) = parting
role (Word word.Write) = parting
role (Sign sign.Becomes) = parting
role (Sign sign.Colon) = parting
role (Sign sign.Semicolon) = parting
role (Sign sign.Comma) = parting
role End = parting
role _ = plain

-- the number of brackets that are open at a place, and of operators whose expression has not ended there; the list
-- has the tokens before the place, with the nearest first. `held` says that no token since then has ended the
-- expression. `closed` is the number of brackets that were closed since then and whose opening is still to be found.
abbrev pub open_before : (held : Bool) (closed : ℕ) → List Tok → ℕ
open_before held closed [] = 0
open_before held zero (t ∷ ts) = elim (role t) [
  | opening ↦ 1 + open_before true 0 ts
  | beginning ↦ open_before false 0 ts
  | closing ↦ open_before held 1 ts
  | operating ↦ elim held [ true ↦ 1 + open_before true 0 ts | false ↦ open_before false 0 ts ]
  | parting ↦ open_before false 0 ts
  | plain ↦ open_before held 0 ts
]
open_before held (suc closed) (t ∷ ts) = elim (role t) [
  | opening ↦ open_before held closed ts
  | beginning ↦ open_before held closed ts
  | closing ↦ open_before held (suc (suc closed)) ts
  | _ ↦ open_before held (suc closed) ts
]

-- the depth of the first token of this list, in which the tokens before it follow, with the nearest first; a bracket
-- and an operator count at themselves, and a bracket counts also at the token that closes it
abbrev pub depth : List Tok → ℕ
depth [] = 0
depth (t ∷ before) = elim (role t) [
  | opening ↦ 1 + open_before true 0 before
  | operating ↦ 1 + open_before true 0 before
  | plain ↦ open_before true 0 before
  | _ ↦ open_before false 0 before
]

-- the nesting depth of the token with the number i
abbrev pub nesting : List Tok → ℕ → ℕ
nesting ts i = depth (reverse (take (i + 1) ts))

-- the token with the number i is the first one whose depth exceeds 200
abbrev pub IsFirstTooDeep : List Tok → ℕ → Type 0
IsFirstTooDeep ts i = (nesting ts i ≡ 201) × ((k : ℕ) → k < i → nesting ts k ≤ 200)
