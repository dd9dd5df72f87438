-- The open parts after tokens, computed; signs and words represent the roles of tokens.
use Rattle.std.proofs.Common.{◌≡◌, refl, ℕ, suc, List, [], ◌∷◌, take}
use Rattle.text_scan.specs.declared.keywords.Keyword.TheVariants as word
use Rattle.pool_syntax.specs.declared.token.Tok.{Tok}
use Rattle.pool_syntax.specs.declared.token.Tok.TheVariants as tok
use Rattle.pool_syntax.specs.declared.token.Sign.TheVariants as sign
use Rattle.pool_grammar.specs.Nesting.{nesting, role}
use Rattle.adequacy.specs.Forward.{OpenParts, counts, hides, behind, depth_at, nothing_open}

abbrev x : Tok
x = tok.Name (record { 0 = 0 })

abbrev plus : Tok
plus = tok.Sign sign.Plus

abbrev left : Tok
left = tok.Sign sign.LeftParen

abbrev right : Tok
right = tok.Sign sign.RightParen

-- the depth of each token, told forward and looking back
abbrev forward : OpenParts → List Tok → List ℕ
forward s [] = []
forward s (t ∷ ts) = depth_at s (role t) ∷ forward (behind s (t ∷ [])) ts

abbrev backward : List Tok → ℕ → List Tok → List ℕ
backward all i [] = []
backward all i (t ∷ ts) = nesting all i ∷ backward all (suc i) ts

-- x + (x + x) + x
abbrev sum : List Tok
sum = x ∷ plus ∷ left ∷ x ∷ plus ∷ x ∷ right ∷ plus ∷ x ∷ []

sum_open : behind nothing_open (take 5 sum) ≡ record { operators = 1; brackets = counts 1 ∷ [] }
sum_open = refl

sum_forward : forward nothing_open sum ≡ 0 ∷ 1 ∷ 2 ∷ 2 ∷ 3 ∷ 3 ∷ 2 ∷ 2 ∷ 2 ∷ []
sum_forward = refl

sum_backward : backward sum 0 sum ≡ 0 ∷ 1 ∷ 2 ∷ 2 ∷ 3 ∷ 3 ∷ 2 ∷ 2 ∷ 2 ∷ []
sum_backward = refl

-- a body hides the operators around it until its end, and what closes nothing forgets what was before it: x + begin (x) end x ) x + x
abbrev odd : List Tok
odd = x ∷ plus ∷ tok.Word word.Begin ∷ left ∷ x ∷ right ∷ tok.Word word.End ∷ x ∷ right ∷ x ∷ plus ∷ x ∷ []

odd_open : behind nothing_open (take 4 odd) ≡ record { operators = 0; brackets = counts 0 ∷ hides 1 ∷ [] }
odd_open = refl

odd_forward : forward nothing_open odd ≡ 0 ∷ 1 ∷ 0 ∷ 1 ∷ 1 ∷ 1 ∷ 0 ∷ 1 ∷ 0 ∷ 0 ∷ 1 ∷ 1 ∷ []
odd_forward = refl

odd_backward : backward odd 0 odd ≡ 0 ∷ 1 ∷ 0 ∷ 1 ∷ 1 ∷ 1 ∷ 0 ∷ 1 ∷ 0 ∷ 0 ∷ 1 ∷ 1 ∷ []
odd_backward = refl
