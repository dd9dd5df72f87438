-- The tokens that the parser looks at.
use Rattle.std.proofs.Common.{◌≡◌, ℕ, zero, suc, ◌+◌, ◌≤◌, List, [], ◌∷◌, Some, None, length, slice_get, refl, ap, arith}
use Rattle.pool_syntax.specs.declared.token.Token.{Token}
use Rattle.pool_syntax.specs.declared.token.Tok.{Tok}
use Rattle.pool_syntax.specs.declared.token.Tok.TheVariants as tok
use Rattle.expression_parser.specs.Parses.{seen, RunsToEnd}

pub seen_inside : (ts : List Token) (i : ℕ) (t : Token) → slice_get ts i ≡ Some t → slice_get (seen ts) i ≡ Some t.tok
unfolding seen
seen_inside [] i t h = cc
seen_inside (x ∷ ts) zero t h = let e : x ≡ t = cc in ap (λ (u : Token). Some u.tok) e
seen_inside (x ∷ ts) (suc i) t h = seen_inside ts i t h

pub seen_end : (ts : List Token) (i : ℕ) → slice_get ts i ≡ None → i ≤ length ts → slice_get (seen ts) i ≡ Some tok.End
unfolding seen
seen_end [] zero h l = refl
seen_end [] (suc i) h l = absurd (omega arith)
seen_end (x ∷ ts) zero h l = cc
seen_end (x ∷ ts) (suc i) h l = seen_end ts i h (omega arith)

-- a token stands at each place up to the end
pub seen_within : (ts : List Token) (i : ℕ) → i ≤ length ts → (t : Tok) × (slice_get (seen ts) i ≡ Some t)
unfolding seen
seen_within [] zero l = (tok.End, refl)
seen_within [] (suc i) l = absurd (omega arith)
seen_within (x ∷ ts) zero l = (x.tok, refl)
seen_within (x ∷ ts) (suc i) l = seen_within ts i (omega arith)

pub seen_ended : (ts : List Token) → RunsToEnd ts
unfolding seen
seen_ended [] zero t h n = absurd (n (let e : tok.End ≡ t = cc in cc))
seen_ended [] (suc i) t h n = cc
seen_ended (x ∷ ts) zero t h n = omega arith
seen_ended (x ∷ ts) (suc i) t h n = let l : i + 1 ≤ length ts = seen_ended ts i t h n in omega arith
