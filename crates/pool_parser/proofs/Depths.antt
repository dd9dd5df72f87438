-- The depths of the tokens of a list, from the first to the last.
use Rattle.std.proofs.Common.{◌≡◌, ℕ, zero, suc, ◌+◌, ◌≤◌, Bool, true, false, List, [], ◌∷◌, ◌++◌, Some, length, take, reverse, slice_get, refl, ap, ◌∙◌, ⊎_elim, add-one, arith, eq-or-lt_of_le}
use Rattle.std.proofs.lemmas.List.{reverse-append}
use Rattle.std.proofs.lemmas.Option.{slice_get-get_or}
use Rattle.pool_syntax.specs.declared.token.Tok.{Tok}
use Rattle.pool_syntax.specs.declared.token.Tok.TheVariants as tok
use Rattle.pool_grammar.specs.Nesting.{Role, opening, beginning, closing, operating, parting, plain, role, open_before, depth, nesting}
use Rattle.pool_parser.specs.declared.nesting.TokenRole.{TokenRole}
use Rattle.pool_parser.specs.declared.nesting.TokenRole.TheVariants.{Opening, Beginning, Closing, Operating, Parting, Plain}
use Rattle.pool_parser.specs.declared.nesting.Level.{Level}
use Rattle.pool_parser.specs.Depths.{role_of, depth_at, Counts}
use Rattle.pool_grammar.specs.Programs.{IsShallowBelow}

-- no token of these, of which the last comes first, stands too deep
abbrev pub IsShallow : List Tok → Type 0
IsShallow [] = Unit {0}
IsShallow (t ∷ before) = (depth (t ∷ before) ≤ 200) × IsShallow before

-- one token more

take_next : (ts : List Tok) (i : ℕ) (t : Tok) → slice_get ts i ≡ Some t → take (suc i) ts ≡ take i ts ++ t ∷ []
take_next [] i t h = cc
take_next (x ∷ ts) zero t h = let e : x ≡ t = cc in ap (λ (y : Tok). y ∷ []) e
take_next (x ∷ ts) (suc i) t h = ap (λ (ys : List Tok). x ∷ ys) (take_next ts i t h)

before_suc : (ts : List Tok) (i : ℕ) (t : Tok) → slice_get ts i ≡ Some t → reverse (take (suc i) ts) ≡ t ∷ reverse (take i ts)
before_suc ts i t h = ap reverse (take_next ts i t h) ∙ reverse-append (take i ts) (t ∷ [])

pub before_next : (ts : List Tok) (i : ℕ) (t : Tok) → slice_get ts i ≡ Some t → reverse (take (i + 1) ts) ≡ t ∷ reverse (take i ts)
before_next ts i t h = rw add-one (before_suc ts i t h)

-- the nesting of a token, by the levels of those before it
pub depth_counted : (r : TokenRole) (l : Level) (ls : List Level) (t : Tok) (before : List Tok) → role_of r ≡ role t → Counts before (l ∷ ls) → depth_at r l ≡ depth (t ∷ before)
depth_counted Opening l ls t before h c = let a = c true 0 in grind arith
depth_counted Beginning l ls t before h c = let a = c false 0 in grind arith
depth_counted Closing l ls t before h c = let a = c false 0 in grind arith
depth_counted Operating l ls t before h c = let a = c true 0 in grind arith
depth_counted Parting l ls t before h c = let a = c false 0 in grind arith
depth_counted Plain l ls t before h c = let a = c true 0 in grind arith

pub depth_bounded : (r : TokenRole) (l : Level) → l.held ≤ 200 → l.parted ≤ 200 → depth_at r l ≤ 201
depth_bounded Opening l h p = omega arith
depth_bounded Beginning l h p = omega arith
depth_bounded Closing l h p = omega arith
depth_bounded Operating l h p = omega arith
depth_bounded Parting l h p = omega arith
depth_bounded Plain l h p = omega arith

-- as long as no token stands too deep, no more than 200 hold the next one

open_step : (r : Role) (t : Tok) (before : List Tok) (held : Bool) (closed : ℕ) → role t ≡ r → depth (t ∷ before) ≤ 200 → ((h : Bool) (c : ℕ) → open_before h c before ≤ 200) → open_before held closed (t ∷ before) ≤ 200
open_step opening t before held zero e d i = grind arith
open_step opening t before held (suc closed) e d i = let a = i held closed in grind arith
open_step beginning t before held zero e d i = let a = i false 0 in grind arith
open_step beginning t before held (suc closed) e d i = let a = i held closed in grind arith
open_step closing t before held zero e d i = let a = i held 1 in grind arith
open_step closing t before held (suc closed) e d i = let a = i held (suc (suc closed)) in grind arith
open_step operating t before true zero e d i = grind arith
open_step operating t before false zero e d i = let a = i false 0 in grind arith
open_step operating t before held (suc closed) e d i = let a = i held (suc closed) in grind arith
open_step parting t before held zero e d i = let a = i false 0 in grind arith
open_step parting t before held (suc closed) e d i = let a = i held (suc closed) in grind arith
open_step plain t before held zero e d i = let a = i held 0 in grind arith
open_step plain t before held (suc closed) e d i = let a = i held (suc closed) in grind arith

pub open_shallow : (before : List Tok) → IsShallow before → (held : Bool) (closed : ℕ) → open_before held closed before ≤ 200
open_shallow [] s held closed = omega arith
open_shallow (t ∷ before) s held closed = open_step (role t) t before held closed refl s.0 (open_shallow before s.1)

-- token by token

pub shallow_next : (ts : List Tok) (i : ℕ) (t : Tok) → slice_get ts i ≡ Some t → IsShallow (reverse (take i ts)) → depth (t ∷ reverse (take i ts)) ≤ 200 → IsShallow (reverse (take (i + 1) ts))
shallow_next ts i t h s d = rw (before_next ts i t h) (d, s)

pub nesting_next : (ts : List Tok) (i : ℕ) (t : Tok) → slice_get ts i ≡ Some t → nesting ts i ≡ depth (t ∷ reverse (take i ts))
nesting_next ts i t h = ap depth (before_next ts i t h)

pub shallow_below : (ts : List Tok) (n : ℕ) → n ≤ length ts → IsShallow (reverse (take n ts)) → IsShallowBelow ts n
shallow_below ts zero l s k m = absurd (omega arith)
shallow_below ts (suc n) l s k m =
    let h = slice_get-get_or ts n tok.End (omega arith) in
    let p = rw (before_suc ts n _ h) at s in
    ⊎_elim (λ e. rw e (rw (nesting_next ts n _ h) p.0)) (λ e. shallow_below ts n (omega arith) p.1 k (omega arith)) (eq-or-lt_of_le (let a : k ≤ n = omega arith in a))
