-- The last operand of a stack, by its cell.
use Rattle.std.proofs.Common.{◌≡◌, ◌≢◌, refl, sym, ap, ◌∙◌, ℕ, zero, suc, ◌-◌, ◌<◌, ◌≤◌, length, Option, Some, None, arith}
use Rattle.std.specs.Prelude.{slice_get, IfSome}
use Rattle.code_typing.specs.declared.cell.Cell.{Cell}
use Rattle.code_typing.specs.declared.cell.Stacks.{Stacks}
use Rattle.code_typing.specs.StackEffects.{Holds, stack_of, topped}
use Rattle.code_typing.proofs.Cells.{deep_most, depth_is, no_top, top_stack}
use Rattle.std.proofs.lemmas.Option.{slice_get_within}

top_by : (s : Stacks) (i : ℕ) (r : Option Cell) → slice_get s.cells.items i ≡ r → stack_of s (suc i) ≡ topped s r
top_by s i None e = no_top s.cells.items i e
top_by s i (Some c) e = top_stack s.cells.items s.chained i c e

before : (n : ℕ) → n ≢ 0 → n ≡ suc (n - 1)
before zero h = absurd (h refl)
before (suc n) h = omega arith

-- a stack that is not the first by what its cell is
pub top_is : (s : Stacks) (n : ℕ) (r : Option Cell) → n ≢ 0 → r ≡ slice_get s.cells.items (n - 1) → stack_of s n ≡ topped s r
top_is s n r h e = ap (stack_of s) (before n h) ∙ top_by s (n - 1) r (sym e)

pub top_below : (s : Stacks) (n : ℕ) (r : Option Cell) → n ≢ 0 → r ≡ slice_get s.cells.items (n - 1) → IfSome r (λ c. c.below < n)
top_below s n None h e = tt
top_below s n (Some c) h e = let b = (s.chained (n - 1) c (sym e)).0 in let z = before n h in omega (arith, b, z)

pub top_there : (s : Stacks) (n : ℕ) (r : Option Cell) → r ≡ slice_get s.cells.items (n - 1) → IfSome r (λ c. Holds s c.below)
top_there s n None e = tt
top_there s n (Some c) e =
    let b = (s.chained (n - 1) c (sym e)).0 in let w = slice_get_within s.cells.items (n - 1) c (sym e) in omega (arith, b, w)

-- a stack is one deeper than the one below it
pub deep_below : (s : Stacks) (n : ℕ) (r : Option Cell) → r ≡ slice_get s.cells.items (n - 1) → IfSome r (λ c. c.depth ≡ suc (length (stack_of s c.below)))
deep_below s n None e = tt
deep_below s n (Some c) e = (s.chained (n - 1) c (sym e)).1 ∙ ap suc (sym (depth_is s.cells.items s.chained c.below))

pub below_number : (s : Stacks) (n : ℕ) → length (stack_of s n) ≤ n
below_number s n = let d = depth_is s.cells.items s.chained n in let m = deep_most s.cells.items s.chained n n (omega arith) in omega (arith, d, m)
