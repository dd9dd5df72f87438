-- The jumps at the ends of the lists of a select, which are patched as soon as the place after the last list is known.
use Rattle.std.specs.Prelude.{ℕ, suc, ◌+◌, List, [], ◌∷◌, length, slice_set}
use Rattle.pool_syntax.specs.Terms.{Alternatives, NoAlts, Alt}
use Rattle.code_semantics.specs.declared.unit.Instr.{Instr}
use Rattle.code_semantics.specs.declared.unit.Instr.TheVariants as I
use Rattle.pool_compile.specs.Code.{Numbering, statements_code}

-- the places of these jumps, if the first list begins at the place `at`
abbrev pub jumps_at : Numbering → ℕ → Alternatives → List ℕ
jumps_at g at NoAlts = []
jumps_at g at (Alt e names ss alts) =
    (at + length (statements_code g at ss)) ∷ jumps_at g (suc (at + length (statements_code g at ss))) alts

-- the code with a jump to the place `end` at each of these places
abbrev pub filled : List Instr → List ℕ → ℕ → List Instr
filled c [] end = c
filled c (p ∷ ps) end = filled (slice_set c p (I.Jump end)) ps end
