-- The table and the visits that the verifier's state represents, and one step of its data-flow analysis.
use Rattle.std.specs.Prelude.{◌≡◌, ℕ, ◌+◌, ◌^◌, ◌==◌, ◌≤◌, ◌&&◌, List, [], ◌∷◌, ◌++◌, length, drop, map, reverse, Option, Some, None, is_none, Bool, true, false, if◌then◌else◌, slice_get, slice_set}
use Rattle.std.specs.List.{list_all}
use Rattle.run_types.specs.Partial.{◌>>=◌}
use Rattle.run_types.specs.Tables.{Each}
use Rattle.code_semantics.specs.declared.unit.Instr.{Instr}
use Rattle.code_semantics.specs.ReachedPlaces.{nexts}
use Rattle.code_typing.specs.Sorts.{CodeScope, Stack, left_by}
use Rattle.code_typing.specs.Verdict.{Table, Visit, followed, most, stacks_equal}
use Rattle.code_verifier.specs.declared.spread.Visit.{Visit as AVisit}
use Rattle.code_verifier.specs.declared.effects.Left.{Left}
use Rattle.code_verifier.specs.declared.spread.Effect.{Effect}
use Rattle.code_verifier.specs.declared.spread.Spread.{Spread}
use Rattle.code_typing.specs.declared.cell.Stacks.{Stacks}
use Rattle.code_typing.specs.StackEffects.{Holds, Keeps, stack_at, stack_of, with_sort}

abbrev pub to_place : ℕ → ℕ → AVisit
to_place stack at = record { place = at; stack = stack }

abbrev pub visit_of : Stacks → AVisit → Visit
visit_of s v = (v.place, stack_of s v.stack)

-- for each place, the stack with which it was reached, if it was reached
abbrev pub table_by : Spread → Table
table_by x = map (stack_at x.stacks) x.table.items

-- the visits that are left, the next first
abbrev pub visits_by : Spread → List Visit
visits_by x = map (visit_of x.stacks) (reverse x.visits.items)

abbrev pub IsSeen : Stacks → Option ℕ → Type 0
IsSeen s None = Unit {0}
IsSeen s (Some n) = Holds s n

-- each number is the number of a stack
abbrev pub SpreadInvariant : Spread → Type 0
SpreadInvariant x = Each (IsSeen x.stacks) x.table.items × Each (λ v. Holds x.stacks v.stack) (reverse x.visits.items)

-- a table, and the visits that are left
abbrev pub Outcome : Type 0
Outcome = Option (Table × List Visit)

abbrev pub stepped_by : CodeScope → List Instr → Table → Visit → List Visit → Option (Option Stack) → Outcome
stepped_by g c t v vs None = None
stepped_by g c t v vs (Some (Some r)) = if stacks_equal r v.1 then Some (t, vs) else None
stepped_by g c t v vs (Some None) = followed g v.0 v.1 (slice_get c v.0) >>= λ ws. Some (slice_set t v.0 (Some v.1), ws ++ vs)

-- a visit of a place: the place has this stack already, or it is new, and the visits that follow are added
abbrev pub stepped : CodeScope → List Instr → Table → Visit → List Visit → Outcome
stepped g c t v vs = stepped_by g c t v vs (slice_get t v.0)

-- the outcome of a visit
abbrev pub gone : Bool → Spread → Outcome
gone false x = None
gone true x = Some (table_by x, visits_by x)

-- y is x without the visit v, which is the next of x
pub record Takes (x : Spread) (v : AVisit) (y : Spread) : Type 0 where
  pub kept : SpreadInvariant y
  pub there : Holds y.stacks v.stack
  pub table : table_by y ≡ table_by x
  pub visits : visits_by x ≡ visit_of y.stacks v ∷ visits_by y

-- the next visit is taken, or none is left
abbrev pub IsNext : Spread → Option AVisit → Spread → Type 0
IsNext x None y = (visits_by x ≡ []) × (table_by y ≡ table_by x)
IsNext x (Some v) y = Takes x v y

-- an instruction that can take the stack, with its effect
pub record HasEffect (g : CodeScope) (c : List Instr) (s : Stacks) (v : AVisit) (e : Effect) : Type 0 where
  pub at : slice_get c v.place ≡ Some e.instr.now
  pub few : length (stack_of s v.stack) ≤ 64
  pub left : left_by g e.instr.now (stack_of s v.stack) ≡ Some (with_sort e.left.pushed (stack_of s e.left.below))
  pub below : Holds s e.left.below

abbrev pub IsEffect : CodeScope → List Instr → Stacks → AVisit → Option Effect → Type 0
IsEffect g c s v None = followed g v.place (stack_of s v.stack) (slice_get c v.place) ≡ None
IsEffect g c s v (Some e) = HasEffect g c s v e

-- the stack of a place is recorded, and the visits that follow are added
pub record IsNoted (x : Spread) (v : AVisit) (i : Instr) (l : Left) (y : Spread) : Type 0 where
  pub stack : ℕ
  pub keeps : Keeps x.stacks y.stacks
  pub holds : Holds y.stacks stack
  pub left : stack_of y.stacks stack ≡ with_sort l.pushed (stack_of x.stacks l.below)
  pub table : y.table.items ≡ slice_set x.table.items v.place (Some v.stack)
  pub visits : reverse y.visits.items ≡ map (to_place stack) (nexts v.place i) ++ reverse x.visits.items

-- the words of a frame are the number of temps plus the greatest depth of a stack, and no place from 2^32 on is reached
abbrev pub fits_by : ℕ → ℕ → Table → Bool
fits_by words temps t = words == temps + most t && list_all is_none (drop (2 ^ 32) t)
