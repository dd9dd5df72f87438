-- The status of each object, and chains of calls that close to a cycle.
use Rattle.std.specs.Prelude.{ℕ, zero, suc, ◌==◌, List, [], ◌∷◌, Option, Some, None, if◌then◌else◌, nat_lt}
use Rattle.run_types.specs.declared.types.Error.{Error}
use Rattle.run_types.specs.Tables.{Pair}
use Rattle.run_types.specs.Partial.{◌>>=◌}
use Rattle.mesh_semantics.specs.Kind as K
use Rattle.mesh_semantics.specs.Kind.{Kind}
use Rattle.mesh_semantics.specs.Language.{Language}
use Rattle.mesh_semantics.specs.Delay as D
use Rattle.mesh_semantics.specs.Delay.{Packet, Holding, Delay, held, arrived_at}
use Rattle.mesh_semantics.specs.Act.{can_step}

pub data Standing : Type 0 where
  Ready : Standing
  Finished : Standing
  Faulted : (error : Error) → Standing
  Calls : (receiver method : ℕ) → Standing
  Creates : (class node : ℕ) → Standing
  Due : Standing
  Awaits : Standing

-- the goal of the packet, if it is the request of o for a new object
abbrev pub goal_in : ℕ → Packet → Option ℕ
goal_in o (D.Create c goal class) = if c == o then Some goal else None
goal_in o _ = None

abbrev pub created_at : ℕ → List (Pair × Packet) → ℕ
created_at o [] = 0
created_at o (e ∷ es) = elim (goal_in o e.1) as (λ z. ℕ) [ None ↦ created_at o es | Some goal ↦ goal ]

abbrev pub standing_by : Delay → ℕ → Option Holding → Kind → Standing
standing_by d o (Some (D.Due v)) k = Due
standing_by d o (Some D.Posted) (K.Send b m args) = Calls b m
standing_by d o t (K.Waits b m) = Calls b m
standing_by d o (Some D.Posted) (K.New class) = Creates class (created_at o d.links)
standing_by d o t K.Finished = Finished
standing_by d o None k = if can_step (arrived_at d o) k then Ready else Awaits
standing_by d o (Some D.Posted) k = Awaits

abbrev pub standing_of : Delay → ℕ → Option Error → Option Holding → Kind → Standing
standing_of d o (Some e) t k = Faulted e
standing_of d o None t k = standing_by d o t k

-- the status is the first that applies: faulted, due, calls, creates, finished, ready, awaits
abbrev pub standing : {S : Type 0} → Language S → Delay → ℕ → S → Standing
standing g d o x = standing_of d o (g.fault x) (held d o) (g.kind o x)

-- the names from o on, of which each calls the next, up to one that calls first; they are above first and at most n;
-- otherwise None
abbrev pub chase : (ℕ → Option ℕ) → ℕ → ℕ → ℕ → Option (List ℕ)
chase calls zero first o = None
chase calls (suc n) first o = calls o >>= λ b. if b == first then Some (o ∷ []) else (if nat_lt first b then (chase calls n first b >>= λ ns. Some (o ∷ ns)) else None)
