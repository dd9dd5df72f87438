-- The conditions for request numbers, tested for terms at each object of each configuration of a whole run over four
-- nodes.
use Rattle.std.proofs.Common.{◌≡◌, refl, ℕ, ◌+◌, ◌==◌, List, [], ◌∷◌, Option, Some, None, Bool, true, false, ◌&&◌, if◌then◌else◌}
use Rattle.std.specs.List.{list_all}
use Rattle.run_types.specs.declared.types.Value.TheVariants as V
use Rattle.run_types.specs.declared.types.Event.{Event}
use Rattle.run_types.specs.declared.types.Placement.{Placement}
use Rattle.mesh_semantics.specs.Kind as K
use Rattle.mesh_semantics.specs.Kind.{Kind, Alternative, waits_on, has_name}
use Rattle.mesh_semantics.specs.Language.{Language}
use Rattle.mesh_semantics.specs.Config.{Config, object_of}
use Rattle.mesh_semantics.specs.Delay.{Delay, no_delay}
use Rattle.mesh_semantics.specs.Act as A
use Rattle.mesh_semantics.specs.Act.{Acted, act}
use Rattle.mesh_semantics.specs.Record.{start}
use Rattle.mesh_of_terms.specs.Terms.{terms}
use Rattle.mesh_of_terms.proofs.FourNodes.{program, placement}
use Rattle.mesh_of_terms.proofs.MachineRuns.{rounds}

abbrev same : List ℕ → List ℕ → Bool
same [] [] = true
same (x ∷ xs) (y ∷ ys) = x == y && same xs ys
same _ _ = false

abbrev waits : Kind → ℕ → ℕ → Bool
waits (K.Waits b m) r n = b == r && m == n
waits _ r n = false

abbrev picks_hold : {S : Type 0} → Language S → ℕ → S → ℕ → List Alternative → Bool
picks_hold g o x i [] = true
picks_hold g o x i (a ∷ alts) = same (g.callers (g.picked o x i)) (g.callers x) && picks_hold g o x (i + 1) alts

abbrev kind_holds : {S : Type 0} → Language S → ℕ → S → Kind → Bool
kind_holds g o x K.Local = same (g.callers (g.stepped o x)) (g.callers x)
kind_holds g o x (K.Async b m args) = same (g.callers (g.done x)) (g.callers x)
kind_holds g o x (K.Write item) = same (g.callers (g.done x)) (g.callers x)
kind_holds g o x (K.Return k v) = same (g.callers x) (k ∷ g.callers (g.returned x))
kind_holds g o x (K.Select alts) = picks_hold g o x 1 alts
kind_holds g o x (K.Send b m args) =
    waits (g.kind o (g.waiting x b m)) b m && same (g.callers (g.waiting x b m)) (g.callers x) && g.frames (g.waiting x b m) == g.frames x
    && same (g.callers (g.given x V.Nil)) (g.callers x) && g.frames (g.given x V.Nil) == g.frames x
    && same (g.callers (g.given (g.waiting x b m) V.Nil)) (g.callers (g.given x V.Nil))
kind_holds g o x (K.New class) = same (g.callers (g.given x (V.Ref 0))) (g.callers x) && g.frames (g.given x (V.Ref 0)) == g.frames x
kind_holds g o x (K.Fault e) = same (g.callers (g.faulted x e)) (g.callers x)
kind_holds g o x _ = true

abbrev waits_for : {S : Type 0} → Language S → ℕ → ℕ → Option S → Bool
waits_for g b k None = false
waits_for g b k (Some y) = waits_on (g.kind k y) b

abbrev serves : {S : Type 0} → Language S → ℕ → Option S → Bool
serves g k None = false
serves g k (Some y) = has_name (g.callers y) k

-- whom it waits for serves it
abbrev is_served : {S : Type 0} → Language S → Config S → ℕ → Kind → Bool
is_served g c o (K.Waits b m) = serves g o (object_of c b)
is_served g c o _ = true

abbrev holds : {S : Type 0} → Language S → Config S → Bool
holds g c = list_all (λ e. kind_holds g e.0 e.1 (g.kind e.0 e.1) && list_all (λ k. waits_for g e.0 k (object_of c k)) (g.callers e.1) && is_served g c e.0 (g.kind e.0 e.1)) c.objects

-- how many events are made, with all that is asked before each
abbrev along : {S : Type 0} → Language S → Placement → ℕ → Config S → Delay → List Event → ℕ
along g l q c d [] = 0
along g l q c d (e ∷ es) = if holds g c then on (act g l q c d e) (λ c' d'. along g l q c' d' es) else 0
  where
    on : {S : Type 0} → Acted S → (Config S → Delay → ℕ) → ℕ
    on (A.Acts w c d) rest = 1 + rest c d
    on (A.Full k n) rest = 0
    on A.Nothing rest = 0

abbrev from_start : {S : Type 0} → Language S → Placement → ℕ → Option (Config S) → List Event → ℕ
from_start g l q None es = 0
from_start g l q (Some c) es = along g l q c no_delay es

-- 70 rounds are 840 events; the run is quiet after 805
all_hold : from_start (terms program) placement 50 (start (terms program) placement) (rounds 70) ≡ 840
all_hold = refl
