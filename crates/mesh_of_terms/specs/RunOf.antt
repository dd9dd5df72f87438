-- Records that are runs of the transition relation, with all facts that the theorem about records gives.
use Rattle.std.specs.Prelude.{◌≡◌, ℕ, List, ◌++◌, Some, None, true}
use Rattle.pool_syntax.specs.Terms.{ProgramTree}
use Rattle.run_types.specs.declared.types.Label.{Label}
use Rattle.run_types.specs.declared.types.Placement.{Placement}
use Rattle.pool_relation.specs.Action.{Object, action}
use Rattle.pool_relation.specs.Configuration.{Configuration, object_of}
use Rattle.pool_relation.specs.Transition.{transition, run}
use Rattle.pool_relation.specs.Typed.{GoesWrong, Typed}
use Rattle.mesh_semantics.specs.Delay.{Delay}
use Rattle.mesh_semantics.specs.Record.{Record, EndsOnce, labels, ends_quiet}
use Rattle.mesh_semantics.specs.Sound.{IsSound}
use Rattle.mesh_of_terms.specs.Terms.{terms, plain}
pub use Rattle.mesh_of_terms.specs.TypedTerms.{TypedTerms}
use Rattle.mesh_of_terms.specs.LineOf.{AreMade}

-- a typed configuration in which no object goes wrong
pub record IsRight (p : ProgramTree) (c : Configuration) : Type 0 where
  pub typed : Typed p c
  pub nobody : (o : ℕ) (x : Object) → object_of c o ≡ Some x → ¬ (GoesWrong p c o (action p o x))

-- the labels lead from c to z through a typed configuration in which no object goes wrong, to which front leads
pub record GoesBy (p : ProgramTree) (c z : Configuration) (front rest : List Label) : Type 0 where
  pub between : Configuration
  pub to : run p c front ≡ Some between
  pub from : run p between rest ≡ Some z
  pub right : IsRight p between

-- A record of a run from c with its delay d, with turns of at most q local transitions. It has event lines and then
-- one end line. Its labels are a run of the relation to its last configuration, which is sound with its delay. After
-- each prefix of the labels the configuration is typed and no object goes wrong. Each event line was made where the
-- lines before it lead. If the record ends quiet, no label is possible there.
pub record IsRunFrom (p : ProgramTree) (l : Placement) (q : ℕ) (c : Configuration) (d : Delay) (r : Record Object) : Type 0 where
  pub lines : EndsOnce r.lines
  pub leads : run p c (labels r.lines) ≡ Some (plain r.last)
  pub sound : IsSound (terms p) (TypedTerms p) l r.last r.delay
  pub fronts : (front rest : List Label) → front ++ rest ≡ labels r.lines → GoesBy p c (plain r.last) front rest
  pub made : AreMade p l q c d r.lines
  pub rests : ends_quiet r.lines ≡ true → (lab : Label) → transition p (plain r.last) lab ≡ None
