-- The facts about typed configurations that the stepper needs, from the theorems about typing.
use Rattle.std.proofs.Common.{◌≡◌, ℕ, [], Some, IsTrue}
use Rattle.run_types.specs.declared.types.Label.{Label}
use Rattle.pool_syntax.specs.Terms.{ProgramTree}
use Rattle.pool_syntax.specs.Typing.{faults}
use Rattle.pool_relation.specs.Action.{Object, action}
use Rattle.pool_relation.specs.Configuration.{Configuration, object_of}
use Rattle.pool_relation.specs.Transition.{transition, start}
use Rattle.pool_relation.specs.Typed.{GoesWrong}
use Rattle.pool_syntax.specs.Written.{is_written}
use Rattle.pool_semantics.specs.Sound.{Sound}
use Rattle.pool_relation.proofs.Laws.{not_wrong, typed_kept, start_typed}

-- the start of a checked program
pub start_is_sound : (p : ProgramTree) (n : ℕ) (c : Configuration) → faults p ≡ [] → IsTrue (is_written p) → start p n ≡ Some c → Sound p c
start_is_sound p n c none written s = record { faultless = none; written = written; typed = start_typed p none written n c s }

-- each transition
pub sound_is_kept : (p : ProgramTree) (c d : Configuration) (l : Label) → Sound p c → transition p c l ≡ Some d → Sound p d
sound_is_kept p c d l s t =
    record { faultless = s.faultless; written = s.written; typed = typed_kept p c d l s.faultless s.written s.typed t }

-- no object goes wrong
pub nobody_goes_wrong : (p : ProgramTree) (c : Configuration) (o : ℕ) (x : Object) → Sound p c → object_of c o ≡ Some x → GoesWrong p c o (action p o x) → ⊥
nobody_goes_wrong p c o x s h = not_wrong p s.faultless s.written c o x s.typed h
