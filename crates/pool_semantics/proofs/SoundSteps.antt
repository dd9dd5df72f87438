-- A step keeps the invariant of a `Plain`.
use Rattle.std.proofs.Common.{◌≡◌, refl, ap, ℕ, List, [], ◌∷◌, Some, Bool, true, false, arith}
use Rattle.std.proofs.Math.Logic.{∥∥₁_elim, ∥∥₁_map}
use denote.Struct.Props.{props}
use Rattle.run_types.specs.declared.types.Label.{Label}
use Rattle.pool_syntax.specs.Terms.{ProgramTree}
use Rattle.pool_syntax.specs.TreeOf.{program_of}
use Rattle.pool_syntax.specs.Typing.{faults}
use Rattle.pool_relation.specs.Action.{Object, action}
use Rattle.pool_relation.specs.Configuration.{Configuration, object_of}
use Rattle.pool_semantics.specs.declared.plain.state.State.{State}
use Rattle.pool_relation.specs.Transition.{transition}
use Rattle.pool_semantics.specs.Plains.{Stepped, configuration}
use Rattle.pool_semantics.specs.Sound.{Sound}
use Rattle.pool_relation.specs.Typed.{GoesWrong, Typed}
use Rattle.pool_relation.proofs.Laws.{typed}
use Rattle.pool_semantics.proofs.TypedFacts.{nobody_goes_wrong, sound_is_kept}

pub sound_after : (b : Bool) (l : Label) (s t : State) → Stepped b (transition (program_of s.program.now) (configuration s) l) s t → Sound (program_of s.program.now) (configuration s) → Sound (program_of t.program.now) (configuration t)
sound_after true l s t z f =
    let k : program_of t.program.now ≡ program_of s.program.now = ap (λ r. program_of r.now) z.1 in
    rw k (sound_is_kept (program_of s.program.now) (configuration s) (configuration t) l f z.0)
sound_after false l s t z f = rw z.1 f

-- what a Plain that is not spent keeps
pub typed_now : (b : Bool) (p : ProgramTree) (c : Configuration) → ∥ (b ≡ false → Sound p c) ∥₁ → b ≡ false → Typed p c
typed_now b p c k h = typed p c (∥∥₁_map k (λ f. (f h).typed))

pub sound_now : (b : Bool) (p : ProgramTree) (c : Configuration) → ∥ (b ≡ false → Sound p c) ∥₁ → b ≡ false → Sound p c
sound_now b p c k h = record {
  faultless = none_of (faults p) (∥∥₁_map k (λ f. (f h).faultless));
  written = ∥∥₁_elim (∥∥₁_map k (λ f. (f h).written)) (hlevel props) (λ e. e);
  typed = typed_now b p c k h;
}
  where
    none_of : {X : Type 0} (xs : List X) → ∥ xs ≡ [] ∥₁ → xs ≡ []
    none_of [] m = refl
    none_of (x ∷ xs) m = absurd (∥∥₁_elim m (λ y z. absurd y) (λ e. grind (arith, e)))

pub right_now : (b : Bool) (p : ProgramTree) (c : Configuration) (o : ℕ) (x : Object) → ∥ (b ≡ false → Sound p c) ∥₁ → b ≡ false
    → object_of c o ≡ Some x → ¬ (GoesWrong p c o (action p o x))
right_now b p c o x k h i g = ∥∥₁_elim k (λ y z. absurd y) (λ f. nobody_goes_wrong p c o x (f h) i g)
