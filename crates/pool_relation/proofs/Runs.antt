-- Runs that are joined.
use Rattle.std.proofs.Common.{◌≡◌, refl, sym, ◌∙◌, List, [], ◌∷◌, ◌++◌, Option, Some, None}
use Rattle.run_types.specs.declared.types.Label.{Label}
use Rattle.pool_syntax.specs.Terms.{ProgramTree}
use Rattle.pool_relation.specs.Configuration.{Configuration}
use Rattle.run_types.specs.Partial.{◌>>=◌}
use Rattle.pool_relation.specs.Transition.{transition, run}

-- goes on from what is there
bound : {A B : Type 0} (o : Option A) (next next' : A → Option B) → ((a : A) → next a ≡ next' a) → (o >>= next) ≡ (o >>= next')
bound None next next' h = refl
bound (Some a) next next' h = h a

associated : {A B C : Type 0} (o : Option A) (f : A → Option B) (g : B → Option C) → ((o >>= f) >>= g) ≡ (o >>= λ a. f a >>= g)
associated None f g = refl
associated (Some a) f g = refl

pub run_append : (p : ProgramTree) (c : Configuration) (ls ms : List Label) → run p c (ls ++ ms) ≡ (run p c ls >>= λ d. run p d ms)
run_append p c [] ms = refl
run_append p c (l ∷ ls) ms =
    bound (transition p c l) (λ d. run p d (ls ++ ms)) (λ d. run p d ls >>= λ e. run p e ms) (λ d. run_append p d ls ms)
    ∙ sym (associated (transition p c l) (λ d. run p d ls) (λ e. run p e ms))

pub joined : (p : ProgramTree) (c d : Configuration) (ls ms : List Label) → run p c ls ≡ Some d → run p c (ls ++ ms) ≡ run p d ms
joined p c d ls ms h = run_append p c ls ms ∙ rw h refl

pub none_joined : (p : ProgramTree) (c : Configuration) (ls ms : List Label) → run p c ls ≡ None → run p c (ls ++ ms) ≡ None
none_joined p c ls ms h = run_append p c ls ms ∙ rw h refl
