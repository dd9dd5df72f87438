-- No result is two of the results of a trial. What is so of a value that was found.
use Rattle.std.proofs.Common.{◌≡◌, ℕ, true, false, Option, Some, None, Result, Ok, Err}
use Rattle.std.specs.Prelude.{IfOk, IfSome}
use Rattle.pool_search.specs.declared.choices.Trial.{Trial}
use Rattle.pool_search.specs.declared.choices.Trial.TheVariants as T

pub untrue : false ≡ true → ⊥
untrue h = cc

pub tried_led : {E : Type 0} {i : ℕ} (r : Result Trial E) → r ≡ Ok T.Tried → r ≡ Ok (T.Led i) → ⊥
tried_led r p q = cc

pub led_tried : {E : Type 0} {i : ℕ} (r : Result Trial E) → r ≡ Ok (T.Led i) → r ≡ Ok T.Tried → ⊥
led_tried r p q = cc

pub over_tried : {E : Type 0} (r : Result Trial E) → r ≡ Ok T.Over → r ≡ Ok T.Tried → ⊥
over_tried r p q = cc

pub over_led : {E : Type 0} {i : ℕ} (r : Result Trial E) → r ≡ Ok T.Over → r ≡ Ok (T.Led i) → ⊥
over_led r p q = cc

pub failed_not : {T E : Type 0} {e : E} {v : T} (r : Result T E) → r ≡ Err e → r ≡ Ok v → ⊥
failed_not r p q = cc

-- what is so of a value that was found
pub found_weaker : {T E : Type 0} (P Q : T → Type 0) (r : Result (Option T) E) → ((x : T) → P x → Q x) → IfOk r (λ o. IfSome o P) → IfOk r (λ o. IfSome o Q)
found_weaker P Q (Err e) f h = tt
found_weaker P Q (Ok None) f h = tt
found_weaker P Q (Ok (Some x)) f h = f x h
