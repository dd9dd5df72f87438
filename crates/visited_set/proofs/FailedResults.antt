-- A result is not two different results, and what holds of an error.
use Rattle.std.proofs.Common.{◌≡◌, Bool, true, false, Ok, Err, Option, Some, None}
use Rattle.std.specs.Prelude.{Result, OnErr}

pub not_ok : {T E : Type 0} (r : Result T E) (e : E) (v : T) → r ≡ Err e → r ≡ Ok v → ⊥
not_ok r e v h told = cc

-- what holds of every result holds of an error
pub on_failure : {T E : Type 0} (r : Result T E) (P : Type 0) → P → OnErr r P
on_failure (Ok x) P h = tt
on_failure (Err e) P h = h

pub not_true : {E : Type 0} (r : Result Bool E) → r ≡ Ok false → r ≡ Ok true → ⊥
not_true r p q = cc

pub some_not : {X E : Type 0} {x : X} (r : Result (Option X) E) → r ≡ Ok (Some x) → r ≡ Ok None → ⊥
some_not r p q = cc
