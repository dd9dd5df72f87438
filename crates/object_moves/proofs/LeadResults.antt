-- No result is two of the results of a lead.
use Rattle.std.proofs.Common.{◌≡◌, Result, Ok, Err, Bool, true, false}
use Rattle.object_moves.specs.declared.known.Lead.{Lead}
use Rattle.object_moves.specs.declared.known.Lead.TheVariants as L

pub unknown_impossible : {E : Type 0} (r : Result Lead E) → r ≡ Ok L.Unknown → r ≡ Ok L.Impossible → ⊥
unknown_impossible r p q = cc

pub unknown_made : {E : Type 0} (r : Result Lead E) → r ≡ Ok L.Unknown → r ≡ Ok L.Made → ⊥
unknown_made r p q = cc

pub impossible_made : {E : Type 0} (r : Result Lead E) → r ≡ Ok L.Impossible → r ≡ Ok L.Made → ⊥
impossible_made r p q = cc

pub made_impossible : {E : Type 0} (r : Result Lead E) → r ≡ Ok L.Made → r ≡ Ok L.Impossible → ⊥
made_impossible r p q = cc

pub failed_not : {T E : Type 0} {e : E} {v : T} (r : Result T E) → r ≡ Err e → r ≡ Ok v → ⊥
failed_not r p q = cc

pub not_true : {E : Type 0} (r : Result Bool E) → r ≡ Ok false → r ≡ Ok true → ⊥
not_true r p q = cc
