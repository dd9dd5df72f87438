-- The first possible alternative.
use Rattle.std.proofs.Common.{◌≡◌, refl, sym, ap, subst, ◌∙◌, ℕ, zero, suc, ◌+◌, ◌<◌, List, [], ◌∷◌, length, drop, Some, true, false, if◌then◌else◌, add-one, arith}
use Rattle.std.specs.Prelude.{slice_get}
use Rattle.code_semantics.specs.Kinds.{Offered}
use Rattle.object_interp.specs.Offers.{offer_at}
use Rattle.slot_queues.specs.declared.Message.{Message}
use Rattle.node_state.specs.Choices.{may_go, first_of_these}

choose_step : (box : List Message) (n : ℕ) (os : List Offered) (i : ℕ) → i < length os
    → first_of_these box n (drop i os) ≡ (if may_go box (slice_get os i) then Some n else first_of_these box (n + 1) (drop (suc i) os))
choose_step box n [] i h = absurd (omega arith)
choose_step box n (a ∷ os) zero h = refl
choose_step box n (a ∷ os) (suc i) h = choose_step box n os i (omega arith)

at_next : (os : List Offered) (i : ℕ) → offer_at os (i + 1) ≡ slice_get os i
at_next os i = rw add-one refl

pub chosen_here : (box : List Message) (os : List Offered) (i : ℕ) → i < length os → first_of_these box (i + 1) (drop i os) ≡ first_of_these box 1 os
    → may_go box (offer_at os (i + 1)) ≡ true → Some (i + 1) ≡ first_of_these box 1 os
chosen_here box os i h invariant t =
    let u : may_go box (slice_get os i) ≡ true = rw at_next at t in
    let step : first_of_these box (i + 1) (drop i os) ≡ Some (i + 1) = choose_step box (i + 1) os i h ∙ ap (λ b. if b then Some (i + 1) else first_of_these box (i + 1 + 1) (drop (suc i) os)) u in
    sym step ∙ invariant

pub chosen_later : (box : List Message) (os : List Offered) (i : ℕ) → i < length os → first_of_these box (i + 1) (drop i os) ≡ first_of_these box 1 os
    → may_go box (offer_at os (i + 1)) ≡ false → first_of_these box (i + 1 + 1) (drop (i + 1) os) ≡ first_of_these box 1 os
chosen_later box os i h invariant t =
    let u : may_go box (slice_get os i) ≡ false = rw at_next at t in
    let step : first_of_these box (i + 1) (drop i os) ≡ first_of_these box (i + 1 + 1) (drop (suc i) os) =
    choose_step box (i + 1) os i h ∙ ap (λ b. if b then Some (i + 1) else first_of_these box (i + 1 + 1) (drop (suc i) os)) u in
    let e : suc i ≡ i + 1 = omega arith in
    subst (λ (k : ℕ). first_of_these box (i + 1 + 1) (drop k os) ≡ first_of_these box 1 os) e (sym step ∙ invariant)
