-- The boxes of an empty mailbox, and its invariant.
use Rattle.std.proofs.Common.{◌≡◌, ℕ, zero, suc, ◌+◌, ◌<◌, ◌≤◌, List, [], ◌++◌, get_or, replicate, refl, sym, ap, ◌∙◌, subst, arith}
use Rattle.std.proofs.lemmas.List.{same_lists, length-replicate, get_or-replicate}
use Rattle.std.proofs.lemmas.List.FromFn.{get_or-map-range_with_len}
use Rattle.run_types.specs.Tables.{Each}
use Rattle.slot_queues.specs.declared.Message.{Message}
use Rattle.slot_queues.specs.declared.lanes.Stamped.{Stamped}
use Rattle.slot_queues.specs.Lanes.{shared, in_order, joined, of_slot, messages, box_in, boxes_in, IsChain, IsNear, times, sizes, IsKept}
use Rattle.slot_queues.proofs.Kept.{boxes_length}

-- so many lists without elements
abbrev pub blanks : {X : Type 0} → ℕ → List (List X)
blanks n = replicate n []

blank_at : {X : Type 0} (n q : ℕ) → get_or (blanks {X = X} n) q [] ≡ []
blank_at zero q = refl
blank_at (suc n) zero = refl
blank_at (suc n) (suc q) = blank_at n q

joined_blanks : (n m : ℕ) → joined n (blanks m) ≡ []
joined_blanks zero m = refl
joined_blanks (suc n) zero = refl
joined_blanks (suc n) (suc m) = joined_blanks n m

sizes_blanks : (X : Type 0) (n : ℕ) → sizes (blanks {X = X} n) ≡ 0
sizes_blanks X zero = refl
sizes_blanks X (suc n) = omega (arith, sizes_blanks X n)

box_blank : (n m s : ℕ) → box_in (blanks m) n s ≡ []
box_blank n m s = ap (λ z. messages (in_order (of_slot s z)) ++ messages (get_or (blanks m) (n + s) [])) (joined_blanks n m) ∙ ap messages (blank_at m (n + s))

pub boxes_blank : (n m objects : ℕ) → boxes_in (blanks m) n objects ≡ blanks objects
boxes_blank n m objects =
    same_lists (boxes_in (blanks m) n objects) (blanks objects) (boxes_length (blanks m) n objects ∙ sym (length-replicate objects []))
    (λ k d h. let below : k < objects = omega (arith, h, boxes_length (blanks m) n objects) in
    get_or-map-range_with_len (box_in (blanks m) n) 0 objects k k d below (omega arith) ∙ box_blank n m k ∙ sym (get_or-replicate objects k [] d below))

pub kept_blank : (cells objects : ℕ) → IsKept (blanks (shared cells + objects)) cells 0 objects
kept_blank cells objects =
    let n : ℕ = shared cells in let m : ℕ = n + objects in record {
      count = length-replicate m [];
      chains = λ q less. subst IsChain (sym (blank_at m q)) tt;
      near = λ q less. subst (λ z. Each (IsNear cells 0 q) z) (sym (blank_at m q)) tt;
      once = λ t. subst (λ z. times t z ≤ 1) (sym (joined_blanks n m)) (omega arith);
      sum = ap sizes (boxes_blank n m objects) ∙ sizes_blanks Message objects ∙ sym (sizes_blanks Stamped m);
    }
