-- If a table of object states grows, earlier numbers keep their meaning.
use Rattle.std.proofs.Common.{◌≡◌, refl, sym, ap, ap₂, ◌∙◌, ℕ, suc, ◌<◌, ◌≤◌, List, [], ◌∷◌, length, take, get_or, arith}
use Rattle.std.proofs.Math.Seq.{take-length}
use Rattle.std.proofs.lemmas.List.{get_or-take, length-take, take-take}
use Rattle.std.proofs.lemmas.List.Elements.{All-head, All-tail, All-weaker}
use Rattle.run_types.specs.Message.{Message}
use Rattle.run_types.specs.Tables.{Pair}
use Rattle.pool_relation.specs.Action.{Object}
use Rattle.pool_relation.specs.Configuration.{Configuration}
use Rattle.object_moves.specs.Rows.{no_object, objects_from, row, AreWithin}

pub no_shorter : (xs ys : List Object) → take (length xs) ys ≡ xs → length xs ≤ length ys
no_shorter xs ys f = omega (arith, length-take (length xs) ys, ap length f)

pub all_of : (xs : List Object) → take (length xs) xs ≡ xs
all_of xs = take-length xs

-- a front of a front
pub front_of_front : (xs ys zs : List Object) → take (length xs) ys ≡ xs → take (length ys) zs ≡ ys → take (length xs) zs ≡ xs
front_of_front xs ys zs f g = sym (take-take (length xs) (length ys) zs (no_shorter xs ys f)) ∙ ap (take (length xs)) g ∙ f

pub state_still : (xs ys : List Object) (n : ℕ) → take (length xs) ys ≡ xs → n < length xs → get_or ys n no_object ≡ get_or xs n no_object
state_still xs ys n f l = sym (get_or-take (length xs) ys n no_object l) ∙ ap (λ zs. get_or zs n no_object) f

pub objects_still : (o : ℕ) (xs ys : List Object) (ns : List ℕ) → take (length xs) ys ≡ xs → AreWithin xs ns → objects_from o ys ns ≡ objects_from o xs ns
objects_still o xs ys [] f w = refl
objects_still o xs ys (n ∷ ns) f w =
    let h : n < length xs = All-head (λ n. n < length xs) n ns w in
    ap₂ (λ x l. (o, x) ∷ l) (state_still xs ys n f h) (objects_still (suc o) xs ys ns f (All-tail (λ n. n < length xs) n ns w))

pub row_still : (xs ys : List Object) (ns : List ℕ) (ms : List (Pair × List Message)) → take (length xs) ys ≡ xs → AreWithin xs ns → row ys ns ms ≡ row xs ns ms
row_still xs ys ns ms f w = ap (λ os. the_row os) (objects_still 0 xs ys ns f w)
  where
    the_row : List (ℕ × Object) → Configuration
    the_row os = record { objects = os; messages = ms }

pub within_still : (xs ys : List Object) (ns : List ℕ) → take (length xs) ys ≡ xs → AreWithin xs ns → AreWithin ys ns
within_still xs ys ns f w = let m = no_shorter xs ys f in All-weaker (λ n. n < length xs) (λ n. n < length ys) (λ n l. omega arith) ns w
