-- The slots that contracts see of the parts of a node.
use Rattle.std.proofs.Common.{◌≡◌, refl, ap, ◌∙◌, ℕ, zero, suc, ◌+◌, ◌<◌, List, [], ◌∷◌, ◌++◌, length, take, get_or, map, Option, Some, None, arith}
use Rattle.std.specs.Prelude.{slice_get, slice_set}
use Rattle.run_types.specs.declared.types.Error.{Error}
use Rattle.run_types.specs.declared.frames.CodeObject.{CodeObject}
use Rattle.node_heap.specs.Heaps.{no_object}
use Rattle.mesh_of_code.specs.Coded.{Placed}
use Rattle.node_semantics.specs.Node.{Slot, set_at, placed}
use Rattle.slot_queues.specs.declared.Message.{Message}
use Rattle.node_state.specs.Views.{slot_by, slots_by, head_or, tail_of}

pub slot_here : (xs : List CodeObject) (os : List (Option ℕ)) (fs : List (Option Error)) (gs : List ℕ) (bs : List (List Message)) (i : ℕ) → i < length xs
    → slice_get (slots_by xs os fs gs bs) i ≡ Some (slot_by (get_or xs i no_object) (get_or os i None) (get_or fs i None) (get_or gs i 0) (get_or bs i []))
slot_here [] os fs gs bs i h = absurd (omega arith)
slot_here (x ∷ xs) os fs gs bs zero h = rw (head os None, head fs None, head gs 0, head bs []) refl
  where
    head : {X : Type 0} (ys : List X) (d : X) → head_or d ys ≡ get_or ys 0 d
    head [] d = refl
    head (y ∷ ys) d = refl
slot_here (x ∷ xs) os fs gs bs (suc i) h =
    slot_here xs (tail_of os) (tail_of fs) (tail_of gs) (tail_of bs) i (omega arith)
    ∙ rw (tail os i None, tail fs i None, tail gs i 0, tail bs i []) refl
  where
    tail : {X : Type 0} (ys : List X) (i : ℕ) (d : X) → get_or (tail_of ys) i d ≡ get_or ys (suc i) d
    tail [] i d = refl
    tail (y ∷ ys) i d = refl

pub slots_length : (xs : List CodeObject) (os : List (Option ℕ)) (fs : List (Option Error)) (gs : List ℕ) (bs : List (List Message)) → length (slots_by xs os fs gs bs) ≡ length xs
slots_length [] os fs gs bs = refl
slots_length (x ∷ xs) os fs gs bs = ap suc (slots_length xs (tail_of os) (tail_of fs) (tail_of gs) (tail_of bs))

pub slots_set : (xs : List CodeObject) (os : List (Option ℕ)) (fs : List (Option Error)) (gs : List ℕ) (bs : List (List Message)) (i : ℕ)
    (y : CodeObject) (r : Option ℕ) (f : Option Error) (g : ℕ) (b : List Message) → i < length os → i < length fs → i < length gs → i < length bs
    → slots_by (slice_set xs i y) (slice_set os i r) (slice_set fs i f) (slice_set gs i g) (slice_set bs i b) ≡ set_at (slots_by xs os fs gs bs) i (slot_by y r f g b)
slots_set [] os fs gs bs i y r f g b h j k l = refl
slots_set (x ∷ xs) [] fs gs bs i y r f g b h j k l = absurd (omega arith)
slots_set (x ∷ xs) (o ∷ os) [] gs bs i y r f g b h j k l = absurd (omega arith)
slots_set (x ∷ xs) (o ∷ os) (f' ∷ fs) [] bs i y r f g b h j k l = absurd (omega arith)
slots_set (x ∷ xs) (o ∷ os) (f' ∷ fs) (g' ∷ gs) [] i y r f g b h j k l = absurd (omega arith)
slots_set (x ∷ xs) (o ∷ os) (f' ∷ fs) (g' ∷ gs) (b' ∷ bs) zero y r f g b h j k l = refl
slots_set (x ∷ xs) (o ∷ os) (f' ∷ fs) (g' ∷ gs) (b' ∷ bs) (suc i) y r f g b h j k l =
    ap (λ (ss : List (Slot Placed)). slot_by x o f' g' b' ∷ ss) (slots_set xs os fs gs bs i y r f g b (omega arith) (omega arith) (omega arith) (omega arith))

pub slots_add : (xs : List CodeObject) (os : List (Option ℕ)) (fs : List (Option Error)) (gs : List ℕ) (bs : List (List Message)) (y : CodeObject)
    → slots_by (xs ++ y ∷ []) os fs gs bs
    ≡ slots_by xs os fs gs bs ++ slot_by y (get_or os (length xs) None) (get_or fs (length xs) None) (get_or gs (length xs) 0) (get_or bs (length xs) []) ∷ []
slots_add [] os fs gs bs y = rw (head os None, head fs None, head gs 0, head bs []) refl
  where
    head : {X : Type 0} (ys : List X) (d : X) → head_or d ys ≡ get_or ys 0 d
    head [] d = refl
    head (y ∷ ys) d = refl
slots_add (x ∷ xs) os fs gs bs y =
    ap (λ (ss : List (Slot Placed)). slot_by x (head_or None os) (head_or None fs) (head_or 0 gs) (head_or [] bs) ∷ ss)
    (slots_add xs (tail_of os) (tail_of fs) (tail_of gs) (tail_of bs) y
    ∙ rw (tail os (length xs) None, tail fs (length xs) None, tail gs (length xs) 0, tail bs (length xs) []) refl)
  where
    tail : {X : Type 0} (ys : List X) (i : ℕ) (d : X) → get_or (tail_of ys) i d ≡ get_or ys (suc i) d
    tail [] i d = refl
    tail (y ∷ ys) i d = refl

-- bits
pub take_set : {X : Type 0} (n : ℕ) (xs : List X) (i : ℕ) (y : X) → i < n → take n (slice_set xs i y) ≡ slice_set (take n xs) i y
take_set zero xs i y h = absurd (omega arith)
take_set (suc n) [] i y h = refl
take_set (suc n) (x ∷ xs) zero y h = refl
take_set {X} (suc n) (x ∷ xs) (suc i) y h = ap (λ (zs : List X). x ∷ zs) (take_set n xs i y (omega arith))

pub map_placed : {X Y : Type 0} (f : ℕ × X → Y) (k : ℕ) (xs : List X) (i : ℕ) (y : X) → map f (placed k (set_at xs i y)) ≡ slice_set (map f (placed k xs)) i (f (k + i, y))
map_placed f k [] i y = refl
map_placed {X} {Y} f k (x ∷ xs) zero y = let e : k ≡ k + 0 = omega arith in ap (λ j. f (j, y) ∷ map f (placed (k + 1) xs)) e
map_placed {X} {Y} f k (x ∷ xs) (suc i) y =
    let e : k + 1 + i ≡ k + suc i = omega arith in
    ap (λ (zs : List Y). f (k, x) ∷ zs) (map_placed f (k + 1) xs i y ∙ ap (λ j. slice_set (map f (placed (k + 1) xs)) i (f (j, y))) e)

pub map_placed_add : {X Y : Type 0} (f : ℕ × X → Y) (k : ℕ) (xs : List X) (y : X) → map f (placed k (xs ++ y ∷ [])) ≡ map f (placed k xs) ++ f (k + length xs, y) ∷ []
map_placed_add {X} {Y} f k [] y = let e : k ≡ k + 0 = omega arith in ap (λ j. f (j, y) ∷ []) e
map_placed_add {X} {Y} f k (x ∷ xs) y =
    let e : k + 1 + length xs ≡ k + suc (length xs) = omega arith in
    ap (λ (zs : List Y). f (k, x) ∷ zs) (map_placed_add f (k + 1) xs y ∙ ap (λ j. map f (placed (k + 1) xs) ++ f (j, y) ∷ []) e)
