-- A list without the first element that passes a test.
use Rattle.std.proofs.Common.{◌≡◌, ℕ, zero, suc, ◌+◌, ◌<◌, Bool, true, false, List, [], ◌∷◌, ◌++◌, length, slice_get, position, remove, Some, refl, sym, ap, ◌∙◌, subst, arith, append_assoc, length-append, option_map, take, drop}
use Rattle.std.proofs.lemmas.List.{map-append, length-map, take-map, drop-map}
use Rattle.run_types.specs.Tables.{Each}
use Rattle.slot_queues.specs.declared.Message.{Message}
use Rattle.slot_queues.specs.declared.lanes.Stamped.{Stamped}
use Rattle.slot_queues.specs.Lanes.{messages}
use Rattle.slot_queues.proofs.Joined.{each_both}
use Rattle.slot_queues.proofs.Places.{there, removed, position_at, split}

-- m is the first of the messages that passes, and `rest` are the others
pub record Takes (p : Message → Bool) (box : List Message) (m : Message) (rest : List Message) : Type 0 where
  pub place : ℕ
  pub at : position p box ≡ Some place
  pub is : slice_get box place ≡ Some m
  pub others : rest ≡ remove box place

takes_at : (p : Message → Bool) (xs : List Message) (m : Message) (ys : List Message) → Each (λ x. p x ≡ false) xs → p m ≡ true → Takes p (xs ++ m ∷ ys) m (xs ++ ys)
takes_at p xs m ys none here = record { place = length xs; at = position_at p xs m ys none here; is = there xs m ys; others = sym (removed xs m ys) }

pub each_message : (P : Message → Type 0) (xs : List Stamped) → Each (λ (x : Stamped). P x.message) xs → Each P (messages xs)
each_message P [] h = tt
each_message P (x ∷ xs) h = (h.0, each_message P xs h.1)

-- the first that passes is one of the shared queues
pub takes_first : (p : Message → Bool) (xs : List Stamped) (m : Stamped) (ys : List Stamped) (late : List Message) → Each (λ (x : Stamped). p x.message ≡ false) xs → p m.message ≡ true
    → Takes p (messages (xs ++ m ∷ ys) ++ late) m.message (messages (xs ++ ys) ++ late)
takes_first p xs m ys late none here =
    let f = λ (x : Stamped). x.message in
    let all : messages (xs ++ m ∷ ys) ++ late ≡ messages xs ++ m.message ∷ (messages ys ++ late) = ap (λ l. l ++ late) (map-append f xs (m ∷ ys)) ∙ append_assoc (messages xs) (m.message ∷ messages ys) late in
    let rest : messages (xs ++ ys) ++ late ≡ messages xs ++ (messages ys ++ late) = ap (λ l. l ++ late) (map-append f xs ys) ∙ append_assoc (messages xs) (messages ys) late in
    let t = takes_at p (messages xs) m.message (messages ys ++ late) (each_message (λ x. p x ≡ false) xs none) here in
    subst (λ l. Takes p l m.message (messages (xs ++ ys) ++ late)) (sym all) (subst (λ l. Takes p (messages xs ++ m.message ∷ (messages ys ++ late)) m.message l) (sym rest) t)

-- it is one of the late queue
pub takes_late : (p : Message → Bool) (early : List Message) (xs : List Stamped) (i : ℕ) → Each (λ x. p x ≡ false) early → position (λ (x : Stamped). p x.message) xs ≡ Some i
    → (x : Stamped) × (slice_get xs i ≡ Some x) × Takes p (early ++ messages xs) x.message (early ++ messages (remove xs i))
takes_late p early xs i none e =
    let f = λ (x : Stamped). x.message in let q : Stamped → Bool = λ x. p x.message in let s = split q xs i e in
    let at : i ≡ length s.before = omega (arith, s.place) in
    let is : slice_get xs i ≡ Some s.first = ap (λ l. slice_get l i) s.all ∙ ap (λ k. slice_get (s.before ++ s.first ∷ s.after) k) at ∙ there s.before s.first s.after in
    let gone : remove xs i ≡ s.before ++ s.after = ap (λ l. remove l i) s.all ∙ ap (λ k. remove (s.before ++ s.first ∷ s.after) k) at ∙ removed s.before s.first s.after in
    let all : early ++ messages xs ≡ (early ++ messages s.before) ++ s.first.message ∷ messages s.after =
    ap (λ l. early ++ messages l) s.all ∙ ap (λ l. early ++ l) (map-append f s.before (s.first ∷ s.after)) ∙ sym (append_assoc early (messages s.before) (s.first.message ∷ messages s.after)) in
    let rest : early ++ messages (remove xs i) ≡ (early ++ messages s.before) ++ messages s.after =
    ap (λ l. early ++ messages l) gone ∙ ap (λ l. early ++ l) (map-append f s.before s.after) ∙ sym (append_assoc early (messages s.before) (messages s.after)) in
    let t = takes_at p (early ++ messages s.before) s.first.message (messages s.after) (each_both (λ x. p x ≡ false) early (messages s.before) none (each_message (λ x. p x ≡ false) s.before s.none)) s.passes in
    (s.first, is, subst (λ l. Takes p l s.first.message (early ++ messages (remove xs i))) (sym all) (subst (λ l. Takes p ((early ++ messages s.before) ++ s.first.message ∷ messages s.after) s.first.message l) (sym rest) t))

-- its place there
pub place_late : (p : Message → Bool) (early : List Message) (xs : List Stamped) (i : ℕ) → Each (λ x. p x ≡ false) early → position (λ (x : Stamped). p x.message) xs ≡ Some i → position p (early ++ messages xs) ≡ Some (length early + i)
place_late p early xs i none e =
    let f = λ (x : Stamped). x.message in let q : Stamped → Bool = λ x. p x.message in let s = split q xs i e in
    let all : early ++ messages xs ≡ (early ++ messages s.before) ++ s.first.message ∷ messages s.after =
    ap (λ l. early ++ messages l) s.all ∙ ap (λ l. early ++ l) (map-append f s.before (s.first ∷ s.after)) ∙ sym (append_assoc early (messages s.before) (s.first.message ∷ messages s.after)) in
    ap (position p) all
    ∙ position_at p (early ++ messages s.before) s.first.message (messages s.after) (each_both (λ x. p x ≡ false) early (messages s.before) none (each_message (λ x. p x ≡ false) s.before s.none)) s.passes
    ∙ ap Some (omega (arith, s.place, length-append early (messages s.before), length-map s.before f))

pub late_below : (p : Message → Bool) (xs : List Stamped) (i : ℕ) → position (λ (x : Stamped). p x.message) xs ≡ Some i → i < length xs
late_below p xs i e = let s = split (λ (x : Stamped). p x.message) xs i e in omega (arith, s.place, ap length s.all, length-append s.before (s.first ∷ s.after))

-- ---- a message of the late queue by its index

pub get_behind : {X : Type 0} (xs ys : List X) (i : ℕ) → slice_get (xs ++ ys) (length xs + i) ≡ slice_get ys i
get_behind [] ys i = ap (slice_get ys) (omega arith)
get_behind (x ∷ xs) ys i = ap (slice_get (x ∷ (xs ++ ys))) (let e : length (x ∷ xs) + i ≡ suc (length xs + i) = omega arith in e) ∙ get_behind xs ys i

pub get_message : (xs : List Stamped) (i : ℕ) → slice_get (messages xs) i ≡ option_map (λ (x : Stamped). x.message) (slice_get xs i)
get_message [] i = refl
get_message (x ∷ xs) zero = refl
get_message (x ∷ xs) (suc i) = get_message xs i

pub remove_message : (xs : List Stamped) (i : ℕ) → messages (remove xs i) ≡ remove (messages xs) i
remove_message xs i = let f = λ (x : Stamped). x.message in map-append f (take i xs) (drop (suc i) xs) ∙ ap (λ l. l ++ messages (drop (suc i) xs)) (sym (take-map f i xs)) ∙ ap (λ l. take i (messages xs) ++ l) (sym (drop-map f (suc i) xs))

-- a list around the element at an index
pub cut : {X : Type 0} (xs : List X) (i : ℕ) (x : X) → slice_get xs i ≡ Some x → xs ≡ take i xs ++ x ∷ drop (suc i) xs
cut [] i x e = cc
cut (y ∷ ys) zero x e = let same : y ≡ x = cc in ap (λ z. z ∷ ys) same
cut (y ∷ ys) (suc i) x e = ap (λ l. y ∷ l) (cut ys i x e)
