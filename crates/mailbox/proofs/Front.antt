-- Early messages in front of the others: what a mailbox sees of both.
use Rattle.std.proofs.Common.{◌≡◌, ℕ, zero, suc, ◌+◌, ◌-◌, ◌<◌, ◌≤◌, ◌^◌, Bool, true, false, List, [], ◌∷◌, ◌++◌, length, get_or, set, position, remove, replicate, slice_get, map, MatchOption, Option, Some, None, is_some, Result, Ok, Err, IsErr, OnOk, refl, sym, ap, ◌∙◌, subst, arith, append_assoc, length-append}
use Rattle.std.proofs.lemmas.List.{append-nil, length-set, map-set, get_or-map}
use Rattle.std.proofs.lemmas.List.Edits.{remove-append_left, remove-append_right, length-remove}
use Rattle.std.proofs.lemmas.Option.{slice_get_within}
use Rattle.run_types.specs.declared.types.NameId.{NameId}
use Rattle.cell_pool.specs.Lists.{Pool, with_list, free_of}
use Rattle.slot_queues.specs.declared.Message.{Message}
use Rattle.slot_queues.specs.Mail.{Mail, mail, box_of, with_box, lengths, is_named, IsTaken}
use Rattle.mailbox.specs.Early.{append_each, IsInFront}
use Rattle.slot_queues.proofs.Laws.{blanks, each_both, lengths_at, lengths_set, position_at, position_none, split, none_passes, get_behind}

-- ---- lists

module _ {X : Type 0} where
  pub get_each : (xss yss : List (List X)) (i : ℕ) → get_or (append_each xss yss) i [] ≡ get_or xss i [] ++ get_or yss i []
  get_each [] yss i = refl
  get_each (xs ∷ xss) [] zero = sym (append-nil xs)
  get_each (xs ∷ xss) [] (suc i) = sym (append-nil (get_or xss i []))
  get_each (xs ∷ xss) (ys ∷ yss) zero = refl
  get_each (xs ∷ xss) (ys ∷ yss) (suc i) = get_each xss yss i

  pub set_early : (xss yss : List (List X)) (i : ℕ) (zs : List X) → i < length xss → append_each (set xss i zs) yss ≡ set (append_each xss yss) i (zs ++ get_or yss i [])
  set_early [] yss i zs h = absurd (omega (arith, h))
  set_early (xs ∷ xss) [] zero zs h = ap (λ z. z ∷ xss) (sym (append-nil zs))
  set_early (xs ∷ xss) [] (suc i) zs h = ap (λ z. xs ∷ set xss i z) (sym (append-nil zs))
  set_early (xs ∷ xss) (ys ∷ yss) zero zs h = refl
  set_early (xs ∷ xss) (ys ∷ yss) (suc i) zs h = ap (λ z. (xs ++ ys) ∷ z) (set_early xss yss i zs (omega (arith, h)))

  pub set_behind : (xss yss : List (List X)) (i : ℕ) (zs : List X) → i < length xss → i < length yss → append_each xss (set yss i zs) ≡ set (append_each xss yss) i (get_or xss i [] ++ zs)
  set_behind [] yss i zs h k = absurd (omega (arith, h))
  set_behind (xs ∷ xss) [] i zs h k = absurd (omega (arith, k))
  set_behind (xs ∷ xss) (ys ∷ yss) zero zs h k = refl
  set_behind (xs ∷ xss) (ys ∷ yss) (suc i) zs h k = ap (λ z. (xs ++ ys) ∷ z) (set_behind xss yss i zs (omega (arith, h)) (omega (arith, k)))

  pub length_each : (xss yss : List (List X)) → length xss ≡ length yss → length (append_each xss yss) ≡ length xss
  length_each [] yss e = sym e
  length_each (xs ∷ xss) [] e = refl
  length_each (xs ∷ xss) (ys ∷ yss) e = let f : length xss ≡ length yss = omega (arith, e) in omega (arith, length_each xss yss f)

  pub lengths_each : (xss yss : List (List X)) → lengths (append_each xss yss) ≡ lengths xss + lengths yss
  lengths_each [] yss = omega arith
  lengths_each (xs ∷ xss) [] = omega arith
  lengths_each (xs ∷ xss) (ys ∷ yss) = omega (arith, length-append xs ys, lengths_each xss yss)

  pub each_blank : (n : ℕ) → append_each (blanks {X = X} n) (blanks n) ≡ blanks n
  each_blank zero = refl
  each_blank (suc n) = ap (λ (z : List (List X)). [] ∷ z) (each_blank n)

  get_front : (xs ys : List X) (i : ℕ) (x : X) → slice_get xs i ≡ Some x → slice_get (xs ++ ys) i ≡ Some x
  get_front [] ys i x e = cc
  get_front (y ∷ xs) ys zero x e = e
  get_front (y ∷ xs) ys (suc i) x e = get_front xs ys i x e

  none_of : (xs : List X) → length xs ≡ 0 → xs ≡ []
  none_of [] e = refl
  none_of (x ∷ xs) e = absurd (omega (arith, e))

lengths_blank : (X : Type 0) (n : ℕ) → lengths (blanks {X = X} n) ≡ 0
lengths_blank X zero = refl
lengths_blank X (suc n) = omega (arith, lengths_blank X n)

-- ---- the first that passes a test

module _ {X : Type 0} (p : X → Bool) (xs ys : List X) where
  first_early : (i : ℕ) → position p xs ≡ Some i → position p (xs ++ ys) ≡ Some i
  first_early i e =
      let s = split p xs i e in
      ap (λ z. position p (z ++ ys)) s.all ∙ ap (position p) (append_assoc s.before (s.first ∷ s.after) ys) ∙ position_at p s.before s.first (s.after ++ ys) s.none s.passes ∙ ap Some (omega (arith, s.place))

  first_later : (i : ℕ) → position p xs ≡ None → position p ys ≡ Some i → position p (xs ++ ys) ≡ Some (length xs + i)
  first_later i n e =
      let s = split p ys i e in
      ap (λ z. position p (xs ++ z)) s.all ∙ ap (position p) (sym (append_assoc xs s.before (s.first ∷ s.after)))
      ∙ position_at p (xs ++ s.before) s.first s.after (each_both (λ x. p x ≡ false) xs s.before (none_passes p xs n) s.none) s.passes ∙ ap Some (omega (arith, s.place, length-append xs s.before))

  first_nowhere : position p xs ≡ None → position p ys ≡ None → position p (xs ++ ys) ≡ None
  first_nowhere n e = position_none p (xs ++ ys) (each_both (λ x. p x ≡ false) xs ys (none_passes p xs n) (none_passes p ys e))

first_below : {X : Type 0} (p : X → Bool) (xs : List X) (i : ℕ) → position p xs ≡ Some i → i < length xs
first_below p xs i e = let s = split p xs i e in omega (arith, s.place, ap length s.all, length-append s.before (s.first ∷ s.after))

-- ---- a mailbox, of which contracts see v

pub empty_front : (early : Pool Message) (behind : Mail Message) (objects cells : ℕ) → cells < 2 ^ 32 → early ≡ record { lists = replicate objects []; cells = cells } → behind ≡ mail (replicate objects []) cells → IsInFront early behind cells cells
empty_front early behind objects cells small e f = record {
  slots = ap (λ (z : Pool Message). length z.lists) e ∙ sym (ap (λ (z : Mail Message). length z.boxes) f);
  early_cells = ap (λ (z : Pool Message). z.cells) e;
  behind_cells = ap (λ (z : Mail Message). z.cells) f;
  small = small;
  sum =
      let a : lengths early.lists ≡ 0 = ap (λ (z : Pool Message). lengths z.lists) e ∙ lengths_blank Message objects in let b : lengths behind.boxes ≡ 0 = ap (λ (z : Mail Message). lengths z.boxes) f ∙ lengths_blank Message objects in
      omega (arith, a, b);
}

pub empty_view : (early : Pool Message) (behind : Mail Message) (objects cells : ℕ) → early ≡ record { lists = replicate objects []; cells = cells } → behind ≡ mail (replicate objects []) cells
    → mail (append_each early.lists behind.boxes) cells ≡ mail (replicate objects []) cells
empty_view early behind objects cells e f =
    ap (λ (z : Pool Message). mail (append_each z.lists behind.boxes) cells) e ∙ ap (λ (z : Mail Message). mail (append_each (replicate objects []) z.boxes) cells) f ∙ ap (λ (z : List (List Message)). mail z cells) (each_blank objects)

module _ (early : Pool Message) (behind : Mail Message) (free cells : ℕ) (k : IsInFront early behind free cells) (v : Mail Message) (e : mail (append_each early.lists behind.boxes) cells ≡ v) where
  pub most : v.cells ≡ cells
  most = sym (ap (λ (w : Mail Message). w.cells) e)

  pub total : lengths v.boxes ≡ lengths early.lists + lengths behind.boxes
  total = sym (ap (λ (w : Mail Message). lengths w.boxes) e) ∙ lengths_each early.lists behind.boxes

  pub early_room : 0 < free → 0 < free_of early
  early_room h = let g : 0 < early.cells - lengths early.lists = omega (arith, h, k.sum, k.early_cells) in g

  pub behind_room : 0 < free → lengths behind.boxes < behind.cells
  behind_room h = omega (arith, h, k.sum, k.behind_cells)

  pub space : 0 < free → (lengths v.boxes ≡ v.cells → ⊥)
  space h f = omega (arith, h, f, k.sum, total, most)

  module _ (to : ℕ) (h : to < length v.boxes) where
    pub slot_early : to < length early.lists
    slot_early = omega (arith, h, ap (λ (w : Mail Message). length w.boxes) e, length_each early.lists behind.boxes k.slots)

    pub slot_behind : to < length behind.boxes
    slot_behind = omega (arith, slot_early, k.slots)

    abbrev xs : List Message
    xs = get_or early.lists to []

    abbrev ys : List Message
    ys = box_of behind to

    pub box_is : box_of v to ≡ xs ++ ys
    box_is = ap (λ (w : Mail Message). box_of w to) (sym e) ∙ get_each early.lists behind.boxes to

    pub box_length : length (box_of v to) ≡ length xs + length ys
    box_length = ap length box_is ∙ length-append xs ys

    pub more_free : 0 < length (box_of v to) → free + 1 < 2 ^ 32
    more_free q = omega (arith, q, box_length, lengths_at early.lists to, lengths_at behind.boxes to, k.sum, k.small)

    pub place_fits : (place : ℕ) → place < length ys → length xs + place < 2 ^ 64
    place_fits place q = omega (arith, q, lengths_at early.lists to, lengths_at behind.boxes to, k.sum, k.small)

    -- other early messages

    pub early_front : (new : Pool Message) (zs : List Message) → new ≡ with_list early to zs → (now : ℕ) → now + length zs ≡ free + length xs → IsInFront new behind now cells
    early_front new zs f now s = record {
      slots = ap (λ (z : Pool Message). length z.lists) f ∙ length-set early.lists to zs ∙ k.slots;
      early_cells = ap (λ (z : Pool Message). z.cells) f ∙ k.early_cells;
      behind_cells = k.behind_cells;
      small = k.small;
      sum =
          let a : lengths new.lists ≡ lengths (set early.lists to zs) = ap (λ (z : Pool Message). lengths z.lists) f in
          omega (arith, a, lengths_set early.lists to zs slot_early, k.sum, s);
    }

    pub early_view : (new : Pool Message) (zs : List Message) → new ≡ with_list early to zs → mail (append_each new.lists behind.boxes) cells ≡ with_box v to (zs ++ ys)
    early_view new zs f =
        ap (λ (z : Pool Message). mail (append_each z.lists behind.boxes) cells) f ∙ ap (λ (z : List (List Message)). mail z cells) (set_early early.lists behind.boxes to zs slot_early) ∙ ap (λ (w : Mail Message). with_box w to (zs ++ ys)) e

    -- other messages behind

    pub behind_front : (new : Mail Message) (zs : List Message) → new ≡ with_box behind to zs → (now : ℕ) → now + length zs ≡ free + length ys → IsInFront early new now cells
    behind_front new zs f now s = record {
      slots = k.slots ∙ sym (ap (λ (z : Mail Message). length z.boxes) f ∙ length-set behind.boxes to zs);
      early_cells = k.early_cells;
      behind_cells = ap (λ (z : Mail Message). z.cells) f ∙ k.behind_cells;
      small = k.small;
      sum =
          let a : lengths new.boxes ≡ lengths (set behind.boxes to zs) = ap (λ (z : Mail Message). lengths z.boxes) f in
          omega (arith, a, lengths_set behind.boxes to zs slot_behind, k.sum, s);
    }

    pub behind_view : (new : Mail Message) (zs : List Message) → new ≡ with_box behind to zs → mail (append_each early.lists new.boxes) cells ≡ with_box v to (xs ++ zs)
    behind_view new zs f =
        ap (λ (z : Mail Message). mail (append_each early.lists z.boxes) cells) f ∙ ap (λ (z : List (List Message)). mail z cells) (set_behind early.lists behind.boxes to zs slot_early slot_behind)
        ∙ ap (λ (w : Mail Message). with_box w to (xs ++ zs)) e

    -- a message was posted

    module _ (message : Message) where
      pub post_early_front : (new : Pool Message) → 0 < free → new ≡ with_list early to (xs ++ message ∷ []) → IsInFront new behind (free - 1) cells
      post_early_front new q f = early_front new (xs ++ message ∷ []) f (free - 1) (omega (arith, q, length-append xs (message ∷ [])))

      pub post_early_view : (new : Pool Message) → length ys ≡ 0 → new ≡ with_list early to (xs ++ message ∷ []) → mail (append_each new.lists behind.boxes) cells ≡ with_box v to (box_of v to ++ message ∷ [])
      post_early_view new q f =
          let none : ys ≡ [] = none_of ys q in
          early_view new (xs ++ message ∷ []) f
          ∙ ap (with_box v to) (ap (λ z. (xs ++ message ∷ []) ++ z) none ∙ append-nil (xs ++ message ∷ []) ∙ ap (λ z. z ++ message ∷ []) (sym (box_is ∙ ap (λ z. xs ++ z) none ∙ append-nil xs)))

      pub post_behind_front : (new : Mail Message) → 0 < free → new ≡ with_box behind to (ys ++ message ∷ []) → IsInFront early new (free - 1) cells
      post_behind_front new q f = behind_front new (ys ++ message ∷ []) f (free - 1) (omega (arith, q, length-append ys (message ∷ [])))

      pub post_behind_view : (new : Mail Message) → new ≡ with_box behind to (ys ++ message ∷ []) → mail (append_each early.lists new.boxes) cells ≡ with_box v to (box_of v to ++ message ∷ [])
      post_behind_view new f = behind_view new (ys ++ message ∷ []) f ∙ ap (with_box v to) (sym (append_assoc xs ys (message ∷ [])) ∙ ap (λ z. z ++ message ∷ []) (sym box_is))

    -- the message at an index was taken

    module _ (place : ℕ) (within : place < length xs) where
      pub take_early_front : (new : Pool Message) → new ≡ with_list early to (remove xs place) → IsInFront new behind (free + 1) cells
      take_early_front new f = early_front new (remove xs place) f (free + 1) (omega (arith, length-remove xs place within))

      pub take_early_message : (m : Message) → slice_get xs place ≡ Some m → slice_get (box_of v to) place ≡ Some m
      take_early_message m g = ap (λ z. slice_get z place) box_is ∙ get_front xs ys place m g

      pub take_early_view : (new : Pool Message) → new ≡ with_list early to (remove xs place) → mail (append_each new.lists behind.boxes) cells ≡ with_box v to (remove (box_of v to) place)
      take_early_view new f = early_view new (remove xs place) f ∙ ap (with_box v to) (sym (ap (λ z. remove z place) box_is ∙ remove-append_left xs ys place within))

    module _ (place : ℕ) (beyond : length xs ≤ place) where
      pub take_behind_place : place < length (box_of v to) → place - length xs < length ys
      take_behind_place q = omega (arith, q, box_length, beyond)

      pub take_behind_front : (new : Mail Message) → place < length (box_of v to) → new ≡ with_box behind to (remove ys (place - length xs)) → IsInFront early new (free + 1) cells
      take_behind_front new q f = behind_front new (remove ys (place - length xs)) f (free + 1) (omega (arith, length-remove ys (place - length xs) (take_behind_place q)))

      pub take_behind_message : (m : Message) → slice_get ys (place - length xs) ≡ Some m → slice_get (box_of v to) place ≡ Some m
      take_behind_message m g =
          let at : place ≡ length xs + (place - length xs) = omega (arith, beyond) in
          ap (λ z. slice_get z place) box_is ∙ ap (slice_get (xs ++ ys)) at ∙ get_behind xs ys (place - length xs) ∙ g

      pub take_behind_view : (new : Mail Message) → new ≡ with_box behind to (remove ys (place - length xs)) → mail (append_each early.lists new.boxes) cells ≡ with_box v to (remove (box_of v to) place)
      take_behind_view new f = behind_view new (remove ys (place - length xs)) f ∙ ap (with_box v to) (sym (ap (λ z. remove z place) box_is ∙ remove-append_right xs ys (length xs) place refl beyond))

    -- the first message of one of the names

    module _ (names : List NameId) where
      abbrev p : Message → Bool
      p m = is_named names m.method

      abbrev At : Mail Message → Mail Message → Option Message → Option ℕ → Type 0
      At old new r o = MatchOption o ((r ≡ None) × (new ≡ old)) (λ place. (m : Message) × (r ≡ Some m) × (slice_get (box_of old to) place ≡ Some m) × (new ≡ with_box old to (remove (box_of old to) place)))

      pub place_early : (i : ℕ) → Some i ≡ position p xs → Some i ≡ position p (box_of v to)
      place_early i f = sym (ap (position p) box_is ∙ first_early p xs ys i (sym f))

      pub place_behind : (i : ℕ) → None ≡ position p xs → Some i ≡ position p ys → Some (length xs + i) ≡ position p (box_of v to)
      place_behind i f g = sym (ap (position p) box_is ∙ first_later p xs ys i (sym f) (sym g))

      pub place_nowhere : None ≡ position p xs → None ≡ position p ys → None ≡ position p (box_of v to)
      place_nowhere f g = sym (ap (position p) box_is ∙ first_nowhere p xs ys (sym f) (sym g))

      pub none_behind : length ys ≡ 0 → None ≡ position p ys
      none_behind q = sym (ap (position p) (none_of ys q))

      pub early_below : (i : ℕ) → Some i ≡ position p xs → i < length xs
      early_below i f = first_below p xs i (sym f)

      pub behind_below : (i : ℕ) → Some i ≡ position p ys → i < length ys
      behind_below i f = first_below p ys i (sym f)

      pub has_early : (r : Option ℕ) → r ≡ position p xs → is_some r ≡ true → true ≡ is_some (position p (box_of v to))
      has_early None f h = cc
      has_early (Some i) f h = ap is_some (place_early i f)

      pub none_early : (r : Option ℕ) → r ≡ position p xs → is_some r ≡ false → None ≡ position p xs
      none_early None f h = f
      none_early (Some i) f h = cc

      pub has_behind : None ≡ position p xs → (b : Bool) → b ≡ is_some (position p ys) → b ≡ is_some (position p (box_of v to))
      has_behind f b g = by (position p ys) refl
        where
          by : (o : Option ℕ) → position p ys ≡ o → b ≡ is_some (position p (box_of v to))
          by None q = g ∙ ap is_some q ∙ ap is_some (place_nowhere f (sym q))
          by (Some i) q = g ∙ ap is_some q ∙ ap is_some (place_behind i f (sym q))

      pub early_taken : (i : ℕ) → Some i ≡ position p xs → (m : Message) → slice_get xs i ≡ Some m → (new : Pool Message) → new ≡ with_list early to (remove xs i)
          → IsTaken names v to (Some m) (mail (append_each new.lists behind.boxes) cells)
      early_taken i f m g new q =
          let w = early_below i f in subst (At v (mail (append_each new.lists behind.boxes) cells) (Some m)) (place_early i f) (m, refl, take_early_message i w m g, take_early_view i w new q)

      pub not_taken : None ≡ position p xs → None ≡ position p ys → IsTaken names v to None v
      not_taken f g = subst (At v v None) (place_nowhere f g) (refl, refl)

      pub behind_taken : None ≡ position p xs → (r : Option Message) (new : Mail Message) → IsTaken names behind to r new → IsTaken names v to r (mail (append_each early.lists new.boxes) cells)
      behind_taken f r new t = by (position p ys) refl t
        where
          by : (o : Option ℕ) → position p ys ≡ o → At behind new r o → IsTaken names v to r (mail (append_each early.lists new.boxes) cells)
          by None g a = subst (At v (mail (append_each early.lists new.boxes) cells) r) (place_nowhere f (sym g)) (a.0, ap (λ (z : Mail Message). mail (append_each early.lists z.boxes) cells) a.1 ∙ e)
          by (Some i) g (m, is, there, q) =
              let j : ℕ = length xs + i in let beyond : length xs ≤ j = omega arith in let less : j - length xs ≡ i = omega arith in
              subst (At v (mail (append_each early.lists new.boxes) cells) r) (place_behind i f (sym g))
              (m, is, take_behind_message j beyond m (ap (slice_get ys) less ∙ there), take_behind_view j beyond new (q ∙ ap (λ z. with_box behind to (remove ys z)) (sym less)))

      pub behind_taken_front : (m : Message) (new : Mail Message) → IsTaken names behind to (Some m) new → IsInFront early new (free + 1) cells
      behind_taken_front m new t = by (position p ys) refl t
        where
          by : (o : Option ℕ) → position p ys ≡ o → At behind new (Some m) o → IsInFront early new (free + 1) cells
          by None g a = let no = a.0 in cc
          by (Some i) g (y, is, there, q) = behind_front new (remove ys i) q (free + 1) (omega (arith, length-remove ys i (slice_get_within ys i y there)))

      pub behind_more : (m : Message) (new : Mail Message) → IsTaken names behind to (Some m) new → 0 < length (box_of v to)
      behind_more m new t = by (position p ys) refl t
        where
          by : (o : Option ℕ) → position p ys ≡ o → At behind new (Some m) o → 0 < length (box_of v to)
          by None g a = let no = a.0 in cc
          by (Some i) g (y, is, there, q) = omega (arith, slice_get_within ys i y there, box_length)
