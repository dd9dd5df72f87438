-- How many messages each slot has, and what calls return.
use Rattle.std.proofs.Common.{◌≡◌, ℕ, zero, suc, ◌+◌, ◌-◌, ◌<◌, ◌≤◌, ◌^◌, List, [], ◌∷◌, ◌++◌, length, get_or, set, position, remove, replicate, slice_get, map, MatchOption, Option, Some, None, Result, Ok, Err, IsErr, OnOk, refl, sym, ap, ◌∙◌, arith, length-append}
use Rattle.std.proofs.lemmas.List.{map-set, get_or-map}
use Rattle.std.proofs.lemmas.List.Edits.{length-remove}
use Rattle.std.proofs.lemmas.Option.{slice_get_within}
use Rattle.run_types.specs.declared.types.NameId.{NameId}
use Rattle.slot_queues.specs.declared.Message.{Message}
use Rattle.slot_queues.specs.Mail.{Mail, box_of, with_box, lengths, is_named, IsTaken}
use Rattle.slot_queues.proofs.Empty.{blanks}
use Rattle.slot_queues.proofs.Joined.{sizes_set}

-- ---- the number of messages of each slot

pub count_at : (counts : List ℕ) (boxes : List (List Message)) (to d : ℕ) → counts ≡ map length boxes → to < length boxes → get_or counts to d ≡ length (get_or boxes to [])
count_at counts boxes to d e h = ap (λ z. get_or z to d) e ∙ get_or-map length boxes to [] d h

pub counts_set : (counts : List ℕ) (boxes : List (List Message)) (to n : ℕ) (xs : List Message) → counts ≡ map length boxes → n ≡ length xs → set counts to n ≡ map length (set boxes to xs)
counts_set counts boxes to n xs e h = ap (λ z. set z to n) e ∙ ap (set (map length boxes) to) h ∙ sym (map-set length boxes to xs)

pub counts_blank : (n : ℕ) → replicate n 0 ≡ map length (blanks {X = Message} n)
counts_blank zero = refl
counts_blank (suc n) = ap (λ (z : List ℕ). 0 ∷ z) (counts_blank n)

pub lengths_at : (xss : List (List Message)) (i : ℕ) → length (get_or xss i []) ≤ lengths xss
lengths_at [] i = omega arith
lengths_at (xs ∷ xss) zero = omega arith
lengths_at (xs ∷ xss) (suc i) = omega (arith, lengths_at xss i)

-- after a message was posted or taken, if n was their number

module _ (counts : List ℕ) (old : Mail Message) (to n : ℕ) (e : counts ≡ map length old.boxes) (v : Mail Message) (is : old ≡ v) (there : to < length v.boxes) (here : n ≡ get_or counts to n) (new : Mail Message) where
  pub slot_same : to < length old.boxes
  slot_same = omega (arith, there, ap (λ (z : Mail Message). length z.boxes) is)

  number : n ≡ length (box_of old to)
  number = here ∙ count_at counts old.boxes to n e slot_same

  pub count_fits : lengths v.boxes < v.cells → old.cells < 2 ^ 32 → n + 1 < 2 ^ 32
  count_fits room small = omega (arith, number, lengths_at old.boxes to, room, small, ap (λ (z : Mail Message). z.cells) is, ap (λ (z : Mail Message). lengths z.boxes) is)

  pub counts_posted : (message : Message) → new ≡ with_box old to (box_of old to ++ message ∷ []) → set counts to (n + 1) ≡ map length new.boxes
  counts_posted message f =
      counts_set counts old.boxes to (n + 1) (box_of old to ++ message ∷ []) e (omega (arith, number, length-append (box_of old to) (message ∷ []))) ∙ ap (λ (z : Mail Message). map length z.boxes) (sym f)

  pub counts_taken : (place : ℕ) → place < length (box_of old to) → new ≡ with_box old to (remove (box_of old to) place) → set counts to (n - 1) ≡ map length new.boxes
  counts_taken place q f =
      counts_set counts old.boxes to (n - 1) (remove (box_of old to) place) e (omega (arith, number, length-remove (box_of old to) place q)) ∙ ap (λ (z : Mail Message). map length z.boxes) (sym f)

  abbrev AtPlace : Option Message → Option ℕ → Type 0
  AtPlace r o = MatchOption o ((r ≡ None) × (new ≡ old)) (λ place. (m : Message) × (r ≡ Some m) × (slice_get (box_of old to) place ≡ Some m) × (new ≡ with_box old to (remove (box_of old to) place)))

  pub counts_first : (names : List NameId) (m : Message) → IsTaken names old to (Some m) new → set counts to (n - 1) ≡ map length new.boxes
  counts_first names m t = by (position (λ (y : Message). is_named names y.method) (box_of old to)) t
    where
      by : (o : Option ℕ) → AtPlace (Some m) o → set counts to (n - 1) ≡ map length new.boxes
      by None a = let no = a.0 in cc
      by (Some i) (y, is, there, q) = counts_taken i (slice_get_within (box_of old to) i y there) q

pub lengths_set : (xss : List (List Message)) (i : ℕ) (zs : List Message) → i < length xss → lengths (set xss i zs) + length (get_or xss i []) ≡ lengths xss + length zs
lengths_set = sizes_set

-- ---- the results of calls

pub on_ok : {A B : Type 0} (r : Result A B) (P : Type 0) → (IsErr r → ⊥) → OnOk r P → P
on_ok (Ok x) P n h = h
on_ok (Err x) P n h = absurd (n refl)
