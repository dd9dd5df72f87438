-- The first message of a queue, and queues that are missing.
use Rattle.std.proofs.Common.{◌≡◌, ◌≢◌, refl, sym, ap, ◌∙◌, ◌==◌, ℕ, List, [], ◌∷◌, map, slice_get, Option, Some, None, is_some, true, false, Bor, arith}
use Rattle.std.specs.Option.{option_map}
use Rattle.run_types.specs.Message.{Message}
use Rattle.run_types.proofs.Laws.{same_some}
use Rattle.message_queue.specs.declared.Mail.{Mail}
use Rattle.message_queue.specs.Mails.{message_of, first_of, without_of}
use Rattle.object_moves.specs.Waiting.{is_next}

pub is_missing : {X : Type 0} (r : Option X) → is_some r ≡ false → r ≡ None
is_missing None h = refl
is_missing (Some x) h = absurd (grind (arith, h))

pub not_the_first : (m : ℕ) (ms : List Message) (x : Message) → first_of m ms ≡ None → first_of m ms ≢ Some x
not_the_first m ms x h e = let i : None ≡ Some x = sym h ∙ e in absurd (grind (arith, i))

-- the first message for a method, if the first of all is for it
pub head_is : (a : ℕ) (ms : List Message) (m : Message) → is_next a ms ≡ true → first_of a ms ≡ Some m → (rest : List Message) × (ms ≡ m ∷ rest) × (without_of a ms ≡ rest)
head_is a [] m h e = absurd (grind (arith, h))
head_is a (x ∷ ms) m h e = let same : x ≡ m = same_some (rw h at e) in (ms, ap (λ y. y ∷ ms) same, rw h refl)

-- what a queue lends as the first message for a method
pub lent_none : (f : Option Message) (r : Option (Bor Mail)) → option_map (λ m. message_of m.now) r ≡ f → r ≡ None → f ≡ None
lent_none f r h e = sym h ∙ ap (option_map (λ m. message_of m.now)) e

pub lent_some : (f : Option Message) (r : Option (Bor Mail)) (x : Bor Mail) → option_map (λ m. message_of m.now) r ≡ f → r ≡ Some x → f ≡ Some (message_of x.now)
lent_some f r x h e = sym h ∙ ap (option_map (λ m. message_of m.now)) e

-- what it lends as the first of all
pub next_some : (a : ℕ) (q : List Mail) (r : Option (Bor Mail)) (x : Bor Mail) → option_map (λ m. m.now) r ≡ slice_get q 0 → r ≡ Some x → (x.now.method.0 == a) ≡ is_next a (map message_of q)
next_some a q r x h e = by q (sym h ∙ ap (option_map (λ m. m.now)) e)
  where
    by : (ms : List Mail) → slice_get ms 0 ≡ Some x.now → (x.now.method.0 == a) ≡ is_next a (map message_of ms)
    by [] i = absurd (grind (arith, i))
    by (y ∷ ms) i = let same : y ≡ x.now = same_some i in ap (λ (z : Mail). z.method.0 == a) (sym same)

pub next_none : (a : ℕ) (q : List Mail) (r : Option (Bor Mail)) → option_map (λ m. m.now) r ≡ slice_get q 0 → r ≡ None → false ≡ is_next a (map message_of q)
next_none a q r h e = by q (sym h ∙ ap (option_map (λ m. m.now)) e)
  where
    by : (ms : List Mail) → slice_get ms 0 ≡ None → false ≡ is_next a (map message_of ms)
    by [] i = refl
    by (y ∷ ms) i = absurd (grind (arith, i))
