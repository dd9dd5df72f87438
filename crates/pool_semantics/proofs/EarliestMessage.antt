-- Messages of which one passes a test of its method.
use Rattle.std.proofs.Common.{◌≡◌, refl, ap, sym, ◌∙◌, ℕ, zero, suc, ◌<◌, List, [], ◌∷◌, length, map, slice_index_or, Option, Some, None, is_some, Bool, true, false, ◌==◌, Bor, arith}
use Rattle.std.specs.Option.{option_map}
use Rattle.std.specs.List.{list_any}
use Rattle.run_types.proofs.Laws.{same_some}
use Rattle.pool_syntax.specs.declared.tree.Named.{Named}
use Rattle.pool_relation.specs.Transition.{names_method, first_message, without_first}
use Rattle.message_queue.specs.declared.Mail.{Mail}
use Rattle.run_types.specs.Message.{Message}
use Rattle.stepper_objects.specs.declared.offers.Offer.{Offer}
use Rattle.stepper_objects.specs.Offers.{offered}
use Rattle.message_queue.specs.Mails.{message_of, without_of}

-- no message before this place passes the test
abbrev pub NoneSo : (ℕ → Bool) → List Mail → ℕ → Type 0
NoneSo f ms i = (k : ℕ) (d : Mail) → k < i → f (slice_index_or ms k d).method.0 ≡ false

pub any_here : (f : ℕ → Bool) (ms : List Mail) (i : ℕ) (e : Mail) → i < length ms → f (slice_index_or ms i e).method.0 ≡ true → list_any (λ (m : Message). f m.method) (map message_of ms) ≡ true
any_here f [] i e lt n = absurd (omega arith)
any_here f (m ∷ ms) zero e lt n = rw n refl
any_here f (m ∷ ms) (suc i) e lt n = by (f m.method.0) refl (any_here f ms i e (omega arith) n)
  where
    by : (b : Bool) → f m.method.0 ≡ b → list_any (λ (m : Message). f m.method) (map message_of ms) ≡ true → list_any (λ (m : Message). f m.method) (map message_of (m ∷ ms)) ≡ true
    by true h r = rw h refl
    by false h r = rw h r

pub any_none : (f : ℕ → Bool) (ms : List Mail) → NoneSo f ms (length ms) → list_any (λ (m : Message). f m.method) (map message_of ms) ≡ false
any_none f [] h = refl
any_none f (m ∷ ms) h = let g : f m.method.0 ≡ false = h 0 m (omega arith) in rw g (any_none f ms (λ k d lt. h (suc k) d (omega arith)))

pub offered_some : (r : Option Offer) → is_some (offered r) ≡ is_some r
offered_some None = refl
offered_some (Some v) = refl

-- what a queue lends as the first message for some methods
pub no_first : (q : List Mail) (names : List Named) (r : Option (Bor Mail)) → option_map (λ m. message_of m.now) r ≡ first_message names (map message_of q) → r ≡ None → first_message names (map message_of q) ≡ None
no_first q names r h e = sym h ∙ ap (option_map (λ m. message_of m.now)) e

pub the_first : (q : List Mail) (names : List Named) (r : Option (Bor Mail)) (x : Bor Mail) → option_map (λ m. message_of m.now) r ≡ first_message names (map message_of q) → r ≡ Some x → first_message names (map message_of q) ≡ Some (message_of x.now)
the_first q names r x h e = sym h ∙ ap (option_map (λ m. message_of m.now)) e

first_passes : (names : List Named) (f : Message) (ms : List Message) → first_message names ms ≡ Some f → names_method names f.method ≡ true
first_passes names f [] h = absurd (grind (arith, h))
first_passes names f (m ∷ ms) h = by (names_method names m.method) refl (λ i. first_passes names f ms i)
  where
    by : (b : Bool) → names_method names m.method ≡ b → (first_message names ms ≡ Some f → names_method names f.method ≡ true) → names_method names f.method ≡ true
    by true q i = let s : m ≡ f = same_some (rw q at h) in ap (λ x. names_method names x.method) (sym s) ∙ q
    by false q i = i (rw q at h)

-- the first message for some methods is also the first one for its own method
pub without_named : (names : List Named) (a : ℕ) (f : Message) (ms : List Message) → first_message names ms ≡ Some f → (f.method == a) ≡ true → without_of a ms ≡ without_first names ms
without_named names a f [] h e = refl
without_named names a f (m ∷ ms) h e = by (names_method names m.method) refl (λ i. without_named names a f ms i e) (first_passes names f (m ∷ ms) h)
  where
    by : (b : Bool) → names_method names m.method ≡ b → (first_message names ms ≡ Some f → without_of a ms ≡ without_first names ms) → names_method names f.method ≡ true → without_of a (m ∷ ms) ≡ without_first names (m ∷ ms)
    by true q i p = let s : m ≡ f = same_some (rw q at h) in let t : (m.method == a) ≡ true = ap (λ x. x.method == a) s ∙ e in rw (q, t) refl
    by false q i p = rw (q, other (m.method == a) refl) (ap (λ l. m ∷ l) (i (rw q at h)))
      where
        other : (c : Bool) → (m.method == a) ≡ c → (m.method == a) ≡ false
        other false t = t
        other true t =
            let s : m.method ≡ f.method = grind (arith, t, e) in
            let z : names_method names m.method ≡ true = ap (names_method names) s ∙ p in absurd (grind (arith, z, q))
