-- Messages in two parts, and the first one for some methods among them.
use Rattle.std.proofs.Common.{◌≡◌, refl, ap, sym, ◌∙◌, ℕ, zero, suc, ◌+◌, ◌<◌, List, [], ◌∷◌, ◌++◌, length, map, slice_get, Option, Some, None, is_some, Bool, true, false, cond, ◌==◌, ◌↔◌, Bor, slice_index_or, IsSome, IfSome, arith}
use Rattle.std.proofs.lemmas.Option.{slice_get-get_or}
use Rattle.std.specs.Option.{option_map}
use Rattle.std.specs.List.{find, position, remove}
use Rattle.std.specs.Set.{remove_key}
use Rattle.pool_syntax.specs.declared.tree.Named.{Named}
use Rattle.pool_relation.specs.Transition.{names_method, has_message, first_message}
use Rattle.message_queue.specs.declared.Mail.{Mail}
use Rattle.message_queue.specs.Mails.{message_of, first_of, without_of}

module _ {X : Type 0} (p : X → Bool) where
  place_cons : (x : X) (xs : List X) → position p (x ∷ xs) ≡ cond (p x) (Some 0) (option_map (λ i. i + 1) (position p xs))
  place_cons x xs = grind arith

  -- the first that passes is in the first part
  pub found_early : (xs ys : List X) (i : ℕ) → position p xs ≡ Some i → (find p (xs ++ ys) ≡ slice_get xs i) × (remove_key p (xs ++ ys) ≡ remove xs i ++ ys) × (i < length xs)
  found_early [] ys i h = absurd (grind (arith, h))
  found_early (x ∷ xs) ys i h = by (λ j e. found_early xs ys j e) i (sym (place_cons x xs) ∙ h) (p x) refl (position p xs) refl
    where
      by : ((j : ℕ) → position p xs ≡ Some j → (find p (xs ++ ys) ≡ slice_get xs j) × (remove_key p (xs ++ ys) ≡ remove xs j ++ ys) × (j < length xs)) → (j : ℕ) → cond (p x) (Some 0) (option_map (λ k. k + 1) (position p xs)) ≡ Some j → (b : Bool) → p x ≡ b → (r : Option ℕ) → position p xs ≡ r
          → (find p (x ∷ xs ++ ys) ≡ slice_get (x ∷ xs) j) × (remove_key p (x ∷ xs ++ ys) ≡ remove (x ∷ xs) j ++ ys) × (j < length (x ∷ xs))
      by f zero g true q r e = (grind (arith, q), grind (arith, q), omega arith)
      by f (suc j) g true q r e = absurd (grind (arith, g, q))
      by f j g false q None e = absurd (grind (arith, g, q, e))
      by f zero g false q (Some k) e = absurd (grind (arith, g, q, e))
      by f (suc j) g false q (Some k) e =
          let same : k ≡ j = grind (arith, g, q, e) in
          let i = f j (e ∙ ap Some same) in
          let a = i.0 in let b = i.1 in let l = i.2 in
          (grind (arith, q, a), grind (arith, q, b), omega (arith, l))

  -- it is not in the first part
  pub not_early : (xs ys : List X) → position p xs ≡ None → (find p (xs ++ ys) ≡ find p ys) × (remove_key p (xs ++ ys) ≡ xs ++ remove_key p ys)
  not_early [] ys h = (refl, refl)
  not_early (x ∷ xs) ys h = by (λ e. not_early xs ys e) (sym (place_cons x xs) ∙ h) (p x) refl (position p xs) refl
    where
      by : (position p xs ≡ None → (find p (xs ++ ys) ≡ find p ys) × (remove_key p (xs ++ ys) ≡ xs ++ remove_key p ys)) → cond (p x) (Some 0) (option_map (λ k. k + 1) (position p xs)) ≡ None → (b : Bool) → p x ≡ b → (r : Option ℕ) → position p xs ≡ r
          → (find p (x ∷ xs ++ ys) ≡ find p ys) × (remove_key p (x ∷ xs ++ ys) ≡ x ∷ xs ++ remove_key p ys)
      by f g true q r e = absurd (grind (arith, g, q))
      by f g false q (Some k) e = absurd (grind (arith, g, q, e))
      by f g false q None e = let i = f e in let a = i.0 in let b = i.1 in (grind (arith, q, a), grind (arith, q, b))

-- what a queue lends or gives at a place that it has
pub lent_at : {X : Type 0} (xs : List X) (i : ℕ) (n : ℕ) (r : Option (Bor X)) → n ≡ length xs → (IsSome r ↔ (i < n)) → IfSome r (λ x. x.now ≡ slice_index_or xs i x.now) → i < length xs → option_map (λ x. x.now) r ≡ slice_get xs i
lent_at xs i n None e v h l = let b : false ≡ true = v.1 (omega (arith, e, l)) in absurd (grind (arith, b))
lent_at xs i n (Some x) e v h l = ap Some h ∙ sym (slice_get-get_or xs i x.now l)

pub given_at : {X : Type 0} (xs : List X) (i : ℕ) (n : ℕ) (r : Option X) → n ≡ length xs → (IsSome r ↔ (i < n)) → IfSome r (λ x. x ≡ slice_index_or xs i x) → i < length xs → r ≡ slice_get xs i
given_at xs i n None e v h l = let b : false ≡ true = v.1 (omega (arith, e, l)) in absurd (grind (arith, b))
given_at xs i n (Some x) e v h l = ap Some h ∙ sym (slice_get-get_or xs i x l)

pub no_early : {X : Type 0} (xs ys : List X) → xs ++ ys ≡ [] → xs ≡ []
no_early [] ys h = refl
no_early (x ∷ xs) ys h = absurd (grind (arith, h))

-- what the definitions on messages say of mails
named_found : (names : List Named) (ms : List Mail) → option_map message_of (find (λ m. names_method names m.method.0) ms) ≡ first_message names (map message_of ms)
named_found names [] = refl
named_found names (m ∷ ms) = let i = named_found names ms in by (names_method names m.method.0) refl i
  where
    by : (b : Bool) → names_method names m.method.0 ≡ b → option_map message_of (find (λ n. names_method names n.method.0) ms) ≡ first_message names (map message_of ms)
        → option_map message_of (find (λ n. names_method names n.method.0) (m ∷ ms)) ≡ first_message names (map message_of (m ∷ ms))
    by true q i = rw q refl
    by false q i = rw q i

named_has : (names : List Named) (ms : List Mail) → is_some (find (λ m. names_method names m.method.0) ms) ≡ has_message names (map message_of ms)
named_has names [] = refl
named_has names (m ∷ ms) = let i = named_has names ms in by (names_method names m.method.0) refl i
  where
    by : (b : Bool) → names_method names m.method.0 ≡ b → is_some (find (λ n. names_method names n.method.0) ms) ≡ has_message names (map message_of ms)
        → is_some (find (λ n. names_method names n.method.0) (m ∷ ms)) ≡ has_message names (map message_of (m ∷ ms))
    by true q i = rw q refl
    by false q i = rw q i

pub of_found : (a : ℕ) (ms : List Mail) → option_map message_of (find (λ m. m.method.0 == a) ms) ≡ first_of a (map message_of ms)
of_found a [] = refl
of_found a (m ∷ ms) = let i = of_found a ms in by (m.method.0 == a) refl i
  where
    by : (b : Bool) → (m.method.0 == a) ≡ b → option_map message_of (find (λ n. n.method.0 == a) ms) ≡ first_of a (map message_of ms)
        → option_map message_of (find (λ n. n.method.0 == a) (m ∷ ms)) ≡ first_of a (map message_of (m ∷ ms))
    by true q i = rw q refl
    by false q i = rw q i

pub of_rest : (a : ℕ) (ms : List Mail) → map message_of (remove_key (λ m. m.method.0 == a) ms) ≡ without_of a (map message_of ms)
of_rest a [] = refl
of_rest a (m ∷ ms) = let i = of_rest a ms in by (m.method.0 == a) refl i
  where
    by : (b : Bool) → (m.method.0 == a) ≡ b → map message_of (remove_key (λ n. n.method.0 == a) ms) ≡ without_of a (map message_of ms)
        → map message_of (remove_key (λ n. n.method.0 == a) (m ∷ ms)) ≡ without_of a (map message_of (m ∷ ms))
    by true q i = rw q refl
    by false q i = rw q (ap (λ l. message_of m ∷ l) i)

seen : (r : Option (Bor Mail)) → option_map (λ m. message_of m.now) r ≡ option_map message_of (option_map (λ m. m.now) r)
seen None = refl
seen (Some x) = refl

seen_some : (r : Option (Bor Mail)) → is_some r ≡ is_some (option_map (λ m. m.now) r)
seen_some None = refl
seen_some (Some x) = refl

pub first_named_is : (names : List Named) (ms : List Mail) (r : Option (Bor Mail)) → option_map (λ m. m.now) r ≡ find (λ (m : Mail). names_method names m.method.0) ms → option_map (λ m. message_of m.now) r ≡ first_message names (map message_of ms)
first_named_is names ms r h = seen r ∙ ap (option_map message_of) h ∙ named_found names ms

pub has_named_is : (names : List Named) (ms : List Mail) (r : Option (Bor Mail)) → option_map (λ m. m.now) r ≡ find (λ (m : Mail). names_method names m.method.0) ms → is_some r ≡ has_message names (map message_of ms)
has_named_is names ms r h = seen_some r ∙ ap is_some h ∙ named_has names ms

pub first_of_is : (a : ℕ) (ms : List Mail) (r : Option (Bor Mail)) → option_map (λ m. m.now) r ≡ find (λ (m : Mail). m.method.0 == a) ms → option_map (λ m. message_of m.now) r ≡ first_of a (map message_of ms)
first_of_is a ms r h = seen r ∙ ap (option_map message_of) h ∙ of_found a ms
