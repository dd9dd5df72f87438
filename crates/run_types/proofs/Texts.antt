-- The keys of a set of byte vectors as a table of texts.
use Rattle.std.proofs.Common.{◌≡◌, refl, sym, ap, ◌∙◌, ℕ, suc, ◌+◌, ◌<◌, ◌≤◌, Bool, true, false, cond, ◌||◌, List, [], ◌∷◌, ◌++◌, length, map, take, Option, Some, None, is_some, Vec, Global, bytes_eq, arith, position, slice_get, nat_lt, length-append, ◌^◌, get_or, zero, subst}
use Rattle.std.specs.List.{list_any, position_or_len}
use Rattle.std.proofs.lemmas.List.Recursion.{is_position_or_len}
use Rattle.std.proofs.lemmas.Slice.Eq.{bytes_eq-Decides}
use Rattle.std.proofs.lemmas.Bool.Decides.{same_from_decides}
use Rattle.indexmap.specs.IndexSet.{insert_key}
use Rattle.run_types.specs.Table.{is_among, is_distinct, name_of, with_text}

-- the texts of the keys
abbrev pub texts_of : List (Vec ℕ Global) → List (List ℕ)
texts_of keys = map (λ text. text.items) keys

bytes_eq-swap : (x y : List ℕ) → bytes_eq x y ≡ bytes_eq y x
bytes_eq-swap x y =
    let a = bytes_eq-Decides x y in
    let b = bytes_eq-Decides y x in
    same_from_decides (bytes_eq x y) (bytes_eq y x) a (λ h. sym (b.0 h), λ h. b.1 (sym h))

-- the first key with the text stands at the text's place
pub name_of-first : (keys : List (Vec ℕ Global)) (w : List ℕ) → name_of (texts_of keys) w ≡ position_or_len (λ k. bytes_eq w k.items) keys
name_of-first keys w = is_position_or_len (λ ks. name_of (texts_of ks) w) (λ k. bytes_eq w k.items) refl (λ k ks. step k.items (name_of (texts_of ks) w)) keys
  where
    step : (x : List ℕ) (n : ℕ) → elim (bytes_eq x w) [ true ↦ 0 | false ↦ suc n ] ≡ cond (bytes_eq w x) 0 (1 + n)
    step x n = rw (bytes_eq-swap x w) (by (bytes_eq w x))
      where
        by : (b : Bool) → elim b [ true ↦ 0 | false ↦ suc n ] ≡ cond b 0 (1 + n)
        by true = refl
        by false = omega arith

pub is_among-any : (keys : List (Vec ℕ Global)) (w : List ℕ) → is_among (texts_of keys) w ≡ list_any (λ k. bytes_eq w k.items) keys
is_among-any [] w = refl
is_among-any (k ∷ ks) w = rw (bytes_eq-swap k.items w, is_among-any ks w) refl

-- what a look-up finds is the text's place
pub found_at : (keys : List (Vec ℕ Global)) (names : List (List ℕ)) (w : List ℕ) (i : ℕ) → texts_of keys ≡ names → Some i ≡ position (λ k. bytes_eq w k.items) keys → i ≡ name_of names w
found_at keys names w i e h = rw (← e, name_of-first keys w) (by (nat_lt (position_or_len (λ k. bytes_eq w k.items) keys) (length keys)) h)
  where
    by : (b : Bool) → Some i ≡ cond b (Some (position_or_len (λ k. bytes_eq w k.items) keys)) None → i ≡ position_or_len (λ k. bytes_eq w k.items) keys
    by true h' = cc
    by false h' = absurd (cc)

-- and it finds exactly the texts that are there
pub is_among-found : (keys : List (Vec ℕ Global)) (names : List (List ℕ)) (w : List ℕ) (r : Option ℕ) → texts_of keys ≡ names → is_some r ≡ list_any (λ k. bytes_eq w k.items) keys → is_among names w ≡ is_some r
is_among-found keys names w r e h = rw (← e, is_among-any keys w, h) refl

-- a text that is not there is put last, and one that is there is not put again
pub texts_of-insert : (keys : List (Vec ℕ Global)) (v : Vec ℕ Global) → texts_of (insert_key (λ x y. bytes_eq x.items y.items) keys v) ≡ with_text (texts_of keys) v.items
texts_of-insert keys v = rw (with_text, is_among-any keys v.items) (by (list_any (λ k. bytes_eq v.items k.items) keys))
  where
    last : (ks : List (Vec ℕ Global)) → texts_of (ks ++ v ∷ []) ≡ texts_of ks ++ v.items ∷ []
    last [] = refl
    last (k ∷ ks) = ap (λ l. k.items ∷ l) (last ks)

    by : (b : Bool) → texts_of (cond b keys (keys ++ v ∷ [])) ≡ elim b [ true ↦ texts_of keys | false ↦ texts_of keys ++ v.items ∷ [] ]
    by true = refl
    by false = last keys

pub is_among-last : (names : List (List ℕ)) (w x : List ℕ) → is_among (names ++ w ∷ []) x ≡ (is_among names x || bytes_eq w x)
is_among-last [] w x = grind arith
is_among-last (n ∷ ns) w x = rw (is_among-last ns w x) (grind arith)

is_distinct-last : (names : List (List ℕ)) (w : List ℕ) → is_among names w ≡ false → is_distinct names ≡ true → is_distinct (names ++ w ∷ []) ≡ true
is_distinct-last [] w a d = refl
is_distinct-last (n ∷ ns) w a d = let r = is_distinct-last ns w in rw (is_among-last ns w n, bytes_eq-swap w n) (grind (arith, r))

-- a text that is not there has no place yet
pub name_of-missing : (names : List (List ℕ)) (w : List ℕ) → is_among names w ≡ false → name_of names w ≡ length names
name_of-missing [] w h = refl
name_of-missing (n ∷ ns) w h = grind (arith, name_of-missing ns w)

-- a text that is there stands at its place
pub text_at_place : (names : List (List ℕ)) (w : List ℕ) → is_among names w ≡ true → slice_get names (name_of names w) ≡ Some w
text_at_place [] w h = absurd (cc)
text_at_place (x ∷ xs) w h = by (bytes_eq x w) refl (λ k. text_at_place xs w k)
  where
    by : (b : Bool) → bytes_eq x w ≡ b → (is_among xs w ≡ true → slice_get xs (name_of xs w) ≡ Some w) → slice_get (x ∷ xs) (elim b [ true ↦ 0 | false ↦ suc (name_of xs w) ]) ≡ Some w
    by true e rest = ap Some ((bytes_eq-Decides x w).0 e)
    by false e rest = rest (rw e at h)

-- the table after a new text's vector is put in
pub texts_of-put : (keys after : List (Vec ℕ Global)) (names : List (List ℕ)) (v : Vec ℕ Global) → texts_of keys ≡ names → is_among names v.items ≡ false → after ≡ insert_key (λ x y. bytes_eq x.items y.items) keys v → texts_of after ≡ names ++ v.items ∷ []
texts_of-put keys after names v e new h = rw (h, texts_of-insert keys v, e, with_text, new) (ap (λ l. l ++ v.items ∷ []) e)

-- and its place
pub place-put : (keys : List (Vec ℕ Global)) (names : List (List ℕ)) (v : Vec ℕ Global) (i : ℕ) → texts_of keys ≡ names → is_among names v.items ≡ false → i ≡ position_or_len (λ k. bytes_eq v.items k.items) keys → i ≡ length names
place-put keys names v i e new h = let p = name_of-first keys v.items in let q = name_of-missing names v.items new in let r = ap (λ n. name_of n v.items) e in cc

-- what a table keeps
abbrev pub IsSound : List (List ℕ) → Type 0
IsSound names = (is_distinct names ≡ true) × (length names ≤ 2 ^ 32)

pub sound-put : (keys after : List (Vec ℕ Global)) (names : List (List ℕ)) (v : Vec ℕ Global) → texts_of keys ≡ names → IsSound (texts_of keys) → length names < 2 ^ 32 → is_among names v.items ≡ false → texts_of after ≡ names ++ v.items ∷ [] → IsSound (texts_of after)
sound-put keys after names v h k n new e =
    let d : is_distinct names ≡ true = sym (ap is_distinct h) ∙ k.0 in
    subst IsSound (sym e) (is_distinct-last names v.items new d, omega (arith, length-append names (v.items ∷ [])))

differs_at : (keys : List (Vec ℕ Global)) (w : List ℕ) (j : ℕ) (v : Vec ℕ Global) → j < length keys → v ≡ get_or keys j v → is_among (texts_of keys) w ≡ false → bytes_eq v.items w ≡ false
differs_at [] w j v h at new = absurd (omega arith)
differs_at (k ∷ ks) w zero v h at new = let e : v ≡ k = at in rw e (grind arith)
differs_at (k ∷ ks) w (suc j) v h at new = differs_at ks w j v (omega arith) at (grind arith)

-- in a table no text stands before its place
pub new_at : (keys : List (Vec ℕ Global)) (i : ℕ) (v : Vec ℕ Global) → i < length keys → v ≡ get_or keys i v → is_distinct (texts_of keys) ≡ true → is_among (texts_of (take i keys)) v.items ≡ false
new_at [] i v h at d = absurd (omega arith)
new_at (k ∷ ks) zero v h at d = refl
new_at (k ∷ ks) (suc i) v h at d =
    let a : is_among (texts_of ks) k.items ≡ false = grind arith in
    let f = differs_at ks k.items i v (omega arith) at a in
    let r = new_at ks i v (omega arith) at (grind arith) in
    rw (bytes_eq-swap k.items v.items, f) r
