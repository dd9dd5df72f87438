-- Each run is a renaming of a run that names new objects in order. So a closed list has each reached configuration, up
-- to a renaming.
use Rattle.std.proofs.Common.{◌≡◌, ◌≢◌, ◌≤◌, ◌<◌, refl, sym, ap, ◌∙◌, subst, ℕ, suc, List, [], ◌∷◌, map, Option, Some, None, is_some, Bool, true, false, ◌&&◌, ◌||◌, ◌==◌, if◌then◌else◌, arith}
use Rattle.run_types.specs.declared.types.NameId.{NameId}
use Rattle.run_types.specs.declared.types.Label.{Label}
use Rattle.run_types.specs.declared.types.Label.TheVariants as L
use Rattle.pool_syntax.specs.Terms.{ProgramTree}
use Rattle.run_types.specs.Partial.{◌>>=◌}
use Rattle.run_types.proofs.Laws.{equal, equals, differ}
use Rattle.pool_relation.specs.Configuration.{Configuration, object_of}
use Rattle.pool_relation.specs.Transition.{transition, run}
use Rattle.search_laws.specs.Renamed.{Renaming, renamed_label}
use Rattle.reachability.specs.Search.{after, names_next, in_order}
use Rattle.search_laws.proofs.RenamedTransition.{unequal, to_one}
use Rattle.search_laws.proofs.RenamedRun.{makes_none, Keeps, KeepsAll, Adds, AddsOne, others_keep, new_adds}

-- two names exchanged
abbrev pub swap : ℕ → ℕ → ℕ → ℕ
swap a b q = if q == a then b else (if q == b then a else q)

pub swap_first : (a b : ℕ) → swap a b a ≡ b
swap_first a b = ap (λ t. if t then b else (if a == b then a else a)) (equals a)

pub swap_kept : (a b q : ℕ) → q ≢ a → q ≢ b → swap a b q ≡ q
swap_kept a b q h i = ap (λ t. if t then b else (if q == b then a else q)) (differ q a h) ∙ ap (λ t. if t then a else q) (differ q b i)

swap_second : (a b : ℕ) → swap a b b ≡ a
swap_second a b = by (b == a) refl
  where
    by : (t : Bool) → (b == a) ≡ t → swap a b b ≡ a
    by true i = ap (λ t. if t then b else (if b == b then a else b)) i ∙ equal b a i
    by false i = ap (λ t. if t then b else (if b == b then a else b)) i ∙ ap (λ t. if t then a else b) (equals b)

pub swap_twice : (a b q : ℕ) → swap a b (swap a b q) ≡ q
swap_twice a b q = by (q == a) refl (q == b) refl
  where
    by : (s : Bool) → (q == a) ≡ s → (t : Bool) → (q == b) ≡ t → swap a b (swap a b q) ≡ q
    by true i t j = let e : q ≡ a = equal q a i in ap (λ r. swap a b (swap a b r)) e ∙ ap (swap a b) (swap_first a b) ∙ swap_second a b ∙ sym e
    by false i true j = let e : q ≡ b = equal q b j in ap (λ r. swap a b (swap a b r)) e ∙ ap (swap a b) (swap_second a b) ∙ swap_first a b ∙ sym e
    by false i false j = let e : swap a b q ≡ q = swap_kept a b q (unequal q a i) (unequal q b j) in ap (swap a b) e ∙ e

-- other names, and then two of them exchanged
abbrev pub swapped : Renaming → ℕ → ℕ → Renaming
swapped f a b = record {
  to = λ q. swap a b (f.to q);
  from = λ q. f.from (swap a b q);
  from_to = λ q. ap f.from (swap_twice a b (f.to q)) ∙ f.from_to q;
  to_from = λ q. ap (swap a b) (f.to_from (swap a b q)) ∙ swap_twice a b q;
}

abbrev pub same_all : Renaming
same_all = record { to = λ q. q; from = λ q. q; from_to = λ q. refl; to_from = λ q. refl }

-- the objects that are there have the names below n
pub record Below (f : Renaming) (n : ℕ) (c : Configuration) : Type 0 where
  pub there : (q : ℕ) → is_some (object_of c q) ≡ true → f.to q < n
  pub free : (q : ℕ) → is_some (object_of c q) ≡ false → n ≤ f.to q

-- a label that makes an object, or another
data Kind : Label → Type 0 where
  Makes : (o m : ℕ) (k : NameId) → Kind (L.New o m k)
  Other : {l : Label} → makes_none l ≡ true → ((g : ℕ → ℕ) (n : ℕ) → names_next n (renamed_label g l) ≡ true) → ((g : ℕ → ℕ) (n : ℕ) → after n (renamed_label g l) ≡ n) → Kind l

kind : (l : Label) → Kind l
kind (L.Local o) = Other refl (λ g n. refl) (λ g n. refl)
kind (L.New o m k) = Makes o m k
kind (L.Answer b o m args) = Other refl (λ g n. refl) (λ g n. refl)
kind (L.Return b o v) = Other refl (λ g n. refl) (λ g n. refl)
kind (L.Send o b m args) = Other refl (λ g n. refl) (λ g n. refl)
kind (L.Take b s m args) = Other refl (λ g n. refl) (λ g n. refl)
kind (L.Write o item) = Other refl (λ g n. refl) (λ g n. refl)
kind (L.Pick o i) = Other refl (λ g n. refl) (λ g n. refl)
kind (L.Fault o e) = Other refl (λ g n. refl) (λ g n. refl)

-- names for a run, of which those below n are kept
pub record Arranged (f : Renaming) (n : ℕ) (ls : List Label) : Type 0 where
  pub names : Renaming
  pub keeps : (q : ℕ) → f.to q < n → names.to q ≡ f.to q
  pub orders : in_order n (map (renamed_label names.to) ls) ≡ true

both_true : (a b : Bool) → a ≡ true → b ≡ true → (a && b) ≡ true
both_true true b e h = h
both_true false b e h = absurd (cc)

below_kept : (f : Renaming) (n : ℕ) (c e : Configuration) → ((q : ℕ) → is_some (object_of e q) ≡ is_some (object_of c q)) → Below f n c → Below f n e
below_kept f n c e k h = record { there = λ q t. h.there q (sym (k q) ∙ t); free = λ q t. h.free q (sym (k q) ∙ t) }

below_added : (f : Renaming) (n m : ℕ) (c e : Configuration) → is_some (object_of c m) ≡ false
    → ((q : ℕ) → is_some (object_of e q) ≡ ((q == m) || is_some (object_of c q))) → Below f n c → Below (swapped f (f.to m) n) (suc n) e
below_added f n m c e u k h = record { there = there; free = free }
  where
    over : n ≤ f.to m
    over = h.free m u

    old : (q : ℕ) → is_some (object_of c q) ≡ true → swap (f.to m) n (f.to q) ≡ f.to q
    old q t = let l : f.to q < n = h.there q t in swap_kept (f.to m) n (f.to q) (λ i. absurd (omega arith)) (λ i. absurd (omega arith))

    there : (q : ℕ) → is_some (object_of e q) ≡ true → swap (f.to m) n (f.to q) < suc n
    there q t = by (q == m) refl (is_some (object_of c q)) refl
      where
        by : (a : Bool) → (q == m) ≡ a → (b : Bool) → is_some (object_of c q) ≡ b → swap (f.to m) n (f.to q) < suc n
        by true i b j =
            let w : swap (f.to m) n (f.to q) ≡ n = ap (λ r. swap (f.to m) n (f.to r)) (equal q m i) ∙ swap_first (f.to m) n in
            omega arith
        by false i true j =
            let w : swap (f.to m) n (f.to q) ≡ f.to q = old q j in
            let l : f.to q < n = h.there q j in
            omega arith
        by false i false j =
            let w : is_some (object_of e q) ≡ false = k q ∙ ap (λ r. r || is_some (object_of c q)) i ∙ j in
            absurd (let z : true ≡ false = sym t ∙ w in cc)

    free : (q : ℕ) → is_some (object_of e q) ≡ false → suc n ≤ swap (f.to m) n (f.to q)
    free q t = by (q == m) refl (is_some (object_of c q)) refl
      where
        by : (a : Bool) → (q == m) ≡ a → (b : Bool) → is_some (object_of c q) ≡ b → suc n ≤ swap (f.to m) n (f.to q)
        by true i b j =
            let w : is_some (object_of e q) ≡ true = k q ∙ ap (λ r. r || is_some (object_of c q)) i in
            absurd (let z : true ≡ false = sym w ∙ t in cc)
        by false i true j =
            let w : is_some (object_of e q) ≡ true = k q ∙ ap (λ r. r || is_some (object_of c q)) i ∙ j in
            absurd (let z : true ≡ false = sym w ∙ t in cc)
        by false i false j = at_n (f.to q == n) refl
          where
            above : n ≤ f.to q
            above = h.free q j

            not_m : f.to q ≢ f.to m
            not_m g = unequal q m i (to_one f q m g)

            at_n : (b : Bool) → (f.to q == n) ≡ b → suc n ≤ swap (f.to m) n (f.to q)
            at_n true g =
                let s : f.to q ≡ n = equal (f.to q) n g in
                let w : swap (f.to m) n (f.to q) ≡ f.to m = ap (swap (f.to m) n) s ∙ swap_second (f.to m) n in
                let d : n ≢ f.to m = λ z. not_m (s ∙ z) in
                omega arith
            at_n false g =
                let d : f.to q ≢ n = unequal (f.to q) n g in
                let w : swap (f.to m) n (f.to q) ≡ f.to q = swap_kept (f.to m) n (f.to q) not_m d in
                omega arith

pub arranged : (p : ProgramTree) (c d : Configuration) (ls : List Label) (n : ℕ) (f : Renaming) → Below f n c → run p c ls ≡ Some d → Arranged f n ls
arranged p c d [] n f h r = record { names = f; keeps = λ q l. refl; orders = refl }
arranged p c d (l ∷ ls) n f h r = by (transition p c l) refl r (λ e m g b s. arranged p e d ls m g b s)
  where
    step : (l : Label) (e : Configuration) → transition p c l ≡ Some e → run p e ls ≡ Some d
        → ((e : Configuration) (m : ℕ) (g : Renaming) → Below g m e → run p e ls ≡ Some d → Arranged g m ls) → Kind l → Arranged f n (l ∷ ls)
    step l e i s rest (Other t next stays) =
        let keep : Keeps c (Some e) = subst (Keeps c) i (others_keep p c l t) in
        let all : (q : ℕ) → is_some (object_of e q) ≡ is_some (object_of c q) = elim keep [ KeepsAll k ↦ k ] in
        let a : Arranged f n ls = rest e n f (below_kept f n c e all h) s in
        record {
          names = a.names;
          keeps = a.keeps;
          orders = both_true _ _ (next a.names.to n) (ap (λ m. in_order m (map (renamed_label a.names.to) ls)) (stays a.names.to n) ∙ a.orders);
        }
    step (L.New o m k) e i s rest (Makes _ _ _) =
        let adds : Adds m c (Some e) = subst (Adds m c) i (new_adds p c o m k) in
        elim adds [
          | AddsOne u all ↦
              let a : Arranged (swapped f (f.to m) n) (suc n) ls = rest e (suc n) (swapped f (f.to m) n) (below_added f n m c e u all h) s in
              let over : n ≤ f.to m = h.free m u in
              let here : swap (f.to m) n (f.to m) ≡ n = swap_first (f.to m) n in
              let named : a.names.to m ≡ n = a.keeps m (omega arith) ∙ here in
              record {
                names = a.names;
                keeps = λ q l.
                    let w : swap (f.to m) n (f.to q) ≡ f.to q = swap_kept (f.to m) n (f.to q) (λ i. absurd (omega arith)) (λ i. absurd (omega arith)) in
                    a.keeps q (omega arith) ∙ w;
                orders = both_true _ _ (ap (λ r. r == n) named ∙ equals n) a.orders;
              }
        ]

    by : (t : Option Configuration) → transition p c l ≡ t → (t >>= λ e. run p e ls) ≡ Some d
        → ((e : Configuration) (m : ℕ) (g : Renaming) → Below g m e → run p e ls ≡ Some d → Arranged g m ls) → Arranged f n (l ∷ ls)
    by None i s rest = absurd (cc)
    by (Some e) i s rest = step l e i s rest (kind l)
