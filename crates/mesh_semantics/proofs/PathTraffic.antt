-- The values along a path after a packet entered, moved or left.
use Rattle.std.proofs.Common.{◌≡◌, ◌≢◌, ◌⊎◌, inl, inr, refl, sym, ap, ap₂, subst, ◌∙◌, ℕ, ◌*◌, ◌<◌, List, [], ◌∷◌, ◌++◌, append_assoc, append-nil, Some, flat_map}
use Rattle.std.proofs.lemmas.Grind.{flat_map-append}
use Rattle.run_types.specs.declared.types.Placement.{Placement}
use Rattle.run_types.specs.Tables.{Pair}
use Rattle.run_types.specs.Paths.{next, path, on_link, put_last, move_head, along, ends_of}
use Rattle.mesh_semantics.specs.Act.{first_of}
use Rattle.mesh_semantics.specs.Sound.{Has}
use Rattle.run_types.specs.PathFacts.{Leads, In, Once, Ways}
use Rattle.mesh_semantics.proofs.LinksAndArrivals.{Same, Is, Not, same, on_put_same, on_put_other, on_moved_same, on_moved_other}

-- no link is twice in the list
abbrev pub Apart : List Pair → Type 0
Apart [] = Unit {0}
Apart (k ∷ ks) = (Has ks k → ⊥) × Apart ks

-- the last link of a list, and one link behind another
abbrev pub IsLast : List Pair → Pair → Type 0
IsLast [] k = ⊥
IsLast (j ∷ []) k = j ≡ k
IsLast (j ∷ i ∷ ks) k = IsLast (i ∷ ks) k

abbrev pub Follows : List Pair → Pair → Pair → Type 0
Follows [] k j = ⊥
Follows (i ∷ []) k j = ⊥
Follows (i ∷ h ∷ ks) k j = ((i ≡ k) × (h ≡ j)) ⊎ Follows (h ∷ ks) k j

last_there : (ks : List Pair) (k : Pair) → IsLast ks k → Has ks k
last_there [] k h = h
last_there (j ∷ []) k h = inl h
last_there (j ∷ i ∷ ks) k h = inr (last_there (i ∷ ks) k h)

first_there : (ks : List Pair) (k j : Pair) → Follows ks k j → Has ks k
first_there [] k j h = h
first_there (i ∷ []) k j h = absurd h
first_there (i ∷ h ∷ ks) k j (inl e) = inl e.0
first_there (i ∷ h ∷ ks) k j (inr e) = inr (first_there (h ∷ ks) k j e)

pub second_there : (ks : List Pair) (k j : Pair) → Follows ks k j → Has ks j
second_there [] k j h = h
second_there (i ∷ []) k j h = absurd h
second_there (i ∷ h ∷ ks) k j (inl e) = inr (inl e.1)
second_there (i ∷ h ∷ ks) k j (inr e) = inr (second_there (h ∷ ks) k j e)

module _ {X Y : Type 0} (h : X → List Y) where
  -- where each link of the path has as much as before
  pub along_same : (ls ms : List (Pair × X)) (ks : List Pair) → ((j : Pair) → Has ks j → flat_map h (on_link ms j) ≡ flat_map h (on_link ls j))
      → along h ms ks ≡ along h ls ks
  along_same ls ms [] e = refl
  along_same ls ms (k ∷ ks) e = ap₂ ◌++◌ (along_same ls ms ks (λ j t. e j (inr t))) (e k (inl refl))

  -- a value of which h gives nothing
  pub put_nothing : (ls : List (Pair × X)) (k : Pair) (x : X) (ks : List Pair) → h x ≡ [] → along h (put_last k x ls) ks ≡ along h ls ks
  put_nothing ls k x ks n = along_same ls (put_last k x ls) ks (λ j t. by j (same j k))
    where
      by : (j : Pair) → Same j k → flat_map h (on_link (put_last k x ls) j) ≡ flat_map h (on_link ls j)
      by j (Is i e) =
          subst (λ (q : Pair). flat_map h (on_link (put_last k x ls) q) ≡ flat_map h (on_link ls q)) (sym i)
          (ap (flat_map h) (on_put_same k x ls) ∙ flat_map-append h (on_link ls k) (x ∷ []) ∙ rw n (append-nil (flat_map h (on_link ls k))))
      by j (Not i e) = ap (flat_map h) (on_put_other j k x ls i)

  pub move_nothing : (ls : List (Pair × X)) (k : Pair) (x : X) (ks : List Pair) → first_of (on_link ls k) ≡ Some x → h x ≡ []
      → along h (move_head k ls) ks ≡ along h ls ks
  move_nothing ls k x ks f n = along_same ls (move_head k ls) ks (λ j t. by j (same j k))
    where
      by : (j : Pair) → Same j k → flat_map h (on_link (move_head k ls) j) ≡ flat_map h (on_link ls j)
      by j (Is i e) =
          subst (λ (q : Pair). flat_map h (on_link (move_head k ls) q) ≡ flat_map h (on_link ls q)) (sym i)
          (sym (ap (flat_map h) (on_moved_same k x ls f) ∙ rw n refl))
      by j (Not i e) = ap (flat_map h) (on_moved_other j k ls i)

  -- a value enters at the first link of a path
  pub entered : (ls : List (Pair × X)) (k : Pair) (x : X) (ks : List Pair) → Apart (k ∷ ks)
      → along h (put_last k x ls) (k ∷ ks) ≡ along h ls (k ∷ ks) ++ h x
  entered ls k x ks a =
      let others : along h (put_last k x ls) ks ≡ along h ls ks = along_same ls (put_last k x ls) ks (λ j t. ap (flat_map h) (on_put_other j k x ls (λ e. a.0 (subst (Has ks) e t)))) in
      let own : flat_map h (on_link (put_last k x ls) k) ≡ flat_map h (on_link ls k) ++ h x =
      ap (flat_map h) (on_put_same k x ls) ∙ flat_map-append h (on_link ls k) (x ∷ []) ∙ ap (λ ys. flat_map h (on_link ls k) ++ ys) (append-nil (h x)) in
      ap₂ ◌++◌ others own ∙ sym (append_assoc (along h ls ks) (flat_map h (on_link ls k)) (h x))

  -- a value leaves from the last link of a path
  pub left : (ls : List (Pair × X)) (k : Pair) (x : X) (ks : List Pair) → Apart ks → IsLast ks k → first_of (on_link ls k) ≡ Some x
      → along h ls ks ≡ h x ++ along h (move_head k ls) ks
  left ls k x [] a e f = absurd e
  left ls k x (j ∷ []) a e f =
      subst (λ (q : Pair). along h ls (q ∷ []) ≡ h x ++ along h (move_head k ls) (q ∷ [])) (sym e) (ap (flat_map h) (on_moved_same k x ls f))
  left ls k x (j ∷ i ∷ ks) a e f =
      let rest = left ls k x (i ∷ ks) a.1 e f in
      let other : j ≢ k = λ s. a.0 (subst (Has (i ∷ ks)) (sym s) (last_there (i ∷ ks) k e)) in
      let kept : flat_map h (on_link (move_head k ls) j) ≡ flat_map h (on_link ls j) = ap (flat_map h) (on_moved_other j k ls other) in
      ap₂ ◌++◌ rest (sym kept) ∙ append_assoc (h x) (along h (move_head k ls) (i ∷ ks)) (flat_map h (on_link (move_head k ls) j))

  -- a value goes on from one link of a path to the next one
  pub gone_on : (ls : List (Pair × X)) (k j : Pair) (x : X) (ks : List Pair) → Apart ks → Follows ks k j → first_of (on_link ls k) ≡ Some x
      → along h (put_last j x (move_head k ls)) ks ≡ along h ls ks
  gone_on ls k j x [] a e f = absurd e
  gone_on ls k j x (i ∷ []) a e f = absurd e
  gone_on ls k j x (i ∷ g ∷ ks) a (inl e) f =
      subst (λ (q : Pair). along h (put_last j x (move_head k ls)) (q ∷ g ∷ ks) ≡ along h ls (q ∷ g ∷ ks)) (sym e.0)
      (subst (λ (q : Pair). along h (put_last j x (move_head k ls)) (k ∷ q ∷ ks) ≡ along h ls (k ∷ q ∷ ks)) (sym e.1) there)
    where
      ms : List (Pair × X)
      ms = put_last j x (move_head k ls)

      apart : k ≢ j
      apart s = a.0 (inl (e.1 ∙ sym s ∙ sym e.0))

      no_k : Has ks k → ⊥
      no_k t = a.0 (inr (subst (Has ks) (sym e.0) t))

      no_j : Has ks j → ⊥
      no_j t = a.1.0 (subst (Has ks) (sym e.1) t)

      rest : along h ms ks ≡ along h ls ks
      rest = along_same ls ms ks (λ q t. ap (flat_map h) (on_put_other q j x (move_head k ls) (λ s. no_j (subst (Has ks) s t)) ∙ on_moved_other q k ls (λ s. no_k (subst (Has ks) s t))))

      at_j : flat_map h (on_link ms j) ≡ flat_map h (on_link ls j) ++ h x
      at_j = ap (flat_map h) (on_put_same j x (move_head k ls) ∙ ap (λ xs. xs ++ x ∷ []) (on_moved_other j k ls (λ s. apart (sym s))))
          ∙ flat_map-append h (on_link ls j) (x ∷ []) ∙ ap (λ ys. flat_map h (on_link ls j) ++ ys) (append-nil (h x))

      at_k : h x ++ flat_map h (on_link ms k) ≡ flat_map h (on_link ls k)
      at_k = ap (λ xs. h x ++ flat_map h xs) (on_put_other k j x (move_head k ls) apart) ∙ sym (ap (flat_map h) (on_moved_same k x ls f))

      there : along h ms (k ∷ j ∷ ks) ≡ along h ls (k ∷ j ∷ ks)
      there = ap₂ (λ a b. (a ++ b) ++ flat_map h (on_link ms k)) rest at_j
          ∙ ap (λ zs. zs ++ flat_map h (on_link ms k)) (sym (append_assoc (along h ls ks) (flat_map h (on_link ls j)) (h x)))
          ∙ append_assoc (along h ls ks ++ flat_map h (on_link ls j)) (h x) (flat_map h (on_link ms k)) ∙ ap (λ zs. (along h ls ks ++ flat_map h (on_link ls j)) ++ zs) at_k
  gone_on ls k j x (i ∷ g ∷ ks) a (inr e) f =
      let rest = gone_on ls k j x (g ∷ ks) a.1 e f in
      let not_k : i ≢ k = λ s. a.0 (subst (Has (g ∷ ks)) (sym s) (first_there (g ∷ ks) k j e)) in
      let not_j : i ≢ j = λ s. a.0 (subst (Has (g ∷ ks)) (sym s) (second_there (g ∷ ks) k j e)) in
      ap₂ ◌++◌ rest (ap (flat_map h) (on_put_other i j x (move_head k ls) not_j ∙ on_moved_other i k ls not_k))

-- of the two facts on paths
module _ (step : ℕ → ℕ → ℕ) (b : ℕ) where
  from_in : (a : ℕ) (ks : List Pair) (k : Pair) → Leads step b a ks → Has ks k → In k.0 (a ∷ ends_of ks)
  from_in a [] k p h = absurd h
  from_in a (j ∷ ks) k p (inl e) = inl (sym p.1 ∙ ap (λ (q : Pair). q.0) e)
  from_in a (j ∷ ks) k p (inr e) = inr (from_in j.1 ks k p.3 e)

  pub apart : (a : ℕ) (ks : List Pair) → Leads step b a ks → Once (a ∷ ends_of ks) → Apart ks
  apart a [] p o = tt
  apart a (j ∷ ks) p o = (λ t. o.0 (subst (λ n. In n (ends_of (j ∷ ks))) p.1 (from_in j.1 ks j p.3 t)), apart j.1 ks p.3 o.1)

  -- a link of a path is by the step, and ends at b or has the next one behind it
  pub data Where (ks : List Pair) (k : Pair) : Type 0 where
    End : k.1 ≡ b → IsLast ks k → Where ks k
    Before : k.1 ≢ b → Follows ks k (k.1, step k.1 b) → Where ks k

  pub where_is : (a : ℕ) (ks : List Pair) (k : Pair) → Leads step b a ks → Has ks k → (k.0 ≢ b) × (k.1 ≡ step k.0 b) × Where ks k
  where_is a [] k p h = absurd h
  where_is a (j ∷ []) k p (inr e) = absurd e
  where_is a (j ∷ []) k p (inl e) = subst (λ (q : Pair). (q.0 ≢ b) × (q.1 ≡ step q.0 b) × Where (j ∷ []) q) e
      (subst (λ n. n ≢ b) (sym p.1) p.0, subst (λ n. j.1 ≡ step n b) (sym p.1) p.2, End p.3 refl)
  where_is a (j ∷ i ∷ ks) k p (inl e) = subst (λ (q : Pair). (q.0 ≢ b) × (q.1 ≡ step q.0 b) × Where (j ∷ i ∷ ks) q) e
      (subst (λ n. n ≢ b) (sym p.1) p.0, subst (λ n. j.1 ≡ step n b) (sym p.1) p.2, Before p.3.0 (inl (refl, λ n. (p.3.1 n, p.3.2 n))))
  where_is a (j ∷ i ∷ ks) k p (inr e) = let r = where_is j.1 (i ∷ ks) k p.3 e in (r.0, r.1, on r.2)
    where
      on : Where (i ∷ ks) k → Where (j ∷ i ∷ ks) k
      on (End t u) = End t u
      on (Before t u) = Before t (inr u)

-- a path between two nodes begins with the step
pub record Begins (l : Placement) (a b : ℕ) : Type 0 where
  pub rest : List Pair
  pub is : path l a b ≡ (a, next l a b) ∷ rest

pub begins : (l : Placement) → Ways l → (a b : ℕ) → a < l.width * l.height → b < l.width * l.height → a ≢ b → Begins l a b
begins l w a b p q n = by (path l a b) refl (w.leads a b p q)
  where
    by : (ks : List Pair) → path l a b ≡ ks → Leads (next l) b a ks → Begins l a b
    by [] e h = absurd (n h)
    by (k ∷ ks) e h = record { rest = ks; is = e ∙ ap (λ (q : Pair). q ∷ ks) (λ i. (h.1 i, h.2 i)) }

-- and one from a node to itself is empty
pub stays : (l : Placement) → Ways l → (a b : ℕ) → a < l.width * l.height → b < l.width * l.height → a ≡ b → path l a b ≡ []
stays l w a b p q n = by (path l a b) refl (w.leads a b p q)
  where
    by : (ks : List Pair) → path l a b ≡ ks → Leads (next l) b a ks → ks ≡ []
    by [] e h = refl
    by (k ∷ ks) e h = absurd (h.0 n)
