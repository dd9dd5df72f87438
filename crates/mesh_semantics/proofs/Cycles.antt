-- The listed cycles are the cycles of calls. A chase gives a cycle, and finds each cycle that is not too long. No
-- cycle is longer than the number of objects.
use Rattle.std.proofs.Common.{◌≡◌, ◌≢◌, ◌⊎◌, inl, inr, refl, sym, ap, subst, ◌∙◌, ℕ, zero, suc, ◌<◌, ◌≤◌, ◌==◌, List, [], ◌∷◌, length, Option, Some, None, Bool, true, false, if◌then◌else◌, nat_lt, arith, map}
use Rattle.std.specs.Prelude.{filter_map}
use Rattle.std.specs.Ordering.{nat_cmp}
use Rattle.std.specs.declared.cmp.Ordering.{Ordering}
use Rattle.std.specs.declared.cmp.Ordering.TheVariants.{Less, Equal, Greater}
use Rattle.std.specs.FinMap.{find, nat_cmp-IsAntisymmetric}
use Rattle.std.specs.List.{cons_option}
use Rattle.std.proofs.lemmas.List.{length-map}
use Rattle.run_types.specs.Partial.{◌>>=◌}
use Rattle.run_types.proofs.Laws.{equal, equals, differ, same_some, given_by}
use Rattle.mesh_semantics.specs.Language.{Language}
use Rattle.mesh_semantics.specs.Config.{Config, object_of}
use Rattle.mesh_semantics.specs.Delay.{Delay}
use Rattle.run_types.specs.PathFacts.{In, Once}
use Rattle.mesh_semantics.specs.Standing.{standing, chase}
use Rattle.mesh_semantics.specs.Cycles.{called_in, called_by, Closes, IsCycle, Contained, cycles}

module _ (calls : ℕ → Option ℕ) (first : ℕ) where
  -- what is chased from o begins with o
  pub data Begun (o : ℕ) (ns : List ℕ) : Type 0 where
    Is : (rest : List ℕ) → ns ≡ o ∷ rest → Begun o ns

  pub chased : (n o : ℕ) (ns : List ℕ) → chase calls n first o ≡ Some ns → Begun o ns × Closes calls first ns
  chased zero o ns h = absurd (cc)
  chased (suc n) o ns h =
      let a = given_by (calls o) (λ b. if b == first then Some (o ∷ []) else (if nat_lt first b then (chase calls n first b >>= λ ns. Some (o ∷ ns)) else None)) ns h in
      by a.0 a.1 a.2 (a.0 == first) (nat_lt first a.0) refl refl (λ ms. chased n a.0 ms)
    where
      by : (b : ℕ) → calls o ≡ Some b → (if b == first then Some (o ∷ []) else (if nat_lt first b then (chase calls n first b >>= λ ns. Some (o ∷ ns)) else None)) ≡ Some ns
          → (t u : Bool) → (b == first) ≡ t → nat_lt first b ≡ u → ((ms : List ℕ) → chase calls n first b ≡ Some ms → Begun b ms × Closes calls first ms) → Begun o ns × Closes calls first ns
      by b c e true u i j k =
          let is : o ∷ [] ≡ ns = same_some (rw i at e) in
          (Is [] (sym is), subst (Closes calls first) is (c ∙ ap Some (equal b first i)))
      by b c e false true i j k =
          let a = given_by (chase calls n first b) (λ ns. Some (o ∷ ns)) ns (rw (i, j) at e) in
          let r = k a.0 a.1 in
          let is : o ∷ a.0 ≡ ns = same_some a.2 in
          (Is a.0 (sym is), subst (Closes calls first) is (more a.0 r.0 r.1))
        where
          more : (ms : List ℕ) → Begun b ms → Closes calls first ms → Closes calls first (o ∷ ms)
          more ms (Is rest f) z = subst (λ (q : List ℕ). Closes calls first (o ∷ q)) (sym f) (c, (let l : first < b = less first b j in l), subst (Closes calls first) f z)
            where
              less : (x y : ℕ) → nat_lt x y ≡ true → x < y
              less x y h = grind (arith, h)
      by b c e false false i j k = absurd (let q = rw (i, j) at e in cc)

  pub found : (n o : ℕ) (ns : List ℕ) → Closes calls first (o ∷ ns) → length ns < n → chase calls n first o ≡ Some (o ∷ ns)
  found zero o ns z h = absurd (omega arith)
  found (suc n) o [] z h = rw (z, equals first) refl
  found (suc n) o (b ∷ ns) z h =
      let r = found n b ns z.2 (omega (arith, h)) in
      let l : nat_lt first b ≡ true = less first b z.1 in
      let d : (b == first) ≡ false = differ b first (apart first b z.1) in
      rw (z.0, d, l, r) refl
    where
      less : (x y : ℕ) → x < y → nat_lt x y ≡ true
      less x y h = grind (arith, h)

      apart : (x y : ℕ) → x < y → y ≢ x
      apart x y h e = absurd (omega (arith, h, e))

  -- what follows a name is determined
  determined : (x : ℕ) (ns ms : List ℕ) → Closes calls first (x ∷ ns) → Closes calls first (x ∷ ms) → ns ≡ ms
  determined x [] [] p q = refl
  determined x [] (c ∷ ms) p q = absurd (let s : first ≡ c = same_some (sym p ∙ q.0) in let l = q.1 in omega (arith, s, l))
  determined x (b ∷ ns) [] p q = absurd (let s : first ≡ b = same_some (sym q ∙ p.0) in let l = p.1 in omega (arith, s, l))
  determined x (b ∷ ns) (c ∷ ms) p q =
      let s : b ≡ c = same_some (sym p.0 ∙ q.0) in
      let r = determined b ns ms p.2 (subst (λ z. Closes calls first (z ∷ ms)) (sym s) q.2) in λ i. s i ∷ r i

  -- a name in the rest begins a shorter rest
  shorter : (o x : ℕ) (ns : List ℕ) → Closes calls first (o ∷ ns) → In x ns → (ms : List ℕ) × Closes calls first (x ∷ ms) × (length ms < length ns)
  shorter o x [] p i = absurd i
  shorter o x (b ∷ ns) p (inl e) = (ns, subst (λ z. Closes calls first (z ∷ ns)) e p.2, omega arith)
  shorter o x (b ∷ ns) p (inr i) = let r = shorter b x ns p.2 i in (r.0, r.1, (let l = r.2 in omega (arith, l)))

  pub distinct : (o : ℕ) (ns : List ℕ) → Closes calls first (o ∷ ns) → Once (o ∷ ns)
  distinct o [] p = (λ i. i, tt)
  distinct o (b ∷ ns) p = (λ i. again (shorter o o (b ∷ ns) p i), distinct b ns p.2)
    where
      again : (ms : List ℕ) × Closes calls first (o ∷ ms) × (length ms < length (b ∷ ns)) → ⊥
      again r = let s = determined o (b ∷ ns) r.0 p r.1 in let e : length (b ∷ ns) ≡ length r.0 = ap length s in let l = r.2 in omega (arith, e, l)

-- distinct numbers of a list are no more than it has
taken_out : (x : ℕ) (ys : List ℕ) → In x ys → (zs : List ℕ) × (length ys ≡ suc (length zs)) × ((y : ℕ) → y ≢ x → In y ys → In y zs)
taken_out x [] i = absurd i
taken_out x (y ∷ ys) (inl e) = (ys, refl, λ z n i. on z n i)
  where
    on : (z : ℕ) → z ≢ x → (y ≡ z) ⊎ In z ys → In z ys
    on z n (inl f) = absurd (n (sym f ∙ e))
    on z n (inr i) = i
taken_out x (y ∷ ys) (inr i) = let r = taken_out x ys i in (y ∷ r.0, ap suc r.1, λ z n j. on r.0 r.2 z n j)
  where
    on : (zs : List ℕ) → ((y : ℕ) → y ≢ x → In y ys → In y zs) → (z : ℕ) → z ≢ x → (y ≡ z) ⊎ In z ys → (y ≡ z) ⊎ In z zs
    on zs f z n (inl e) = inl e
    on zs f z n (inr k) = inr (f z n k)

no_longer : (xs ys : List ℕ) → Once xs → ((x : ℕ) → In x xs → In x ys) → length xs ≤ length ys
no_longer [] ys o f = omega arith
no_longer (x ∷ xs) ys o f =
    let r = taken_out x ys (f x (inl refl)) in
    let k = no_longer xs r.0 o.1 (λ y i. r.2 y (λ e. o.0 (subst (λ z. In z xs) e i)) (f y (inr i))) in
    let e = r.1 in omega (arith, k, e)

-- things with names, among which each caller is
module _ {X : Type 0} (calls : ℕ → Option ℕ) (name : X → ℕ) (all : List X) (caller_there : (o b : ℕ) → calls o ≡ Some b → In o (map name all)) where
  -- each name of a cycle is there
  all_there : (first o : ℕ) (ns : List ℕ) → Closes calls first (o ∷ ns) → (x : ℕ) → In x (o ∷ ns) → In x (map name all)
  all_there first o [] p x (inl e) = subst (λ z. In z (map name all)) e (caller_there o first p)
  all_there first o [] p x (inr i) = absurd i
  all_there first o (b ∷ ns) p x (inl e) = subst (λ z. In z (map name all)) e (caller_there o b p.0)
  all_there first o (b ∷ ns) p x (inr i) = all_there first b ns p.2 x i

  abbrev told : ℕ → List X → List (List ℕ)
  told n es = filter_map (λ e. chase calls n (name e) (name e)) es

  listed : (n o : ℕ) (ns : List ℕ) (es : List X) → In o (map name es) → chase calls n o o ≡ Some ns → Contained ns (told n es)
  listed n o ns [] i h = absurd i
  listed n o ns (e ∷ es) (inl s) h =
      let k : chase calls n (name e) (name e) ≡ Some ns = subst (λ z. chase calls n z z ≡ Some ns) (sym s) h in
      subst (λ z. Contained ns (cons_option z (told n es))) (sym k) (inl refl)
  listed n o ns (e ∷ es) (inr i) h = by (chase calls n (name e) (name e)) (listed n o ns es i h)
    where
      by : (z : Option (List ℕ)) → Contained ns (told n es) → Contained ns (cons_option z (told n es))
      by None m = m
      by (Some ms) m = inr m

  no_other : (n : ℕ) (ns : List ℕ) (es : List X) → Contained ns (told n es) → (o : ℕ) × Begun calls o o ns × Closes calls o ns
  no_other n ns [] i = absurd i
  no_other n ns (e ∷ es) i = by (chase calls n (name e) (name e)) refl i (no_other n ns es)
    where
      by : (z : Option (List ℕ)) → chase calls n (name e) (name e) ≡ z → Contained ns (cons_option z (told n es))
          → (Contained ns (told n es) → (o : ℕ) × Begun calls o o ns × Closes calls o ns) → (o : ℕ) × Begun calls o o ns × Closes calls o ns
      by None k j m = m j
      by (Some ms) k (inl s) m = let r = chased calls (name e) n (name e) ns (k ∙ ap Some s) in (name e, r.0, r.1)
      by (Some ms) k (inr j) m = m j

  -- each cycle is listed
  pub every_cycle_among : (ns : List ℕ) → IsCycle calls ns → Contained ns (told (length all) all)
  every_cycle_among [] z = absurd z
  every_cycle_among (o ∷ ns) z =
      let few = no_longer (o ∷ ns) (map name all) z.0 (all_there o o ns z.1) in
      let e = length-map all name in
      let l : length ns < length all = omega (arith, few, e) in
      listed (length all) o (o ∷ ns) all (all_there o o ns z.1 o (inl refl)) (found calls o (length all) o ns z.1 l)

  -- and no other
  pub is_cycle_among : (ns : List ℕ) → Contained ns (told (length all) all) → IsCycle calls ns
  is_cycle_among ns i = let r = no_other (length all) ns all i in on r.0 r.1 r.2
    where
      on : (o : ℕ) → Begun calls o o ns → Closes calls o ns → IsCycle calls ns
      on o (Is rest e) z =
          let k : Closes calls o (o ∷ rest) = subst (Closes calls o) e z in
          subst (IsCycle calls) (sym e) (distinct calls o o rest k, k)

-- the name of an entry
abbrev key : {X : Type 0} → ℕ × X → ℕ
key e = e.0

key_found : {X : Type 0} (o : ℕ) (x : X) (es : List (ℕ × X)) → find nat_cmp o es ≡ Some x → In o (map key es)
key_found o x [] h = absurd (cc)
key_found o x (e ∷ es) h = by (nat_cmp o e.0) refl (key_found o x es)
  where
    by : (r : Ordering) → nat_cmp o e.0 ≡ r → (find nat_cmp o es ≡ Some x → In o (map key es)) → In o (e.0 ∷ map key es)
    by Less i k = inr (k (rw i at h))
    by Equal i k = inl (sym (nat_cmp-IsAntisymmetric o e.0 i))
    by Greater i k = inr (k (rw i at h))

module _ {S : Type 0} (g : Language S) (c : Config S) (d : Delay) where
  caller_there : (o b : ℕ) → called_by g c d o ≡ Some b → In o (map key c.objects)
  caller_there o b h = let a = given_by (object_of c o) (λ x. called_in (standing g d o x)) b h in key_found o a.0 c.objects a.1

  pub every_cycle : (ns : List ℕ) → IsCycle (called_by g c d) ns → Contained ns (cycles g c d)
  every_cycle ns z = every_cycle_among (called_by g c d) key c.objects caller_there ns z

  pub is_cycle : (ns : List ℕ) → Contained ns (cycles g c d) → IsCycle (called_by g c d) ns
  is_cycle ns i = is_cycle_among (called_by g c d) key c.objects caller_there ns i
