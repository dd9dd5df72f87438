-- The indices of a table: one for each node and goal.
use Rattle.std.proofs.Common.{◌≡◌, ◌≢◌, ◌⊎◌, inl, inr, refl, sym, ap, ap₂, subst, ◌∙◌, ℕ, zero, suc, ◌+◌, ◌*◌, ◌/◌, ◌%◌, ◌<◌, ◌≤◌, Bool, false, List, [], ◌∷◌, ◌++◌, length, get_or, arith}
use Rattle.std.proofs.lemmas.Grind.{get_or_default_zero}
use Rattle.std.proofs.lemmas.Nat.{div-mul-add, mod-mul-add}
use Rattle.run_types.specs.declared.types.Placement.{Placement}
use Rattle.run_types.specs.Paths.{is_cut, next}
use Rattle.run_types.proofs.Laws.{decide}
use Rattle.table_routing.specs.Tables.{AreGaps, AreNexts, size}

pub below : (s a b : ℕ) → a < s → b < s → a * s + b < s * s
below s a b i j = let m = rows s (a + 1) s (omega (arith, i)) in let n = one s a in omega (arith, j, m, n)
  where
    rows : (s a b : ℕ) → a ≤ b → a * s ≤ b * s
    rows s zero b h = omega arith
    rows s (suc a) zero h = absurd (omega (arith, h))
    rows s (suc a) (suc b) h = let m = rows s a b (omega (arith, h)) in omega (arith, m)

    one : (s a : ℕ) → (a + 1) * s ≡ a * s + s
    one s a = omega arith

-- what is behind a list
last : {X : Type 0} (xs : List X) (x d : X) → get_or (xs ++ x ∷ []) (length xs) d ≡ x
last [] x d = refl
last (y ∷ ys) x d = last ys x d

before : {X : Type 0} (xs : List X) (x d : X) (i : ℕ) → i < length xs → get_or (xs ++ x ∷ []) i d ≡ get_or xs i d
before [] x d i h = absurd (omega (arith, h))
before (y ∷ ys) x d zero h = refl
before (y ∷ ys) x d (suc i) h = before ys x d i (omega (arith, h))

longer : {X : Type 0} (xs : List X) (x : X) → length (xs ++ x ∷ []) ≡ length xs + 1
longer [] x = refl
longer (y ∷ ys) x = let e = longer ys x in omega (arith, e)

module _ (l : Placement) where
  pub one_more : (n x : ℕ) (ns : List ℕ) → AreNexts l n ns → (n / size l ≢ n % size l → x ≡ next l (n / size l) (n % size l)) → AreNexts l (n + 1) (ns ++ x ∷ [])
  one_more n x ns h e = record { count = longer ns x ∙ ap (λ k. k + 1) h.count; each = λ i less apart. by i less apart (decide i n) }
    where
      by : (i : ℕ) → i < n + 1 → i / size l ≢ i % size l → (i ≡ n) ⊎ (i ≢ n) → get_or (ns ++ x ∷ []) i 0 ≡ next l (i / size l) (i % size l)
      by i less apart (inl same) =
          subst (λ k. k / size l ≢ k % size l → get_or (ns ++ x ∷ []) k 0 ≡ next l (k / size l) (k % size l)) (sym same)
          (λ d. subst (λ k. get_or (ns ++ x ∷ []) k 0 ≡ x) h.count (last ns x 0) ∙ e d) apart
      by i less apart (inr other) =
          let few : i < n = omega (arith, less, other) in
          before ns x 0 i (subst (λ k. i < k) (sym h.count) few) ∙ h.each i few apart

  -- one more pair of nodes of which it is told whether the link is missing
  pub gap_more : (n : ℕ) (g : Bool) (gs : List Bool) → AreGaps l n gs → g ≡ is_cut l.cuts (n / size l) (n % size l) → AreGaps l (n + 1) (gs ++ g ∷ [])
  gap_more n g gs h e = record { count = longer gs g ∙ ap (λ k. k + 1) h.count; each = λ i less. by i less (decide i n) }
    where
      by : (i : ℕ) → i < n + 1 → (i ≡ n) ⊎ (i ≢ n) → get_or (gs ++ g ∷ []) i false ≡ is_cut l.cuts (i / size l) (i % size l)
      by i less (inl same) =
          subst (λ k. get_or (gs ++ g ∷ []) k false ≡ is_cut l.cuts (k / size l) (k % size l)) (sym same)
          (subst (λ k. get_or (gs ++ g ∷ []) k false ≡ g) h.count (last gs g false) ∙ e)
      by i less (inr other) =
          let few : i < n = omega (arith, less, other) in before gs g false i (subst (λ k. i < k) (sym h.count) few) ∙ h.each i few

  pub gap_at : (gs : List Bool) (a b : ℕ) → AreGaps l (size l * size l) gs → a < size l → b < size l → get_or gs (a * size l + b) false ≡ is_cut l.cuts a b
  gap_at gs a b h i j =
      let row : (a * size l + b) / size l ≡ a = div-mul-add a (size l) b j in
      let column : (a * size l + b) % size l ≡ b = mod-mul-add a (size l) b j in
      h.each (a * size l + b) (below (size l) a b i j) ∙ ap₂ (is_cut l.cuts) row column

  pub next_at : (ns : List ℕ) (a b : ℕ) → AreNexts l (size l * size l) ns → a < size l → b < size l → a ≢ b → get_or ns (a * size l + b) 0 ≡ next l a b
  next_at ns a b h i j apart =
      let row : (a * size l + b) / size l ≡ a = div-mul-add a (size l) b j in
      let column : (a * size l + b) % size l ≡ b = mod-mul-add a (size l) b j in
      h.each (a * size l + b) (below (size l) a b i j) (λ e. apart (sym row ∙ e ∙ column)) ∙ ap₂ (next l) row column

  -- the same where the size of the mesh is told otherwise
  pub place_there : (ns : List ℕ) (w h a b : ℕ) → w ≡ l.width → h ≡ l.height → AreNexts l (size l * size l) ns → a < size l → b < size l → a * (w * h) + b < length ns
  place_there ns w h a b p q nexts i j =
      subst (λ n. a * n + b < length ns) (ap₂ ◌*◌ (sym p) (sym q)) (subst (λ n. a * size l + b < n) (sym nexts.count) (below (size l) a b i j))

  pub entry : (ns : List ℕ) (w h a b n : ℕ) → w ≡ l.width → h ≡ l.height → AreNexts l (size l * size l) ns → a < size l → b < size l → a ≢ b
      → n ≡ get_or ns (a * (w * h) + b) n → n ≡ next l a b
  entry ns w h a b n p q nexts i j apart e =
      e ∙ get_or_default_zero ns (a * (w * h) + b) n (place_there ns w h a b p q nexts i j) ∙ ap (λ s. get_or ns (a * s + b) 0) (ap₂ ◌*◌ p q) ∙ next_at ns a b nexts i j apart
