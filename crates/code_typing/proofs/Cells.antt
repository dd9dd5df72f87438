-- Cells and the stacks that they represent.
use Rattle.std.proofs.Common.{◌≡◌, refl, sym, ap, subst, ◌∙◌, ℕ, zero, suc, ◌<◌, ◌≤◌, ◌⊎◌, inl, inr, List, [], ◌∷◌, ◌++◌, length, Option, Some, None, Result, Ok, Err, arith}
use Rattle.std.specs.Prelude.{slice_get, OnOk, OnErr}
use Rattle.std.specs.declared.alloc.AllocError.{AllocError}
use Rattle.run_types.proofs.Laws.{same_some}
use Rattle.code_typing.specs.declared.cell.Cell.{Cell}
use Rattle.code_typing.specs.Chained.{IsChained, cell_depth, depth_of, on_cell, sort_tree, stack_by, unwound}

get_front : {X : Type 0} (xs : List X) (x : X) (i : ℕ) → i < length xs → slice_get (xs ++ x ∷ []) i ≡ slice_get xs i
get_front [] x i h = absurd (omega (arith, h))
get_front (y ∷ xs) x zero h = refl
get_front (y ∷ xs) x (suc i) h = get_front xs x i (omega (arith, h))

get_last : {X : Type 0} (xs : List X) (x : X) → slice_get (xs ++ x ∷ []) (length xs) ≡ Some x
get_last [] x = refl
get_last (y ∷ xs) x = get_last xs x

pub length_more : {X : Type 0} (xs : List X) (x : X) → length (xs ++ x ∷ []) ≡ suc (length xs)
length_more [] x = refl
length_more (y ∷ xs) x = ap suc (length_more xs x)

module _ (cells : List Cell) where
  -- a stack that is no cell is empty
  pub no_top : (i : ℕ) → slice_get cells i ≡ None → stack_by cells (suc i) ≡ []
  no_top i e = ap (λ o. unwound (cell_depth o) cells (suc i)) e

  module _ (chained : IsChained cells) where
    -- a stack by its last cell
    pub top_stack : (i : ℕ) (c : Cell) → slice_get cells i ≡ Some c → stack_by cells (suc i) ≡ sort_tree c.sort ∷ stack_by cells c.below
    top_stack i c e =
        let d : cell_depth (slice_get cells i) ≡ suc (depth_of cells c.below) = ap cell_depth e ∙ (chained i c e).1 in
        ap (λ n. unwound n cells (suc i)) d ∙ ap (λ o. on_cell o (λ m. unwound (depth_of cells c.below) cells m)) e

    long : (d n : ℕ) → depth_of cells n ≡ d → length (unwound d cells n) ≡ d
    long zero n e = refl
    long (suc d) zero e = absurd (omega (arith, e))
    long (suc d) (suc i) e = by (slice_get cells i) refl (λ m q. long d m q)
      where
        by : (o : Option Cell) → slice_get cells i ≡ o → ((m : ℕ) → depth_of cells m ≡ d → length (unwound d cells m) ≡ d) → length (on_cell o (λ m. unwound d cells m)) ≡ suc d
        by None q more = absurd (let z : 0 ≡ suc d = sym (ap cell_depth q) ∙ e in omega (arith, z))
        by (Some c) q more =
            let a : c.depth ≡ suc d = sym (ap cell_depth q) ∙ e in
            let b = (chained i c q).1 in
            ap suc (more c.below (omega (arith, a, b)))

    -- a stack has as many operands as its depth says
    pub depth_is : (n : ℕ) → length (stack_by cells n) ≡ depth_of cells n
    depth_is n = long (depth_of cells n) n refl

    -- a stack is no deeper than its number
    pub deep_most : (f n : ℕ) → n ≤ f → depth_of cells n ≤ n
    deep_most f zero h = omega arith
    deep_most zero (suc i) h = absurd (omega (arith, h))
    deep_most (suc f) (suc i) h = by (slice_get cells i) refl (λ m l. deep_most f m l)
      where
        by : (o : Option Cell) → slice_get cells i ≡ o → ((m : ℕ) → m ≤ f → depth_of cells m ≤ m) → cell_depth o ≤ suc i
        by None q more = omega arith
        by (Some c) q more = let a = chained i c q in let b = a.0 in let d = a.1 in let m = more c.below (omega (arith, b, h)) in omega (arith, b, d, m)

    module _ (x : Cell) where
      same_depth : (n : ℕ) → n ≤ length cells → depth_of (cells ++ x ∷ []) n ≡ depth_of cells n
      same_depth zero h = refl
      same_depth (suc i) h = ap cell_depth (get_front cells x i (omega (arith, h)))

      same : (d n : ℕ) → n ≤ length cells → unwound d (cells ++ x ∷ []) n ≡ unwound d cells n
      same zero n h = refl
      same (suc d) zero h = refl
      same (suc d) (suc i) h = ap (λ o. on_cell o (λ m. unwound d (cells ++ x ∷ []) m)) (get_front cells x i (omega (arith, h))) ∙ by (slice_get cells i) refl (λ m l. same d m l)
        where
          by : (o : Option Cell) → slice_get cells i ≡ o → ((m : ℕ) → m ≤ length cells → unwound d (cells ++ x ∷ []) m ≡ unwound d cells m)
              → on_cell o (λ m. unwound d (cells ++ x ∷ []) m) ≡ on_cell o (λ m. unwound d cells m)
          by None q more = refl
          by (Some c) q more = let b = (chained i c q).0 in ap (λ ss. sort_tree c.sort ∷ ss) (more c.below (omega (arith, b, h)))

      -- one more cell leaves the stacks that were there
      pub same_stack : (n : ℕ) → n ≤ length cells → stack_by (cells ++ x ∷ []) n ≡ stack_by cells n
      same_stack n h = ap (λ d. unwound d (cells ++ x ∷ []) n) (same_depth n h) ∙ same (depth_of cells n) n h

      module _ (below : x.below ≤ length cells) (depth : x.depth ≡ suc (depth_of cells x.below)) where
        -- one more cell on a stack that is there
        pub chained_more : IsChained (cells ++ x ∷ [])
        chained_more i c e = by (which i (length cells)) e
          where
            which : (m n : ℕ) → (m < n) ⊎ (n ≤ m)
            which m zero = inr (omega arith)
            which zero (suc n) = inl (omega arith)
            which (suc m) (suc n) = elim (which m n) as (λ u. (suc m < suc n) ⊎ (suc n ≤ suc m)) [ inl h ↦ inl (omega (arith, h)) | inr h ↦ inr (omega (arith, h)) ]

            behind : (xs : List Cell) (j : ℕ) → length xs ≤ j → slice_get (xs ++ x ∷ []) j ≡ Some c → (j ≡ length xs) × (x ≡ c)
            behind [] zero h e = (refl, same_some e)
            behind [] (suc j) h e = absurd (let z : None ≡ Some c = e in cc)
            behind (y ∷ xs) zero h e = absurd (omega (arith, h))
            behind (y ∷ xs) (suc j) h e = let r = behind xs j (omega (arith, h)) e in (ap suc r.0, r.1)

            by : (i < length cells) ⊎ (length cells ≤ i) → slice_get (cells ++ x ∷ []) i ≡ Some c → (c.below ≤ i) × (c.depth ≡ suc (depth_of (cells ++ x ∷ []) c.below))
            by (inl h) e =
                let a = chained i c (sym (get_front cells x i h) ∙ e) in
                (a.0, a.1 ∙ ap suc (sym (same_depth c.below (let b = a.0 in omega (arith, b, h)))))
            by (inr h) e =
                let a = behind cells i h e in
                let last : x.below ≤ i = (let p = a.0 in omega (arith, p, below)) in
                let deep : x.depth ≡ suc (depth_of (cells ++ x ∷ []) x.below) = depth ∙ ap suc (sym (same_depth x.below below)) in
                subst (λ y. (y.below ≤ i) × (y.depth ≡ suc (depth_of (cells ++ x ∷ []) y.below))) a.1 (last, deep)

  -- the stack of one more cell
  pub new_stack : IsChained cells → (x : Cell) → x.below ≤ length cells → x.depth ≡ suc (depth_of cells x.below)
      → stack_by (cells ++ x ∷ []) (suc (length cells)) ≡ sort_tree x.sort ∷ stack_by cells x.below
  new_stack chained x below depth =
      ap (λ o. unwound (cell_depth o) (cells ++ x ∷ []) (suc (length cells))) (get_last cells x)
      ∙ (ap (λ d. unwound d (cells ++ x ∷ []) (suc (length cells))) depth
      ∙ (ap (λ o. on_cell o (λ m. unwound (depth_of cells x.below) (cells ++ x ∷ []) m)) (get_last cells x)
      ∙ ap (λ ss. sort_tree x.sort ∷ ss) (same chained x (depth_of cells x.below) x.below below)))

-- after one more cell, or none
module _ (cells : List Cell) (chained : IsChained cells) (x : Cell) (below : x.below ≤ length cells) (depth : x.depth ≡ suc (depth_of cells x.below)) where
  pub chained_after : (r : Result (Unit {0}) AllocError) (after : List Cell) → OnOk r (after ≡ cells ++ x ∷ []) → OnErr r (after ≡ cells) → IsChained after
  chained_after (Ok u) after ok err = subst IsChained (sym ok) (chained_more cells chained x below depth)
  chained_after (Err e) after ok err = subst IsChained (sym err) chained

  pub stack_after : (after : List Cell) (n : ℕ) → after ≡ cells ++ x ∷ [] → n ≡ length after → stack_by after n ≡ sort_tree x.sort ∷ stack_by cells x.below
  stack_after after n is e =
      ap (stack_by after) (e ∙ ap length is ∙ length_more cells x) ∙ ap (λ l. stack_by l (suc (length cells))) is ∙ new_stack cells chained x below depth

  pub kept_after : (after : List Cell) → after ≡ cells ++ x ∷ [] → (n : ℕ) → n ≤ length cells → (n ≤ length after) × (stack_by after n ≡ stack_by cells n)
  kept_after after is n h = (
    (let l = ap length is ∙ length_more cells x in omega (arith, h, l)),
    ap (λ l. stack_by l n) is ∙ same_stack cells chained x n h,
  )
