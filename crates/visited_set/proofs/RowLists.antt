-- A row is found at its number, and rows are added at the end.
use Rattle.std.proofs.Common.{◌≡◌, refl, ap, ap₂, ◌∙◌, ℕ, zero, suc, ◌≤◌, List, [], ◌∷◌, ◌++◌, length, take, Some, None, arith, length-append}
use Rattle.std.specs.List.{slice_get}
use Rattle.std.proofs.lemmas.List.{length-take-le}
use Rattle.flat_lists.specs.Units.{numbers_of}
use Rattle.visited_set.specs.declared.numbered.Queue.{Queue}
use Rattle.visited_set.specs.declared.kept_rows.Head.{Head}
use Rattle.visited_set.specs.Rows.{Row, rows_of}

abbrev pub row : Head → List ℕ → List Queue → Row
row h o q = record { next = h.next; written = h.written; objects = numbers_of o; queues = q }

pub length_rows : (hs : List Head) (os : List (List ℕ)) (qs : List (List Queue)) → length hs ≤ length os → length hs ≤ length qs → length (rows_of hs os qs) ≡ length hs
length_rows [] os qs k l = refl
length_rows (h ∷ hs) [] qs k l = absurd (omega arith)
length_rows (h ∷ hs) (o ∷ os) [] k l = absurd (omega arith)
length_rows (h ∷ hs) (o ∷ os) (q ∷ qs) k l = ap suc (length_rows hs os qs (omega arith) (omega arith))

pub row_at : (hs : List Head) (os : List (List ℕ)) (qs : List (List Queue)) (at : ℕ) (h : Head) (o : List ℕ) (q : List Queue) → slice_get hs at ≡ Some h → slice_get os at ≡ Some o → slice_get qs at ≡ Some q
    → slice_get (rows_of hs os qs) at ≡ Some (row h o q)
row_at [] os qs at h o q a b c = absurd (let z : None ≡ Some h = a in cc)
row_at (g ∷ hs) [] qs at h o q a b c = absurd (let z : None ≡ Some o = b in cc)
row_at (g ∷ hs) (n ∷ os) [] at h o q a b c = absurd (let z : None ≡ Some q = c in cc)
row_at (g ∷ hs) (n ∷ os) (r ∷ qs) zero h o q a b c =
    let d : g ≡ h = cc in
    let e : n ≡ o = cc in
    let f : r ≡ q = cc in
    ap (λ x. Some (row x n r)) d ∙ ap (λ x. Some (row h x r)) e ∙ ap (λ x. Some (row h o x)) f
row_at (g ∷ hs) (n ∷ os) (r ∷ qs) (suc at) h o q a b c = row_at hs os qs at h o q a b c

-- what stands after the last head does not count
pub rows_cut : (hs : List Head) (os xs : List (List ℕ)) (qs ys : List (List Queue)) → length hs ≤ length os → length hs ≤ length qs
    → rows_of hs (take (length hs) os ++ xs) (take (length hs) qs ++ ys) ≡ rows_of hs os qs
rows_cut [] os xs qs ys k l = refl
rows_cut (h ∷ hs) [] xs qs ys k l = absurd (omega arith)
rows_cut (h ∷ hs) (o ∷ os) xs [] ys k l = absurd (omega arith)
rows_cut (h ∷ hs) (o ∷ os) xs (q ∷ qs) ys k l = ap (λ rs. row h o q ∷ rs) (rows_cut hs os xs qs ys (omega arith) (omega arith))

pub rows_push : (hs : List Head) (os : List (List ℕ)) (qs : List (List Queue)) (h : Head) (o : List ℕ) (q : List Queue) → length hs ≤ length os → length hs ≤ length qs
    → rows_of (hs ++ h ∷ []) (take (length hs) os ++ o ∷ []) (take (length hs) qs ++ q ∷ []) ≡ rows_of hs os qs ++ row h o q ∷ []
rows_push [] os qs h o q k l = refl
rows_push (g ∷ hs) [] qs h o q k l = absurd (omega arith)
rows_push (g ∷ hs) (n ∷ os) [] h o q k l = absurd (omega arith)
rows_push (g ∷ hs) (n ∷ os) (r ∷ qs) h o q k l = ap (λ rs. row g n r ∷ rs) (rows_push hs os qs h o q (omega arith) (omega arith))

-- the fields during a push
module _ (hs : List Head) (os : List (List ℕ)) (qs : List (List Queue)) (now : List Row) (count : ℕ) (view : rows_of hs os qs ≡ now) (k : length hs ≤ length os) (l : length hs ≤ length qs) (is : count ≡ length hs) where
  module _ (ps : List (List ℕ)) (rs : List (List Queue)) (xs : List (List ℕ)) (ys : List (List Queue)) (first : ps ≡ take count os ++ xs) (second : rs ≡ take count qs ++ ys) where
    pub same_rows : rows_of hs ps rs ≡ now
    same_rows =
        ap₂ (rows_of hs) (first ∙ ap (λ n. take n os ++ xs) is) (second ∙ ap (λ n. take n qs ++ ys) is) ∙ rows_cut hs os xs qs ys k l ∙ view

    pub long_enough : (length hs ≤ length ps) × (length hs ≤ length rs)
    long_enough = (
      omega (arith, is, ap length first, length-append (take count os) xs, length-take-le count os (omega (arith, is, k))),
      omega (arith, is, ap length second, length-append (take count qs) ys, length-take-le count qs (omega (arith, is, l))),
    )

  module _ (gs : List Head) (ps : List (List ℕ)) (rs : List (List Queue)) (h : Head) (o : List ℕ) (q : List Queue) (heads : gs ≡ hs ++ h ∷ [])
      (first : ps ≡ take count os ++ o ∷ []) (second : rs ≡ take count qs ++ q ∷ []) where
    pub one_row_more : rows_of gs ps rs ≡ now ++ row h o q ∷ []
    one_row_more =
        ap (λ fs. rows_of fs ps rs) heads ∙ ap₂ (rows_of (hs ++ h ∷ [])) (first ∙ ap (λ n. take n os ++ o ∷ []) is) (second ∙ ap (λ n. take n qs ++ q ∷ []) is)
        ∙ rows_push hs os qs h o q k l ∙ ap (λ z. z ++ row h o q ∷ []) view
