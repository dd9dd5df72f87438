-- What the functions on one queue require of the pointers that they follow, and the state that they leave.
use Rattle.std.proofs.Common.{◌≡◌, ℕ, ◌+◌, ◌-◌, ◌*◌, ◌/◌, ◌<◌, ◌≤◌, cond, eqb, List, [], ◌∷◌, ◌++◌, length, get_or, set, Option, Some, None, option_map, refl, sym, ap, subst, ◌∙◌, arith, length-append, add-sub_cancel, mul-div_cancel}
use denote.RawPtr.{Ptr, count_of}
use Rattle.std.specs.Option.{unwrap_or}
use Rattle.linked_cells.specs.Slots.{Grid, place_at, index_of, HasSize, IsPlace, IsCell}
use Rattle.linked_cells.specs.Queues.{next_of, value_of, with_links, joined_next, joined_previous, turned, times, IsQueue, IsNth, IsLoose, SameBut, SameValues, ComesIn}
use Rattle.linked_cells.specs.declared.queue.Cell.{Cell}
use Rattle.linked_cells.specs.declared.queue.Queue.{Queue}
use Rattle.linked_cells.proofs.Queues.{some_map, last_split, length_turned, times_append, times_one, times_turned, trail_has, on_next, on_previous, set_next, Last1, First1, queue_in_last, queue_in_first, in_last, in_first, joined_kept, previous_lies, next_lies, last_lies, first_lies, last_filled, first_filled, After2, queue_out, out_same, out_values, Last0, First0}

pub back : (p : Grid) → HasSize p → (x : ℕ) → index_of p (place_at p x) ≡ x
back p has x = let s = p.0 in ap (λ k. k / s) (add-sub_cancel (x * s) (count_of p.1)) ∙ mul-div_cancel x has

module _ {X : Type 0} where
  pub value_in : (slots : List (Option (Cell X))) (i : ℕ) (cell : Cell X) → get_or slots i None ≡ Some cell → value_of slots i ≡ Some cell.value
  value_in slots i cell e = ap (option_map (λ (c : Cell X). c.value)) e

  -- a cell that is told its neighbours is one that is written with the value that it holds
  pub links_written : (slots : List (Option (Cell X))) (i : ℕ) (before after : Ptr) (v : X) → value_of slots i ≡ Some v
      → with_links slots i before after ≡ set slots i (Some (record { previous = before; next = after; value = v }))
  links_written slots i before after v e =
      let u = some_map (λ (c : Cell X). c.value) (get_or slots i None) v e in let cell : Cell X = u.0 in
      ap (λ (o : Option (Cell X)). set slots i (option_map (λ (c : Cell X). record c { previous = before; next = after }) o)) u.1
      ∙ ap (λ (w : X). set slots i (Some (record { previous = before; next = after; value = w }))) (ap (λ (o : Option X). unwrap_or o v) (sym (value_in slots i cell u.1) ∙ e))

  -- a cell still holds a value where no value has changed
  pub still_held : (p q : Grid) (slots new : List (Option (Cell X))) (at : Ptr) → q ≡ p → SameValues slots new → IsCell p slots at → IsCell q new at
  still_held p q slots new at same kept is =
      let i : ℕ = index_of p at in let cell : Cell X = is.1.0 in
      subst (λ (r : Grid). IsCell r new at) (sym same) (is.0, some_map (λ (c : Cell X). c.value) (get_or new i None) cell.value (kept i ∙ value_in slots i cell is.1.1))

module _ {X : Type 0} (p : Grid) (has : HasSize p) where
  pub cell_of : (slots : List (Option (Cell X))) (q : Ptr) (a : ℕ) → q ≡ place_at p a → (u : Cell X) × (get_or slots a None ≡ Some u) → IsCell p slots q
  cell_of slots q a e u =
      let n : index_of p q ≡ a = ap (index_of p) e ∙ back p has a in
      (e ∙ ap (place_at p) (sym n), (u.0, ap (λ i. get_or slots i None) n ∙ u.1))

  module _ (slots : List (Option (Cell X))) (q : Queue X) (i : ℕ) (at : Ptr) (xs : List ℕ) (c : ℕ) (ys : List ℕ) (nth : IsNth (place_at p) slots q i at xs c ys) where
    filled : (a : ℕ) → 1 ≤ times a (xs ++ c ∷ ys) → (u : Cell X) × (get_or slots a None ≡ Some u)
    filled a one = let led = trail_has (place_at p) (next_of slots) a q.first.ptr (xs ++ c ∷ ys) one nth.0.1 in some_map on_next (get_or slots a None) led.0 led.1

    pub nth_cell : IsCell p slots at
    nth_cell = cell_of slots at c nth.2 (filled c (omega (arith, times_one c xs ys)))

    pub nth_held : (cell : Cell X) → get_or slots (index_of p at) None ≡ Some cell → get_or slots c None ≡ Some cell
    nth_held cell e = ap (λ (k : ℕ). get_or slots k None) (sym (ap (index_of p) nth.2 ∙ back p has c)) ∙ e

    module _ (cell : Cell X) (e : get_or slots (index_of p at) None ≡ Some cell) where
      held : get_or slots c None ≡ Some cell
      held = nth_held cell e

      before_cell : (us : List ℕ) → us ≡ xs → 0 < length us → IsCell p slots cell.previous
      before_cell [] same lt = absurd (omega arith)
      before_cell (u ∷ us) same lt =
          let r = last_split u us in let a = r.1.0 in
          let one : 1 ≤ times a xs = subst (λ l. 1 ≤ times a l) (sym r.1.1 ∙ same) (omega (arith, times_one a r.0 [])) in
          cell_of slots cell.previous a (previous_lies (place_at p) (index_of p) (back p has) slots q xs c ys cell held nth.0 r.0 a (sym same ∙ r.1.1)) (filled a (omega (arith, times_append a xs (c ∷ ys))))

      pub out_before : 0 < i → IsCell p slots cell.previous
      out_before lt = before_cell xs refl (omega (arith, nth.1))

      pub Joined : List (Option (Cell X))
      Joined = joined_next (index_of p) slots i cell.previous cell.next

      after_cell : (us : List ℕ) → us ≡ turned ys → 0 < length us → IsCell p Joined cell.next
      unfolding Joined
      after_cell [] same lt = absurd (omega arith)
      after_cell (u ∷ us) same lt =
          let r = last_split u us in let a = r.1.0 in
          let one : 1 ≤ times a (turned ys) = subst (λ l. 1 ≤ times a l) (sym r.1.1 ∙ same) (omega (arith, times_one a r.0 [])) in
          let v = filled a (omega (arith, times_append a xs (c ∷ ys), times_turned a ys)) in
          let kept = joined_kept (place_at p) (index_of p) (back p has) on_next set_next (λ m w. refl) slots cell.previous cell.next on_previous (λ w. refl) i a in
          let w : Cell X = v.0 in
          cell_of Joined cell.next a (next_lies (place_at p) (index_of p) (back p has) slots q xs c ys cell held nth.0 r.0 a (sym same ∙ r.1.1))
          (some_map on_previous (get_or Joined a None) w.previous (kept ∙ ap (option_map on_previous) v.1))

      pub out_after : (k : ℕ) → k ≡ length ys → 0 < k → IsCell p (joined_next (index_of p) slots i cell.previous cell.next) cell.next
      unfolding Joined
      out_after k e lt = after_cell (turned ys) refl (omega (arith, length_turned ys, e))

      module _ (p1 : Grid) (same : p1 ≡ p) (s1 s2 : List (Option (Cell X))) (k : ℕ) (k_is : k ≡ q.len - i - 1) (e1 : s1 ≡ joined_next (index_of p) slots i cell.previous cell.next)
          (e2 : s2 ≡ joined_previous (index_of p1) s1 k cell.previous cell.next) where
        k_len : k ≡ length ys
        k_len = omega (arith, k_is, nth.0.0, nth.1, length-append xs (c ∷ ys))

        after_is : s2 ≡ After2 (place_at p) (index_of p) (back p has) slots q xs c ys cell held nth.0
        after_is =
            e2 ∙ ap (λ (m : Grid). joined_previous (index_of m) s1 k cell.previous cell.next) same ∙ ap (λ (s : List (Option (Cell X))). joined_previous (index_of p) s k cell.previous cell.next) e1
            ∙ ap (λ (j : ℕ). joined_previous (index_of p) (joined_next (index_of p) slots j cell.previous cell.next) k cell.previous cell.next) nth.1
            ∙ ap (λ (j : ℕ). joined_previous (index_of p) (joined_next (index_of p) slots (length xs) cell.previous cell.next) j cell.previous cell.next) k_len

        pub unlinked_queue : (r : Queue X) → r.first.ptr ≡ cond (eqb i 0) cell.next q.first.ptr → r.last.ptr ≡ cond (eqb k 0) cell.previous q.last.ptr → r.len + 1 ≡ q.len
            → IsQueue (place_at p) s2 r (xs ++ ys)
        unlinked_queue r e_first e_last e_len =
            subst (λ s. IsQueue (place_at p) s r (xs ++ ys)) (sym after_is) (queue_out (place_at p) (index_of p) (back p has) slots q xs c ys cell held nth.0 nth.3 r
            (e_first ∙ ap (λ j. cond (eqb j 0) cell.next q.first.ptr) nth.1) (e_last ∙ ap (λ j. cond (eqb j 0) cell.previous q.last.ptr) k_len) e_len)

        pub unlinked_same : SameBut (xs ++ ys) slots s2
        unlinked_same = subst (λ s. SameBut (xs ++ ys) slots s) (sym after_is) (out_same (place_at p) (index_of p) (back p has) slots q xs c ys cell held nth.0)

        pub unlinked_values : SameValues slots s2
        unlinked_values = subst (λ s. SameValues slots s) (sym after_is) (out_values (place_at p) (index_of p) (back p has) slots q xs c ys cell held nth.0)

  module _ (slots : List (Option (Cell X))) (q : Queue X) (at : Ptr) (xs : List ℕ) (c : ℕ) (loose : IsLoose (place_at p) slots q at xs c) where
    number_is : index_of p at ≡ c
    number_is = ap (index_of p) loose.2 ∙ back p has c

    pub loose_place : IsPlace p (length slots) at
    loose_place = (loose.2 ∙ ap (place_at p) (sym number_is), subst (λ (k : ℕ). k < length slots) (sym number_is) loose.3)

    module _ (v : X) (p1 : Grid) (same : p1 ≡ p) (s1 : List (Option (Cell X))) where
      abbrev WrittenLast : Type 0
      WrittenLast = s1 ≡ set slots (index_of p at) (Some (record { previous = q.last.ptr; next = at; value = v }))

      s1_last : WrittenLast → s1 ≡ Last0 (place_at p) (index_of p) (back p has) slots q xs c v at loose.3 loose.4 loose.1 loose.0
      s1_last e = e ∙ ap (λ (k : ℕ). set slots k (Some (record { previous = q.last.ptr; next = at; value = v }))) number_is

      last_near : (us : List ℕ) → us ≡ xs → WrittenLast → 0 < length us → IsCell p s1 q.last.ptr
      last_near [] same_us e lt = absurd (omega arith)
      last_near (u ∷ us) same_us e lt =
          let r = last_split u us in
          let f = last_filled (place_at p) (index_of p) (back p has) slots q xs c v at loose.3 loose.4 loose.1 loose.0 r.0 r.1.0 (sym same_us ∙ r.1.1) in
          cell_of s1 q.last.ptr r.1.0 (last_lies (place_at p) (index_of p) (back p has) slots q xs loose.0 r.0 r.1.0 (sym same_us ∙ r.1.1))
          (f.0, ap (λ (s : List (Option (Cell X))). get_or s r.1.0 None) (s1_last e) ∙ f.1)

      pub append_before : WrittenLast → 0 < q.len → IsCell p1 s1 q.last.ptr
      append_before e lt = subst (λ (m : Grid). IsCell m s1 q.last.ptr) (sym same) (last_near xs refl e (omega (arith, lt, loose.0.0)))

      module _ (s2 : List (Option (Cell X))) (e : WrittenLast) (e2 : s2 ≡ joined_next (index_of p1) s1 q.len q.last.ptr at) where
        appended_is : s2 ≡ Last1 (place_at p) (index_of p) (back p has) slots q xs c v at loose.3 loose.4 loose.1 loose.0
        appended_is =
            e2 ∙ ap (λ (m : Grid). joined_next (index_of m) s1 q.len q.last.ptr at) same ∙ ap (λ (s : List (Option (Cell X))). joined_next (index_of p) s q.len q.last.ptr at) (s1_last e)
            ∙ ap (λ (m : Ptr). joined_next (index_of p) (Last0 (place_at p) (index_of p) (back p has) slots q xs c v at loose.3 loose.4 loose.1 loose.0) q.len q.last.ptr m) loose.2

        pub appended : (r : Queue X) → r.first.ptr ≡ cond (eqb q.len 0) at q.first.ptr → r.last.ptr ≡ at → r.len ≡ q.len + 1 → IsQueue (place_at p) s2 r (xs ++ c ∷ [])
        appended r e_first e_last e_len =
            subst (λ s. IsQueue (place_at p) s r (xs ++ c ∷ [])) (sym appended_is) (queue_in_last (place_at p) (index_of p) (back p has) slots q xs c v at loose.3 loose.4 loose.1 loose.0 r
            (e_first ∙ ap (λ (m : Ptr). cond (eqb q.len 0) m q.first.ptr) loose.2) (e_last ∙ loose.2) e_len)

        pub appended_cells : ComesIn c v xs slots s2
        appended_cells = subst (λ s. ComesIn c v xs slots s) (sym appended_is) (in_last (place_at p) (index_of p) (back p has) slots q xs c v at loose.3 loose.4 loose.1 loose.0)

      abbrev WrittenFirst : Type 0
      WrittenFirst = s1 ≡ set slots (index_of p at) (Some (record { previous = at; next = q.first.ptr; value = v }))

      s1_first : WrittenFirst → s1 ≡ First0 (place_at p) (index_of p) (back p has) slots q xs c v at loose.3 loose.4 loose.1 loose.0
      s1_first e = e ∙ ap (λ (k : ℕ). set slots k (Some (record { previous = at; next = q.first.ptr; value = v }))) number_is

      first_near : (us : List ℕ) → us ≡ turned xs → WrittenFirst → 0 < length us → IsCell p s1 q.first.ptr
      first_near [] same_us e lt = absurd (omega arith)
      first_near (u ∷ us) same_us e lt =
          let r = last_split u us in
          let f = first_filled (place_at p) (index_of p) (back p has) slots q xs c v at loose.3 loose.4 loose.1 loose.0 r.0 r.1.0 (sym same_us ∙ r.1.1) in
          cell_of s1 q.first.ptr r.1.0 (first_lies (place_at p) (index_of p) (back p has) slots q xs loose.0 r.0 r.1.0 (sym same_us ∙ r.1.1))
          (f.0, ap (λ (s : List (Option (Cell X))). get_or s r.1.0 None) (s1_first e) ∙ f.1)

      pub prepend_after : WrittenFirst → 0 < q.len → IsCell p1 s1 q.first.ptr
      prepend_after e lt = subst (λ (m : Grid). IsCell m s1 q.first.ptr) (sym same) (first_near (turned xs) refl e (omega (arith, lt, loose.0.0, length_turned xs)))

      module _ (s2 : List (Option (Cell X))) (e : WrittenFirst) (e2 : s2 ≡ joined_previous (index_of p1) s1 q.len at q.first.ptr) where
        prepended_is : s2 ≡ First1 (place_at p) (index_of p) (back p has) slots q xs c v at loose.3 loose.4 loose.1 loose.0
        prepended_is =
            e2 ∙ ap (λ (m : Grid). joined_previous (index_of m) s1 q.len at q.first.ptr) same ∙ ap (λ (s : List (Option (Cell X))). joined_previous (index_of p) s q.len at q.first.ptr) (s1_first e)
            ∙ ap (λ (m : Ptr). joined_previous (index_of p) (First0 (place_at p) (index_of p) (back p has) slots q xs c v at loose.3 loose.4 loose.1 loose.0) q.len m q.first.ptr) loose.2

        pub prepended : (r : Queue X) → r.first.ptr ≡ at → r.last.ptr ≡ cond (eqb q.len 0) at q.last.ptr → r.len ≡ q.len + 1 → IsQueue (place_at p) s2 r (c ∷ xs)
        prepended r e_first e_last e_len =
            subst (λ s. IsQueue (place_at p) s r (c ∷ xs)) (sym prepended_is) (queue_in_first (place_at p) (index_of p) (back p has) slots q xs c v at loose.3 loose.4 loose.1 loose.0 r
            (e_first ∙ loose.2) (e_last ∙ ap (λ (m : Ptr). cond (eqb q.len 0) m q.last.ptr) loose.2) e_len)

        pub prepended_cells : ComesIn c v xs slots s2
        prepended_cells = subst (λ s. ComesIn c v xs slots s) (sym prepended_is) (in_first (place_at p) (index_of p) (back p has) slots q xs c v at loose.3 loose.4 loose.1 loose.0)
