-- The boxes of a mailbox, and its invariant, after one of its queues changed.
use Rattle.std.proofs.Common.{◌≡◌, ℕ, ◌+◌, ◌*◌, ◌%◌, ◌<◌, ◌≤◌, ◌==◌, cond, Bool, true, false, ◌⊎◌, inl, inr, List, [], ◌∷◌, ◌++◌, length, get_or, set, sym, ap, ◌∙◌, subst, arith, append_assoc, length-append}
use Rattle.std.proofs.Math.Nat.{mul-le-mul_left}
use Rattle.std.proofs.lemmas.Bool.{cases_eq, eqb-true, eq-eqb, ne_eqb, and_parts}
use Rattle.std.proofs.lemmas.List.{same_lists, length-set, get_or-set_same, get_or-set_other, append-nil, map-append}
use Rattle.std.proofs.lemmas.List.FromFn.{length-map-range_with_len, get_or-map-range_with_len}
use Rattle.std.proofs.lemmas.List.Elements.{filter-append}
use Rattle.run_types.specs.Tables.{Each}
use Rattle.slot_queues.specs.declared.Message.{Message}
use Rattle.slot_queues.specs.declared.lanes.Stamped.{Stamped}
use Rattle.slot_queues.specs.Lanes.{shared, home_of, may_hold, put_in, in_order, joined, of_slot, messages, box_in, boxes_in, Follows, IsChain, IsNear, times, sizes, IsKept}
use Rattle.slot_queues.proofs.Joined.{each_left, each_both, each_map, each_two, each_kept, Around, around, joined_beyond, each_joined, times_append, times_none, sizes_set}
use Rattle.slot_queues.proofs.Order.{in_order_middle, put_in_last, each_in_order}

-- the eight queues of a key are shared ones
pub home_fits : (cells to name : ℕ) → home_of cells to name + 8 ≤ shared cells
unfolding home_of
home_fits cells to name =
    let x = (to * 1640531527 + name * 625866897) % 2147483648 in
    let less : x ≤ 2147483647 = omega arith in
    let all = mul-le-mul_left {m = x} {n = 2147483647} (2 * cells + 1) less in
    let same : (2 * cells + 1) * x ≡ x * (2 * cells + 1) = omega arith in
    omega (arith, all, same)

-- the box of a slot among all
pub box_at : (l : List (List Stamped)) (n objects to : ℕ) → to < objects → get_or (boxes_in l n objects) to [] ≡ box_in l n to
box_at l n objects to less = get_or-map-range_with_len (box_in l n) 0 objects to to [] less (omega arith)

pub boxes_length : (l : List (List Stamped)) (n objects : ℕ) → length (boxes_in l n objects) ≡ objects
boxes_length l n objects = length-map-range_with_len (box_in l n) 0 objects

-- only one box has changed
boxes_changed : (l m : List (List Stamped)) (n objects to : ℕ) → to < objects → ((s : ℕ) → (s ≡ to → ⊥) → box_in m n s ≡ box_in l n s) → boxes_in m n objects ≡ set (boxes_in l n objects) to (box_in m n to)
boxes_changed l m n objects to less same =
    same_lists (boxes_in m n objects) (set (boxes_in l n objects) to (box_in m n to)) (boxes_length m n objects ∙ sym (length-set (boxes_in l n objects) to (box_in m n to) ∙ boxes_length l n objects))
    (λ k d h. let below : k < objects = omega (arith, h, boxes_length m n objects) in get_or-map-range_with_len (box_in m n) 0 objects k k d below (omega arith) ∙ by k d below (cases_eq k to))
  where
    by : (k : ℕ) (d : List Message) → k < objects → (k ≡ to) ⊎ (k ≡ to → ⊥) → box_in m n k ≡ get_or (set (boxes_in l n objects) to (box_in m n to)) k d
    by k d below (inl e) =
        ap (box_in m n) e ∙ sym (ap (λ j. get_or (set (boxes_in l n objects) to (box_in m n to)) j d) e ∙ get_or-set_same (boxes_in l n objects) to (box_in m n to) d (omega (arith, boxes_length l n objects)))
    by k d below (inr ne) =
        same k ne ∙ sym (get_or-set_other (boxes_in l n objects) to k (box_in m n to) d ne ∙ get_or-map-range_with_len (box_in l n) 0 objects k k d below (omega arith))

-- what holds of each of the first n queues holds after one changed
pub at_changed : (P : ℕ → List Stamped → Type 0) (l : List (List Stamped)) (n q : ℕ) (ys : List Stamped) → q < length l → P q ys → ((r : ℕ) → r < n → P r (get_or l r [])) → (r : ℕ) → r < n → P r (get_or (set l q ys) r [])
at_changed P l n q ys less here all r below = by (cases_eq r q)
  where
    by : (r ≡ q) ⊎ (r ≡ q → ⊥) → P r (get_or (set l q ys) r [])
    by (inl e) = subst (λ (j : ℕ). P j (get_or (set l q ys) j [])) (sym e) (subst (P q) (sym (get_or-set_same l q ys [] less)) here)
    by (inr ne) = subst (P r) (sym (get_or-set_other l q r ys [] ne)) (all r below)

-- ---- the messages for a slot, around one message

abbrev pub for_slot : ℕ → Stamped → Bool
for_slot s x = x.to == s

pub of_keep : (s : ℕ) (xs : List Stamped) (x : Stamped) (ys : List Stamped) → x.to ≡ s → of_slot s (xs ++ x ∷ ys) ≡ of_slot s xs ++ x ∷ of_slot s ys
of_keep s xs x ys e = filter-append (for_slot s) xs (x ∷ ys) ∙ ap (λ b. of_slot s xs ++ cond b (x ∷ of_slot s ys) (of_slot s ys)) (eq-eqb x.to s e)

pub of_skip : (s : ℕ) (xs : List Stamped) (x : Stamped) (ys : List Stamped) → (x.to ≡ s → ⊥) → of_slot s (xs ++ x ∷ ys) ≡ of_slot s (xs ++ ys)
of_skip s xs x ys ne =
    filter-append (for_slot s) xs (x ∷ ys) ∙ ap (λ b. of_slot s xs ++ cond b (x ∷ of_slot s ys) (of_slot s ys)) (ne_eqb x.to s ne) ∙ sym (filter-append (for_slot s) xs ys)

pub each_of : (P : Stamped → Type 0) (s : ℕ) (xs : List Stamped) → Each P xs → Each P (of_slot s xs)
each_of P s xs h = each_kept (for_slot s) P xs (each_map P (λ x. for_slot s x ≡ true → P x) (λ x p t. p) xs h)

-- a box, if its messages in the shared queues and in the late queue are known
pub box_same : (l m : List (List Stamped)) (n s : ℕ) → of_slot s (joined n m) ≡ of_slot s (joined n l) → get_or m (n + s) [] ≡ get_or l (n + s) [] → box_in m n s ≡ box_in l n s
box_same l m n s e f = ap (λ z. messages (in_order z) ++ messages (get_or m (n + s) [])) e ∙ ap (λ z. messages (in_order (of_slot s (joined n l))) ++ messages z) f

one_at_most : (b : Bool) → cond b 1 0 ≤ 1
one_at_most true = omega arith
one_at_most false = omega arith

-- the queues l have become m, by which the box of a slot has changed
pub record Changes (l m : List (List Stamped)) (cells next objects to : ℕ) : Type 0 where
  pub kept : IsKept m cells next objects
  pub boxes : boxes_in m (shared cells) objects ≡ set (boxes_in l (shared cells) objects) to (box_in m (shared cells) to)

module _ (l : List (List Stamped)) (cells next objects to : ℕ) (k : IsKept l cells next objects) (slot : to < objects) where
  abbrev pub n : ℕ
  n = shared cells

  pub changes : (next' q : ℕ) (ys : List Stamped) → q < length l → ((r : ℕ) → r < n → IsChain (get_or (set l q ys) r [])) → ((r : ℕ) → r < n → Each (IsNear cells next' r) (get_or (set l q ys) r []))
      → ((t : ℕ) → times t (joined n (set l q ys)) ≤ 1) → ((s : ℕ) → (s ≡ to → ⊥) → box_in (set l q ys) n s ≡ box_in l n s)
      → length (box_in (set l q ys) n to) + length (get_or l q []) ≡ length (box_in l n to) + length ys → Changes l (set l q ys) cells next' objects to
  changes next' q ys less chains near once same lengths =
      let m = set l q ys in let boxes = boxes_changed l m n objects to slot same in record {
        kept = record {
          count = length-set l q ys ∙ k.count;
          chains = chains;
          near = near;
          once = once;
          sum = ap sizes boxes
              ∙ omega (arith, sizes_set (boxes_in l n objects) to (box_in m n to) (omega (arith, boxes_length l n objects)), sizes_set l q ys less, k.sum, lengths, ap length (box_at l n objects to slot));
        };
        boxes = boxes;
      }

  -- a late queue changed
  pub late_changes : (ys : List Stamped) → length (box_in (set l (n + to) ys) n to) + length (get_or l (n + to) []) ≡ length (box_in l n to) + length ys → Changes l (set l (n + to) ys) cells next objects to
  late_changes ys lengths =
      let i : ℕ = n + to in let less : i < length l = omega (arith, k.count, slot) in let same = joined_beyond n i l ys (omega arith) in
      changes next i ys less (λ r below. subst IsChain (sym (get_or-set_other l i r ys [] (λ e. absurd (omega (arith, e, below))))) (k.chains r below))
      (λ r below. subst (λ z. Each (IsNear cells next r) z) (sym (get_or-set_other l i r ys [] (λ e. absurd (omega (arith, e, below))))) (k.near r below))
      (λ t. subst (λ z. times t z ≤ 1) (sym same) (k.once t))
      (λ s ne. box_same l (set l i ys) n s (ap (of_slot s) same) (get_or-set_other l i (n + s) ys [] (λ e. ne (omega (arith, e))))) lengths

  each_near : (q : ℕ) → q < n → Each (λ (x : Stamped). x.stamp < next) (get_or l q [])
  each_near q less = each_map (IsNear cells next q) (λ x. x.stamp < next) (λ x h. h.2) (get_or l q []) (k.near q less)

  all_below : Each (λ (x : Stamped). x.stamp < next) (joined n l)
  all_below = each_joined (λ (x : Stamped). x.stamp < next) n l each_near

  -- ---- a message came in

  module _ (x : Stamped) (is : x.to ≡ to) where
    each_follows : (q : ℕ) (xs : List Stamped) → x.stamp ≡ next → IsChain xs → Each (IsNear cells next q) xs → may_hold xs to x.message.method.0 ≡ true → Each (λ y. Follows y x) xs
    each_follows q [] stamp chain near holds = tt
    each_follows q (y ∷ ys) stamp chain near holds =
        let parts = and_parts (y.to == to) (y.message.method.0 == x.message.method.0) holds in let to_is = eqb-true y.to to parts.0 in let method_is = eqb-true y.message.method.0 x.message.method.0 parts.1 in
        let first = near.0.2 in (
          (is ∙ sym to_is, sym method_is, omega (arith, first, stamp)),
          each_two (Follows y) (IsNear cells next q) (λ z. Follows z x)
              (λ z f m. let below = m.2 in (is ∙ sym to_is ∙ sym f.0, sym method_is ∙ sym f.1, omega (arith, below, stamp))) ys chain.0 near.1,
        )

    chain_push : (xs : List Stamped) → IsChain xs → Each (λ y. Follows y x) xs → IsChain (xs ++ x ∷ [])
    chain_push [] chain h = (tt, tt)
    chain_push (y ∷ ys) chain h = (each_both (Follows y) ys (x ∷ []) chain.0 (h.0, tt), chain_push ys chain.1 h.1)

    module _ (q : ℕ) (from : home_of cells to x.message.method.0 ≤ q) (end : q < home_of cells to x.message.method.0 + 8) (within : q < n) (holds : may_hold (get_or l q []) to x.message.method.0 ≡ true)
        (late : get_or l (n + to) [] ≡ []) (stamp : x.stamp ≡ next) where
      abbrev xs : List Stamped
      xs = get_or l q []

      abbrev m : List (List Stamped)
      m = set l q (xs ++ x ∷ [])

      less : q < length l
      less = omega (arith, k.count)

      near_x : IsNear cells (next + 1) q x
      near_x = let same : home_of cells x.to x.message.method.0 ≡ home_of cells to x.message.method.0 = ap (λ j. home_of cells j x.message.method.0) is in (omega (arith, same), omega (arith, same), omega (arith, stamp))

      weaker : (r : ℕ) → r < n → Each (IsNear cells (next + 1) r) (get_or l r [])
      weaker r below = each_map (IsNear cells next r) (IsNear cells (next + 1) r) (λ y h. let b = h.2 in (h.0, h.1, omega (arith, b))) (get_or l r []) (k.near r below)

      a : Around n q l
      a = around n q l within less

      -- the messages before the new one, and those after it
      abbrev old : List Stamped
      old = a.before ++ xs

      all_old : joined n l ≡ old ++ a.after
      all_old = a.all ∙ sym (append_assoc a.before xs a.after)

      all_new : joined n m ≡ old ++ x ∷ a.after
      all_new = a.changed (xs ++ x ∷ []) ∙ ap (λ z. a.before ++ z) (append_assoc xs (x ∷ []) a.after) ∙ sym (append_assoc a.before xs (x ∷ a.after))

      below_all : Each (λ (y : Stamped). y.stamp < x.stamp) (old ++ a.after)
      below_all = subst (λ z. Each (λ (y : Stamped). y.stamp < x.stamp) z) all_old (each_map (λ (y : Stamped). y.stamp < next) (λ y. y.stamp < x.stamp) (λ y h. omega (arith, h, stamp)) (joined n l) all_below)

      once_in : (t : ℕ) → times t (joined n m) ≤ 1
      once_in t = by (cases_eq x.stamp t)
        where
          sum : times t (joined n m) ≡ times t old + (times t (x ∷ a.after))
          sum = ap (times t) all_new ∙ times_append t old (x ∷ a.after)

          was : times t old + times t a.after ≤ 1
          was = let h = k.once t in omega (arith, h, ap (times t) all_old, times_append t old a.after)

          by : (x.stamp ≡ t) ⊎ (x.stamp ≡ t → ⊥) → times t (joined n m) ≤ 1
          by (inl e) =
              let zero_is : times x.stamp (old ++ a.after) ≡ 0 = times_none x.stamp (old ++ a.after) below_all in let zero_at : times t (old ++ a.after) ≡ 0 = ap (λ u. times u (old ++ a.after)) (sym e) ∙ zero_is in
              omega (arith, sum, zero_at, times_append t old a.after, one_at_most (x.stamp == t))
          by (inr ne) = let none : ℕ = 0 in let h : cond (x.stamp == t) 1 0 ≡ none = ap (λ b. cond b 1 0) (ne_eqb x.stamp t ne) in omega (arith, sum, was, h)

      late_kept : (s : ℕ) → get_or m (n + s) [] ≡ get_or l (n + s) []
      late_kept s = get_or-set_other l q (n + s) (xs ++ x ∷ []) [] (λ e. absurd (omega (arith, e, within)))

      put_others : (s : ℕ) → (s ≡ to → ⊥) → box_in m n s ≡ box_in l n s
      put_others s ne = box_same l m n s (ap (of_slot s) all_new ∙ of_skip s old x a.after (λ e. ne (sym e ∙ is)) ∙ sym (ap (of_slot s) all_old)) (late_kept s)

      -- the messages to the slot in shared queues
      abbrev early : List Stamped
      early = in_order (of_slot to (joined n l))

      early_more : in_order (of_slot to (joined n m)) ≡ early ++ x ∷ []
      early_more =
          let P : Stamped → Type 0 = λ y. y.stamp < x.stamp in
          ap (λ z. in_order (of_slot to z)) all_new
          ∙ ap in_order (of_keep to old x a.after is)
          ∙ in_order_middle (of_slot to old) x (of_slot to a.after) (each_of (λ y. y.stamp ≡ x.stamp → ⊥) to old (each_map P (λ y. y.stamp ≡ x.stamp → ⊥) (λ y h e. omega (arith, h, e)) old (each_left P old a.after below_all)))
          ∙ ap (λ z. put_in x (in_order z)) (sym (filter-append (for_slot to) old a.after) ∙ sym (ap (of_slot to) all_old))
          ∙ put_in_last x early (each_in_order P (of_slot to (joined n l)) (each_of P to (joined n l) (subst (λ z. Each P z) (sym all_old) below_all)))

      put_here : box_in m n to ≡ box_in l n to ++ x.message ∷ []
      put_here =
          let nil : List Message = [] in
          ap (λ z. messages z ++ messages (get_or m (n + to) [])) early_more
          ∙ ap (λ z. messages (early ++ x ∷ []) ++ messages z) (late_kept to ∙ late)
          ∙ append-nil (messages (early ++ x ∷ []))
          ∙ map-append (λ (y : Stamped). y.message) early (x ∷ [])
          ∙ ap (λ z. z ++ x.message ∷ []) (sym (append-nil (messages early)) ∙ ap (λ z. messages early ++ messages z) (sym late))

      pub posted_shared : Changes l m cells (next + 1) objects to × (box_in m n to ≡ box_in l n to ++ x.message ∷ [])
      posted_shared = (
        changes (next + 1) q (xs ++ x ∷ []) less
            (at_changed (λ r ys. IsChain ys) l n q (xs ++ x ∷ []) less (chain_push xs (k.chains q within) (each_follows q xs stamp (k.chains q within) (k.near q within) holds)) k.chains)
            (at_changed (λ r ys. Each (IsNear cells (next + 1) r) ys) l n q (xs ++ x ∷ []) less (each_both (IsNear cells (next + 1) q) xs (x ∷ []) (weaker q within) (near_x, tt)) weaker)
            once_in put_others (omega (arith, ap length put_here, length-append (box_in l n to) (x.message ∷ []), length-append xs (x ∷ []))),
        put_here,
      )

    -- it came into the late queue
    abbrev j : ℕ
    j = n + to

    abbrev m_late : List (List Stamped)
    m_late = set l j (get_or l j [] ++ x ∷ [])

    less_late : j < length l
    less_late = omega (arith, k.count, slot)

    late_joined : joined n m_late ≡ joined n l
    late_joined = joined_beyond n j l (get_or l j [] ++ x ∷ []) (omega arith)

    late_here : box_in m_late n to ≡ box_in l n to ++ x.message ∷ []
    late_here =
        ap (λ z. messages (in_order (of_slot to z)) ++ messages (get_or m_late j [])) late_joined
        ∙ ap (λ z. messages (in_order (of_slot to (joined n l))) ++ messages z) (get_or-set_same l j (get_or l j [] ++ x ∷ []) [] less_late)
        ∙ ap (λ z. messages (in_order (of_slot to (joined n l))) ++ z) (map-append (λ (y : Stamped). y.message) (get_or l j []) (x ∷ []))
        ∙ sym (append_assoc (messages (in_order (of_slot to (joined n l)))) (messages (get_or l j [])) (x.message ∷ []))

    pub posted_late : Changes l m_late cells next objects to × (box_in m_late n to ≡ box_in l n to ++ x.message ∷ [])
    posted_late = (
      late_changes (get_or l j [] ++ x ∷ []) (omega (arith, ap length late_here, length-append (box_in l n to) (x.message ∷ []), length-append (get_or l j []) (x ∷ []))),
      late_here,
    )
