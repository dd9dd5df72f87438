-- The boxes of a mailbox, and its invariant, after the first message with one of the names was removed.
use Rattle.std.proofs.Common.{◌≡◌, ℕ, suc, ◌+◌, ◌<◌, ◌≤◌, ◌==◌, cond, Bool, true, false, List, [], ◌∷◌, ◌++◌, length, get_or, set, position, remove, slice_get, take, drop, Some, refl, sym, ap, ◌∙◌, subst, arith, append_assoc, length-append}
use Rattle.std.proofs.lemmas.Bool.{eqb-true, eq-eqb}
use Rattle.std.proofs.lemmas.List.{get_or-set_other, get_or-set_same, length-map, map-append}
use Rattle.std.proofs.lemmas.List.Elements.{filter-append}
use Rattle.std.proofs.lemmas.List.Edits.{length-remove}
use Rattle.std.proofs.lemmas.Option.{slice_get_within}
use Rattle.run_types.specs.Tables.{Each}
use Rattle.run_types.specs.declared.types.NameId.{NameId}
use Rattle.slot_queues.specs.declared.Message.{Message}
use Rattle.slot_queues.specs.declared.lanes.Stamped.{Stamped}
use Rattle.slot_queues.specs.Lanes.{shared, put_in, in_order, joined, of_slot, messages, box_in, Follows, IsChain, IsNear, times, rank_in, IsEarliest, IsNone, IsKept, Named}
use Rattle.slot_queues.specs.Mail.{is_named}
use Rattle.slot_queues.proofs.Joined.{each_left, each_right, each_both, each_map, each_two, each_kept, Around, around, joined_beyond, each_joined, times_append, none_times}
use Rattle.slot_queues.proofs.Kept.{for_slot, of_keep, of_skip, each_of, box_same, at_changed, Changes, changes, late_changes}
use Rattle.slot_queues.proofs.Order.{in_order_middle, each_in_order, Stands, stands, IsRising, in_order_rising, rising_after}
use Rattle.slot_queues.proofs.Places.{position_at, removed, there as here_is}
use Rattle.slot_queues.proofs.Ranks.{rank_early, rank_append, rank_all, rank_none, rank_same, for_the_slot, one_more_at_most}
use Rattle.slot_queues.proofs.Taken.{Takes, takes_first, takes_late, each_message, cut}

module _ (l : List (List Stamped)) (cells next objects to : ℕ) (k : IsKept l cells next objects) (slot : to < objects) (names : List NameId) where
  abbrev n : ℕ
  n = shared cells

  -- whether a message calls one of the names
  abbrev pub calls : Message → Bool
  calls m = is_named names m.method

  abbrev call : Stamped → Bool
  call x = calls x.message

  -- the length of a box without one message
  one_less : (box rest : List Message) (m : Message) → Takes calls box m rest → length rest + 1 ≡ length box
  one_less box rest m t = ap (λ z. length z + 1) t.others ∙ length-remove box t.place (slice_get_within box t.place m t.is)

  -- ---- from a shared queue

  module _ (q : ℕ) (within : q < n) (pre : List Stamped) (x : Stamped) (rest : List Stamped) (is : get_or l q [] ≡ pre ++ x ∷ rest) where
    abbrev pub without : List (List Stamped)
    without = set l q (pre ++ rest)

    less : q < length l
    less = omega (arith, k.count, within)

    pub a : Around n q l
    a = around n q l within less

    -- the messages of the shared queues before x, and those after it
    abbrev former : List Stamped
    former = a.before ++ pre

    abbrev others : List Stamped
    others = rest ++ a.after

    pub all_old : joined n l ≡ former ++ x ∷ others
    all_old =
        a.all ∙ ap (λ z. a.before ++ (z ++ a.after)) is ∙ ap (λ z. a.before ++ z) (append_assoc pre (x ∷ rest) a.after) ∙ sym (append_assoc a.before pre (x ∷ others))

    all_new : joined n without ≡ former ++ others
    all_new = a.changed (pre ++ rest) ∙ ap (λ z. a.before ++ z) (append_assoc pre rest a.after) ∙ sym (append_assoc a.before pre others)

    chain_without : (ys : List Stamped) → IsChain (ys ++ x ∷ rest) → IsChain (ys ++ rest)
    chain_without [] h = h.1
    chain_without (y ∷ ys) h = (each_without (Follows y) ys h.0, chain_without ys h.1)
      where
        each_without : (P : Stamped → Type 0) (zs : List Stamped) → Each P (zs ++ x ∷ rest) → Each P (zs ++ rest)
        each_without P zs g = each_both P zs rest (each_left P zs (x ∷ rest) g) (each_right P zs (x ∷ rest) g).1

    chain : IsChain (pre ++ rest)
    chain = chain_without pre (subst IsChain is (k.chains q within))

    near : Each (IsNear cells next q) (pre ++ rest)
    near =
        let P : Stamped → Type 0 = IsNear cells next q in let h : Each P (pre ++ x ∷ rest) = subst (λ z. Each P z) is (k.near q within) in
        each_both P pre rest (each_left P pre (x ∷ rest) h) (each_right P pre (x ∷ rest) h).1

    sum_old : (t : ℕ) → times t (joined n l) ≡ times t former + (times t (x ∷ others))
    sum_old t = ap (times t) all_old ∙ times_append t former (x ∷ others)

    once_in : (t : ℕ) → times t (joined n without) ≤ 1
    once_in t = let h = k.once t in omega (arith, h, sum_old t, ap (times t) all_new, times_append t former others)

    counted : cond (x.stamp == x.stamp) 1 0 + times x.stamp others + times x.stamp former ≤ 1
    counted = let h = k.once x.stamp in omega (arith, h, sum_old x.stamp)

    one : ◌≡◌ {A = ℕ} (cond (x.stamp == x.stamp) 1 0) 1
    one = ap (λ c. cond c 1 0) (eq-eqb x.stamp x.stamp refl)

    -- no other message has its stamp
    pub differ_former : Each (λ (y : Stamped). y.stamp ≡ x.stamp → ⊥) former
    differ_former = none_times x.stamp former (omega (arith, counted, one))

    pub differ_others : Each (λ (y : Stamped). y.stamp ≡ x.stamp → ⊥) others
    differ_others = none_times x.stamp others (omega (arith, counted, one))

    module _ (to_is : x.to ≡ to) where
      -- the others of the slot
      abbrev pub rest_early : List Stamped
      rest_early = in_order (of_slot to former ++ of_slot to others)

      all_of_slot : (ys : List Stamped) → Each (λ (y : Stamped). y.to ≡ to) (of_slot to ys)
      all_of_slot ys = each_kept (for_slot to) (λ y. y.to ≡ to) ys (each_always ys)
        where
          each_always : (zs : List Stamped) → Each (λ (y : Stamped). for_slot to y ≡ true → y.to ≡ to) zs
          each_always [] = tt
          each_always (z ∷ zs) = (eqb-true z.to to, each_always zs)

      pub early_old : in_order (of_slot to (joined n l)) ≡ put_in x rest_early
      early_old =
          ap (λ z. in_order (of_slot to z)) all_old
          ∙ ap in_order (of_keep to former x others to_is)
          ∙ in_order_middle (of_slot to former) x (of_slot to others) (each_of (λ y. y.stamp ≡ x.stamp → ⊥) to former differ_former)

      pub early_new : in_order (of_slot to (joined n without)) ≡ rest_early
      early_new = ap (λ z. in_order (of_slot to z)) all_new ∙ ap in_order (filter-append (for_slot to) former others)

      late_kept : (s : ℕ) → get_or without (n + s) [] ≡ get_or l (n + s) []
      late_kept s = get_or-set_other l q (n + s) (pre ++ rest) [] (λ e. absurd (omega (arith, e, within)))

      -- its box, if x stands between those before it and those after it
      module _ (p : Stamped → Bool) (st : Stands p x rest_early) where
        pub box_old : box_in l n to ≡ messages (st.before ++ x ∷ st.after) ++ messages (get_or l (n + to) [])
        box_old = ap (λ z. messages z ++ messages (get_or l (n + to) [])) (early_old ∙ st.all)

        -- those before it are the messages to the slot with lesser stamps
        pub stands_rank : length st.before ≡ rank_in to x.stamp (joined n l)
        stands_rank =
            let differ : Each (λ (y : Stamped). y.stamp ≡ x.stamp → ⊥) rest_early = each_in_order (λ y. y.stamp ≡ x.stamp → ⊥) (of_slot to former ++ of_slot to others)
            (each_both (λ y. y.stamp ≡ x.stamp → ⊥) (of_slot to former) (of_slot to others) (each_of (λ y. y.stamp ≡ x.stamp → ⊥) to former differ_former) (each_of (λ y. y.stamp ≡ x.stamp → ⊥) to others differ_others)) in
            let slots : Each (λ (y : Stamped). y.to ≡ to) rest_early = each_in_order (λ y. y.to ≡ to) (of_slot to former ++ of_slot to others) (each_both (λ y. y.to ≡ to) (of_slot to former) (of_slot to others) (all_of_slot former) (all_of_slot others)) in
            let both : Each (λ (y : Stamped). (y.stamp ≡ x.stamp → ⊥) × (y.to ≡ to)) (st.before ++ st.after) =
            subst (λ z. Each (λ (y : Stamped). (y.stamp ≡ x.stamp → ⊥) × (y.to ≡ to)) z) st.rest
            (each_two (λ (y : Stamped). y.stamp ≡ x.stamp → ⊥) (λ y. y.to ≡ to) (λ y. (y.stamp ≡ x.stamp → ⊥) × (y.to ≡ to)) (λ y d e. (d, e)) rest_early differ slots) in
            let lesser : Each (λ (y : Stamped). (y.to ≡ to) × (y.stamp < x.stamp)) st.before =
            each_two (λ (y : Stamped). (y.stamp ≡ x.stamp → ⊥) × (y.to ≡ to)) (λ y. y.stamp ≤ x.stamp) (λ y. (y.to ≡ to) × (y.stamp < x.stamp)) (λ y d le. let ne = d.0 in (d.1, omega (arith, ne, le))) st.before
            (each_left (λ (y : Stamped). (y.stamp ≡ x.stamp → ⊥) × (y.to ≡ to)) st.before st.after both) st.lesser in
            let greater : Each (λ (y : Stamped). x.stamp ≤ y.stamp) st.after = rising_after st.before x st.after (subst IsRising (early_old ∙ st.all) (in_order_rising (of_slot to (joined n l)))) in
            omega (arith, rank_early to x.stamp (joined n l), ap (rank_in to x.stamp) (early_old ∙ st.all), rank_append to x.stamp st.before (x ∷ st.after), rank_all to x.stamp st.before lesser, rank_none to x.stamp (x ∷ st.after) (omega arith, greater))

        pub box_new : box_in without n to ≡ messages (st.before ++ st.after) ++ messages (get_or l (n + to) [])
        box_new = ap (λ z. messages z ++ messages (get_or without (n + to) [])) (early_new ∙ st.rest) ∙ ap (λ z. messages (st.before ++ st.after) ++ messages z) (late_kept to)

      pub removed_changes : length (box_in without n to) + 1 ≡ length (box_in l n to) → Changes l without cells next objects to
      removed_changes one_fewer =
          changes l cells next objects to k slot next q (pre ++ rest) less (at_changed (λ r ys. IsChain ys) l n q (pre ++ rest) less chain k.chains)
          (at_changed (λ r ys. Each (IsNear cells next r) ys) l n q (pre ++ rest) less near k.near) once_in
          (λ s ne. box_same l without n s (ap (of_slot s) all_new ∙ sym (of_skip s former x others (λ e. ne (sym e ∙ to_is))) ∙ sym (ap (of_slot s) all_old)) (late_kept s))
          (omega (arith, one_fewer, ap length is, length-append pre (x ∷ rest), length-append pre rest))

  module _ (b : ℕ × ℕ) (best : IsEarliest l n (Named to names) b) where
    abbrev head : Stamped
    head = best.first

    abbrev behind_head : List Stamped
    behind_head = best.rest

    abbrev pub m : List (List Stamped)
    m = set l b.0 behind_head

    abbrev earlier : List Stamped
    earlier = former b.0 best.within [] head behind_head best.is

    abbrev later : List Stamped
    later = others b.0 best.within [] head behind_head best.is

    abbrev Later : Stamped → Type 0
    Later y = (y.to ≡ to) × (is_named names y.message.method ≡ true) → b.1 ≤ y.stamp

    all_later : Each Later (earlier ++ head ∷ later)
    all_later = subst (λ z. Each Later z) (all_old b.0 best.within [] head behind_head best.is) (each_joined Later n l best.least)

    abbrev Behind : Stamped → Type 0
    Behind y = call y ≡ true → head.stamp < y.stamp

    behind : (ys : List Stamped) → Each Later ys → Each (λ (y : Stamped). y.stamp ≡ head.stamp → ⊥) ys → Each Behind (of_slot to ys)
    behind ys h d =
        each_kept (for_slot to) Behind ys
        (each_two Later (λ (y : Stamped). y.stamp ≡ head.stamp → ⊥) (λ y. for_slot to y ≡ true → Behind y) (λ y f g t c. let le = f (eqb-true y.to to t, c) in let s = best.stamp in omega (arith, le, g, s)) ys h d)

    st : Stands call head (rest_early b.0 best.within [] head behind_head best.is best.wanted.0)
    st =
        stands call head (rest_early b.0 best.within [] head behind_head best.is best.wanted.0)
        (each_in_order Behind (of_slot to earlier ++ of_slot to later)
        (each_both Behind (of_slot to earlier) (of_slot to later) (behind earlier (each_left Later earlier (head ∷ later) all_later) (differ_former b.0 best.within [] head behind_head best.is))
        (behind later (each_right Later earlier (head ∷ later) all_later).1 (differ_others b.0 best.within [] head behind_head best.is))))

    abbrev late : List Message
    late = messages (get_or l (n + to) [])

    old_is : box_in l n to ≡ messages (st.before ++ head ∷ st.after) ++ late
    old_is = box_old b.0 best.within [] head behind_head best.is best.wanted.0 call st

    takes : Takes calls (box_in l n to) head.message (box_in m n to)
    takes =
        subst (λ z. Takes calls z head.message (box_in m n to)) (sym old_is)
        (subst (λ z. Takes calls (messages (st.before ++ head ∷ st.after) ++ late) head.message z) (sym (box_new b.0 best.within [] head behind_head best.is best.wanted.0 call st)) (takes_first calls st.before head st.after late st.none best.wanted.1))

    pub taken_shared : Takes calls (box_in l n to) head.message (box_in m n to) × Changes l m cells next objects to
    taken_shared = (takes, removed_changes b.0 best.within [] head behind_head best.is best.wanted.0 (one_less (box_in l n to) (box_in m n to) head.message takes))

    -- its place is its rank
    pub place_shared : position calls (box_in l n to) ≡ Some (rank_in to b.1 (joined n l))
    place_shared =
        let f = λ (y : Stamped). y.message in
        ap (position calls) (old_is ∙ ap (λ z. z ++ late) (map-append f st.before (head ∷ st.after)) ∙ append_assoc (messages st.before) (head.message ∷ messages st.after) late)
        ∙ position_at calls (messages st.before) head.message (messages st.after ++ late) (each_message (λ y. calls y ≡ false) st.before st.none) best.wanted.1
        ∙ ap Some (length-map st.before f ∙ stands_rank b.0 best.within [] head behind_head best.is best.wanted.0 call st ∙ ap (λ t. rank_in to t (joined n l)) best.stamp)

  -- ---- by its stamp

  module _ (q : ℕ) (within : q < n) (i : ℕ) (x : Stamped) (there : slice_get (get_or l q []) i ≡ Some x) (place : ℕ) (low : rank_in to x.stamp (joined n l) ≤ place) (high : place < rank_in to (x.stamp + 1) (joined n l)) where
    abbrev xs : List Stamped
    xs = get_or l q []

    abbrev pre : List Stamped
    pre = take i xs

    abbrev post : List Stamped
    post = drop (suc i) xs

    whole : xs ≡ pre ++ x ∷ post
    whole = cut xs i x there

    abbrev f : List Stamped
    f = former q within pre x post whole

    abbrev o : List Stamped
    o = others q within pre x post whole

    rank_is : (t : ℕ) → rank_in to t (joined n l) ≡ rank_in to t f + rank_in to t (x ∷ o)
    rank_is t = ap (rank_in to t) (all_old q within pre x post whole) ∙ rank_append to t f (x ∷ o)

    abbrev s : ℕ
    s = x.stamp

    same_f : rank_in to (s + 1) f ≡ rank_in to s f
    same_f = rank_same to s f (differ_former q within pre x post whole)

    same_o : rank_in to (s + 1) o ≡ rank_in to s o
    same_o = rank_same to s o (differ_others q within pre x post whole)

    to_is : x.to ≡ to
    to_is = for_the_slot to (s + 1) x o (omega (arith, low, high, rank_is s, rank_is (s + 1), same_f, same_o))

    place_is : place ≡ rank_in to s (joined n l)
    place_is = omega (arith, low, high, rank_is s, rank_is (s + 1), same_f, same_o, one_more_at_most to (s + 1) x o)

    abbrev never : Stamped → Bool
    never y = false

    each_never : (ys : List Stamped) → Each (λ (y : Stamped). never y ≡ true → s < y.stamp) ys
    each_never [] = tt
    each_never (y ∷ ys) = ((λ e. cc), each_never ys)

    st_at : Stands never x (rest_early q within pre x post whole to_is)
    st_at = stands never x (rest_early q within pre x post whole to_is) (each_never (rest_early q within pre x post whole to_is))

    at_is : place ≡ length (messages st_at.before)
    at_is = place_is ∙ sym (length-map st_at.before (λ (y : Stamped). y.message) ∙ stands_rank q within pre x post whole to_is never st_at)

    abbrev behind_all : List Message
    behind_all = messages (get_or l (n + to) [])

    split_old : box_in l n to ≡ messages st_at.before ++ x.message ∷ (messages st_at.after ++ behind_all)
    split_old =
        box_old q within pre x post whole to_is never st_at
        ∙ ap (λ z. z ++ behind_all) (map-append (λ (y : Stamped). y.message) st_at.before (x ∷ st_at.after))
        ∙ append_assoc (messages st_at.before) (x.message ∷ messages st_at.after) behind_all

    abbrev pub m_at : List (List Stamped)
    m_at = set l q (pre ++ post)

    split_new : box_in m_at n to ≡ messages st_at.before ++ (messages st_at.after ++ behind_all)
    split_new =
        box_new q within pre x post whole to_is never st_at
        ∙ ap (λ z. z ++ behind_all) (map-append (λ (y : Stamped). y.message) st_at.before st_at.after)
        ∙ append_assoc (messages st_at.before) (messages st_at.after) behind_all

    pub message_at : slice_get (box_in l n to) place ≡ Some x.message
    message_at = ap (λ z. slice_get z place) split_old ∙ ap (slice_get (messages st_at.before ++ x.message ∷ (messages st_at.after ++ behind_all))) at_is ∙ here_is (messages st_at.before) x.message (messages st_at.after ++ behind_all)

    pub without_at : box_in m_at n to ≡ remove (box_in l n to) place
    without_at =
        split_new ∙ sym (removed (messages st_at.before) x.message (messages st_at.after ++ behind_all))
        ∙ ap (remove (messages st_at.before ++ x.message ∷ (messages st_at.after ++ behind_all))) (sym at_is)
        ∙ ap (λ z. remove z place) (sym split_old)

    pub changes_at : Changes l m_at cells next objects to
    changes_at =
        removed_changes q within pre x post whole to_is
        (omega (arith, ap length split_old, ap length split_new, length-append (messages st_at.before) (x.message ∷ (messages st_at.after ++ behind_all)), length-append (messages st_at.before) (messages st_at.after ++ behind_all)))

  -- ---- how many messages of a box are in the shared queues

  pub early_length : length (messages (in_order (of_slot to (joined n l)))) ≡ rank_in to next (joined n l)
  early_length =
      let e : List Stamped = in_order (of_slot to (joined n l)) in let P : Stamped → Type 0 = λ x. x.stamp < next in
      let below : Each P (joined n l) = each_joined P n l (λ q less. each_map (IsNear cells next q) P (λ x h. h.2) (get_or l q []) (k.near q less)) in
      length-map e (λ (y : Stamped). y.message)
      ∙ sym (rank_all to next e (each_in_order (λ (x : Stamped). (x.to ≡ to) × (x.stamp < next)) (of_slot to (joined n l))
      (each_kept (for_slot to) (λ (x : Stamped). (x.to ≡ to) × (x.stamp < next)) (joined n l) (each_map P (λ x. for_slot to x ≡ true → (x.to ≡ to) × (x.stamp < next)) (λ x h t. (eqb-true x.to to t, h)) (joined n l) below))))
      ∙ rank_early to next (joined n l)

  -- ---- from a late queue

  module _ (none : IsNone l n (Named to names)) where
    abbrev early : List Stamped
    early = in_order (of_slot to (joined n l))

    passes_not : (y : Stamped) → ((y.to ≡ to) × (is_named names y.message.method ≡ true) → ⊥) → for_slot to y ≡ true → call y ≡ false
    passes_not y f t = by (call y) refl
      where
        by : (c : Bool) → call y ≡ c → c ≡ false
        by true e = absurd (f (eqb-true y.to to t, e))
        by false e = refl

    -- no message in the shared queues calls one of the names
    pub early_none : Each (λ y. calls y ≡ false) (messages early)
    early_none =
        let D : Stamped → Type 0 = λ y. (y.to ≡ to) × (is_named names y.message.method ≡ true) → ⊥ in
        each_message (λ y. calls y ≡ false) early
        (each_in_order (λ y. call y ≡ false) (of_slot to (joined n l)) (each_kept (for_slot to) (λ y. call y ≡ false) (joined n l) (each_map D (λ y. for_slot to y ≡ true → call y ≡ false) passes_not (joined n l) (each_joined D n l none.none))))

    module _ (i : ℕ) (at : position call (get_or l (n + to) []) ≡ Some i) where
      abbrev late_rest : List Stamped
      late_rest = remove (get_or l (n + to) []) i

      abbrev pub m_late : List (List Stamped)
      m_late = set l (n + to) late_rest

      found : (x : Stamped) × (slice_get (get_or l (n + to) []) i ≡ Some x) × Takes calls (messages early ++ messages (get_or l (n + to) [])) x.message (messages early ++ messages late_rest)
      found = takes_late calls (messages early) (get_or l (n + to) []) i early_none at

      box_late : box_in m_late n to ≡ messages early ++ messages late_rest
      box_late =
          let less : n + to < length l = omega (arith, k.count, slot) in
          ap (λ z. messages (in_order (of_slot to z)) ++ messages (get_or m_late (n + to) [])) (joined_beyond n (n + to) l late_rest (omega arith))
          ∙ ap (λ z. messages early ++ messages z) (get_or-set_same l (n + to) late_rest [] less)

      pub taken_late : (x : Stamped) × (slice_get (get_or l (n + to) []) i ≡ Some x) × Takes calls (box_in l n to) x.message (box_in m_late n to) × Changes l m_late cells next objects to
      taken_late =
          let x = found.0 in let t : Takes calls (box_in l n to) x.message (box_in m_late n to) = subst (λ z. Takes calls (box_in l n to) x.message z) (sym box_late) found.2 in (
            x,
            found.1,
            t,
            late_changes l cells next objects to k slot late_rest
                (omega (arith, one_less (box_in l n to) (box_in m_late n to) x.message t, length-remove (get_or l (n + to) []) i (slice_get_within (get_or l (n + to) []) i x found.1))),
          )
