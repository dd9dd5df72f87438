-- The stored part of a wire does what the wire does, with the same lines.
use Rattle.std.proofs.Common.{◌≡◌, refl, sym, ap, ap₂, subst, ◌∙◌, ℕ, zero, suc, ◌+◌, ◌-◌, ◌<◌, ◌≤◌, ◌==◌, List, [], ◌∷◌, ◌++◌, append-nil, append_assoc, length, Option, Some, None, Bool, true, false, if◌then◌else◌, arith}
use Rattle.std.specs.Prelude.{slice_get, take as first_of_list, drop}
use Rattle.std.proofs.lemmas.List.{drop-take, length-append, length-take-le, take-append-drop}
use Rattle.std.proofs.Math.Seq.{drop-append_seam as behind, take-append_seam as front}
use Rattle.run_types.specs.declared.types.What.{What}
use Rattle.run_types.specs.declared.types.What.TheVariants as W
use Rattle.run_types.specs.declared.types.WireAct.{WireAct}
use Rattle.run_types.specs.declared.types.WireAct.TheVariants as A
use Rattle.run_types.specs.Tables.{Each}
use Rattle.mesh_semantics.specs.Wire.{Frame, Wire, empty_wire, WireFacts, greater, wanted_of, wanted, enter, launch, send_number, send, coming, take_frame, take, hear_number, hear, lose, twice, late, with_frames, with_acks, frame_number, ack_number, wire_act}
use Rattle.mesh_semantics.specs.Happenings.{changed}
use Rattle.mesh_semantics.specs.KeptWire.{KeptWire, empty_kept, from_to, kept_of, whole, Carries, kept_wanted, with_fresh, kept_launch, kept_send, kept_send_number, kept_coming, hand_out, kept_take_frame, kept_take, kept_hear_number, kept_hear, with_kept_frames, with_kept_acks, kept_act, Follows}
use Rattle.run_types.proofs.Laws.{equal}
use Rattle.mesh_semantics.proofs.WireLaws.{facts_empty, Greatest, greatest, Wanted, wanted_is, there, act_facts, take_facts, enter_facts, act_put, take_put}

-- the same of what is kept
abbrev pub kept_result : {X : Type 0} → Option (What × Wire X) → Option (What × KeptWire X)
kept_result None = None
kept_result (Some r) = Some (r.0, kept_of r.1)

module _ {X : Type 0} where
  -- parts of lists

  at_drop : (n i : ℕ) (xs : List X) → slice_get (drop n xs) i ≡ slice_get xs (n + i)
  at_drop zero i xs = let e : i ≡ 0 + i = omega arith in ap (slice_get xs) e
  at_drop (suc n) i [] = refl
  at_drop (suc n) i (x ∷ xs) = let e : suc (n + i) ≡ suc n + i = omega arith in at_drop n i xs ∙ ap (slice_get (x ∷ xs)) e

  at_take : (n i : ℕ) (xs : List X) → i < n → slice_get (first_of_list n xs) i ≡ slice_get xs i
  at_take zero i xs h = absurd (omega (arith, h))
  at_take (suc n) i [] h = refl
  at_take (suc n) zero (x ∷ xs) h = refl
  at_take (suc n) (suc i) (x ∷ xs) h = at_take n i xs (omega (arith, h))

  one_more : (n : ℕ) (xs : List X) (x : X) → slice_get xs n ≡ Some x → first_of_list (suc n) xs ≡ first_of_list n xs ++ x ∷ []
  one_more n [] x h = absurd (cc)
  one_more zero (y ∷ xs) x h = let e : y ≡ x = cc in ap (λ z. z ∷ []) e
  one_more (suc n) (y ∷ xs) x h = ap (λ zs. y ∷ zs) (one_more n xs x h)

  drop_twice : (n k : ℕ) (xs : List X) → drop k (drop n xs) ≡ drop (n + k) xs
  drop_twice zero k xs = let e : k ≡ 0 + k = omega arith in ap (λ z. drop z xs) e
  drop_twice (suc n) k [] = none k ∙ sym (none (suc n + k))
    where
      none : (m : ℕ) → drop {A = X} m [] ≡ []
      none zero = refl
      none (suc m) = refl
  drop_twice (suc n) k (x ∷ xs) = let e : suc (n + k) ≡ suc n + k = omega arith in drop_twice n k xs ∙ ap (λ z. drop z (x ∷ xs)) e

  front_in : (n : ℕ) (xs ys : List X) → n ≤ length xs → first_of_list n (xs ++ ys) ≡ first_of_list n xs
  front_in zero xs ys h = refl
  front_in (suc n) [] ys h = absurd (omega (arith, h))
  front_in (suc n) (x ∷ xs) ys h = ap (λ zs. x ∷ zs) (front_in n xs ys (omega (arith, h)))

  -- a part of a list is one of every longer list
  part_in : (i j : ℕ) (xs ys : List X) → i ≤ j → j ≤ length xs → from_to i j (xs ++ ys) ≡ from_to i j xs
  part_in zero j xs ys h k = front_in (j - 0) xs ys (omega (arith, k))
  part_in (suc i) zero xs ys h k = absurd (omega (arith, h))
  part_in (suc i) (suc j) [] ys h k = absurd (omega (arith, k))
  part_in (suc i) (suc j) (x ∷ xs) ys h k =
      let e : suc j - suc i ≡ j - i = omega arith in
      ap (λ z. first_of_list z (drop i (xs ++ ys))) e ∙ part_in i j xs ys (omega (arith, h)) (omega (arith, k)) ∙ ap (λ z. first_of_list z (drop i xs)) (sym e)

  -- what has a number in a part
  part_at : (i j n : ℕ) (xs : List X) → i ≤ n → n < j → slice_get (from_to i j xs) (n - i) ≡ slice_get xs n
  part_at i j n xs h k =
      let e : i + (n - i) ≡ n = omega (arith, h) in
      at_take (j - i) (n - i) (drop i xs) (omega (arith, h, k)) ∙ at_drop i (n - i) xs ∙ ap (slice_get xs) e

  part_more : (i j : ℕ) (xs : List X) (x : X) → i ≤ j → slice_get xs j ≡ Some x → from_to i (j + 1) xs ≡ from_to i j xs ++ x ∷ []
  part_more i j xs x h k =
      let e : j + 1 - i ≡ suc (j - i) = omega (arith, h) in let f : i + (j - i) ≡ j = omega (arith, h) in
      ap (λ z. first_of_list z (drop i xs)) e ∙ one_more (j - i) (drop i xs) x (at_drop i (j - i) xs ∙ ap (slice_get xs) f ∙ k)

  part_less : (i k j : ℕ) (xs : List X) → i ≤ k → k ≤ j → from_to k j xs ≡ drop (k - i) (from_to i j xs)
  part_less i k j xs h l =
      let e : i + (k - i) ≡ k = omega (arith, h) in let f : (k - i) + (j - k) ≡ j - i = omega (arith, h, l) in
      ap (λ z. first_of_list (j - k) (drop z xs)) (sym e) ∙ ap (first_of_list (j - k)) (sym (drop_twice i (k - i) xs)) ∙ sym (drop-take (k - i) (j - k) (drop i xs))
      ∙ ap (λ z. drop (k - i) (first_of_list z (drop i xs))) f

  -- the events

  -- what enters changes nothing of what is kept
  pub enter_same : (x : X) (w : Wire X) → WireFacts w → kept_of (enter x w) ≡ kept_of w
  enter_same x w s =
      let up : w.acked ≤ w.sent = let a = s.acked in let b = s.handed in omega (arith, a, b) in
      ap (λ cs. record (kept_of w) { copies = cs }) (part_in w.acked w.sent w.put (x ∷ []) up s.sent)

  launch_same : (n : ℕ) (x : Option X) (w : Wire X) → kept_launch n x (kept_of w) ≡ ((launch n x w).0, kept_of (launch n x w).1)
  launch_same n None w = refl
  launch_same n (Some x) w = refl

  -- the number that is wanted is sent, with what has it where it was never sent
  pub send_same : (w : Wire X) (n : ℕ) → WireFacts w → wanted w ≡ Some n
      → kept_send n (if n == w.sent then slice_get w.put n else None) (kept_of w)
      ≡ ((launch n (slice_get w.put n) (record w { next = n + 1; sent = greater w.sent (n + 1) })).0, kept_of (launch n (slice_get w.put n) (record w { next = n + 1; sent = greater w.sent (n + 1) })).1)
  send_same w n s h = go (with_fresh (if n == w.sent then slice_get w.put n else None) (from_to w.acked w.sent w.put)) copies
    where
      up : w.acked ≤ w.sent
      up = let a = s.acked in let b = s.handed in omega (arith, a, b)

      t : Wanted w.acked w.next (length w.put) n
      t = wanted_is w.acked w.next (length w.put) n (let a = s.sent in omega (arith, a, up)) s.next.0 h

      m : Greatest w.sent (n + 1)
      m = greatest w.sent (n + 1)

      u : Wire X
      u = record w { next = n + 1; sent = greater w.sent (n + 1) }

      by : (b : Bool) → (n == w.sent) ≡ b → with_fresh (if b then slice_get w.put n else None) (from_to w.acked w.sent w.put) ≡ from_to w.acked (greater w.sent (n + 1)) w.put
      by true i =
          let x = there w.put n t.there in
          let is : n ≡ w.sent = equal n w.sent i in
          let now : greater w.sent (n + 1) ≡ w.sent + 1 = let a = m.left in let b = m.right in let c = m.least (w.sent + 1) (omega arith) (omega (arith, is)) in omega (arith, b, c, is) in
          ap (λ z. with_fresh z (from_to w.acked w.sent w.put)) x.1 ∙ sym (part_more w.acked w.sent w.put x.0 up (ap (slice_get w.put) (sym is) ∙ x.1)) ∙ ap (λ z. from_to w.acked z w.put) (sym now)
      by false i =
          let now : w.sent ≡ greater w.sent (n + 1) =
          let apart : n < w.sent = let a = s.next.1 in let b = t.is in grind (arith, i, a, b) in let a = m.left in let b = m.least w.sent (omega arith) (omega (arith, apart)) in omega (arith, a, b) in
          ap (λ z. from_to w.acked z w.put) now

      copies : with_fresh (if n == w.sent then slice_get w.put n else None) (from_to w.acked w.sent w.put) ≡ from_to w.acked (greater w.sent (n + 1)) w.put
      copies = by (n == w.sent) refl

      packet : slice_get (from_to w.acked (greater w.sent (n + 1)) w.put) (n - w.acked) ≡ slice_get w.put n
      packet = part_at w.acked (greater w.sent (n + 1)) n w.put t.low (let a = m.right in omega (arith, a))

      go : (cs : List X) → cs ≡ from_to w.acked (greater w.sent (n + 1)) w.put
          → kept_launch n (slice_get cs (n - w.acked)) (record (kept_of w) { next = n + 1; sent = greater w.sent (n + 1); copies = cs })
          ≡ ((launch n (slice_get w.put n) u).0, kept_of (launch n (slice_get w.put n) u).1)
      go cs e =
          ap (λ ds. kept_launch n (slice_get ds (n - w.acked)) (record (kept_of w) { next = n + 1; sent = greater w.sent (n + 1); copies = ds })) e
          ∙ ap (λ x. kept_launch n x (kept_of u)) packet ∙ launch_same n (slice_get w.put n) u

  pub coming_same : (w : Wire X) → kept_coming (kept_of w) ≡ coming w
  coming_same w = refl

  pub take_same : (w : Wire X) → kept_of (take w) ≡ kept_take (kept_of w)
  take_same w = by w.frames
    where
      on : (f : Frame X) (fs : List (Frame X)) (b : Bool) → length (if b then w.handed ++ f.1 ∷ [] else w.handed) ≡ (if b then length w.handed + 1 else length w.handed)
      on f fs true = length-append w.handed (f.1 ∷ [])
      on f fs false = refl

      by : (fs : List (Frame X)) → kept_of (take_frame fs w) ≡ kept_take_frame fs (kept_of w)
      by [] = refl
      by (f ∷ fs) = ap (λ n. hand_out n (record (kept_of w) { frames = fs })) (on f fs (f.0 == length w.handed))

  pub hear_same : (w : Wire X) → WireFacts w → kept_hear (kept_of w) ≡ kept_result (hear w)
  hear_same w s = by w.acks s.told
    where
      by : (ns : List ℕ) → Each (λ n. n ≤ length w.handed) ns → kept_hear_number ns (kept_of w) ≡ kept_result (hear_number ns w)
      by [] told = refl
      by (n ∷ ns) told =
          let m = greatest w.acked n in
          let up : greater w.acked n ≤ w.sent = let a = m.least (length w.handed) s.acked told.0 in let b = s.handed in omega (arith, a, b) in
          ap (λ cs. Some (W.Acked n, record (kept_of w) { acks = ns; acked = greater w.acked n; next = greater w.next (greater w.acked n); copies = cs }))
          (sym (part_less w.acked (greater w.acked n) w.sent w.put m.left up))

  frames_same : (w : Wire X) (r : Option (What × List (Frame X))) → with_kept_frames (kept_of w) r ≡ kept_result (with_frames w r)
  frames_same w None = refl
  frames_same w (Some r) = refl

  acks_same : (w : Wire X) (r : Option (What × List ℕ)) → with_kept_acks (kept_of w) r ≡ kept_result (with_acks w r)
  acks_same w None = refl
  acks_same w (Some r) = refl

  number_same : (w : Wire X) (rest : List X) (n : Option ℕ) → WireFacts w → w.put ≡ w.handed ++ rest → wanted w ≡ n → kept_send_number n rest (kept_of w) ≡ kept_result (send_number n w)
  number_same w rest None s whole h = refl
  number_same w rest (Some n) s whole h = ap Some (ap (λ x. kept_send n x (kept_of w)) (by (n == w.sent) refl) ∙ send_same w n s h)
    where
      by : (b : Bool) → (n == w.sent) ≡ b → (if b then slice_get rest (n - length w.handed) else None) ≡ (if b then slice_get w.put n else None)
      by false i = refl
      by true i =
          let is : n ≡ w.sent = equal n w.sent i in let a = s.handed in
          let e : length w.handed + (n - length w.handed) ≡ n = omega (arith, is, a) in
          ap (λ xs. slice_get xs (n - length w.handed)) (sym (behind w.handed rest)) ∙ at_drop (length w.handed) (n - length w.handed) (w.handed ++ rest) ∙ ap₂ slice_get (sym whole) e

  -- whatever happens on a wire
  pub act_same : (a : WireAct) (w : Wire X) (rest : List X) → WireFacts w → w.put ≡ w.handed ++ rest → kept_act a rest (kept_of w) ≡ kept_result (wire_act a w)
  act_same A.Send w rest s whole =
      ap (λ n. kept_send_number (wanted_of w.acked w.next n) rest (kept_of w)) (sym (ap length whole ∙ length-append w.handed rest)) ∙ number_same w rest (wanted w) s whole refl
  act_same A.Ack w rest s whole = hear_same w s
  act_same A.Lose w rest s whole = frames_same w (lose frame_number w.frames)
  act_same A.Twice w rest s whole = frames_same w (twice frame_number w.frames)
  act_same A.Late w rest s whole = frames_same w (late frame_number w.frames)
  act_same A.LoseAck w rest s whole = acks_same w (lose ack_number w.acks)
  act_same A.TwiceAck w rest s whole = acks_same w (twice ack_number w.acks)
  act_same A.LateAck w rest s whole = acks_same w (late ack_number w.acks)

  -- lists that are carried

  kept_whole : (w : Wire X) → WireFacts w → whole (kept_of w) w.put ≡ w
  kept_whole w s = ap (λ xs. record w { handed = xs }) (ap (first_of_list (length w.handed)) (sym s.in_order.1) ∙ front w.handed s.in_order.0)

  whole_kept : (v : KeptWire X) (put : List X) → Carries v put → kept_of (whole v put) ≡ v
  whole_kept v put c = ap₂ (λ n cs. record v { handed = n; copies = cs }) (length-take-le v.handed put c.handed) (sym c.copies)

  -- what is kept of a wire carries what entered it
  pub kept_carries : (w : Wire X) → WireFacts w → Carries (kept_of w) w.put
  kept_carries w s = record {
    facts = subst WireFacts (sym (kept_whole w s)) s;
    handed = let a = s.handed in let b = s.sent in omega (arith, a, b);
    copies = refl;
  }

  carries_so : (v : KeptWire X) (put : List X) (w : Wire X) → WireFacts w → w.put ≡ put → kept_of w ≡ v → Carries v put × (whole v put ≡ w)
  carries_so v put w s i j = (
    subst (λ (z : KeptWire X). Carries z put) j (subst (Carries (kept_of w)) i (kept_carries w s)),
    ap (λ (z : KeptWire X). whole z put) (sym j) ∙ ap (whole (kept_of w)) (sym i) ∙ kept_whole w s,
  )

  pub empty_carries : Carries (empty_kept {X = X}) []
  empty_carries = kept_carries empty_wire facts_empty

  pub take_carries : (v : KeptWire X) (put : List X) → Carries v put → Carries (kept_take v) put × (whole (kept_take v) put ≡ take (whole v put))
  take_carries v put c = carries_so (kept_take v) put (take (whole v put)) (take_facts (whole v put) c.facts) (take_put (whole v put))
      (take_same (whole v put) ∙ ap (λ (z : KeptWire X). kept_take z) (whole_kept v put c))

  pub coming_carries : (v : KeptWire X) (put : List X) → Carries v put → kept_coming v ≡ coming (whole v put)
  coming_carries v put c = ap (λ (z : KeptWire X). kept_coming z) (sym (whole_kept v put c))

  follows : (put : List X) (r : Option (What × KeptWire X)) (o : Option (What × Wire X)) (w : Wire X) → r ≡ kept_result o → WireFacts (changed w o) → (changed w o).put ≡ put → Follows put r o
  follows put r None w e s i = subst (λ z. Follows put z None) (sym e) tt
  follows put r (Some q) w e s i = subst (λ z. Follows put z (Some q)) (sym e) (let c = carries_so (kept_of q.1) put q.1 s i refl in (refl, c.0, c.1))

  pub act_carries : (a : WireAct) (v : KeptWire X) (put : List X) → Carries v put → Follows put (kept_act a (drop v.handed put) v) (wire_act a (whole v put))
  act_carries a v put c =
      let w = whole v put in
      follows put (kept_act a (drop v.handed put) v) (wire_act a w) w
      (ap (kept_act a (drop v.handed put)) (sym (whole_kept v put c)) ∙ act_same a w (drop v.handed put) c.facts (sym (take-append-drop v.handed put))) (act_facts a w c.facts) (act_put a w)

  -- a number that is wanted, with what has it where it was never sent
  pub send_carries : (v : KeptWire X) (put : List X) (n : ℕ) (fresh : Option X) → Carries v put → kept_wanted v (length put) ≡ Some n → fresh ≡ (if n == v.sent then slice_get put n else None)
      → Follows put (Some (kept_send n fresh v)) (send (whole v put))
  send_carries v put n fresh c h f =
      let w = whole v put in
      let sent : send w ≡ send_number (Some n) w = ap (λ z. send_number z w) h in
      subst (Follows put (Some (kept_send n fresh v))) (sym sent) (follows put (Some (kept_send n fresh v)) (send_number (Some n) w) w
      (ap₂ (λ x (z : KeptWire X). Some (kept_send n x z)) f (sym (whole_kept v put c)) ∙ ap Some (send_same w n c.facts h))
      (subst (λ o. WireFacts (changed w o)) sent (act_facts A.Send w c.facts)) (subst (λ o. (changed w o).put ≡ put) sent (act_put A.Send w)))

  pub hear_carries : (v : KeptWire X) (put : List X) → Carries v put → Follows put (kept_hear v) (hear (whole v put))
  hear_carries v put c = act_carries A.Ack v put c

  -- a wire that carries a list carries every longer one
  pub longer_carries : (v : KeptWire X) (put more : List X) → Carries v put → Carries v (put ++ more)
  longer_carries v put [] c = subst (Carries v) (sym (append-nil put)) c
  longer_carries v put (x ∷ more) c = subst (Carries v) (append_assoc put (x ∷ []) more) (longer_carries v (put ++ x ∷ []) more one)
    where
      w : Wire X
      w = whole v put

      one : Carries v (put ++ x ∷ [])
      one = (carries_so v (put ++ x ∷ []) (enter x w) (enter_facts x w c.facts) refl (enter_same x w c.facts ∙ whole_kept v put c)).0
