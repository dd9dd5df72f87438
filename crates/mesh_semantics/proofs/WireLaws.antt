-- Each event of a wire keeps its invariant: the packets handed out are a prefix of those that entered, each frame
-- carries the packet of its number, and the numbers are within the window.
use Rattle.std.proofs.Common.{◌≡◌, refl, sym, ap, subst, ◌∙◌, ℕ, zero, suc, ◌+◌, ◌<◌, ◌≤◌, ◌==◌, List, [], ◌∷◌, ◌++◌, append-nil, append_assoc, length, Option, Some, None, Bool, true, false, if◌then◌else◌, nat_lt, arith, ltb-true}
use Rattle.std.specs.Prelude.{slice_get}
use Rattle.std.proofs.lemmas.List.{length-append}
use Rattle.run_types.specs.declared.types.What.{What}
use Rattle.run_types.specs.declared.types.What.TheVariants as W
use Rattle.run_types.specs.declared.types.WireAct.{WireAct}
use Rattle.run_types.specs.declared.types.WireAct.TheVariants as A
use Rattle.run_types.specs.Tables.{Each}
use Rattle.mesh_semantics.specs.Act.{first_of}
use Rattle.mesh_semantics.specs.Wire.{Frame, Wire, empty_wire, window, capacity, greater, push_within, wanted_of, wanted, enter, launch, send_number, Empty, Stale, Next, coming_in, coming, take_frame, take, hear_number, hear, lose, twice, late, with_frames, with_acks, frame_number, ack_number, wire_act, WireFacts}
use Rattle.mesh_semantics.specs.Happenings.{Happening, Enters, Comes, On, changed, happen, happened, entered}
use Rattle.run_types.proofs.Laws.{equal, same_some, each_map, each_append}

not_less : (a b : ℕ) → nat_lt a b ≡ false → b ≤ a
not_less a b h = grind (arith, h)

-- the greater of two numbers is the least above both
pub record Greatest (a b : ℕ) : Type 0 where
  pub left : a ≤ greater a b
  pub right : b ≤ greater a b
  pub least : (n : ℕ) → a ≤ n → b ≤ n → greater a b ≤ n

pub greatest : (a b : ℕ) → Greatest a b
greatest a b = by (nat_lt a b) refl
  where
    by : (t : Bool) → nat_lt a b ≡ t → Greatest a b
    by true h = let q = ltb-true a b h in record { left = rw h (omega (arith, q)); right = rw h (omega arith); least = λ n i j. rw h j }
    by false h = let q = not_less a b h in record { left = rw h (omega arith); right = rw h q; least = λ n i j. rw h i }

-- places in a list

module _ {X : Type 0} where
  pub place_in : (xs ys : List X) (i : ℕ) (x : X) → slice_get xs i ≡ Some x → slice_get (xs ++ ys) i ≡ Some x
  place_in [] ys i x h = absurd (cc)
  place_in (y ∷ xs) ys zero x h = h
  place_in (y ∷ xs) ys (suc i) x h = place_in xs ys i x h

  at_seam : (xs ys : List X) → slice_get (xs ++ ys) (length xs) ≡ first_of ys
  at_seam [] [] = refl
  at_seam [] (y ∷ ys) = refl
  at_seam (x ∷ xs) ys = at_seam xs ys

  pub there : (xs : List X) (i : ℕ) → i < length xs → (x : X) × (slice_get xs i ≡ Some x)
  there [] i h = absurd (omega (arith, h))
  there (x ∷ xs) zero h = (x, refl)
  there (x ∷ xs) (suc i) h = there xs i (omega (arith, h))

  first_is : (xs : List X) (x : X) → first_of xs ≡ Some x → (rest : List X) × (xs ≡ x ∷ rest)
  first_is [] x h = absurd (cc)
  first_is (y ∷ xs) x h = (xs, ap (λ (z : X). z ∷ xs) (same_some h))

-- a frame more

module _ {F : Type 0} (P : F → Type 0) where
  each_pushed : (f : F) (fs : List F) → Each P fs → P f → Each P (push_within f fs)
  each_pushed f fs h p = by (nat_lt (length fs) capacity) refl
    where
      by : (b : Bool) → nat_lt (length fs) capacity ≡ b → Each P (push_within f fs)
      by true e = rw e (each_append P fs f h p)
      by false e = rw e h

length_pushed : {F : Type 0} (f : F) (fs : List F) → length fs ≤ capacity → length (push_within f fs) ≤ capacity
length_pushed f fs h = by (nat_lt (length fs) capacity) refl
  where
    by : (b : Bool) → nat_lt (length fs) capacity ≡ b → length (push_within f fs) ≤ capacity
    by true e = rw e (let q = ltb-true (length fs) capacity e in let r = length-append fs (f ∷ []) in omega (arith, q, r))
    by false e = rw e h

pub length_behind : {F : Type 0} (fs : List F) (f : F) → length (fs ++ f ∷ []) ≡ suc (length fs)
length_behind fs f = length-append fs (f ∷ []) ∙ omega arith

-- the number that is wanted
pub record Wanted (acked next entered n : ℕ) : Type 0 where
  pub low : acked ≤ n
  pub high : n < acked + window
  pub there : n < entered
  pub is : n ≤ next

pub wanted_is : (acked next entered n : ℕ) → acked ≤ entered → acked ≤ next → wanted_of acked next entered ≡ Some n → Wanted acked next entered n
wanted_is acked next entered n below up h = by (acked == entered) (nat_lt next (acked + window)) (nat_lt next entered) refl refl refl
  where
    by : (t u v : Bool) → (acked == entered) ≡ t → nat_lt next (acked + window) ≡ u → nat_lt next entered ≡ v → Wanted acked next entered n
    by true u v i j k = absurd (let q : None ≡ Some n = rw i at h in cc)
    by false true true i j k =
        let same : next ≡ n = same_some (rw (i, j, k) at h) in let p = ltb-true next (acked + window) j in let q = ltb-true next entered k in
        record { low = omega (arith, same, up); high = omega (arith, same, p); there = omega (arith, same, q); is = omega (arith, same) }
    by false false v i j k = old i (same_some (rw (i, j) at h))
      where
        old : (acked == entered) ≡ false → acked ≡ n → Wanted acked next entered n
        old i same = let q : acked < entered = grind (arith, i, below) in record { low = omega (arith, same); high = omega (arith, same); there = omega (arith, same, q); is = omega (arith, same, up) }
    by false true false i j k = old i (same_some (rw (i, j, k) at h))
      where
        old : (acked == entered) ≡ false → acked ≡ n → Wanted acked next entered n
        old i same = let q : acked < entered = grind (arith, i, below) in record { low = omega (arith, same); high = omega (arith, same); there = omega (arith, same, q); is = omega (arith, same, up) }

module _ {X : Type 0} where
  -- each frame carries what has its number
  abbrev Carries : Wire X → Frame X → Type 0
  Carries w f = (f.0 < w.sent) × (slice_get w.put f.0 ≡ Some f.1)

  pub facts_empty : WireFacts (empty_wire {X = X})
  facts_empty = record {
    in_order = ([], refl);
    acked = omega arith;
    handed = omega arith;
    within = omega arith;
    sent = omega arith;
    next = (omega arith, omega arith);
    carried = tt;
    told = tt;
    capacities = (omega arith, omega arith);
  }

  pub enter_facts : (x : X) (w : Wire X) → WireFacts w → WireFacts (enter x w)
  enter_facts x w s = record {
    in_order = (s.in_order.0 ++ x ∷ [], sym (append_assoc w.handed s.in_order.0 (x ∷ [])) ∙ ap (λ xs. xs ++ x ∷ []) s.in_order.1);
    acked = s.acked;
    handed = s.handed;
    within = s.within;
    sent = let a = length-append w.put (x ∷ []) in let b = s.sent in omega (arith, a, b);
    next = s.next;
    carried = each_map (Carries w) (Carries (enter x w)) (λ f h. (h.0, place_in w.put (x ∷ []) f.0 f.1 h.1)) w.frames s.carried;
    told = s.told;
    capacities = s.capacities;
  }

  -- all that is sent is below what was acknowledged and the window
  send_facts : (w : Wire X) (n : ℕ) → WireFacts w → wanted w ≡ Some n → WireFacts (launch n (slice_get w.put n) (record w { next = n + 1; sent = greater w.sent (n + 1) })).1
  send_facts w n s h =
      let x = there w.put n t.there in
      subst (λ z. WireFacts (launch n z (record w { next = n + 1; sent = greater w.sent (n + 1) })).1) (sym x.1) (record {
        in_order = s.in_order;
        acked = s.acked;
        handed = let a = s.handed in let b = m.left in omega (arith, a, b);
        within = m.least (w.acked + window) s.within (let a = t.high in omega (arith, a));
        sent = m.least (length w.put) s.sent (let a = t.there in omega (arith, a));
        next = (let a = t.low in omega (arith, a), m.right);
        carried = each_pushed (Carries u) (n, x.0) w.frames
            (each_map (Carries w) (Carries u) (λ f i. ((let a = i.0 in let b = m.left in omega (arith, a, b)), i.1)) w.frames s.carried) ((let b = m.right in omega (arith, b)), x.1);
        told = s.told;
        capacities = (length_pushed (n, x.0) w.frames s.capacities.0, s.capacities.1);
      })
    where
      u : Wire X
      u = record w { next = n + 1; sent = greater w.sent (n + 1) }

      t : Wanted w.acked w.next (length w.put) n
      t = wanted_is w.acked w.next (length w.put) n (let a = s.acked in let b = s.handed in let c = s.sent in omega (arith, a, b, c)) s.next.0 h

      m : Greatest w.sent (n + 1)
      m = greatest w.sent (n + 1)

  -- what is handed out next is what entered next
  next_is : (w : Wire X) (rest : List X) (n : ℕ) (x : X) → w.handed ++ rest ≡ w.put → n ≡ length w.handed → slice_get w.put n ≡ Some x → first_of rest ≡ Some x
  next_is w rest n x whole i h = sym (at_seam w.handed rest) ∙ ap (λ xs. slice_get xs (length w.handed)) whole ∙ ap (slice_get w.put) (sym i) ∙ h

  pub take_facts : (w : Wire X) → WireFacts w → WireFacts (take w)
  take_facts w s = by w.frames refl s.carried s.capacities.0
    where
      by : (fs : List (Frame X)) → w.frames ≡ fs → Each (Carries w) fs → length fs ≤ capacity → WireFacts (take_frame fs w)
      by [] e c k = s
      by (f ∷ fs) e c k = on (f.0 == length w.handed) refl
        where
          on : (b : Bool) → (f.0 == length w.handed) ≡ b → WireFacts (take_frame (f ∷ fs) w)
          on false i = rw i (record {
            in_order = s.in_order;
            acked = s.acked;
            handed = s.handed;
            within = s.within;
            sent = s.sent;
            next = s.next;
            carried = c.1;
            told = each_pushed (λ n. n ≤ length w.handed) (length w.handed) w.acks s.told (omega arith);
            capacities = (omega (arith, k), length_pushed (length w.handed) w.acks s.capacities.1);
          })
          on true i =
              let is : f.0 ≡ length w.handed = equal f.0 (length w.handed) i in
              let r = first_is s.in_order.0 f.1 (next_is w s.in_order.0 f.0 f.1 s.in_order.1 is c.0.1) in
              let more : length (w.handed ++ f.1 ∷ []) ≡ suc (length w.handed) = length_behind w.handed f.1 in
              rw i (record {
                in_order = (r.0, append_assoc w.handed (f.1 ∷ []) r.0 ∙ ap (λ xs. w.handed ++ xs) (sym r.1) ∙ s.in_order.1);
                acked = let a = s.acked in omega (arith, a, more);
                handed = let a = c.0.0 in omega (arith, a, is, more);
                within = s.within;
                sent = s.sent;
                next = s.next;
                carried = c.1;
                told = each_pushed (λ n. n ≤ length (w.handed ++ f.1 ∷ [])) (length (w.handed ++ f.1 ∷ [])) w.acks
                    (each_map (λ n. n ≤ length w.handed) (λ n. n ≤ length (w.handed ++ f.1 ∷ [])) (λ n q. omega (arith, q, more)) w.acks s.told) (omega arith);
                capacities = (omega (arith, k), length_pushed (length (w.handed ++ f.1 ∷ [])) w.acks s.capacities.1);
              })

  hear_facts : (w : Wire X) → WireFacts w → WireFacts (changed w (hear w))
  hear_facts w s = by w.acks s.told s.capacities.1
    where
      by : (ns : List ℕ) → Each (λ n. n ≤ length w.handed) ns → length ns ≤ capacity → WireFacts (changed w (hear_number ns w))
      by [] c k = s
      by (n ∷ ns) c k =
          let a = greatest w.acked n in
          let b = greatest w.next (greater w.acked n) in
          let up : greater w.acked n ≤ length w.handed = a.least (length w.handed) s.acked c.0 in
          record {
            in_order = s.in_order;
            acked = up;
            handed = s.handed;
            within = let i = s.within in let j = a.left in omega (arith, i, j);
            sent = s.sent;
            next = (b.right, b.least w.sent s.next.1 (let i = s.handed in omega (arith, i, up)));
            carried = s.carried;
            told = c.1;
            capacities = (s.capacities.0, omega (arith, k));
          }

  -- other frames on the wire
  with_facts : (w : Wire X) (fs : List (Frame X)) → WireFacts w → Each (Carries w) fs → length fs ≤ capacity → WireFacts (record w { frames = fs })
  with_facts w fs s c k = record {
    in_order = s.in_order;
    acked = s.acked;
    handed = s.handed;
    within = s.within;
    sent = s.sent;
    next = s.next;
    carried = c;
    told = s.told;
    capacities = (k, s.capacities.1);
  }

  with_told : (w : Wire X) (ns : List ℕ) → WireFacts w → Each (λ n. n ≤ length w.handed) ns → length ns ≤ capacity → WireFacts (record w { acks = ns })
  with_told w ns s c k = record {
    in_order = s.in_order;
    acked = s.acked;
    handed = s.handed;
    within = s.within;
    sent = s.sent;
    next = s.next;
    carried = s.carried;
    told = c;
    capacities = (s.capacities.0, k);
  }

  pub act_facts : (a : WireAct) (w : Wire X) → WireFacts w → WireFacts (changed w (wire_act a w))
  act_facts A.Send w s = by (wanted w) refl
    where
      by : (n : Option ℕ) → wanted w ≡ n → WireFacts (changed w (send_number n w))
      by None h = s
      by (Some n) h = send_facts w n s h
  act_facts A.Ack w s = hear_facts w s
  act_facts A.Lose w s = by w.frames s.carried s.capacities.0
    where
      by : (fs : List (Frame X)) → Each (Carries w) fs → length fs ≤ capacity → WireFacts (changed w (with_frames w (lose frame_number fs)))
      by [] c k = s
      by (f ∷ fs) c k = with_facts w fs s c.1 (omega (arith, k))
  act_facts A.Twice w s = by w.frames s.carried
    where
      by : (fs : List (Frame X)) → Each (Carries w) fs → WireFacts (changed w (with_frames w (twice frame_number fs)))
      by [] c = s
      by (f ∷ fs) c = on (nat_lt (length (f ∷ fs)) capacity) refl
        where
          on : (b : Bool) → nat_lt (length (f ∷ fs)) capacity ≡ b → WireFacts (changed w (with_frames w (twice frame_number (f ∷ fs))))
          on true i = rw i (with_facts w ((f ∷ fs) ++ f ∷ []) s (each_append (Carries w) (f ∷ fs) f c c.0) (let q = ltb-true (length (f ∷ fs)) capacity i in let r = length_behind (f ∷ fs) f in omega (arith, q, r)))
          on false i = rw i s
  act_facts A.Late w s = by w.frames s.carried s.capacities.0
    where
      by : (fs : List (Frame X)) → Each (Carries w) fs → length fs ≤ capacity → WireFacts (changed w (with_frames w (late frame_number fs)))
      by [] c k = s
      by (f ∷ fs) c k = with_facts w (fs ++ f ∷ []) s (each_append (Carries w) fs f c.1 c.0) (let r = length_behind fs f in omega (arith, k, r))
  act_facts A.LoseAck w s = by w.acks s.told s.capacities.1
    where
      by : (ns : List ℕ) → Each (λ n. n ≤ length w.handed) ns → length ns ≤ capacity → WireFacts (changed w (with_acks w (lose ack_number ns)))
      by [] c k = s
      by (n ∷ ns) c k = with_told w ns s c.1 (omega (arith, k))
  act_facts A.TwiceAck w s = by w.acks s.told
    where
      by : (ns : List ℕ) → Each (λ n. n ≤ length w.handed) ns → WireFacts (changed w (with_acks w (twice ack_number ns)))
      by [] c = s
      by (n ∷ ns) c = on (nat_lt (length (n ∷ ns)) capacity) refl
        where
          on : (b : Bool) → nat_lt (length (n ∷ ns)) capacity ≡ b → WireFacts (changed w (with_acks w (twice ack_number (n ∷ ns))))
          on true i = rw i (with_told w ((n ∷ ns) ++ n ∷ []) s (each_append (λ n. n ≤ length w.handed) (n ∷ ns) n c c.0) (let q = ltb-true (length (n ∷ ns)) capacity i in let r = length_behind (n ∷ ns) n in omega (arith, q, r)))
          on false i = rw i s
  act_facts A.LateAck w s = by w.acks s.told s.capacities.1
    where
      by : (ns : List ℕ) → Each (λ n. n ≤ length w.handed) ns → length ns ≤ capacity → WireFacts (changed w (with_acks w (late ack_number ns)))
      by [] c k = s
      by (n ∷ ns) c k = with_told w (ns ++ n ∷ []) s (each_append (λ n. n ≤ length w.handed) ns n c.1 c.0) (let r = length_behind ns n in omega (arith, k, r))

  pub happen_facts : (h : Happening X) (w : Wire X) → WireFacts w → WireFacts (happen h w)
  happen_facts (Enters x) w s = enter_facts x w s
  happen_facts Comes w s = take_facts w s
  happen_facts (On a) w s = act_facts a w s

  pub happened_facts : (hs : List (Happening X)) (w : Wire X) → WireFacts w → WireFacts (happened hs w)
  happened_facts [] w s = s
  happened_facts (h ∷ hs) w s = happened_facts hs (happen h w) (happen_facts h w s)

  -- what entered is never forgotten
  launch_put : (n : ℕ) (x : Option X) (w : Wire X) → (launch n x w).1.put ≡ w.put
  launch_put n None w = refl
  launch_put n (Some x) w = refl

  pub act_put : (a : WireAct) (w : Wire X) → (changed w (wire_act a w)).put ≡ w.put
  act_put A.Send w = by (wanted w)
    where
      by : (n : Option ℕ) → (changed w (send_number n w)).put ≡ w.put
      by None = refl
      by (Some n) = launch_put n (slice_get w.put n) (record w { next = n + 1; sent = greater w.sent (n + 1) })
  act_put A.Ack w = by w.acks
    where
      by : (ns : List ℕ) → (changed w (hear_number ns w)).put ≡ w.put
      by [] = refl
      by (n ∷ ns) = refl
  act_put A.Lose w = by (lose frame_number w.frames)
    where
      by : (r : Option (What × List (Frame X))) → (changed w (with_frames w r)).put ≡ w.put
      by None = refl
      by (Some r) = refl
  act_put A.Twice w = by (twice frame_number w.frames)
    where
      by : (r : Option (What × List (Frame X))) → (changed w (with_frames w r)).put ≡ w.put
      by None = refl
      by (Some r) = refl
  act_put A.Late w = by (late frame_number w.frames)
    where
      by : (r : Option (What × List (Frame X))) → (changed w (with_frames w r)).put ≡ w.put
      by None = refl
      by (Some r) = refl
  act_put A.LoseAck w = by (lose ack_number w.acks)
    where
      by : (r : Option (What × List ℕ)) → (changed w (with_acks w r)).put ≡ w.put
      by None = refl
      by (Some r) = refl
  act_put A.TwiceAck w = by (twice ack_number w.acks)
    where
      by : (r : Option (What × List ℕ)) → (changed w (with_acks w r)).put ≡ w.put
      by None = refl
      by (Some r) = refl
  act_put A.LateAck w = by (late ack_number w.acks)
    where
      by : (r : Option (What × List ℕ)) → (changed w (with_acks w r)).put ≡ w.put
      by None = refl
      by (Some r) = refl

  pub take_put : (w : Wire X) → (take w).put ≡ w.put
  take_put w = by w.frames
    where
      by : (fs : List (Frame X)) → (take_frame fs w).put ≡ w.put
      by [] = refl
      by (f ∷ fs) = refl

  pub happened_put : (hs : List (Happening X)) (w : Wire X) → (happened hs w).put ≡ w.put ++ entered hs
  happened_put [] w = sym (append-nil w.put)
  happened_put (Enters x ∷ hs) w = happened_put hs (enter x w) ∙ append_assoc w.put (x ∷ []) (entered hs)
  happened_put (Comes ∷ hs) w = happened_put hs (take w) ∙ ap (λ xs. xs ++ entered hs) (take_put w)
  happened_put (On a ∷ hs) w = happened_put hs (changed w (wire_act a w)) ∙ ap (λ xs. xs ++ entered hs) (act_put a w)

  -- happenings that follow one another
  pub happened_more : (hs js : List (Happening X)) (w : Wire X) → happened (hs ++ js) w ≡ happened js (happened hs w)
  happened_more [] js w = refl
  happened_more (h ∷ hs) js w = happened_more hs js (happen h w)

  -- nothing but where no frame is on the wire
  pub none_comes : (w : Wire X) → coming w ≡ Empty → w.frames ≡ []
  none_comes w h = by w.frames h
    where
      on : (f : Frame X) (b : Bool) → (if b then Next f.1 else Stale f.0) ≡ Empty → ⊥
      on f true e = cc
      on f false e = cc

      by : (fs : List (Frame X)) → coming_in (length w.handed) fs ≡ Empty → fs ≡ []
      by [] e = refl
      by (f ∷ fs) e = absurd (on f (f.0 == length w.handed) e)

  -- the first frame where one is next
  pub record IsNext (w : Wire X) (x : X) : Type 0 where
    pub frame : Frame X
    pub others : List (Frame X)
    pub frames : w.frames ≡ frame ∷ others
    pub number : frame.0 ≡ length w.handed
    pub packet : frame.1 ≡ x

  pub next_frame : (w : Wire X) (x : X) → coming w ≡ Next x → IsNext w x
  next_frame w x h = by w.frames refl h
    where
      on : (f : Frame X) (fs : List (Frame X)) → w.frames ≡ f ∷ fs → (b : Bool) → (f.0 == length w.handed) ≡ b → (if b then Next f.1 else Stale f.0) ≡ Next x → IsNext w x
      on f fs e true i k = record { frame = f; others = fs; frames = e; number = equal f.0 (length w.handed) i; packet = cc }
      on f fs e false i k = absurd (cc)

      by : (fs : List (Frame X)) → w.frames ≡ fs → coming_in (length w.handed) fs ≡ Next x → IsNext w x
      by [] e k = absurd (cc)
      by (f ∷ fs) e k = on f fs e (f.0 == length w.handed) refl k

  -- the next frame carries the head of what was not handed out
  pub next_is_head : (w : Wire X) (rest : List X) (x : X) → WireFacts w → w.put ≡ w.handed ++ rest → coming w ≡ Next x → first_of rest ≡ Some x
  next_is_head w rest x s whole h =
      let n = next_frame w x h in
      let c : Each (Carries w) (n.frame ∷ n.others) = subst (Each (Carries w)) n.frames s.carried in
      next_is w rest n.frame.0 x (sym whole) n.number (c.0.1 ∙ ap Some n.packet)

-- what is told of what happens on wires
abbrev pub IsOfWire : What → Type 0
IsOfWire (W.Frame n) = Unit {0}
IsOfWire (W.Lost n) = Unit {0}
IsOfWire (W.Stale n) = Unit {0}
IsOfWire (W.Acked n) = Unit {0}
IsOfWire (W.Late n) = Unit {0}
IsOfWire _ = ⊥

abbrev pub TellsOfWire : {X : Type 0} → Option (What × Wire X) → Type 0
TellsOfWire None = Unit {0}
TellsOfWire (Some r) = IsOfWire r.0

module _ {X : Type 0} where
  launch_tells : (n : ℕ) (x : Option X) (w : Wire X) → IsOfWire (launch n x w).0
  launch_tells n None w = tt
  launch_tells n (Some x) w = by (nat_lt (length w.frames) capacity)
    where
      by : (b : Bool) → IsOfWire (if b then W.Frame n else W.Lost n)
      by true = tt
      by false = tt

  pub tells_of_wire : (a : WireAct) (w : Wire X) → TellsOfWire (wire_act a w)
  tells_of_wire A.Send w = by (wanted w)
    where
      by : (n : Option ℕ) → TellsOfWire (send_number n w)
      by None = tt
      by (Some n) = launch_tells n (slice_get w.put n) (record w { next = n + 1; sent = greater w.sent (n + 1) })
  tells_of_wire A.Ack w = by w.acks
    where
      by : (ns : List ℕ) → TellsOfWire (hear_number ns w)
      by [] = tt
      by (n ∷ ns) = tt
  tells_of_wire A.Lose w = by w.frames
    where
      by : (fs : List (Frame X)) → TellsOfWire (with_frames w (lose frame_number fs))
      by [] = tt
      by (f ∷ fs) = tt
  tells_of_wire A.Twice w = by w.frames
    where
      by : (fs : List (Frame X)) → TellsOfWire (with_frames w (twice frame_number fs))
      by [] = tt
      by (f ∷ fs) = on (nat_lt (length (f ∷ fs)) capacity)
        where
          on : (b : Bool) → TellsOfWire (with_frames w (if b then Some (W.Frame f.0, (f ∷ fs) ++ f ∷ []) else None))
          on true = tt
          on false = tt
  tells_of_wire A.Late w = by w.frames
    where
      by : (fs : List (Frame X)) → TellsOfWire (with_frames w (late frame_number fs))
      by [] = tt
      by (f ∷ fs) = tt
  tells_of_wire A.LoseAck w = by w.acks
    where
      by : (ns : List ℕ) → TellsOfWire (with_acks w (lose ack_number ns))
      by [] = tt
      by (n ∷ ns) = tt
  tells_of_wire A.TwiceAck w = by w.acks
    where
      by : (ns : List ℕ) → TellsOfWire (with_acks w (twice ack_number ns))
      by [] = tt
      by (n ∷ ns) = on (nat_lt (length (n ∷ ns)) capacity)
        where
          on : (b : Bool) → TellsOfWire (with_acks w (if b then Some (W.Frame n, (n ∷ ns) ++ n ∷ []) else None))
          on true = tt
          on false = tt
  tells_of_wire A.LateAck w = by w.acks
    where
      by : (ns : List ℕ) → TellsOfWire (with_acks w (late ack_number ns))
      by [] = tt
      by (n ∷ ns) = tt
