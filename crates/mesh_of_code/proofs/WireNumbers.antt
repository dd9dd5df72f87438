-- The numbers in lines of a wire are less than the number of delivered packets plus a window. An event delivers at most one packet on each wire.
use Rattle.std.proofs.Common.{◌≡◌, refl, sym, ap, subst, ◌∙◌, ℕ, ◌+◌, ◌<◌, ◌≤◌, ◌==◌, List, [], ◌∷◌, ◌++◌, length, Option, Some, None, Bool, true, false, if◌then◌else◌, nat_lt, arith}
use Rattle.std.specs.Prelude.{drop, slice_get}
use Rattle.std.specs.FinMap.{put}
use Rattle.run_types.specs.declared.types.Event.{Event}
use Rattle.run_types.specs.declared.types.Event.TheVariants as Ev
use Rattle.run_types.specs.declared.types.What.{What}
use Rattle.run_types.specs.declared.types.What.TheVariants as W
use Rattle.run_types.specs.declared.types.WireAct.{WireAct}
use Rattle.run_types.specs.declared.types.WireAct.TheVariants as A
use Rattle.run_types.specs.declared.types.Placement.{Placement}
use Rattle.run_types.specs.Tables.{Each, Pair, pair_cmp}
use Rattle.mesh_semantics.specs.Language.{Language}
use Rattle.mesh_semantics.specs.Config.{Config}
use Rattle.run_types.specs.Paths.{move_head}
use Rattle.mesh_semantics.specs.Wire.{Frame, Wire, window, capacity, greater, enter, wanted, launch, send_number, Coming, Empty, Stale, Next, coming, coming_in, take, take_frame, hear_number, lose, twice, late, with_frames, with_acks, frame_number, ack_number, wire_act, WireFacts}
use Rattle.mesh_semantics.specs.Happenings.{changed, AreReached}
use Rattle.mesh_semantics.specs.Wired.{AreWiresOf}
use Rattle.mesh_semantics.specs.Delay.{Packet, Wires, Delay, wire_at, enter_all}
use Rattle.mesh_semantics.specs.Act.{Acted, Acts, Full, Nothing, plain_act, on_wires, wire_move, wire_turn, act_over, act}
use Rattle.mesh_semantics.proofs.Laws.{Same, Is, Not, same, length_behind, wanted_is, at_same, at_other, act_handed, KeepsOn, act_keeps_wires}

-- a line of a wire, with a number below this one
abbrev pub HasNumber : ℕ → What → Type 0
HasNumber b (W.Frame n) = n < b
HasNumber b (W.Lost n) = n < b
HasNumber b (W.Stale n) = n < b
HasNumber b (W.Acked n) = n < b
HasNumber b (W.Late n) = n < b
HasNumber b _ = ⊥

abbrev pub TellsNumber : {X : Type 0} → ℕ → Option (What × Wire X) → Type 0
TellsNumber b None = Unit {0}
TellsNumber b (Some r) = HasNumber b r.0

module _ {X : Type 0} (w : Wire X) (s : WireFacts w) where
  sent_below : (n : ℕ) → n < w.sent → n < length w.handed + window
  sent_below n h = let a = s.within in let b = s.acked in omega (arith, h, a, b)

  told_below : (n : ℕ) → n ≤ length w.handed → n < length w.handed + window
  told_below n h = omega (arith, h)

  launched_below : (n : ℕ) (x : Option X) (v : Wire X) → n < length w.handed + window → HasNumber (length w.handed + window) (launch n x v).0
  launched_below n None v h = h
  launched_below n (Some x) v h = by (nat_lt (length v.frames) capacity)
    where
      by : (b : Bool) → HasNumber (length w.handed + window) (if b then W.Frame n else W.Lost n)
      by true = h
      by false = h

  -- a frame on the wire
  abbrev Carries : Frame X → Type 0
  Carries f = (f.0 < w.sent) × (slice_get w.put f.0 ≡ Some f.1)

  -- whatever happens on the wire but that a frame comes to its far end
  pub numbers_of : (a : WireAct) → TellsNumber (length w.handed + window) (wire_act a w)
  numbers_of A.Send = by (wanted w) refl
    where
      by : (z : Option ℕ) → wanted w ≡ z → TellsNumber (length w.handed + window) (send_number z w)
      by None e = tt
      by (Some n) e =
          let t = wanted_is w.acked w.next (length w.put) n (let a = s.acked in let b = s.handed in let c = s.sent in omega (arith, a, b, c)) s.next.0 e in
          let high = t.high in
          let a = s.acked in
          launched_below n (slice_get w.put n) (record w { next = n + 1; sent = greater w.sent (n + 1) }) (omega (arith, high, a))
  numbers_of A.Ack = by w.acks s.told
    where
      by : (ns : List ℕ) → Each (λ n. n ≤ length w.handed) ns → TellsNumber (length w.handed + window) (hear_number ns w)
      by [] h = tt
      by (n ∷ ns) h = told_below n h.0
  numbers_of A.Lose = by w.frames s.carried
    where
      by : (fs : List (Frame X)) → Each Carries fs → TellsNumber (length w.handed + window) (with_frames w (lose frame_number fs))
      by [] h = tt
      by (f ∷ fs) h = sent_below f.0 h.0.0
  numbers_of A.Twice = by w.frames s.carried
    where
      on : (f : Frame X) (fs : List (Frame X)) → f.0 < length w.handed + window → (b : Bool)
          → TellsNumber (length w.handed + window) (with_frames w (if b then Some (W.Frame f.0, (f ∷ fs) ++ f ∷ []) else None))
      on f fs h true = h
      on f fs h false = tt

      by : (fs : List (Frame X)) → Each Carries fs → TellsNumber (length w.handed + window) (with_frames w (twice frame_number fs))
      by [] h = tt
      by (f ∷ fs) h = on f fs (sent_below f.0 h.0.0) (nat_lt (length (f ∷ fs)) capacity)
  numbers_of A.Late = by w.frames s.carried
    where
      by : (fs : List (Frame X)) → Each Carries fs → TellsNumber (length w.handed + window) (with_frames w (late frame_number fs))
      by [] h = tt
      by (f ∷ fs) h = sent_below f.0 h.0.0
  numbers_of A.LoseAck = by w.acks s.told
    where
      by : (ns : List ℕ) → Each (λ n. n ≤ length w.handed) ns → TellsNumber (length w.handed + window) (with_acks w (lose ack_number ns))
      by [] h = tt
      by (n ∷ ns) h = told_below n h.0
  numbers_of A.TwiceAck = by w.acks s.told
    where
      on : (n : ℕ) (ns : List ℕ) → n < length w.handed + window → (b : Bool)
          → TellsNumber (length w.handed + window) (with_acks w (if b then Some (W.Frame n, (n ∷ ns) ++ n ∷ []) else None))
      on n ns h true = h
      on n ns h false = tt

      by : (ns : List ℕ) → Each (λ n. n ≤ length w.handed) ns → TellsNumber (length w.handed + window) (with_acks w (twice ack_number ns))
      by [] h = tt
      by (n ∷ ns) h = on n ns (told_below n h.0) (nat_lt (length (n ∷ ns)) capacity)
  numbers_of A.LateAck = by w.acks s.told
    where
      by : (ns : List ℕ) → Each (λ n. n ≤ length w.handed) ns → TellsNumber (length w.handed + window) (with_acks w (late ack_number ns))
      by [] h = tt
      by (n ∷ ns) h = told_below n h.0

  -- a frame that is not the next one
  pub stale_number : (n : ℕ) → coming w ≡ Stale n → n < length w.handed + window
  stale_number n e = by w.frames s.carried e
    where
      on : (f : Frame X) (b : Bool) → f.0 < length w.handed + window → (if b then Next f.1 else Stale f.0) ≡ Stale n → n < length w.handed + window
      on f true h e = absurd (cc)
      on f false h e = let is : f.0 ≡ n = cc in omega (arith, h, is)

      by : (fs : List (Frame X)) → Each Carries fs → coming_in (length w.handed) fs ≡ Stale n → n < length w.handed + window
      by [] h e = absurd (cc)
      by (f ∷ fs) h e = on f (f.0 == length w.handed) (sent_below f.0 h.0.0) e

-- a frame that comes hands out one packet or none
take_hands : {X : Type 0} (w : Wire X) → length (take w).handed ≤ length w.handed + 1
take_hands {X} w = by w.frames
  where
    on : (f : Frame X) (b : Bool) → length (if b then w.handed ++ f.1 ∷ [] else w.handed) ≤ length w.handed + 1
    on f true = let n = length_behind w.handed f.1 in omega (arith, n)
    on f false = omega arith

    by : (fs : List (Frame X)) → length (take_frame fs w).handed ≤ length w.handed + 1
    by [] = omega arith
    by (f ∷ fs) = on f (f.0 == length w.handed)

-- what enters wires leaves what they have handed out
entered_handed : (es : List (Pair × Packet)) (ws : Wires) (k : Pair) → (wire_at (enter_all es ws) k).handed ≡ (wire_at ws k).handed
entered_handed [] ws k = refl
entered_handed (e ∷ es) ws k = entered_handed es (put pair_cmp e.0 (enter e.1 (wire_at ws e.0)) ws) k ∙ by (same k e.0)
  where
    by : Same k e.0 → (wire_at (put pair_cmp e.0 (enter e.1 (wire_at ws e.0)) ws) k).handed ≡ (wire_at ws k).handed
    by (Is i j) =
        subst (λ z. (wire_at (put pair_cmp e.0 (enter e.1 (wire_at ws e.0)) ws) z).handed ≡ (wire_at ws z).handed) (sym i)
        (ap (λ (w : Wire Packet). w.handed) (at_same e.0 (enter e.1 (wire_at ws e.0)) ws))
    by (Not n j) = ap (λ (w : Wire Packet). w.handed) (at_other k e.0 (enter e.1 (wire_at ws e.0)) ws n)

-- each wire has handed out at most so many packets
abbrev pub HandsAtMost : ℕ → Option Wires → Type 0
HandsAtMost n None = Unit {0}
HandsAtMost n (Some ws) = (k : Pair) → length (wire_at ws k).handed ≤ n

abbrev pub ActHands : {S : Type 0} → ℕ → Acted S → Type 0
ActHands n (Acts w c d) = HandsAtMost n d.wires
ActHands n (Full k m) = Unit {0}
ActHands n Nothing = Unit {0}

none_hand : (n : ℕ) (o : Option Wires) → AreReached None o → HandsAtMost n o
none_hand n None h = tt
none_hand n (Some ws) h = absurd h

module _ {S : Type 0} (g : Language S) (l : Placement) (q : ℕ) (c : Config S) (d : Delay) (n : ℕ) where
  plain_hands : (x : Acted S) → KeepsOn None x → ActHands (n + 1) x
  plain_hands (Acts w e f) h = none_hand (n + 1) f.wires h.1
  plain_hands (Full k m) h = tt
  plain_hands Nothing h = tt

  entered_hands : (before : List (Pair × Packet)) (ws : Wires) (x : Acted S) → ((k : Pair) → length (wire_at ws k).handed ≤ n + 1) → ActHands (n + 1) (on_wires before ws x)
  entered_hands before ws (Acts w e f) h = λ k. subst (λ (xs : List Packet). length xs ≤ n + 1) (sym (entered_handed (drop (length before) f.links) ws k)) (h k)
  entered_hands before ws (Full k m) h = tt
  entered_hands before ws Nothing h = tt

  -- where one wire is changed
  changed_hands : (ws : Wires) (k : Pair) (w : Wire Packet) → ((j : Pair) → length (wire_at ws j).handed ≤ n) → length w.handed ≤ n + 1
      → (j : Pair) → length (wire_at (put pair_cmp k w ws) j).handed ≤ n + 1
  changed_hands ws k w h m j = by (same j k)
    where
      by : Same j k → length (wire_at (put pair_cmp k w ws) j).handed ≤ n + 1
      by (Is i t) =
          subst (λ z. length (wire_at (put pair_cmp k w ws) z).handed ≤ n + 1) (sym i) (subst (λ (v : Wire Packet). length v.handed ≤ n + 1) (sym (at_same k w ws)) m)
      by (Not r t) = subst (λ (v : Wire Packet). length v.handed ≤ n + 1) (sym (at_other j k w ws r)) (let z = h j in omega (arith, z))

  over_hands : (o : Option Wires) → d.wires ≡ o → HandsAtMost n o → (e : Event) → ActHands (n + 1) (act_over g l q c d o e)
  over_hands None i h e =
      plain_hands (act_over g l q c d None e)
      (subst (λ o. KeepsOn o (act_over g l q c d o e)) i (act_keeps_wires g l q c d e (subst (λ o. AreWiresOf o d) (sym i) tt)))
  over_hands (Some ws) i h (Ev.Turn m) = entered_hands d.links ws (plain_act g l q c d (Ev.Turn m)) (λ k. let z = h k in omega (arith, z))
  over_hands (Some ws) i h (Ev.Link a b) = by (coming (wire_at ws (a, b)))
    where
      taken : (k : Pair) → length (wire_at (put pair_cmp (a, b) (take (wire_at ws (a, b))) ws) k).handed ≤ n + 1
      taken = changed_hands ws (a, b) (take (wire_at ws (a, b))) h (let z = take_hands (wire_at ws (a, b)) in let y = h (a, b) in omega (arith, z, y))

      by : (x : Coming Packet) → ActHands (n + 1) (wire_move g l c d ws a b x)
      by Empty = subst (HandsAtMost (n + 1)) (sym i) (λ k. let z = h k in omega (arith, z))
      by (Stale m) = taken
      by (Next x) = entered_hands (move_head (a, b) d.links) (put pair_cmp (a, b) (take (wire_at ws (a, b))) ws) (plain_act g l q c d (Ev.Link a b)) taken
  over_hands (Some ws) i h (Ev.Wire w a b) = by (wire_act w (wire_at ws (a, b))) (act_handed w (wire_at ws (a, b)))
    where
      by : (r : Option (What × Wire Packet)) → (changed (wire_at ws (a, b)) r).handed ≡ (wire_at ws (a, b)).handed → ActHands (n + 1) (wire_turn c d ws (a, b) r)
      by None t = subst (HandsAtMost (n + 1)) (sym i) (λ k. let z = h k in omega (arith, z))
      by (Some r) t =
          changed_hands ws (a, b) r.1 h
          (let z : length r.1.handed ≡ length (wire_at ws (a, b)).handed = ap (λ (xs : List Packet). length xs) t in let y = h (a, b) in omega (arith, z, y))

  -- one event more
  pub act_hands : (e : Event) → HandsAtMost n d.wires → ActHands (n + 1) (act g l q c d e)
  act_hands e h = over_hands d.wires refl h e
