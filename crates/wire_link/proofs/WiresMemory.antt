-- The stored state of a wire after each call carries the list that it carried before.
use Rattle.std.proofs.Common.{◌≡◌, refl, sym, ap, subst, ◌∙◌, ℕ, ◌+◌, ◌-◌, ◌<◌, ◌≤◌, ◌==◌, List, [], ◌∷◌, ◌++◌, length, Option, Some, None, Bool, true, false, if◌then◌else◌, nat_lt, arith}
use Rattle.std.specs.Prelude.{drop, slice_get}
use Rattle.std.proofs.lemmas.List.{length-drop, length-take-le}
use Rattle.arrayvec.specs.ArrayVec.{ArrayVec}
use Rattle.run_types.specs.declared.types.What.{What}
use Rattle.run_types.specs.declared.types.What.TheVariants as W
use Rattle.run_types.specs.Tables.{Each}
use Rattle.run_types.specs.declared.types.WireAct.{WireAct}
use Rattle.run_types.specs.declared.types.WireAct.TheVariants as A
use Rattle.mesh_semantics.specs.Wire.{Frame as Numbered, Wire, WireFacts, capacity, greater, push_within, hear, send, late, frame_number, ack_number, wire_act}
use Rattle.mesh_semantics.specs.KeptWire.{KeptWire, Carries, Follows, whole, hand_out, kept_take_frame, kept_take, kept_hear_number, kept_hear, with_fresh, kept_launch, kept_send, with_kept_frames, with_kept_acks, kept_act}
use Rattle.run_types.proofs.Laws.{equal}
use Rattle.mesh_semantics.proofs.Laws.{Wanted, wanted_is, take_carries, hear_carries, act_carries, send_carries}
use Rattle.rendezvous_protocol.specs.declared.packet.Packet.{Packet}
use Rattle.wire_link.specs.Wires.{IsAck, IsData, IsWanted, IsWire, acks_in, frames_in, view_of}

followed : {X : Type 0} (put : List X) (r : What × KeptWire X) (o : Option (What × Wire X)) → Follows put (Some r) o → Carries r.1 put
followed put r None h = absurd h
followed put r (Some q) h = h.1

module _ (h a n s : ℕ) (cs : List Packet) (fs ks : List (ArrayVec ℕ)) (w : IsWire h a n s cs fs ks) where
  -- the first frame came to the far end
  arrived_is : (fs' ks' : List (ArrayVec ℕ)) (k : ℕ) (p : Packet) (h' : ℕ) → frames_in fs ≡ (k, p) ∷ frames_in fs' → (if k == h then h + 1 else h) ≡ h' → acks_in ks' ≡ push_within h' (acks_in ks)
      → view_of h' a n s cs fs' ks' ≡ kept_take (view_of h a n s cs fs ks)
  arrived_is fs' ks' k p h' f e g =
      ap (λ (ns : List ℕ). record (view_of h' a n s cs fs' ks') { acks = ns }) g
      ∙ ap (λ i. hand_out i (view_of h a n s cs fs' ks)) (sym e)
      ∙ ap (λ (gs : List (Numbered Packet)). kept_take_frame gs (view_of h a n s cs fs ks)) (sym f)

  pub arrived : (fs' ks' : List (ArrayVec ℕ)) (k : ℕ) (p : Packet) (h' : ℕ) → frames_in fs ≡ (k, p) ∷ frames_in fs' → Each IsData fs' → (if k == h then h + 1 else h) ≡ h'
      → acks_in ks' ≡ push_within h' (acks_in ks) → Each IsAck ks' → IsWire h' a n s cs fs' ks'
  arrived fs' ks' k p h' f d e g t = record {
    sent_frames = d;
    told_back = t;
    carried = (w.carried.0, subst (λ (z : KeptWire Packet). Carries z w.carried.0) (sym (arrived_is fs' ks' k p h' f e g)) (take_carries (view_of h a n s cs fs ks) w.carried.0 w.carried.1).0);
  }

  -- the first acknowledgement came back
  heard_is : (ks' : List (ArrayVec ℕ)) (cs' : List Packet) (k a' n' : ℕ) → acks_in ks ≡ k ∷ acks_in ks' → a' ≡ greater a k → n' ≡ greater n a' → cs' ≡ drop (a' - a) cs
      → kept_hear (view_of h a n s cs fs ks) ≡ Some (W.Acked k, view_of h a' n' s cs' fs ks')
  heard_is ks' cs' k a' n' f e g i =
      ap (λ (ns : List ℕ). kept_hear_number ns (view_of h a n s cs fs ks)) f
      ∙ ap (λ j. Some (W.Acked k, view_of h j (greater n j) s (drop (j - a) cs) fs ks')) (sym e)
      ∙ ap (λ j. Some (W.Acked k, view_of h a' j s (drop (a' - a) cs) fs ks')) (sym g)
      ∙ ap (λ (z : List Packet). Some (W.Acked k, view_of h a' n' s z fs ks')) (sym i)

  pub heard : (ks' : List (ArrayVec ℕ)) (cs' : List Packet) (k a' n' : ℕ) → acks_in ks ≡ k ∷ acks_in ks' → Each IsAck ks' → a' ≡ greater a k → n' ≡ greater n a' → cs' ≡ drop (a' - a) cs
      → IsWire h a' n' s cs' fs ks'
  heard ks' cs' k a' n' f t e g i = record {
    sent_frames = w.sent_frames;
    told_back = t;
    carried = (
      w.carried.0,
      followed w.carried.0 (W.Acked k, view_of h a' n' s cs' fs ks') (hear (whole (view_of h a n s cs fs ks) w.carried.0))
          (subst (λ r. Follows w.carried.0 r (hear (whole (view_of h a n s cs fs ks) w.carried.0))) (heard_is ks' cs' k a' n' f e g i) (hear_carries (view_of h a n s cs fs ks) w.carried.0 w.carried.1)),
    );
  }

  -- something else happened, which leaves this
  pub happened : (act : WireAct) (what : What) (fs' ks' : List (ArrayVec ℕ)) → Each IsData fs' → Each IsAck ks'
      → kept_act act (drop h w.carried.0) (view_of h a n s cs fs ks) ≡ Some (what, view_of h a n s cs fs' ks') → IsWire h a n s cs fs' ks'
  happened act what fs' ks' d t e = record {
    sent_frames = d;
    told_back = t;
    carried = (
      w.carried.0,
      followed w.carried.0 (what, view_of h a n s cs fs' ks') (wire_act act (whole (view_of h a n s cs fs ks) w.carried.0))
          (subst (λ r. Follows w.carried.0 r (wire_act act (whole (view_of h a n s cs fs ks) w.carried.0))) e (act_carries act (view_of h a n s cs fs ks) w.carried.0 w.carried.1)),
    );
  }

  -- the first frame of a side stands behind the others, again or still
  fits_behind : {F : Type 0} (f : F) (gs : List F) → length (f ∷ gs) ≤ capacity → push_within f gs ≡ gs ++ f ∷ []
  fits_behind f gs e = let less : nat_lt (length gs) capacity ≡ true = grind (arith, e) in rw less refl

  pub late_frames : (fs₁ fs' : List (ArrayVec ℕ)) (k : ℕ) (p : Packet) (rest : List Packet) → frames_in fs ≡ (k, p) ∷ frames_in fs₁ → frames_in fs' ≡ push_within (k, p) (frames_in fs₁)
      → kept_act A.Late rest (view_of h a n s cs fs ks) ≡ Some (W.Late k, view_of h a n s cs fs' ks)
  late_frames fs₁ fs' k p rest f e =
      let few : length ((k, p) ∷ frames_in fs₁) ≤ capacity = subst (λ (gs : List (Numbered Packet)). length gs ≤ capacity) f w.carried.1.facts.capacities.0 in
      ap (λ (gs : List (Numbered Packet)). with_kept_frames (view_of h a n s cs fs ks) (late frame_number gs)) f
      ∙ ap (λ (gs : List (Numbered Packet)). Some (W.Late k, record (view_of h a n s cs fs ks) { frames = gs })) (sym (e ∙ fits_behind (k, p) (frames_in fs₁) few))

  pub late_acks : (ks₁ ks' : List (ArrayVec ℕ)) (k : ℕ) (rest : List Packet) → acks_in ks ≡ k ∷ acks_in ks₁ → acks_in ks' ≡ push_within k (acks_in ks₁)
      → kept_act A.LateAck rest (view_of h a n s cs fs ks) ≡ Some (W.Late k, view_of h a n s cs fs ks')
  late_acks ks₁ ks' k rest f e =
      let few : length (k ∷ acks_in ks₁) ≤ capacity = subst (λ (gs : List ℕ). length gs ≤ capacity) f w.carried.1.facts.capacities.1 in
      ap (λ (gs : List ℕ). with_kept_acks (view_of h a n s cs fs ks) (late ack_number gs)) f
      ∙ ap (λ (gs : List ℕ). Some (W.Late k, record (view_of h a n s cs fs ks) { acks = gs })) (sym (e ∙ fits_behind k (acks_in ks₁) few))

  pub sent_is : (number : ℕ) (fresh : Option Packet) (s' : ℕ) (cs' : List Packet) (fs' : List (ArrayVec ℕ)) (what : What) (p : Packet) → cs' ≡ with_fresh fresh cs → s' ≡ greater s (number + 1)
      → slice_get cs' (number - a) ≡ Some p → what ≡ (if nat_lt (length (frames_in fs)) capacity then W.Frame number else W.Lost number) → frames_in fs' ≡ push_within (number, p) (frames_in fs)
      → kept_send number fresh (view_of h a n s cs fs ks) ≡ (what, view_of h a (number + 1) s' cs' fs' ks)
  sent_is number fresh s' cs' fs' what p e g i j k =
      ap (λ (zs : List Packet). kept_launch number (slice_get zs (number - a)) (view_of h a (number + 1) (greater s (number + 1)) zs fs ks)) (sym e)
      ∙ ap (λ z. kept_launch number (slice_get cs' (number - a)) (view_of h a (number + 1) z cs' fs ks)) (sym g)
      ∙ ap (λ z. kept_launch number z (view_of h a (number + 1) s' cs' fs ks)) i
      ∙ (λ t. (sym j t, record (view_of h a (number + 1) s' cs' fs ks) { frames = sym k t }))

  pub unsent_is : (number : ℕ) (fresh : Option Packet) (s' : ℕ) (cs' : List Packet) → cs' ≡ with_fresh fresh cs → s' ≡ greater s (number + 1)
      → slice_get cs' (number - a) ≡ None → kept_send number fresh (view_of h a n s cs fs ks) ≡ (W.Lost number, view_of h a (number + 1) s' cs' fs ks)
  unsent_is number fresh s' cs' e g i =
      ap (λ (zs : List Packet). kept_launch number (slice_get zs (number - a)) (view_of h a (number + 1) (greater s (number + 1)) zs fs ks)) (sym e)
      ∙ ap (λ z. kept_launch number (slice_get cs' (number - a)) (view_of h a (number + 1) z cs' fs ks)) (sym g)
      ∙ ap (λ z. kept_launch number z (view_of h a (number + 1) s' cs' fs ks)) i

  -- a number that is wanted for a list that is carried, with what has it where it was never sent
  module _ (number : ℕ) (fresh : Option Packet) (asked : IsWanted (view_of h a n s cs fs ks) number fresh) where
    abbrev put : List Packet
    put = asked.put

    facts : WireFacts (whole (view_of h a n s cs fs ks) put)
    facts = asked.carried.facts

    ordered : (a ≤ s) × (s ≤ length put)
    ordered =
        let i = facts.acked in let j = facts.handed in let k = facts.sent in (omega (arith, i, j), k)

    wants : Wanted a n (length put) number
    wants = let o = ordered in wanted_is a n (length put) number (omega (arith, o)) facts.next.0 asked.wanted

    pub not_below : a ≤ number
    not_below = wants.low

    count : length cs ≡ s - a
    count =
        let o = ordered in let z = length-drop a put in
        ap length asked.carried.copies ∙ length-take-le (s - a) (drop a put) (omega (arith, o, z))

    -- there is room for one more copy
    pub room : (p : Packet) → fresh ≡ Some p → length cs < 8
    room p e = by (number == s) refl
      where
        by : (b : Bool) → (number == s) ≡ b → length cs < 8
        by true i = let q = equal number s i in let z = wants.high in let k = count in omega (arith, q, z, k)
        by false i = absurd (let q : None ≡ Some p = sym (ap (λ b. if b then slice_get put number else None) i) ∙ sym asked.fresh_is ∙ e in cc)

    -- after it was sent
    pub sent_on : (n' s' : ℕ) (cs' : List Packet) (fs' : List (ArrayVec ℕ)) (what : What) → Each IsData fs'
        → kept_send number fresh (view_of h a n s cs fs ks) ≡ (what, view_of h a n' s' cs' fs' ks) → IsWire h a n' s' cs' fs' ks
    sent_on n' s' cs' fs' what d e = record {
      sent_frames = d;
      told_back = w.told_back;
      carried = (
        put,
        followed put (what, view_of h a n' s' cs' fs' ks) (send (whole (view_of h a n s cs fs ks) put))
            (subst (λ r. Follows put (Some r) (send (whole (view_of h a n s cs fs ks) put))) e (send_carries (view_of h a n s cs fs ks) put number fresh asked.carried asked.wanted asked.fresh_is)),
      );
    }
