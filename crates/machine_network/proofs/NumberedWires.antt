-- A change of the stored state of wires is the same change of the state with numbered packets.
use Rattle.std.proofs.Common.{◌≡◌, refl, sym, ap, ap₂, ◌∙◌, ℕ, zero, suc, ◌+◌, ◌-◌, ◌==◌, List, [], ◌∷◌, ◌++◌, length, map, Option, Some, None, Bool, true, false, cond, if◌then◌else◌, nat_lt}
use Rattle.std.specs.Prelude.{slice_get, drop}
use Rattle.std.specs.Option.{option_map, unwrap_or}
use Rattle.std.specs.Ordering.{eq_by_cmp}
use Rattle.std.specs.declared.cmp.Ordering.{Ordering}
use Rattle.std.specs.declared.cmp.Ordering.TheVariants.{Less, Equal, Greater}
use Rattle.std.specs.FinMap.Entries.{by_order, find, put}
use Rattle.std.proofs.lemmas.List.{map-append, length-map}
use Rattle.std.proofs.lemmas.Option.{slice_get-map}
use Rattle.run_types.specs.declared.types.What.{What}
use Rattle.run_types.specs.declared.types.What.TheVariants as W
use Rattle.run_types.specs.declared.types.WireAct.{WireAct}
use Rattle.run_types.specs.declared.types.WireAct.TheVariants as A
use Rattle.run_types.specs.Tables.{Pair, pair_cmp}
use Rattle.mesh_semantics.specs.Wire.{Frame, Coming, Empty, Stale, Next, capacity, greater, push_within, wanted_of, lose, twice, late, frame_number, ack_number}
use Rattle.mesh_semantics.specs.KeptWire.{KeptWire, empty_kept, with_fresh, fresh_in, kept_launch, kept_send, kept_send_number, kept_wanted, kept_coming, kept_take, kept_take_frame, kept_hear_number, with_kept_frames, with_kept_acks, kept_act}
use Rattle.mesh_semantics.specs.NumberedPackets.{NumberedPacket}
use Rattle.node_semantics.specs.Machine.{kept_at}
use Rattle.rendezvous_protocol.specs.declared.packet.Packet.{Packet}
use Rattle.rendezvous_protocol.specs.Packets.{numbered}
use Rattle.machine_network.specs.LinkWires.{LinkWires, numbered_frame, numbered_wire, numbered_wires, wire_of}

-- entries

module _ {X Y : Type 0} (f : X → Y) where
  pub find_map : (k : Pair) (es : List (Pair × X)) → find pair_cmp k (map (λ e. (e.0, f e.1)) es) ≡ option_map f (find pair_cmp k es)
  find_map k [] = refl
  find_map k (e ∷ es) = by (eq_by_cmp pair_cmp k e.0) (find_map k es)
    where
      by : (b : Bool) → find pair_cmp k (map (λ (z : Pair × X). (z.0, f z.1)) es) ≡ option_map f (find pair_cmp k es)
          → cond b (Some (f e.1)) (find pair_cmp k (map (λ (z : Pair × X). (z.0, f z.1)) es)) ≡ option_map f (cond b (Some e.1) (find pair_cmp k es))
      by true h = refl
      by false h = h

  pub put_map : (k : Pair) (x : X) (es : List (Pair × X)) → put pair_cmp k (f x) (map (λ e. (e.0, f e.1)) es) ≡ map (λ e. (e.0, f e.1)) (put pair_cmp k x es)
  put_map k x [] = refl
  put_map k x (e ∷ es) = by (pair_cmp k e.0) (put_map k x es)
    where
      by : (r : Ordering) → put pair_cmp k (f x) (map (λ (z : Pair × X). (z.0, f z.1)) es) ≡ map (λ (z : Pair × X). (z.0, f z.1)) (put pair_cmp k x es)
          → by_order r ((k, f x) ∷ map (λ (z : Pair × X). (z.0, f z.1)) (e ∷ es)) ((e.0, f x) ∷ map (λ (z : Pair × X). (z.0, f z.1)) es) ((e.0, f e.1) ∷ put pair_cmp k (f x) (map (λ (z : Pair × X). (z.0, f z.1)) es))
          ≡ map (λ (z : Pair × X). (z.0, f z.1)) (by_order r ((k, x) ∷ e ∷ es) ((e.0, x) ∷ es) (e ∷ put pair_cmp k x es))
      by Less h = refl
      by Equal h = refl
      by Greater h = ap (λ (z : List (Pair × Y)). (e.0, f e.1) ∷ z) h

pub kept_numbered : (k : Pair) (ws : LinkWires) → kept_at (numbered_wires ws) k ≡ numbered_wire (wire_of ws k)
kept_numbered k ws = ap (λ o. unwrap_or o empty_kept) (find_map numbered_wire k ws) ∙ by (find pair_cmp k ws)
  where
    by : (o : Option (KeptWire Packet)) → unwrap_or (option_map numbered_wire o) empty_kept ≡ numbered_wire (unwrap_or o empty_kept)
    by None = refl
    by (Some v) = refl

pub put_numbered : (k : Pair) (v : KeptWire Packet) (ws : LinkWires) → put pair_cmp k (numbered_wire v) (numbered_wires ws) ≡ numbered_wires (put pair_cmp k v ws)
put_numbered k v ws = put_map numbered_wire k v ws

-- one wire

abbrev numbered_frames : List (Frame Packet) → List (Frame NumberedPacket)
numbered_frames fs = map numbered_frame fs

drop_numbered : (n : ℕ) (xs : List Packet) → drop n (map numbered xs) ≡ map numbered (drop n xs)
drop_numbered zero xs = refl
drop_numbered (suc n) [] = refl
drop_numbered (suc n) (x ∷ xs) = drop_numbered n xs

pushed : (fs : List (Frame Packet)) (f : Frame Packet) → push_within (numbered_frame f) (numbered_frames fs) ≡ numbered_frames (push_within f fs)
pushed fs f = ap (λ n. if nat_lt n capacity then numbered_frames fs ++ numbered_frame f ∷ [] else numbered_frames fs) (length-map fs numbered_frame) ∙ by (nat_lt (length fs) capacity)
  where
    by : (b : Bool) → (if b then numbered_frames fs ++ numbered_frame f ∷ [] else numbered_frames fs) ≡ numbered_frames (if b then fs ++ f ∷ [] else fs)
    by true = sym (map-append numbered_frame fs (f ∷ []))
    by false = refl

abbrev pub numbered_coming : Coming Packet → Coming NumberedPacket
numbered_coming Empty = Empty
numbered_coming (Stale n) = Stale n
numbered_coming (Next p) = Next (numbered p)

pub coming_numbered : (v : KeptWire Packet) → kept_coming (numbered_wire v) ≡ numbered_coming (kept_coming v)
coming_numbered v = by v.frames
  where
    on : (f : Frame Packet) (b : Bool) → (if b then Next (numbered f.1) else Stale f.0) ≡ numbered_coming (if b then Next f.1 else Stale f.0)
    on f true = refl
    on f false = refl

    by : (fs : List (Frame Packet)) → kept_coming (record (numbered_wire v) { frames = numbered_frames fs }) ≡ numbered_coming (kept_coming (record v { frames = fs }))
    by [] = refl
    by (f ∷ fs) = on f (f.0 == v.handed)

pub take_numbered : (v : KeptWire Packet) → kept_take (numbered_wire v) ≡ numbered_wire (kept_take v)
take_numbered v = by v.frames
  where
    by : (fs : List (Frame Packet)) → kept_take_frame (numbered_frames fs) (numbered_wire v) ≡ numbered_wire (kept_take_frame fs v)
    by [] = refl
    by (f ∷ fs) = refl

abbrev pub numbered_result : Option (What × KeptWire Packet) → Option (What × KeptWire NumberedPacket)
numbered_result None = None
numbered_result (Some r) = Some (r.0, numbered_wire r.1)

with_fresh_numbered : (x : Option Packet) (xs : List Packet) → with_fresh (option_map numbered x) (map numbered xs) ≡ map numbered (with_fresh x xs)
with_fresh_numbered None xs = refl
with_fresh_numbered (Some x) xs = sym (map-append numbered xs (x ∷ []))

fresh_numbered : (n : ℕ) (v : KeptWire Packet) (rest : List Packet) → fresh_in n (numbered_wire v) (map numbered rest) ≡ option_map numbered (fresh_in n v rest)
fresh_numbered n v rest = by (n == v.sent)
  where
    by : (b : Bool) → (if b then slice_get (map numbered rest) (n - v.handed) else None) ≡ option_map numbered (if b then slice_get rest (n - v.handed) else None)
    by true = slice_get-map numbered rest (n - v.handed)
    by false = refl

launched : (n : ℕ) (x : Option Packet) (v : KeptWire Packet) → kept_launch n (option_map numbered x) (numbered_wire v) ≡ ((kept_launch n x v).0, numbered_wire (kept_launch n x v).1)
launched n None v = refl
launched n (Some p) v =
    ap₂ (λ m fs. (if nat_lt m capacity then W.Frame n else W.Lost n, record (numbered_wire v) { frames = fs })) (length-map v.frames numbered_frame) (pushed v.frames (n, p))

sent_numbered : (n : ℕ) (x : Option Packet) (v : KeptWire Packet) → kept_send n (option_map numbered x) (numbered_wire v) ≡ ((kept_send n x v).0, numbered_wire (kept_send n x v).1)
sent_numbered n x v =
    let u = record v { next = n + 1; sent = greater v.sent (n + 1); copies = with_fresh x v.copies } in
    ap (λ cs. kept_launch n (slice_get cs (n - v.acked)) (record (numbered_wire v) { next = n + 1; sent = greater v.sent (n + 1); copies = cs })) (with_fresh_numbered x v.copies)
    ∙ ap (λ y. kept_launch n y (numbered_wire u)) (slice_get-map numbered (with_fresh x v.copies) (n - v.acked))
    ∙ launched n (slice_get (with_fresh x v.copies) (n - v.acked)) u

number_numbered : (n : Option ℕ) (rest : List Packet) (v : KeptWire Packet) → kept_send_number n (map numbered rest) (numbered_wire v) ≡ numbered_result (kept_send_number n rest v)
number_numbered None rest v = refl
number_numbered (Some n) rest v = ap (λ x. Some (kept_send n x (numbered_wire v))) (fresh_numbered n v rest) ∙ ap Some (sent_numbered n (fresh_in n v rest) v)

acks_numbered : (v : KeptWire Packet) (r : Option (What × List ℕ)) → with_kept_acks (numbered_wire v) r ≡ numbered_result (with_kept_acks v r)
acks_numbered v None = refl
acks_numbered v (Some r) = refl

pub act_numbered : (a : WireAct) (rest : List Packet) (v : KeptWire Packet) → kept_act a (map numbered rest) (numbered_wire v) ≡ numbered_result (kept_act a rest v)
act_numbered A.Send rest v =
    ap (λ n. kept_send_number (wanted_of v.acked v.next (v.handed + n)) (map numbered rest) (numbered_wire v)) (length-map rest numbered) ∙ number_numbered (kept_wanted v (v.handed + length rest)) rest v
act_numbered A.Ack rest v = by v.acks
  where
    by : (ns : List ℕ) → kept_hear_number ns (numbered_wire v) ≡ numbered_result (kept_hear_number ns v)
    by [] = refl
    by (n ∷ ns) =
        ap (λ cs. Some (W.Acked n, record (numbered_wire v) { acks = ns; acked = greater v.acked n; next = greater v.next (greater v.acked n); copies = cs })) (drop_numbered (greater v.acked n - v.acked) v.copies)
act_numbered A.Lose rest v = by v.frames
  where
    by : (fs : List (Frame Packet)) → with_kept_frames (numbered_wire v) (lose frame_number (numbered_frames fs)) ≡ numbered_result (with_kept_frames v (lose frame_number fs))
    by [] = refl
    by (f ∷ fs) = refl
act_numbered A.Twice rest v = by v.frames
  where
    on : (f : Frame Packet) (fs : List (Frame Packet)) (b : Bool)
        → with_kept_frames (numbered_wire v) (if b then Some (W.Frame f.0, numbered_frames (f ∷ fs) ++ numbered_frame f ∷ []) else None)
        ≡ numbered_result (with_kept_frames v (if b then Some (W.Frame f.0, (f ∷ fs) ++ f ∷ []) else None))
    on f fs true = ap (λ gs. Some (W.Frame f.0, record (numbered_wire v) { frames = gs })) (sym (map-append numbered_frame (f ∷ fs) (f ∷ [])))
    on f fs false = refl

    by : (fs : List (Frame Packet)) → with_kept_frames (numbered_wire v) (twice frame_number (numbered_frames fs)) ≡ numbered_result (with_kept_frames v (twice frame_number fs))
    by [] = refl
    by (f ∷ fs) =
        ap (λ n. with_kept_frames (numbered_wire v) (if nat_lt n capacity then Some (W.Frame f.0, numbered_frames (f ∷ fs) ++ numbered_frame f ∷ []) else None)) (length-map (f ∷ fs) numbered_frame)
        ∙ on f fs (nat_lt (length (f ∷ fs)) capacity)
act_numbered A.Late rest v = by v.frames
  where
    by : (fs : List (Frame Packet)) → with_kept_frames (numbered_wire v) (late frame_number (numbered_frames fs)) ≡ numbered_result (with_kept_frames v (late frame_number fs))
    by [] = refl
    by (f ∷ fs) = ap (λ gs. Some (W.Late f.0, record (numbered_wire v) { frames = gs })) (sym (map-append numbered_frame fs (f ∷ [])))
act_numbered A.LoseAck rest v = acks_numbered v (lose ack_number v.acks)
act_numbered A.TwiceAck rest v = acks_numbered v (twice ack_number v.acks)
act_numbered A.LateAck rest v = acks_numbered v (late ack_number v.acks)
