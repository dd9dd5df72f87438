-- The status that a node reports of a slot is that of its object.
use Rattle.std.proofs.Common.{◌≡◌, ◌≢◌, refl, sym, ap, ap₂, subst, ◌∙◌, ℕ, List, [], ◌∷◌, ◌++◌, Option, Some, None, Bool, true, false}
use Rattle.std.specs.Prelude.{if◌then◌else◌, ◌==◌, ◌&&◌}
use Rattle.run_types.specs.declared.types.Error.{Error}
use Rattle.run_types.specs.declared.types.Placement.{Placement}
use Rattle.run_types.specs.Tables.{Pair, pair_cmp, list_at, Each}
use Rattle.run_types.proofs.Laws.{equals, same_some, each_map}
use Rattle.mesh_semantics.proofs.Laws.{no_part}
use Rattle.mesh_semantics.specs.Kind as K
use Rattle.mesh_semantics.specs.Kind.{Kind}
use Rattle.mesh_semantics.specs.Language.{Language}
use Rattle.mesh_semantics.specs.Config.{Config, object_of}
use Rattle.run_types.specs.Paths.{on_link, is_link}
use Rattle.mesh_semantics.specs.Delay as D
use Rattle.mesh_semantics.specs.Delay.{Packet, Arrival, Holding, Delay, held, arrived_at}
use Rattle.mesh_semantics.specs.NumberedPackets.{NumberedPacket}
use Rattle.mesh_semantics.specs.Act.{can_step}
use Rattle.mesh_semantics.specs.Sound.{Entry, Sent, Called, owns, sent_of, called_of, Owns, OwnedAt, entries, IsSound}
use Rattle.mesh_semantics.specs.Standing as T
use Rattle.mesh_semantics.specs.Standing.{created_at, goal_in, standing_of, standing}
use Rattle.mesh_semantics.specs.Lawful.{Lawful}
use Rattle.node_semantics.specs.Node.{Slot, arrivals}
use Rattle.node_semantics.specs.Machine.{Machine}
use Rattle.mesh_semantics.specs.Requests.{Requests, posts_request}
use Rattle.node_semantics.specs.StandsFor as St
use Rattle.node_semantics.specs.StandsFor.{slot_at, SlotStandsFor, Free, Served, Posted, Due, packets, kept_goal_of, Knows, PacketFits, MachineStandsFor}
use Rattle.node_semantics.specs.Standings.{slot_standing_by, slot_standing, IsRequest, SaysOf}
use Rattle.node_semantics.proofs.NamesAfterChange.{found}
use Rattle.node_semantics.proofs.ReceiptsAgree.{sent_same}

-- what holds of all on each link holds of all
module _ (P : Packet → Type 0) where
  on_each : (ls : List (Pair × Packet)) → ((k : Pair) → Each P (on_link ls k)) → Each (λ e. P e.1) ls
  on_each [] h = tt
  on_each (e ∷ ls) h = (head, on_each ls rest)
    where
      head : P e.1
      head = let y : Each P (on_link (e ∷ ls) e.0) = h e.0 in let z : Each P (e.1 ∷ on_link ls e.0) = rw (equals e.0.0, equals e.0.1) at y in z.0

      rest : (k : Pair) → Each P (on_link ls k)
      rest k = by (is_link k.0 k.1 e.0) refl
        where
          by : (b : Bool) → is_link k.0 k.1 e.0 ≡ b → Each P (on_link ls k)
          by true z = let y : Each P (on_link (e ∷ ls) k) = h k in let w : Each P (e.1 ∷ on_link ls k) = rw z at y in w.1
          by false z = let y : Each P (on_link (e ∷ ls) k) = h k in rw z at y

  of_packets : (m : List NumberedPacket) → Each (λ e. P e.packet) m → Each P (packets m)
  of_packets [] h = tt
  of_packets (e ∷ es) h = (h.0, of_packets es h.1)

module _ (o : ℕ) where
  not_called : (p : Packet) (es : List (ℕ × Arrival)) → called_of o es ≢ Sent p ∷ []
  not_called p [] h = cc
  not_called p (e ∷ es) h = by (e.1.is_call && e.1.sender == o) refl (not_called p es)
    where
      by : (b : Bool) → (e.1.is_call && e.1.sender == o) ≡ b → called_of o es ≢ Sent p ∷ [] → ⊥
      by true z f = let w : Called e.0 e.1 ∷ called_of o es ≡ Sent p ∷ [] = rw z at h in cc
      by false z f = f (rw z at h)

  sent_alone : (p : Packet) (xs : List Entry) (es : List (ℕ × Arrival)) → xs ++ called_of o es ≡ Sent p ∷ [] → xs ≡ Sent p ∷ []
  sent_alone p [] es h = absurd (not_called p es h)
  sent_alone p (x ∷ xs) es h =
      let a : x ≡ Sent p = cc in
      let b : xs ++ called_of o es ≡ [] = cc in
      ap₂ ◌∷◌ a (no_part xs (called_of o es) b).0

  no_goal : (p : Packet) → owns o p ≡ false → goal_in o p ≡ None
  no_goal (D.Create k goal class) z = rw z refl
  no_goal (D.Created k name) z = refl
  no_goal (D.Request k r m args) z = refl
  no_goal (D.Result k v) z = refl
  no_goal (D.Async k r m args) z = refl

  -- the Create that an object owns is the one whose goal is found
  goal_found : (Q : Packet → Type 0) (goal class : ℕ) (ls : List (Pair × Packet)) → Each (λ e. Q e.1) ls → sent_of o ls ≡ Sent (D.Create o goal class) ∷ []
      → (created_at o ls ≡ goal) × Q (D.Create o goal class)
  goal_found Q goal class [] q h = absurd (cc)
  goal_found Q goal class (x ∷ ls) q h = by (owns o x.1) refl (goal_found Q goal class ls q.1)
    where
      by : (b : Bool) → owns o x.1 ≡ b → (sent_of o ls ≡ Sent (D.Create o goal class) ∷ [] → (created_at o ls ≡ goal) × Q (D.Create o goal class))
          → (created_at o (x ∷ ls) ≡ goal) × Q (D.Create o goal class)
      by true z f =
          let w : Sent x.1 ∷ sent_of o ls ≡ Sent (D.Create o goal class) ∷ [] = rw z at h in
          let i : Sent x.1 ≡ Sent (D.Create o goal class) = cc in
          let same : x.1 ≡ D.Create o goal class = sent_same _ _ i in
          let own : goal_in o (D.Create o goal class) ≡ Some goal = rw (equals o) refl in
          let e : goal_in o x.1 ≡ Some goal = ap (goal_in o) same ∙ own in
          (rw (e, created_at) refl, subst Q same q.0)
      by false z f =
          let e : goal_in o x.1 ≡ None = no_goal x.1 z in
          let r = f (rw z at h) in
          (rw (e, created_at) r.0, r.1)

module _ {S : Type 0} (g : Language S) (W : Config S → Type 0) (law : Lawful g W) (req : Requests g W) (l : Placement) (m : Machine S) (c : Config S) (d : Delay)
    (sound : IsSound g W l c d) (st : MachineStandsFor g l m c d) (o : ℕ) (x : S) (there : object_of c o ≡ Some x) (s : Slot S) (here : slot_at m o ≡ Some s)
    (mailbox : arrivals s.mailbox ≡ arrived_at d o) where
  owned : OwnedAt g o (Some x) (held d o) (entries d o)
  owned = subst (λ z. OwnedAt g o z (held d o) (entries d o)) there (sound.state.owned o)

  either : (b : Bool) → SaysOf (if b then T.Ready else T.Awaits) (if b then T.Ready else T.Awaits)
  either true = refl
  either false = refl

  free_says : (k : Kind) → SaysOf (slot_standing_by None None (arrived_at d o) s.goal k) (standing_of d o None None k)
  free_says K.Finished = refl
  free_says K.Local = refl
  free_says (K.Fault e) = refl
  free_says (K.New class) = refl
  free_says (K.Send b i args) = refl
  free_says (K.Async b i args) = refl
  free_says (K.Write item) = refl
  free_says (K.Select alts) = either (can_step (arrived_at d o) (K.Select alts))
  free_says (K.Return k v) = refl
  free_says (K.Waits b i) = refl
  free_says K.Stuck = refl

  due_says : (number : ℕ) (f : Option Error) (box : List Arrival) (k : Kind) → posts_request k ≡ true → IsRequest (slot_standing_by (Some number) f box s.goal k)
  due_says number f box (K.New class) h = tt
  due_says number f box (K.Send b i args) h = tt
  due_says number f box K.Finished h = absurd (cc)
  due_says number f box K.Local h = absurd (cc)
  due_says number f box (K.Fault e) h = absurd (cc)
  due_says number f box (K.Async b i args) h = absurd (cc)
  due_says number f box (K.Write item) h = absurd (cc)
  due_says number f box (K.Select alts) h = absurd (cc)
  due_says number f box (K.Return k v) h = absurd (cc)
  due_says number f box (K.Waits b i) h = absurd (cc)
  due_says number f box K.Stuck h = absurd (cc)

  all_known : Each (λ e. Knows m e.1) d.links
  all_known = on_each (Knows m) d.links (λ k. subst (Each (Knows m)) (st.links k)
      (of_packets (Knows m) (list_at pair_cmp k m.links) (each_map (PacketFits m) (λ e. Knows m e.packet) (λ e f. f.names) (list_at pair_cmp k m.links) (st.on_links k))))

  posted_says : (number : ℕ) (f : Option Error) (box : List Arrival) (k : Kind) → Owns o (Some D.Posted) k (entries d o)
      → SaysOf (slot_standing_by (Some number) f box s.goal k) (standing_of d o None (Some D.Posted) k)
  posted_says number f box (K.New class) h =
      let r = goal_found o (Knows m) h.0 class d.links all_known (sent_alone o (D.Create o h.0 class) (sent_of o d.links) d.arrived h.2) in
      let kept : Some s.goal ≡ Some h.0 = sym (ap St.kept_goal_in here) ∙ r.1 in
      ap (T.Creates class) (same_some kept ∙ sym r.0)
  posted_says number f box (K.Send b i args) h = refl
  posted_says number f box K.Finished h = absurd h
  posted_says number f box K.Local h = absurd h
  posted_says number f box (K.Fault e) h = absurd h
  posted_says number f box (K.Async b i args) h = absurd h
  posted_says number f box (K.Write item) h = absurd h
  posted_says number f box (K.Select alts) h = absurd h
  posted_says number f box (K.Return k v) h = absurd h
  posted_says number f box (K.Waits b i) h = absurd h
  posted_says number f box K.Stuck h = absurd h

  says : (h : Option Holding) → held d o ≡ h → SlotStandsFor g o s x h → (f : Option Error) → g.fault x ≡ f → SaysOf (slot_standing g o s) (standing_of d o f h (g.kind o x))
  says None i (Free u v) (Some e) z = rw (u, ap g.fault v ∙ z) refl
  says None i (Free u v) None z = rw (u, ap g.fault v ∙ z) (
      subst (λ box. SaysOf (slot_standing_by None None box s.goal (g.kind o s.state)) (standing_of d o None None (g.kind o x))) (sym mailbox)
      (subst (λ k. SaysOf (slot_standing_by None None (arrived_at d o) s.goal k) (standing_of d o None None (g.kind o x))) (sym (ap (g.kind o) v)) (free_says (g.kind o x))))
  says None i (Served b k args out u w) (Some e) z = absurd (
      let a : g.kind o x ≡ K.Fault e = law.fault_kind c o x e sound.state.typed there z in
      let b' : g.kind o x ≡ K.Waits b k = ap (g.kind o) (sym w) ∙ req.waiting_kind o s.state b k args u in cc)
  says None i (Served b k args out u w) None z =
      let a : g.kind o x ≡ K.Waits b k = ap (g.kind o) (sym w) ∙ req.waiting_kind o s.state b k args u in rw (out.1, u, a) refl
  says (Some h) i y (Some e) z = absurd (let a : Some h ≡ None = sym i ∙ owned.1 e z in cc)
  says (Some D.Posted) i (Posted out v) None z =
      rw (out.1, ap (g.kind o) v) (posted_says out.0 (g.fault s.state) (arrivals s.mailbox) (g.kind o x)
      (subst (λ t. Owns o t (g.kind o x) (entries d o)) i owned.0))
  says (Some (D.Due v)) i (Due w out a r) None z = rw out.1 (due_says out.0 (g.fault s.state) (arrivals s.mailbox) (g.kind o s.state) a)

-- for each object of what the machine stands for
pub node_says : {S : Type 0} (g : Language S) (W : Config S → Type 0) → Lawful g W → Requests g W → (l : Placement) (m : Machine S) (c : Config S) (d : Delay)
    → IsSound g W l c d → MachineStandsFor g l m c d → (o : ℕ) (x : S) → object_of c o ≡ Some x → (s : Slot S) → slot_at m o ≡ Some s → SaysOf (slot_standing g o s) (standing g d o x)
node_says {S} g W law req l m c d sound st o x there s here =
    let f = found g l m c d st o x there in
    let same : f.slot ≡ s = same_some (sym f.here ∙ here) in
    subst (λ (z : Slot S). SaysOf (slot_standing g o z) (standing g d o x)) same
    (says g W law req l m c d sound st o x there f.slot f.here f.stands.mailbox (held d o) refl f.stands.state (g.fault x) refl)
