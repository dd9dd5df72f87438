-- The slot and the object of each name after a change.
use Rattle.std.proofs.Common.{◌≡◌, ◌≢◌, refl, sym, subst, ℕ, List, [], ◌∷◌, Option, Some, None}
use Rattle.run_types.specs.Tables.{Pair, Each}
use Rattle.mesh_semantics.specs.Language.{Language}
use Rattle.mesh_semantics.specs.Config.{Config, object_of}
use Rattle.run_types.specs.Paths.{on_link}
use Rattle.mesh_semantics.specs.Delay.{Packet, Arrival, Holding, Delay, arrived_at, held}
use Rattle.mesh_semantics.specs.NumberedPackets.{NumberedPacket}
use Rattle.run_types.specs.declared.types.Placement.{Placement}
use Rattle.mesh_semantics.specs.Sound.{entries, sent_of, called_of}
use Rattle.run_types.specs.PathFacts.{In}
use Rattle.mesh_semantics.proofs.Laws.{no_part}
use Rattle.run_types.proofs.Laws.{each_map}
use Rattle.node_semantics.specs.Node.{Slot, arrivals}
use Rattle.node_semantics.specs.Machine.{Machine}
use Rattle.node_semantics.specs.StandsFor.{slot_at, Occupied, AtName, IsNumberOf, AreNumbersOf, caller_of, owner_of, HasSlot, PacketFits, packets, MailboxFits, CallersFit, MachineStandsFor}
use Rattle.node_semantics.proofs.KeptNumbers.{Same, callers_kept, fits_kept, mailbox_kept, none_sent, none_called, of_packets, of_messages, each_both}

-- all that refers to a request refers to one of these objects
pub record Refers {S : Type 0} (g : Language S) (K : ℕ → Type 0) (c : Config S) (d : Delay) : Type 0 where
  pub on_links : (k : Pair) → Each (λ p. (q : ℕ) → owner_of p ≡ Some q → K q) (on_link d.links k)
  pub in_boxes : (r : ℕ) → Each (λ a. (q : ℕ) → caller_of a ≡ Some q → K q) (arrived_at d r)
  pub in_callers : (b : ℕ) (y : S) (q : ℕ) → object_of c b ≡ Some y → In q (g.callers y) → K q

each_all : {X : Type 0} (P : X → Type 0) → ((x : X) → P x) → (xs : List X) → Each P xs
each_all P f [] = tt
each_all P f (x ∷ xs) = (f x, each_all P f xs)

abbrev pub Any : ℕ → Type 0
Any q = Unit {0}

abbrev pub But : ℕ → ℕ → Type 0
But o q = q ≢ o

pub refers_any : {S : Type 0} (g : Language S) (c : Config S) (d : Delay) → Refers g Any c d
refers_any g c d = record {
  on_links = λ k. each_all _ (λ p q i. tt) (on_link d.links k);
  in_boxes = λ r. each_all _ (λ a q i. tt) (arrived_at d r);
  in_callers = λ b y q i j. tt;
}

-- an object that owns nothing and is not at a wait
pub refers_but : {S : Type 0} (g : Language S) (c : Config S) (d : Delay) (o : ℕ) → entries d o ≡ []
    → ((b : ℕ) (y : S) → object_of c b ≡ Some y → In o (g.callers y) → ⊥) → Refers g (But o) c d
refers_but g c d o h f =
    let n = no_part (sent_of o d.links) (called_of o d.arrived) h in
    record {
      on_links = λ k. each_map _ _ (λ p i q e s. i (subst (λ z. owner_of p ≡ Some z) s e)) (on_link d.links k) (none_sent o k d.links n.0);
      in_boxes = λ r. each_map _ _ (λ a i q e s. i (subst (λ z. caller_of a ≡ Some z) s e)) (arrived_at d r) (none_called o r d.arrived n.1);
      in_callers = λ b y q i j s. f b y i (subst (λ z. In z (g.callers y)) s j);
    }

-- what stands at a name, with the numbers that it refers to
abbrev pub Spot : {S : Type 0} → Language S → Machine S → ℕ → Option (Slot S) → Option S → Option Holding → List Arrival → Type 0
Spot g m q s x h box = AtName g q s x h box × MailboxFits m s × CallersFit g m s x

module _ {S : Type 0} (g : Language S) (l : Placement) (m : Machine S) (c : Config S) (d : Delay) (st : MachineStandsFor g l m c d) where
  pub spot : (q : ℕ) → Spot g m q (slot_at m q) (object_of c q) (held d q) (arrived_at d q)
  spot q = (st.named q, st.in_mailboxes q, st.in_callers q)

  -- an object is in its slot
  pub record Found (o : ℕ) (x : S) : Type 0 where
    pub slot : Slot S
    pub here : slot_at m o ≡ Some slot
    pub stands : Occupied g o slot x (held d o) (arrived_at d o)
    pub mailbox : Each (λ e. IsNumberOf m e.number (caller_of e.message)) slot.mailbox
    pub callers : AreNumbersOf m slot.callers (g.callers x)

  pub found : (o : ℕ) (x : S) → object_of c o ≡ Some x → Found o x
  found o x h = by (slot_at m o) refl (subst (λ y. Spot g m o (slot_at m o) y (held d o) (arrived_at d o)) h (spot o))
    where
      by : (z : Option (Slot S)) → slot_at m o ≡ z → Spot g m o z (Some x) (held d o) (arrived_at d o) → Found o x
      by None i k = absurd k.0
      by (Some s) i k = record { slot = s; here = i; stands = k.0; mailbox = k.1; callers = k.2 }

module _ {S : Type 0} (g : Language S) (m m' : Machine S) (K : ℕ → Type 0) (keep : (q : ℕ) → K q → Same m m' q) where
  -- the mailbox of a slot
  pub box_kept : (s : Slot S) (box : List Arrival) → arrivals s.mailbox ≡ box → Each (λ a. (q : ℕ) → caller_of a ≡ Some q → K q) box
      → Each (λ e. IsNumberOf m e.number (caller_of e.message)) s.mailbox → Each (λ e. IsNumberOf m' e.number (caller_of e.message)) s.mailbox
  box_kept s box i h k =
      let r = of_messages (λ a. (q : ℕ) → caller_of a ≡ Some q → K q) s.mailbox (subst (Each (λ a. (q : ℕ) → caller_of a ≡ Some q → K q)) (sym i) h) in
      mailbox_kept m m' s (each_map _ _ (λ e f q j. (keep q (f q j)).request) s.mailbox r) k

  pub served_kept : (ks os : List ℕ) → ((q : ℕ) → In q os → K q) → AreNumbersOf m ks os → AreNumbersOf m' ks os
  served_kept ks os f h = callers_kept m m' ks os (λ q i. (keep q (f q i)).request) h

  pub link_kept : (es : List NumberedPacket) (ps : List Packet) → packets es ≡ ps → Each (λ p. (q : ℕ) → owner_of p ≡ Some q → K q) ps
      → ((q : ℕ) → HasSlot m q → HasSlot m' q) → Each (PacketFits m) es → Each (PacketFits m') es
  link_kept es ps i h grow k =
      let r = of_packets (λ p. (q : ℕ) → owner_of p ≡ Some q → K q) es (subst (Each (λ p. (q : ℕ) → owner_of p ≡ Some q → K q)) (sym i) h) in
      each_both _ _ _ (λ e f j. fits_kept m m' e (λ q z. keep q (f q z)) grow j) es r k

  -- a name at which nothing changes but what the numbers refer to
  pub spot_kept : (q : ℕ) (s : Option (Slot S)) (x : Option S) (h : Option Holding) (box : List Arrival)
      → Each (λ a. (o : ℕ) → caller_of a ≡ Some o → K o) box → ((y : S) (o : ℕ) → x ≡ Some y → In o (g.callers y) → K o)
      → Spot g m q s x h box → Spot g m' q s x h box
  spot_kept q None None h box e f k = (k.0, tt, tt)
  spot_kept q None (Some x) h box e f k = absurd k.0
  spot_kept q (Some s) None h box e f k = absurd k.0
  spot_kept q (Some s) (Some x) h box e f k =
      let n : Occupied g q s x h box = k.0 in
      (n, box_kept s box n.mailbox e k.1, served_kept s.callers (g.callers x) (λ o i. f x o refl i) k.2)

-- the same where the slot, the object and the rest are told in other words
pub spot_same : {S : Type 0} (g : Language S) (m : Machine S) (q : ℕ) {s s' : Option (Slot S)} {x x' : Option S} {h h' : Option Holding} {b b' : List Arrival}
    → s' ≡ s → x' ≡ x → h' ≡ h → b' ≡ b → Spot g m q s x h b → Spot g m q s' x' h' b'
spot_same g m q e f i j k = subst (λ z. z) (sym (λ n. Spot g m q (e n) (f n) (i n) (j n))) k
