-- A packet that comes off a link at its goal, and the names in it, meet the conditions of its node.
use Rattle.std.proofs.Common.{◌≡◌, ◌≢◌, ◌⊎◌, inl, inr, refl, sym, subst, ◌∙◌, ℕ, ◌<◌, List, [], ◌∷◌, ◌++◌, Option, Some, None, Bool, true, false}
use Rattle.std.specs.Prelude.{slice_get, flat_map}
use Rattle.run_types.specs.declared.types.Value.{Value}
use Rattle.run_types.specs.declared.types.Value.TheVariants as V
use Rattle.run_types.specs.declared.types.Placement.{Placement}
use Rattle.run_types.specs.Tables.{Pair, pair_cmp, list_at, put_list, Each}
use Rattle.run_types.specs.Message.{Message}
use Rattle.run_types.proofs.Laws.{equals, same_some}
use Rattle.mesh_semantics.proofs.Laws.{each_head, moved_own, moved_some}
use Rattle.mesh_semantics.specs.Kind as K
use Rattle.mesh_semantics.specs.Kind.{Kind}
use Rattle.mesh_semantics.specs.Language.{Language}
use Rattle.mesh_semantics.specs.Config.{Config, object_of}
use Rattle.run_types.specs.Paths.{on_link, along, path}
use Rattle.mesh_semantics.specs.Delay as D
use Rattle.mesh_semantics.specs.Delay.{Packet, Arrival, Holding, Delay, held, arrived_at}
use Rattle.mesh_semantics.specs.NumberedPackets.{NumberedPacket}
use Rattle.run_types.specs.ObjectNames.{node_of}
use Rattle.mesh_semantics.specs.Act.{first_of, goal_node}
use Rattle.mesh_semantics.specs.Sound.{IsPlaced, IsThere, Has, Entry, Sent, Letter, notes, letter, letters, letters_in, Owns, OwnedAt, entries, IsSound}
use Rattle.mesh_semantics.specs.Lawful.{Lawful}
use Rattle.node_semantics.specs.Node.{NodeState}
use Rattle.node_semantics.specs.Machine.{Machine}
use Rattle.mesh_semantics.specs.Requests.{Requests, names_in, KnownNames}
use Rattle.node_semantics.specs.StandsFor.{SlotStandsFor, Due, AtName, HasSlot, PacketFits, MachineStandsFor}
use Rattle.node_semantics.specs.Receives.{HasObject, names_of, IsReceivable}
use Rattle.node_semantics.proofs.NamesAndSlots.{at_node}
use Rattle.node_semantics.proofs.KeptNumbers.{fits_kept}
use Rattle.node_semantics.proofs.PostedLinks.{is_head}
use Rattle.node_semantics.proofs.SmallChanges.{head_fits, head_stands}
use Rattle.node_semantics.proofs.NamesAfterChange.{Found, found}
use Rattle.node_semantics.proofs.ReceiptsAgree.{d₁, sent_same, Awaiting, awaiting, meets}

module _ {X : Type 0} (Q : X → Type 0) where
  front : (xs ys : List X) → Each Q (xs ++ ys) → Each Q xs
  front [] ys h = tt
  front (x ∷ xs) ys h = (h.0, front xs ys h.1)

  back : (xs ys : List X) → Each Q (xs ++ ys) → Each Q ys
  back [] ys h = h
  back (x ∷ xs) ys h = back xs ys h.1

  -- what holds of all along a path holds of the head of a link of it
  module _ {Y : Type 0} (h : Y → List X) (ls : List (Pair × Y)) (k : Pair) where
    along_each : (ks : List Pair) → Each Q (along h ls ks) → Has ks k → Each Q (flat_map h (on_link ls k))
    along_each [] e z = absurd z
    along_each (j ∷ ks) e (inl z) = subst (λ (i : Pair). Each Q (flat_map h (on_link ls i))) z (back (along h ls ks) (flat_map h (on_link ls j)) e)
    along_each (j ∷ ks) e (inr z) = along_each ks (front (along h ls ks) (flat_map h (on_link ls j)) e) z

    first_each : (ps : List Y) (p : Y) → first_of ps ≡ Some p → Each Q (flat_map h ps) → Each Q (h p)
    first_each [] p i e = absurd (cc)
    first_each (q ∷ ps) p i e = let z : q ≡ p = same_some i in subst (λ y. Each Q (h y)) z (front (h q) (flat_map h ps) e)

module _ (P : Message → Type 0) where
  abbrev Noted : Letter → Type 0
  Noted x = x.is_call ≡ false → P x.message

  notes_each : (xs : List Letter) → Each P (notes xs) → Each Noted xs
  notes_each [] h = tt
  notes_each (x ∷ xs) h = by x.is_call refl (notes_each xs)
    where
      by : (b : Bool) → x.is_call ≡ b → (Each P (notes xs) → Each Noted xs) → Each Noted (x ∷ xs)
      by true z f = ((λ e. absurd (let w : true ≡ false = sym z ∙ e in cc)), f (rw z at h))
      by false z f = let w : P x.message × Each P (notes xs) = rw z at h in ((λ e. w.0), f w.1)

module _ {S : Type 0} (g : Language S) (W : Config S → Type 0) (l : Placement) (c : Config S) (d : Delay) (sound : IsSound g W l c d) (k : Pair) (names : KnownNames g W) where
  abbrev dₘ : Delay
  dₘ = d₁ g W l c d sound k

  abbrev Known : List Value → Type 0
  Known args = Each (IsThere c) (names_in args)

  -- whose call it is
  request_known : (o r m : ℕ) (args : List Value) → first_of (on_link d.links k) ≡ Some (D.Request o r m args) → Known args
  request_known o r m args head = by (object_of c o) (held d o) refl refl (sound.state.owned o)
    where
      p : Packet
      p = D.Request o r m args

      some : entries d o ≢ []
      some = moved_some k (D.Request o r m args) d head o (equals o)

      alone : (e : Entry) → entries d o ≡ e ∷ [] → e ≡ Sent (D.Request o r m args)
      alone e h = (moved_own k (D.Request o r m args) d head o e (equals o) h).0

      posted : (y : S) → object_of c o ≡ Some y → (z : Kind) → g.kind o y ≡ z → Owns o (Some D.Posted) z (entries d o) → Known args
      posted y i (K.New a) q h = absurd (let s : D.Create o h.0 a ≡ D.Request o r m args = sent_same _ _ (alone (Sent (D.Create o h.0 a)) h.2) in cc)
      posted y i (K.Send a b vs) q (inl h) =
          let s : D.Request o a b vs ≡ D.Request o r m args = sent_same _ _ (alone (Sent (D.Request o a b vs)) h) in
          let e : vs ≡ args = cc in
          subst Known e (names.call_names c o y a b vs sound.state.typed i q)
      posted y i (K.Send a b vs) q (inr h) = absurd (let s = alone _ h in cc)
      posted y i z q h = absurd h

      by : (a : Option S) (h : Option Holding) → object_of c o ≡ a → held d o ≡ h → OwnedAt g o a h (entries d o) → Known args
      by None h i j z = absurd (some z.1)
      by (Some y) None i j z = absurd (some z.0)
      by (Some y) (Some D.Posted) i j z = posted y i (g.kind o y) refl z.0
      by (Some y) (Some (D.Due v)) i j z = absurd (due z.0.1)
        where
          due : (entries d o ≡ Sent (D.Result o v) ∷ []) ⊎ ((n : ℕ) × (v ≡ V.Ref n) × (entries d o ≡ Sent (D.Created o n) ∷ [])) → ⊥
          due (inl h) = let s : D.Result o v ≡ D.Request o r m args = sent_same _ _ (alone (Sent (D.Result o v)) h) in cc
          due (inr h) = let s : D.Created o h.0 ≡ D.Request o r m args = sent_same _ _ (alone (Sent (D.Created o h.0)) h.2) in cc

  -- an asynchronous message is one of those of its pair
  note_known : (s r m : ℕ) (args : List Value) → first_of (on_link d.links k) ≡ Some (D.Async s r m args) → Has (path l (node_of s) (node_of r)) k → Known args
  note_known s r m args head on =
      let a = subst (Each (λ f. Known f.args)) (sound.state.lists s r) (names.message_names c s r sound.state.typed) in
      let b = notes_each (λ f. Known f.args) (letters l d s r) a in
      let e = back (Noted (λ f. Known f.args)) (letters_in s (arrived_at d r)) (along (letter s r) d.links (path l (node_of s) (node_of r))) b in
      let f = along_each (Noted (λ f. Known f.args)) (letter s r) d.links k (path l (node_of s) (node_of r)) e on in
      let h = first_each (Noted (λ f. Known f.args)) (letter s r) d.links k (on_link d.links k) (D.Async s r m args) head f in
      let i : Each (Noted (λ f. Known f.args)) (record { is_call = false; message = record { method = m; args = args } } ∷ []) = rw (equals s, equals r) at h in
      i.0 refl

  module _ (law : Lawful g W) (req : Requests g W) (few : l.objects < 65536) (m₁ : Machine S) (st₁ : MachineStandsFor g l m₁ c dₘ) (b : ℕ) (x : NodeState S) (node : slice_get m₁.nodes b ≡ Some x) where
    slot_there : (o : ℕ) → HasSlot m₁ o → IsThere c o
    slot_there o h = by (object_of c o) refl (subst (λ z. AtName g o z (object_of c o) (held dₘ o) (arrived_at dₘ o)) h.1 (st₁.named o))
      where
        by : (y : Option S) → object_of c o ≡ y → AtName g o (Some h.0) y (held dₘ o) (arrived_at dₘ o) → IsThere c o
        by None e z = absurd z
        by (Some y) e z = (y, e)

    placed : (o : ℕ) → IsThere c o → node_of o ≡ b → HasObject x o
    placed o h own = let f = found g l m₁ c dₘ st₁ o h.0 h.1 in (f.slot, sym (at_node m₁ b x node o own) ∙ f.here)

    value_known : (o : ℕ) (v : Value) → Awaiting g W l c d sound k o v → Known (v ∷ [])
    value_known o v a = by (held d o) refl f.stands.state
      where
        f : Found g l m₁ c dₘ st₁ o a.state
        f = found g l m₁ c dₘ st₁ o a.state a.object

        by : (h : Option Holding) → held d o ≡ h → SlotStandsFor g o f.slot a.state h → Known (v ∷ [])
        by None i z = absurd (let q : None ≡ Some (D.Due v) = sym i ∙ a.held in cc)
        by (Some D.Posted) i z = absurd (let q : Some D.Posted ≡ Some (D.Due v) = sym i ∙ a.held in cc)
        by (Some (D.Due u)) i (Due w q r s) =
            let t : Some (D.Due u) ≡ Some (D.Due v) = sym i ∙ a.held in
            let same : u ≡ v = cc in
            subst (λ y. Known (y ∷ [])) same (names.given_names c o a.state f.slot.state u sound.state.typed a.object r s)

    known : (num : Option ℕ) (p : Packet) → PacketFits m₁ (record { number = num; packet = p }) → first_of (on_link d.links k) ≡ Some p → IsPlaced l c (k, p) → Each (IsThere c) (names_of p)
    known num (D.Create o goal class) fit head is = (is.sender, tt)
    known num (D.Created o name) fit head is =
        (is.sender, value_known o (V.Ref name) (awaiting g W l c d sound k (D.Created o name) o (V.Ref name) (inr (name, refl, refl)) (equals o) head))
    known num (D.Request o r m args) fit head is = (is.sender, (slot_there r fit.names, request_known o r m args head))
    known num (D.Result o v) fit head is = (is.sender, value_known o v (awaiting g W l c d sound k (D.Result o v) o v (inl refl) (equals o) head))
    known num (D.Async o r m args) fit head is = (is.sender, (slot_there r fit.names, note_known o r m args head is.on_path))

    all_placed : (os : List ℕ) → Each (IsThere c) os → Each (λ o. node_of o ≡ b → HasObject x o) os
    all_placed [] h = tt
    all_placed (o ∷ os) h = ((λ e. placed o h.0 e), all_placed os h.1)

    pub is_receivable : (num : Option ℕ) (p : Packet) → PacketFits m₁ (record { number = num; packet = p }) → first_of (on_link d.links k) ≡ Some p → goal_node p ≡ b → IsReceivable g b x num p
    is_receivable num p fit head at = (
      all_placed (names_of p) (known num p fit head (each_head (IsPlaced l c) k d.links p head sound.state.packets)),
      meets g W l c d sound k law req few m₁ st₁ b x node num p fit head at,
    )

-- the head of a link of the machine, at its goal
pub head_is_receivable : {S : Type 0} (g : Language S) (W : Config S → Type 0) → Lawful g W → Requests g W → KnownNames g W → (l : Placement) → l.objects < 65536
    → (m : Machine S) (c : Config S) (d : Delay) → IsSound g W l c d → MachineStandsFor g l m c d
    → (a b : ℕ) (e : NumberedPacket) (rest : List NumberedPacket) → list_at pair_cmp (a, b) m.links ≡ e ∷ rest → goal_node e.packet ≡ b
    → (x : NodeState S) → slice_get m.nodes b ≡ Some x → IsReceivable g b x e.number e.packet
head_is_receivable {S} g W law req names l few m c d sound st a b e rest head at x node =
    is_receivable g W l c d sound (a, b) names law req few m₁ (head_stands g l m c d st (a, b) e rest head) b x node e.number e.packet
    (fits_kept m m₁ e (λ q i. record { request = refl; goal = refl }) (λ q z. z) (head_fits g l m c d st (a, b) e rest head))
    (is_head m.links d.links st.links (a, b) e rest head) at
  where
    m₁ : Machine S
    m₁ = record m { links = put_list pair_cmp (a, b) rest m.links }
