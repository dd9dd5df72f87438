-- The configuration that a machine of code represents after an event, and the link of a packet that was posted in it.
use Rattle.std.proofs.Common.{◌≡◌, ◌≢◌, refl, sym, ap, ap₂, subst, ◌∙◌, ℕ, ◌+◌, ◌*◌, ◌<◌, ◌≤◌, ◌==◌, List, [], ◌∷◌, ◌++◌, length, Option, Some, None, Bool, true, false, if◌then◌else◌, nat_lt, arith}
use Rattle.std.specs.Prelude.{◌↔◌, Result, Ok, Err, IsErr, OnOk}
use Rattle.run_types.specs.declared.types.Event.{Event}
use Rattle.run_types.specs.declared.types.What.{What}
use Rattle.run_types.specs.declared.types.FullKind.{FullKind}
use Rattle.run_types.specs.declared.types.Placement.{Placement}
use Rattle.code_semantics.specs.declared.unit.Unit.{Unit as Code}
use Rattle.code_semantics.specs.Proper.{IsProper}
use Rattle.code_semantics.specs.Suits.{Suits}
use Rattle.run_types.specs.Tables.{Pair, pair_cmp, list_at, Each}
use Rattle.mesh_semantics.specs.Language.{Language}
use Rattle.mesh_semantics.specs.Config.{Config}
use Rattle.mesh_semantics.specs.Delay.{Packet, Delay}
use Rattle.mesh_semantics.specs.NumberedPackets.{NumberedPacket}
use Rattle.run_types.specs.Paths.{next, on_link, is_link}
use Rattle.mesh_semantics.specs.Act as A
use Rattle.mesh_semantics.specs.Act.{Acted, act, goal_node}
use Rattle.mesh_semantics.specs.EventSoundness.{After}
use Rattle.mesh_semantics.specs.Sound.{IsPlaced, IsSound}
use Rattle.run_types.proofs.Laws.{first, second, equal, push_list_same}
use Rattle.mesh_semantics.proofs.Laws.{act_kept, fit_of}
use Rattle.node_semantics.specs.Node as N
use Rattle.node_semantics.specs.Node.{NodeState, NodeActed, Slot, frames_in, message_count, packet_count, slot_act, slot_in_turn, turn_act, turn_of_slot, within_node, name_at}
use Rattle.node_semantics.specs.Machine as M
use Rattle.node_semantics.specs.Machine.{Machine, machine_act, post_packet}
use Rattle.node_semantics.specs.StandsFor.{packets}
use Rattle.node_semantics.specs.WiresStandFor.{AgreesOn, StandsFor}
use Rattle.node_semantics.specs.Agrees.{IsFresh, IsOfMesh}
use Rattle.node_semantics.proofs.Laws.{event_agrees}
use Rattle.mesh_of_code.specs.Coded.{Placed, coded}
use Rattle.mesh_of_code.specs.CodeInvariant.{IsOfCode}
use Rattle.mesh_of_code.proofs.Laws.{code_fits, code_lawful, code_requests}

-- lists on a link

pub same_link : (a b : ℕ) (k : Pair) → is_link a b k ≡ true → k ≡ (a, b)
same_link a b k h = let e = equal k.0 a (first (k.0 == a) (k.1 == b) h) in let f = equal k.1 b (second (k.0 == a) (k.1 == b) h) in λ i. (e i, f i)

pub each_on : {X : Type 0} (P : Pair × X → Type 0) (ls : List (Pair × X)) (k : Pair) → Each P ls → Each (λ x. P (k, x)) (on_link ls k)
each_on P [] k h = tt
each_on {X} P (e ∷ ls) k h = by (is_link k.0 k.1 e.0) refl (each_on P ls k h.1)
  where
    by : (b : Bool) → is_link k.0 k.1 e.0 ≡ b → Each (λ x. P (k, x)) (on_link ls k) → Each (λ x. P (k, x)) (if b then e.1 ∷ on_link ls k else on_link ls k)
    by true i r = (subst (λ z. P (z, e.1)) (same_link k.0 k.1 e.0 i) h.0, r)
    by false i r = r

each_last : {X : Type 0} (P : X → Type 0) (xs : List X) (y : X) → Each P (xs ++ y ∷ []) → P y
each_last P [] y h = h.0
each_last P (x ∷ xs) y h = each_last P xs y h.1

packets_append : (es : List NumberedPacket) (e : NumberedPacket) → packets (es ++ e ∷ []) ≡ packets es ++ e.packet ∷ []
packets_append [] e = refl
packets_append (x ∷ es) e = ap (λ (ps : List Packet). x.packet ∷ ps) (packets_append es e)

-- room for a packet that leaves a node

not_above : (a b : ℕ) → nat_lt a b ≡ false → b ≤ a
not_above a b h = grind (arith, h)

module _ {S : Type 0} (g : Language S) (l : Placement) (leaving : ℕ) (w : What) (p : NumberedPacket) (y : NodeState S) where
  pub within_room : (a : NodeActed S) → within_node g l leaving a ≡ N.Acts w (Some p) y → leaving + 1 ≤ l.cells
  within_room N.Idle h = absurd (cc)
  within_room N.Nothing h = absurd (cc)
  within_room (N.Full k) h = absurd (cc)
  within_room (N.Acts v p' x) h = by (nat_lt l.objects (length x.slots)) refl (nat_lt l.frames (frames_in g x.slots)) refl (nat_lt l.cells (message_count x.slots + leaving + packet_count p')) refl h
    where
      by : (a : Bool) → nat_lt l.objects (length x.slots) ≡ a → (b : Bool) → nat_lt l.frames (frames_in g x.slots) ≡ b
          → (c : Bool) → nat_lt l.cells (message_count x.slots + leaving + packet_count p') ≡ c
          → within_node g l leaving (N.Acts v p' x) ≡ N.Acts w (Some p) y → leaving + 1 ≤ l.cells
      by true i b j c k e = absurd (let z : N.Full _ ≡ N.Acts w (Some p) y = rw i at e in cc)
      by false i true j c k e = absurd (let z : N.Full _ ≡ N.Acts w (Some p) y = rw (i, j) at e in cc)
      by false i false j true k e = absurd (let z : N.Full _ ≡ N.Acts w (Some p) y = rw (i, j, k) at e in cc)
      by false i false j false k e =
          let z : N.Acts v p' x ≡ N.Acts w (Some p) y = rw (i, j, k) at e in
          let same : p' ≡ Some p = cc in
          let one : packet_count p' ≡ 1 = ap packet_count same in
          let few = not_above l.cells (message_count x.slots + leaving + packet_count p') k in omega (arith, one, few)

  pub turn_room : (q n fresh : ℕ) (x : NodeState S) → turn_act g l q n leaving fresh x ≡ N.Acts w (Some p) y → leaving + 1 ≤ l.cells
  turn_room q n fresh x = by (slot_in_turn g n x)
    where
      by : (z : Option (ℕ × Slot S)) → turn_of_slot g l q n leaving fresh x z ≡ N.Acts w (Some p) y → leaving + 1 ≤ l.cells
      by None h = absurd (cc)
      by (Some e) h = within_room (slot_act g l q n fresh (record x { last = Some e.0 }) e.0 e.1 (g.kind (name_at n e.0) e.1.state)) h

-- what follows an event of a machine of code

pub record Following (u : Code) (l : Placement) (c : Config Placed) (d : Delay) (q : ℕ) (e : Event) (w : What) (m : Machine Placed) : Type 0 where
  pub config : Config Placed
  pub delay : Delay
  pub act : act (coded u) l q c d e ≡ A.Acts w config delay
  pub sound : IsSound (coded u) (IsOfCode u) l config delay
  pub stands : StandsFor (coded u) l m config delay

pub few_objects : (u : Code) (l : Placement) → Suits l u → l.objects < 65536
few_objects u l suits = (fit_of (coded u) l (code_fits u l suits)).objects

module _ (u : Code) (l : Placement) (proper : IsProper u) (suits : Suits l u) (m : Machine Placed) (c : Config Placed) (d : Delay)
    (sound : IsSound (coded u) (IsOfCode u) l c d) (st : StandsFor (coded u) l m c d) (q fresh : ℕ) (e : Event) (inside : IsOfMesh l e) (is_fresh : IsFresh m fresh e) where
  pub agrees : AgreesOn (coded u) l (machine_act (coded u) l q fresh m e) (act (coded u) l q c d e)
  agrees = event_agrees (coded u) (IsOfCode u) (code_lawful u proper) (code_requests u) l (few_objects u l suits) m c d sound st.state q fresh st.wires e inside is_fresh

  after : After (coded u) (IsOfCode u) l c (act (coded u) l q c d e)
  after = act_kept (coded u) (IsOfCode u) (code_lawful u proper) l (fit_of (coded u) l (code_fits u l suits)) c d q e sound

  pub follows : (w : What) (m' : Machine Placed) → machine_act (coded u) l q fresh m e ≡ M.Acts w m' → Following u l c d q e w m'
  follows w m' h = by (act (coded u) l q c d e) refl (subst (λ z. AgreesOn (coded u) l z (act (coded u) l q c d e)) h agrees) after
    where
      by : (z : Acted Placed) → act (coded u) l q c d e ≡ z → AgreesOn (coded u) l (M.Acts w m') z → After (coded u) (IsOfCode u) l c z → Following u l c d q e w m'
      by (A.Acts v c' d') i a b = record { config = c'; delay = d'; act = i ∙ ap (λ t. A.Acts t c' d') (sym a.0); sound = b.1; stands = a.1 }
      by (A.Full k n) i a b = absurd a
      by A.Nothing i a b = absurd a

  pub stays : (k : FullKind) (n : ℕ) → machine_act (coded u) l q fresh m e ≡ M.Full k n → act (coded u) l q c d e ≡ A.Full k n
  stays k n h = by (act (coded u) l q c d e) refl (subst (λ z. AgreesOn (coded u) l z (act (coded u) l q c d e)) h agrees)
    where
      by : (z : Acted Placed) → act (coded u) l q c d e ≡ z → AgreesOn (coded u) l (M.Full k n) z → act (coded u) l q c d e ≡ A.Full k n
      by (A.Full j b) i a = i ∙ ap₂ (λ x y. A.Full x y) (sym a.0) (sym a.1)
      by (A.Acts v c' d') i a = absurd a
      by A.Nothing i a = absurd a

  pub answers : machine_act (coded u) l q fresh m e ≢ M.Nothing
  answers h = subst (λ z. AgreesOn (coded u) l z (act (coded u) l q c d e)) h agrees

  pub posted : (w : What) (nodes : List (NodeState Placed)) (base : List (Pair × List NumberedPacket)) (n : ℕ) (p : NumberedPacket)
      → machine_act (coded u) l q fresh m e ≡ M.Acts w (record { nodes = nodes; links = post_packet l n (Some p) base; wires = None })
      → (goal_node p.packet < l.width * l.height) × (n ≢ goal_node p.packet)
  posted w nodes base n p h = (placed.goal, placed.way.0)
    where
      k : Pair
      k = (n, next l n (goal_node p.packet))

      z : Following u l c d q e w (record { nodes = nodes; links = post_packet l n (Some p) base; wires = None })
      z = follows w (record { nodes = nodes; links = post_packet l n (Some p) base; wires = None }) h

      on : on_link z.delay.links (n, next l n (goal_node p.packet)) ≡ packets (list_at pair_cmp (n, next l n (goal_node p.packet)) base) ++ p.packet ∷ []
      on = sym (z.stands.state.links (n, next l n (goal_node p.packet))) ∙ ap packets (push_list_same (n, next l n (goal_node p.packet)) p base)
          ∙ packets_append (list_at pair_cmp (n, next l n (goal_node p.packet)) base) p

      placed : IsPlaced l z.config ((n, next l n (goal_node p.packet)), p.packet)
      placed = each_last (λ x. IsPlaced l z.config ((n, next l n (goal_node p.packet)), x)) (packets (list_at pair_cmp (n, next l n (goal_node p.packet)) base)) p.packet
          (subst (Each (λ x. IsPlaced l z.config ((n, next l n (goal_node p.packet)), x))) on (each_on (IsPlaced l z.config) z.delay.links (n, next l n (goal_node p.packet)) z.sound.state.packets))

-- what is put where there is room is put
pub was_put : {X Y : Type 0} {n m : ℕ} {P : Type 0} (r : Result X Y) → (IsErr r ↔ (n ≡ m)) → n < m → OnOk r P → P
was_put (Ok x) full room put = put
was_put (Err y) full room put = absurd (let e = full.0 refl in omega (arith, e, room))
