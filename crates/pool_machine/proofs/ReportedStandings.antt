-- The reports of a machine are true of each sound configuration that it represents.
use Rattle.std.proofs.Common.{◌≡◌, refl, sym, ap, subst, ◌∙◌, ℕ, zero, suc, ◌*◌, ◌<◌, ◌==◌, List, [], ◌∷◌, length, map, get_or, Option, Some, None, is_some, Bool, true, false, ◌||◌, cond, if◌then◌else◌, arith}
use Rattle.std.specs.Prelude.{slice_get}
use Rattle.std.specs.Option.{option_map, unwrap_or}
use Rattle.std.specs.Ordering.{eq_by_cmp}
use Rattle.std.specs.List.{list_any}
use Rattle.std.specs.FinMap.Entries.{find}
use Rattle.std.proofs.lemmas.Option.{get_or_from_slice_get, slice_get_within}
use Rattle.run_types.specs.declared.types.Placement.{Placement}
use Rattle.code_semantics.specs.declared.unit.ClassCode.{ClassCode}
use Rattle.code_semantics.specs.declared.unit.Unit.{Unit as Code}
use Rattle.mesh_semantics.specs.Config.{Config, object_of}
use Rattle.mesh_semantics.specs.Delay.{Delay, held, arrived_at}
use Rattle.mesh_semantics.specs.NumberedPackets.{NumberedPacket}
use Rattle.run_types.specs.ObjectNames.{node_of, slot_of}
use Rattle.mesh_semantics.specs.Delay as Del
use Rattle.mesh_semantics.specs.Act.{is_quiet, object_count}
use Rattle.run_types.specs.Paths.{AreNeighbours, is_link, on_link}
use Rattle.run_types.specs.Partial.{◌>>=◌}
use Rattle.run_types.specs.Tables.{Each, Pair, list_at, pair_cmp}
use Rattle.mesh_semantics.specs.Sound.{IsPlaced, IsSound}
use Rattle.mesh_semantics.specs.Standing as S
use Rattle.mesh_semantics.specs.Standing.{Standing, standing}
use Rattle.run_types.proofs.Laws.{both, equals, same_some}
use Rattle.node_semantics.specs.Node.{NodeState, Slot, name_at}
use Rattle.node_semantics.specs.Machine.{any_faulted, is_machine_quiet}
use Rattle.node_semantics.specs.Standings.{brings, is_on_way, machine_standing, slot_standing, standing_in}
use Rattle.node_semantics.specs.StandsFor.{AtName, MachineStandsFor, packets, slot_at, slot_in}
use Rattle.node_semantics.specs.WiresStandFor.{StandsFor}
use Rattle.node_semantics.proofs.Laws.{acknowledged_same, any_fault, class_kept, nothing_stands, object_stands, objects_count, quiet_agrees, whole_name, any_on_links}
use Rattle.mesh_of_code.specs.Coded.{Placed, class_number, coded}
use Rattle.mesh_of_code.specs.CodeInvariant.{IsOfCode}
use Rattle.mesh_of_code.proofs.Laws.{code_keeps, code_lawful, code_requests}
use Rattle.rendezvous_protocol.specs.declared.packet.Packet.{Packet}
use Rattle.rendezvous_protocol.specs.Packets.{numbered}
use Rattle.mesh_routing.specs.Links.{LinksOf}
use Rattle.node_state.specs.NodeOf.{NodeOf}
use Rattle.machine_network.specs.LinkWires.{LinkWires, numbered_link, numbered_wires}
use Rattle.machine_network.specs.MachineOn.{AreOfUnit, machine_on}
use Rattle.machine_network.proofs.Laws.{list_numbered, state_there, node_behind}
use Rattle.pool_machine.specs.Parts.{NodesInvariant, NodesAreWellFormed, machine_from}
use Rattle.pool_machine.specs.ObjectReport.{is_brought, slot_class}
use Rattle.pool_machine.specs.Answers.{class_at, standing_at}
use Rattle.pool_machine.proofs.Searches.{found_none}
use Rattle.pool_machine.proofs.WithoutWires.{stands_rewired}

-- a name's slot

pub is_there : {X : Type 0} (z : Option X) → is_some z ≡ true → (x : X) × (z ≡ Some x)
is_there None h = absurd (cc)
is_there (Some x) h = (x, refl)

pub record Found (nodes : List NodeOf) (o : ℕ) : Type 0 where
  pub node : NodeOf
  pub slot : Slot Placed
  pub node_is : slice_get nodes (node_of o) ≡ Some node
  pub slot_is : slice_get node.state.slots (slot_of o) ≡ Some slot

pub slot_found : (nodes : List NodeOf) (o : ℕ) → is_some (slot_in (slice_get (map (λ n. n.state) nodes) (node_of o)) (slot_of o)) ≡ true → Found nodes o
slot_found nodes o h = by (slice_get (map (λ (n : NodeOf). n.state) nodes) (node_of o)) refl h
  where
    by : (z : Option (NodeState Placed)) → slice_get (map (λ n. n.state) nodes) (node_of o) ≡ z → is_some (slot_in z (slot_of o)) ≡ true → Found nodes o
    by None e t = absurd (cc)
    by (Some x) e t =
        let n = node_behind nodes (node_of o) x e in
        let s = is_there (slice_get x.slots (slot_of o)) t in
        record { node = n.0; slot = s.0; node_is = n.1; slot_is = ap (λ (z : NodeState Placed). slice_get z.slots (slot_of o)) n.2 ∙ s.1 }

-- its node is listed
pub node_listed : (nodes : List NodeOf) (o : ℕ) → is_some (slot_in (slice_get (map (λ n. n.state) nodes) (node_of o)) (slot_of o)) ≡ true → node_of o < length nodes
node_listed nodes o h = let f = slot_found nodes o h in slice_get_within nodes (node_of o) f.node f.node_is

pub slot_is_at : (nodes : List NodeOf) (links : List (Pair × List Packet)) (o : ℕ) (f : Found nodes o) → slot_at (machine_from nodes links) o ≡ Some f.slot
slot_is_at nodes links o f = ap (λ (z : Option (NodeState Placed)). slot_in z (slot_of o)) (state_there nodes (node_of o) f.node f.node_is) ∙ f.slot_is

-- packets that bring a value

brought_numbered : (o : ℕ) (xs : List Packet) → list_any (λ (p : NumberedPacket). brings o p.packet) (map numbered xs) ≡ is_brought o xs
brought_numbered o [] = refl
brought_numbered o (x ∷ xs) = ap (λ b. brings o (numbered x).packet || b) (brought_numbered o xs)

brought_packets : (o : ℕ) (xs : List Packet) → list_any (brings o) (packets (map numbered xs)) ≡ is_brought o xs
brought_packets o [] = refl
brought_packets o (x ∷ xs) = ap (λ b. brings o (numbered x).packet || b) (brought_packets o xs)

pub on_way : (o : ℕ) (k : Pair) (es : List (Pair × List Packet)) → is_brought o (list_at pair_cmp k es) ≡ true → is_on_way o (map numbered_link es) ≡ true
on_way o k [] h = absurd (let z : false ≡ true = h in cc)
on_way o k (e ∷ es) h = by (eq_by_cmp pair_cmp k e.0) h (on_way o k es)
  where
    at : (a b : Bool) → a ≡ true → (a || b) ≡ true
    at a b i = ap (λ z. z || b) i

    past : (a b : Bool) → b ≡ true → (a || b) ≡ true
    past true b i = refl
    past false b i = i

    by : (b : Bool) → is_brought o (unwrap_or (cond b (Some e.1) (find pair_cmp k es)) []) ≡ true → (is_brought o (list_at pair_cmp k es) ≡ true → is_on_way o (map numbered_link es) ≡ true)
        → is_on_way o (map numbered_link (e ∷ es)) ≡ true
    by true i r = at (list_any (λ (p : NumberedPacket). brings o p.packet) (map numbered e.1)) (is_on_way o (map numbered_link es)) (brought_numbered o e.1 ∙ i)
    by false i r = past (list_any (λ (p : NumberedPacket). brings o p.packet) (map numbered e.1)) (is_on_way o (map numbered_link es)) (r i)

neither : (a b : Bool) → (a || b) ≡ false → (a ≡ false) × (b ≡ false)
neither true b h = absurd (cc)
neither false b h = (refl, h)

each_at : {X : Type 0} (P : X → Type 0) (xs : List X) (i : ℕ) (x : X) → Each P xs → slice_get xs i ≡ Some x → P x
each_at P [] i x h e = absurd (cc)
each_at P (y ∷ xs) zero x h e = subst P (same_some e) h.0
each_at P (y ∷ xs) (suc i) x h e = each_at P xs i x h.1 e

fails_at : (b : Del.Packet → Bool) (k : Pair) (ls : List (Pair × Del.Packet)) (i : ℕ) (e : Pair × Del.Packet) → is_link k.0 k.1 e.0 ≡ true → slice_get ls i ≡ Some e
    → list_any b (on_link ls k) ≡ false → b e.1 ≡ false
fails_at b k [] i e own at h = absurd (cc)
fails_at b k (z ∷ ls) zero e own at h =
    let g : list_any b (if is_link k.0 k.1 e.0 then e.1 ∷ on_link ls k else on_link ls k) ≡ false =
    subst (λ (y : Pair × Del.Packet). list_any b (if is_link k.0 k.1 y.0 then y.1 ∷ on_link ls k else on_link ls k) ≡ false) (same_some at) h in
    let f : (b e.1 || list_any b (on_link ls k)) ≡ false = subst (λ t. list_any b (if t then e.1 ∷ on_link ls k else on_link ls k) ≡ false) own g in
    (neither (b e.1) (list_any b (on_link ls k)) f).0
fails_at b k (z ∷ ls) (suc i) e own at h = by (is_link k.0 k.1 z.0) h (fails_at b k ls i e own at)
  where
    by : (t : Bool) → list_any b (if t then z.1 ∷ on_link ls k else on_link ls k) ≡ false → (list_any b (on_link ls k) ≡ false → b e.1 ≡ false) → b e.1 ≡ false
    by true g r = r (neither (b z.1) (list_any b (on_link ls k)) g).1
    by false g r = r g

-- quiet, by the configuration that nodes, links and wires stand for
pub quiet_is : (u : Code) (l : Placement) (nodes : List NodeOf) (k : LinksOf Packet) (parts : NodesAreWellFormed u l nodes k) (ws : Option LinkWires) (c : Config Placed) (d : Delay)
    → IsSound (coded u) (IsOfCode u) l c d → StandsFor (coded u) l (machine_on nodes k.links ws) c d → is_machine_quiet (coded u) (machine_on nodes k.links ws) ≡ is_quiet (coded u) c d
quiet_is u l nodes k parts ws c d sound st =
    quiet_agrees (coded u) (IsOfCode u) (code_lawful u parts.proper) (code_requests u) l (machine_on nodes k.links ws) c d sound.state st.state
    (acknowledged_same (option_map numbered_wires ws) d.wires (map numbered_link k.links) st.wires)

-- what stands for it, with wires left out of sight
pub state_of : (u : Code) (l : Placement) (nodes : List NodeOf) (links : List (Pair × List Packet)) (ws : Option LinkWires) (c : Config Placed) (d : Delay)
    → StandsFor (coded u) l (machine_on nodes links ws) c d → MachineStandsFor (coded u) l (machine_from nodes links) c d
state_of u l nodes links ws c d st = stands_rewired (coded u) l c d d.wires (machine_on nodes links ws) None st.state

module _ (u : Code) (l : Placement) (nodes : List NodeOf) (k : LinksOf Packet) (parts : NodesAreWellFormed u l nodes k) (c : Config Placed) (d : Delay)
    (sound : IsSound (coded u) (IsOfCode u) l c d) (st : MachineStandsFor (coded u) l (machine_from nodes k.links) c d) where
  pub faults_told : any_faulted (coded u) (machine_from nodes k.links) ≡ list_any (λ (e : ℕ × Placed). is_some e.1.fault) c.objects
  faults_told = any_fault (coded u) (code_keeps u) l (machine_from nodes k.links) c d st ((code_lawful u parts.proper).sorted c sound.state.typed)

  pub objects_told : (i : ℕ) (n : NodeOf) → slice_get nodes i ≡ Some n → length n.state.slots ≡ object_count c i
  objects_told i n here = objects_count (coded u) (IsOfCode u) (code_lawful u parts.proper) (code_requests u) l (machine_from nodes k.links) c d st sound.state.typed i n.state (state_there nodes i n here)

  pub standing_told : (o : ℕ) → machine_standing (coded u) (machine_from nodes k.links) o ≡ standing_at u c d o
  standing_told o = by (object_of c o) refl
    where
      by : (z : Option Placed) → object_of c o ≡ z → machine_standing (coded u) (machine_from nodes k.links) o ≡ (z >>= λ x. Some (standing (coded u) d o x))
      by None e = nothing_stands (coded u) l (machine_from nodes k.links) c d st o e
      by (Some x) e = object_stands (coded u) (IsOfCode u) (code_lawful u parts.proper) (code_requests u) l (machine_from nodes k.links) c d sound st o x e

  pub class_told : (o : ℕ) → slot_class u (slot_at (machine_from nodes k.links) o) ≡ class_at u c o
  class_told o = by (slot_at (machine_from nodes k.links) o) refl (object_of c o) refl (st.named o)
    where
      by : (s : Option (Slot Placed)) → slot_at (machine_from nodes k.links) o ≡ s → (z : Option Placed) → object_of c o ≡ z → AtName (coded u) o s z (held d o) (arrived_at d o)
          → slot_class u s ≡ (z >>= λ x. Some ((coded u).class x))
      by None i None e a = refl
      by (Some s) i (Some x) e a = ap Some (class_kept (coded u) (code_keeps u) l (machine_from nodes k.links) c d st o x s e i)
      by None i (Some x) e a = absurd a
      by (Some s) i None e a = absurd a

-- a value that is on no link of the mesh is not on its way
pub none_on_way : (u : Code) (l : Placement) (nodes : List NodeOf) (k : LinksOf Packet) → NodesInvariant u l nodes k → (o : ℕ)
    → ((a b : ℕ) → a < l.width * l.height → b < l.width * l.height → AreNeighbours l.width a b → is_brought o (list_at pair_cmp (a, b) k.links) ≡ false)
    → is_on_way o (map numbered_link k.links) ≡ false
none_on_way u l nodes k kept o none =
    any_on_links (brings o) (map numbered_link k.links) kept.delay.links kept.stands.state.in_order kept.stands.state.links
    ∙ found_none (λ (e : Pair × Del.Packet). brings o e.1) kept.delay.links (λ i e at.
    let placed = each_at (IsPlaced l kept.config) kept.delay.links i e kept.sound.state.packets at in
    let on : packets (map numbered (list_at pair_cmp e.0 k.links)) ≡ on_link kept.delay.links e.0 = ap packets (sym (list_numbered e.0 k.links)) ∙ kept.stands.state.links e.0 in
    fails_at (brings o) e.0 kept.delay.links i e (both (e.0.0 == e.0.0) (e.0.1 == e.0.1) (equals e.0.0) (equals e.0.1)) at
    (ap (list_any (brings o)) (sym on) ∙ brought_packets o (list_at pair_cmp e.0 k.links) ∙ none e.0.0 e.0.1 placed.link.from placed.link.to placed.link.beside))

-- where the object of a slot stands

module _ (u : Code) (l : Placement) (nodes : List NodeOf) (k : LinksOf Packet) (o : ℕ) (f : Found nodes o) where
  pub due_told : is_on_way o (map numbered_link k.links) ≡ true → Some S.Due ≡ machine_standing (coded u) (machine_from nodes k.links) o
  due_told h =
      sym (ap (standing_in (coded u) (machine_from nodes k.links) o) (slot_is_at nodes k.links o f)
      ∙ ap (λ b. Some (if b then S.Due else slot_standing (coded u) o f.slot)) h)

  pub slot_told : NodesAreWellFormed u l nodes k → (told : Standing) → is_on_way o (map numbered_link k.links) ≡ false
      → ((s : Slot Placed) → slice_get f.node.state.slots (slot_of o) ≡ Some s → told ≡ slot_standing (coded u) (name_at f.node.id (slot_of o)) s)
      → Some told ≡ machine_standing (coded u) (machine_from nodes k.links) o
  slot_told parts told h says =
      ap Some (says f.slot f.slot_is ∙ ap (λ n. slot_standing (coded u) n f.slot) (ap (λ n. name_at n (slot_of o)) (parts.each (node_of o) f.node f.node_is).id ∙ whole_name o))
      ∙ sym (ap (standing_in (coded u) (machine_from nodes k.links) o) (slot_is_at nodes k.links o f)
      ∙ ap (λ b. Some (if b then S.Due else slot_standing (coded u) o f.slot)) h)

-- the class of a slot's object
module _ (u : Code) (nodes : List NodeOf) (o : ℕ) (f : Found nodes o) (parts : AreOfUnit u nodes) where
  class_there : (class : ClassCode) × (slice_get u.classes f.slot.state.object.class ≡ Some class)
  class_there = let z = ((parts (node_of o) f.node f.node_is).1.slots (slot_of o) f.slot f.slot_is).fits in (z.class, z.is_class)

  pub class_below : (class : ℕ) → class ≡ f.slot.state.object.class → class < length u.classes
  class_below class e = let z = class_there in let a = slice_get_within u.classes f.slot.state.object.class z.0 z.1 in omega (arith, a, e)

  pub class_is_told : (class : ℕ) (d : ClassCode) → class ≡ f.slot.state.object.class
      → Some (get_or u.classes class d).name.0 ≡ slot_class u (slot_in (slice_get (map (λ n. n.state) nodes) (node_of o)) (slot_of o))
  class_is_told class d e =
      let z = class_there in
      let a : get_or u.classes class d ≡ z.0 = ap (λ n. get_or u.classes n d) e ∙ get_or_from_slice_get u.classes f.slot.state.object.class z.0 d z.1 in
      ap (λ (y : ClassCode). Some y.name.0) a ∙ sym (ap (slot_class u) (slot_is_at nodes [] o f) ∙ ap (λ y. Some (class_number y)) z.1)

-- the slot of a name in the node that was found
abbrev pub found_at : (nodes : List NodeOf) (o : ℕ) (f : Found nodes o) (n : NodeOf) → n ≡ get_or nodes (node_of o) n → Found nodes o
found_at nodes o f n e = record {
  node = n;
  slot = f.slot;
  node_is = f.node_is ∙ ap Some (sym (e ∙ get_or_from_slice_get nodes (node_of o) f.node n f.node_is));
  slot_is = subst (λ (z : NodeOf). slice_get z.state.slots (slot_of o) ≡ Some f.slot) (sym (e ∙ get_or_from_slice_get nodes (node_of o) f.node n f.node_is)) f.slot_is;
}

-- the same in a mesh of the placement's size
pub none_on_mesh : (u : Code) (l : Placement) (nodes : List NodeOf) (k : LinksOf Packet) → NodesInvariant u l nodes k → (o w h : ℕ) → w ≡ l.width → h ≡ l.height
    → ((a b : ℕ) → a < w * h → b < w * h → AreNeighbours w a b → is_brought o (list_at pair_cmp (a, b) k.links) ≡ false)
    → is_on_way o (map numbered_link k.links) ≡ false
none_on_mesh u l nodes k kept o w h width height none =
    none_on_way u l nodes k kept o
    (subst (λ v. (a b : ℕ) → a < v * l.height → b < v * l.height → AreNeighbours v a b → is_brought o (list_at pair_cmp (a, b) k.links) ≡ false) width
    (subst (λ v. (a b : ℕ) → a < w * v → b < w * v → AreNeighbours w a b → is_brought o (list_at pair_cmp (a, b) k.links) ≡ false) height none))
