-- The machine after an event.
use Rattle.std.proofs.Common.{◌≡◌, refl, sym, ap, ap₂, subst, ◌∙◌, ℕ, ◌+◌, ◌≤◌, List, length, Option, is_some}
use Rattle.run_types.specs.declared.types.Event.{Event}
use Rattle.run_types.specs.declared.types.Event.TheVariants as Ev
use Rattle.run_types.specs.declared.types.What.{What}
use Rattle.run_types.specs.declared.types.FullKind.{FullKind}
use Rattle.run_types.specs.declared.types.Line.TheVariants as R
use Rattle.run_types.specs.declared.types.Placement.{Placement}
use Rattle.code_semantics.specs.declared.unit.Unit.{Unit as Code}
use Rattle.mesh_semantics.specs.Config.{Config}
use Rattle.mesh_semantics.specs.Delay.{Delay}
use Rattle.mesh_semantics.specs.Act.{act}
use Rattle.mesh_semantics.specs.Record.{shown}
use Rattle.run_types.specs.Tables.{Pair}
use Rattle.node_semantics.specs.Machine as M
use Rattle.node_semantics.specs.Machine.{MachineActed}
use Rattle.node_semantics.specs.WiresStandFor.{StandsFor}
use Rattle.node_semantics.specs.Agrees as G
use Rattle.mesh_of_code.specs.Coded.{Placed, coded}
use Rattle.rendezvous_protocol.specs.declared.packet.Packet.{Packet}
use Rattle.mesh_routing.specs.Links.{LinksOf}
use Rattle.node_state.specs.NodeOf.{NodeOf}
use Rattle.machine_network.specs.LinkWires.{LinkWires}
use Rattle.machine_network.specs.MachineOn.{machine_on}
use Rattle.pool_machine.specs.MachineOf.{MachineOf}
use Rattle.pool_machine.specs.Parts.{NodesAreWellFormed}
use Rattle.pool_machine.specs.OnWires.{WiredMachineInvariant, EachEntered, HaveWires, IsDidOn, EventMakes}
use Rattle.pool_machine.specs.Answers.{IsOfMesh, IsOutcome, MachineRepresents}
use Rattle.pool_machine.specs.SentPackets.{moved}
use Rattle.pool_machine.specs.DidOf.{Did}
use Rattle.pool_machine.specs.DidOf as D
use Rattle.pool_machine.specs.AnswerOf as O
use Rattle.pool_machine.proofs.EnteredPackets.{entered_more}
use Rattle.pool_machine.proofs.PostedPackets.{Following, follows, stays}

pub inside_mesh : (l : Placement) (e : Event) → IsOfMesh l e → G.IsOfMesh l e
inside_mesh l (Ev.Turn n) h = h
inside_mesh l (Ev.Link a b) h = (h.from, h.to)
inside_mesh l (Ev.Wire w a b) h = (h.from, h.to)

module _ (nodes nodes' : List NodeOf) (k k' : LinksOf Packet) (ws ws' : Option LinkWires) where
  pub did_line : (what : What) (t : MachineActed Placed) → IsDidOn (D.Line what) nodes k ws nodes' k' ws' t → t ≡ M.Acts what (machine_on nodes' k'.links ws')
  did_line what (M.Acts w m) h = ap₂ (λ x y. M.Acts x y) (sym h.0) (sym h.1)
  did_line what (M.Full j n) h = absurd h
  did_line what M.Nothing h = absurd h

  pub did_full : (kind : FullKind) (node : ℕ) (t : MachineActed Placed) → IsDidOn (D.Full kind node) nodes k ws nodes' k' ws' t
      → (t ≡ M.Full kind node) × (nodes' ≡ nodes) × (k' ≡ k) × (ws' ≡ ws)
  did_full kind node (M.Full j n) h = (ap₂ (λ x y. M.Full x y) (sym h.0) (sym h.1), h.2, h.3, h.4)
  did_full kind node (M.Acts w m) h = absurd h
  did_full kind node M.Nothing h = absurd h

-- what an event did, for any machine that has these nodes, links and wires
module _ (m : MachineOf) (k : LinksOf Packet) (links : k.links ≡ m.links) (parts : NodesAreWellFormed m.unit m.placement m.nodes k) (q : ℕ) (e : Event) (inside : IsOfMesh m.placement e)
    (nodes' : List NodeOf) (k' : LinksOf Packet) (ws' : Option LinkWires) where
  abbrev Stepped : Did → Type 0
  Stepped did = EventMakes m.unit m.placement q e did m.nodes k m.wires nodes' k' ws'

  stands_there : (c : Config Placed) (d : Delay) → MachineRepresents m c d → StandsFor (coded m.unit) m.placement (machine_on m.nodes k.links m.wires) c d
  stands_there c d s = subst (λ z. StandsFor (coded m.unit) m.placement (machine_on m.nodes z m.wires) c d) (sym links) s.stands

  pub goes_on : (what : What) → Stepped (D.Line what) → (c : Config Placed) (d : Delay) → MachineRepresents m c d
      → Following m.unit m.placement c d q e what (machine_on nodes' k'.links ws')
  goes_on what h c d s =
      follows m.unit m.placement parts.proper parts.suits (machine_on m.nodes k.links m.wires) c d s.sound (stands_there c d s)
      q h.0 e (inside_mesh m.placement e inside) h.1 what (machine_on nodes' k'.links ws') (did_line m.nodes nodes' k k' m.wires ws' what _ h.2)

  pub line_outcome : (what : What) → Stepped (D.Line what) → is_some ws' ≡ is_some m.wires → (moves transitions : ℕ) → moves ≡ m.moves + moved e what → transitions ≡ m.transitions + length (shown what)
      → (c : Config Placed) (d : Delay) → MachineRepresents m c d
      → IsOutcome e m (O.Line (R.Event (m.done + 1) e what))
      (record { unit = m.unit; placement = m.placement; nodes = nodes'; links = k'.links; wires = ws'; done = m.done + 1; moves = moves; transitions = transitions })
      (act (coded m.unit) m.placement q c d e)
  line_outcome what h lossy moves transitions mv tr c d s =
      let f = goes_on what h c d s in
      subst (IsOutcome e m (O.Line (R.Event (m.done + 1) e what))
      (record { unit = m.unit; placement = m.placement; nodes = nodes'; links = k'.links; wires = ws'; done = m.done + 1; moves = moves; transitions = transitions })) (sym f.act)
      (refl, record { unit = refl; placement = refl; lossy = lossy; done = refl; moves = mv; transitions = tr }, record { sound = f.sound; stands = f.stands })

  pub full_outcome : (kind : FullKind) (node : ℕ) → Stepped (D.Full kind node) → (c : Config Placed) (d : Delay) → MachineRepresents m c d
      → IsOutcome e m (O.Full kind node) (record m { nodes = nodes'; links = k'.links; wires = ws' }) (act (coded m.unit) m.placement q c d e)
  full_outcome kind node h c d s =
      let z = did_full m.nodes nodes' k k' m.wires ws' kind node _ h.2 in
      subst (IsOutcome e m (O.Full kind node) (record m { nodes = nodes'; links = k'.links; wires = ws' }))
      (sym (stays m.unit m.placement parts.proper parts.suits (machine_on m.nodes k.links m.wires) c d s.sound (stands_there c d s) q h.0 e (inside_mesh m.placement e inside) h.1 kind node z.0)) (
        refl,
        refl,
        ap₂ (λ (x : List NodeOf) (y : List (Pair × List Packet) × Option LinkWires). record m { nodes = x; links = y.0; wires = y.1 }) z.1
            (ap₂ (λ (y : List (Pair × List Packet)) (w : Option LinkWires). (y, w)) (ap (λ (y : LinksOf Packet). y.links) z.2 ∙ links) z.3),
      )

-- what is kept after it
module _ (u : Code) (l : Placement) (nodes : List NodeOf) (k : LinksOf Packet) (ws : Option LinkWires) (kept : WiredMachineInvariant u l nodes k ws) (q : ℕ) (e : Event) (inside : IsOfMesh l e)
    (nodes' : List NodeOf) (k' : LinksOf Packet) (ws' : Option LinkWires) where
  abbrev SteppedTo : Did → Type 0
  SteppedTo did = EventMakes u l q e did nodes k ws nodes' k' ws'

  pub kept_line : NodesAreWellFormed u l nodes' k' → HaveWires l ws' → (what : What) → SteppedTo (D.Line what) → WiredMachineInvariant u l nodes' k' ws'
  kept_line parts there what h =
      let f = follows u l kept.parts.proper kept.parts.suits (machine_on nodes k.links ws) kept.config kept.delay kept.sound kept.stands
      q h.0 e (inside_mesh l e inside) h.1 what (machine_on nodes' k'.links ws') (did_line nodes nodes' k k' ws ws' what _ h.2) in
      record { parts = parts; there = there; config = f.config; delay = f.delay; sound = f.sound; stands = f.stands }

  pub entered_line : is_some ws' ≡ is_some ws → (what : What) → SteppedTo (D.Line what) → (most : ℕ) → EachEntered (λ n. n ≤ most) ws k.links → EachEntered (λ n. n ≤ most + 1) ws' k'.links
  entered_line lossy what h most below = entered_more u l nodes nodes' k k' q h.0 e what ws ws' lossy (did_line nodes nodes' k k' ws ws' what _ h.2) most below

  pub same_nodes : (kind : FullKind) (node : ℕ) → SteppedTo (D.Full kind node) → nodes' ≡ nodes
  same_nodes kind node h = (did_full nodes nodes' k k' ws ws' kind node _ h.2).1

  pub same_links : (kind : FullKind) (node : ℕ) → SteppedTo (D.Full kind node) → k' ≡ k
  same_links kind node h = (did_full nodes nodes' k k' ws ws' kind node _ h.2).2

  pub same_wires : (kind : FullKind) (node : ℕ) → SteppedTo (D.Full kind node) → ws' ≡ ws
  same_wires kind node h = (did_full nodes nodes' k k' ws ws' kind node _ h.2).3

  pub kept_full : (kind : FullKind) (node : ℕ) → SteppedTo (D.Full kind node) → WiredMachineInvariant u l nodes' k' ws'
  kept_full kind node h =
      subst (λ z. WiredMachineInvariant u l nodes' k' z) (sym (same_wires kind node h))
      (subst (λ z. WiredMachineInvariant u l z k' ws) (sym (same_nodes kind node h)) (subst (λ z. WiredMachineInvariant u l nodes z ws) (sym (same_links kind node h)) kept))
