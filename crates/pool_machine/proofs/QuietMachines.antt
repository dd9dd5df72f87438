-- An idle event leaves a machine without wires as quiet as it was.
use Rattle.std.proofs.Common.{◌≡◌, refl, sym, ap, ap₂, ◌∙◌, ℕ, List, map, Option, Some, None, is_some, false}
use Rattle.std.specs.Option.{option_map}
use Rattle.run_types.specs.declared.types.Event.{Event}
use Rattle.run_types.specs.declared.types.Event.TheVariants as Ev
use Rattle.run_types.specs.declared.types.What.{What}
use Rattle.run_types.specs.declared.types.What.TheVariants as W
use Rattle.run_types.specs.declared.types.Placement.{Placement}
use Rattle.code_semantics.specs.declared.unit.Unit.{Unit as Code}
use Rattle.mesh_semantics.specs.Config.{Config}
use Rattle.mesh_semantics.specs.Delay.{Delay, Wires}
use Rattle.mesh_semantics.specs.Wired.{AreWiresOf, KeepsWires}
use Rattle.mesh_semantics.specs.Act as A
use Rattle.mesh_semantics.specs.Act.{act, is_quiet}
use Rattle.mesh_semantics.proofs.Laws.{idle_turn, idle_link, idle_wire}
use Rattle.node_semantics.specs.Machine.{is_machine_quiet}
use Rattle.node_semantics.specs.WiresStandFor.{WiresStandFor}
use Rattle.mesh_of_code.specs.Coded.{Placed, coded}
use Rattle.rendezvous_protocol.specs.declared.packet.Packet.{Packet}
use Rattle.mesh_routing.specs.Links.{LinksOf}
use Rattle.node_state.specs.NodeOf.{NodeOf}
use Rattle.machine_network.specs.LinkWires.{LinkWires, numbered_link, numbered_wires}
use Rattle.machine_network.specs.MachineOn.{machine_on}
use Rattle.pool_machine.specs.Parts.{NodesAreWellFormed}
use Rattle.pool_machine.specs.OnWires.{WiredMachineInvariant, EventMakes}
use Rattle.pool_machine.specs.Answers.{IsOfMesh}
use Rattle.pool_machine.specs.DidOf as D
use Rattle.pool_machine.proofs.PostedPackets.{follows}
use Rattle.pool_machine.proofs.EventsOfMachines.{did_line, inside_mesh}
use Rattle.pool_machine.proofs.ReportedStandings.{quiet_is}

-- an idle event changes neither the configuration nor the delay
nothing_changed : (u : Code) (l : Placement) (q : ℕ) (c c' : Config Placed) (d d' : Delay) (e : Event) → KeepsWires d → act (coded u) l q c d e ≡ A.Acts W.Idle c' d' → (c' ≡ c) × (d' ≡ d)
nothing_changed u l q c c' d d' (Ev.Turn n) w h = let r = idle_turn (coded u) l q c c' d d' n h in (r.1, r.2)
nothing_changed u l q c c' d d' (Ev.Link a b) w h = let r = idle_link (coded u) l q c c' d d' a b w h in (r.1, r.2)
nothing_changed u l q c c' d d' (Ev.Wire t a b) w h = let r = idle_wire (coded u) l q c c' d d' t a b h in (r.1, r.2)

module _ (u : Code) (l : Placement) (nodes : List NodeOf) (k : LinksOf Packet) (ws : Option LinkWires) (kept : WiredMachineInvariant u l nodes k ws) (q : ℕ) (e : Event) (inside : IsOfMesh l e)
    (nodes' : List NodeOf) (k' : LinksOf Packet) (ws' : Option LinkWires) (parts : NodesAreWellFormed u l nodes' k') (lossy : is_some ws' ≡ is_some ws) where
  -- there are no wires after it, and so none before it
  no_wires : (o : Option LinkWires) → ws ≡ o → is_some o ≡ false → (p : Option Wires) → WiresStandFor (option_map numbered_wires o) p (map numbered_link k.links) → AreWiresOf p kept.delay
  no_wires None i n None s = tt
  no_wires None i n (Some vs) s = absurd s
  no_wires (Some vs) i n p s = absurd (cc)

  pub same_quiet : ws' ≡ None → (what : What) → EventMakes u l q e (D.Line what) nodes k ws nodes' k' ws' → what ≡ W.Idle
      → is_machine_quiet (coded u) (machine_on nodes k.links ws) ≡ is_machine_quiet (coded u) (machine_on nodes' k'.links ws')
  same_quiet none what h idle =
      let f = follows u l kept.parts.proper kept.parts.suits (machine_on nodes k.links ws) kept.config kept.delay kept.sound kept.stands
      q h.0 e (inside_mesh l e inside) h.1 what (machine_on nodes' k'.links ws') (did_line nodes nodes' k k' ws ws' what _ h.2) in
      let acted : act (coded u) l q kept.config kept.delay e ≡ A.Acts W.Idle f.config f.delay = f.act ∙ ap (λ (w : What). A.Acts w f.config f.delay) idle in
      let plain : KeepsWires kept.delay = no_wires ws refl (sym lossy ∙ ap (λ (o : Option LinkWires). is_some o) none) kept.delay.wires kept.stands.wires in
      let same = nothing_changed u l q kept.config f.config kept.delay f.delay e plain acted in
      quiet_is u l nodes k kept.parts ws kept.config kept.delay kept.sound kept.stands
      ∙ ap₂ (λ (x : Config Placed) (y : Delay). is_quiet (coded u) x y) (sym same.0) (sym same.1)
      ∙ sym (quiet_is u l nodes' k' parts ws' f.config f.delay f.sound f.stands)
