-- Delays with which the start of a program is not sound; the definition rejects each of them.
use Rattle.std.proofs.Common.{◌≡◌, ◌⊎◌, inl, inr, refl, ℕ, List, [], ◌∷◌, Option, Some, None, true, false, arith}
use Rattle.run_types.specs.declared.types.Value.TheVariants as V
use Rattle.pool_relation.specs.Action.{Object}
use Rattle.mesh_semantics.specs.Config.{Config}
use Rattle.run_types.specs.Tables.{Pair}
use Rattle.mesh_semantics.specs.Delay.{Packet, Create, Created, Request, Result, Arrival, Holding, Posted, Due, Delay}
use Rattle.mesh_semantics.specs.Sound.{Sent, IsSound}
use Rattle.mesh_semantics.specs.Record.{start}
use Rattle.mesh_of_terms.specs.Terms.{terms}
use Rattle.mesh_of_terms.proofs.TwoNodes.{Server, twice, program, placement}
use Rattle.mesh_of_terms.proofs.Shorthand.{at, int}

-- what is on links, what has arrived, and what objects wait for
abbrev delay : List (Pair × Packet) → List (ℕ × Arrival) → List (ℕ × Holding) → Delay
delay links arrived holding = record { links = links; arrived = arrived; holding = holding; last = []; made = []; wires = None }

-- the start of the program has the property; there the root is alone, at slot 0 of node 0, and is about to make a server at node 1
abbrev AtStart : Option (Config Object) → (Config Object → Type 0) → Type 0
AtStart None P = ⊥
AtStart (Some c) P = P c

module _ (W : Config Object → Type 0) where
  -- the start is not sound with this delay
  abbrev IsRefused : Delay → Type 0
  IsRefused d = AtStart (start (terms program) placement) (λ c. IsSound (terms program) W placement c d → ⊥)

  -- the packet of an object that waits for nothing
  a_stray_packet : IsRefused (delay (((0, 1), Request (at 0 0) (at 0 0) twice []) ∷ []) [] [])
  a_stray_packet s = absurd (let e = (s.state.owned (at 0 0)).0 in cc)

  -- a call that has arrived of an object that waits for nothing
  a_stray_call : IsRefused (delay [] ((at 0 0, record { sender = at 0 0; is_call = true; method = twice; args = [] }) ∷ []) [])
  a_stray_call s = absurd (let e = (s.state.owned (at 0 0)).0 in cc)

  -- an object that waits, and nothing is on its way
  posted_without_a_packet : IsRefused (delay [] [] ((at 0 0, Posted) ∷ []))
  posted_without_a_packet s = absurd (let e = (s.state.owned (at 0 0)).0.2 in cc)

  -- an object that is at a new, and has posted a call
  posted_another_step : IsRefused (delay (((0, 1), Request (at 0 0) (at 1 0) twice (int 21 ∷ [])) ∷ []) [] ((at 0 0, Posted) ∷ []))
  posted_another_step s = absurd (let e = (s.state.owned (at 0 0)).0.2 in cc)

  -- a create for the creator's own node
  posted_to_itself : IsRefused (delay (((0, 1), Create (at 0 0) 0 Server) ∷ []) [] ((at 0 0, Posted) ∷ []))
  posted_to_itself s = absurd (s.state.packets.0.way.0 refl)

  -- a packet on a link that leads away from its goal
  a_packet_off_its_way : IsRefused (delay (((1, 0), Create (at 0 0) 1 Server) ∷ []) [] ((at 0 0, Posted) ∷ []))
  a_packet_off_its_way s = absurd (s.state.packets.0.way.0 refl)

  -- an object due one value, for which another one is on its way
  due_another_value : IsRefused (delay (((1, 0), Result (at 0 0) (int 1)) ∷ []) [] ((at 0 0, Due (int 2)) ∷ []))
  due_another_value s = on (s.state.owned (at 0 0)).0.1
    where
      on : (Sent (Result (at 0 0) (int 1)) ∷ [] ≡ Sent (Result (at 0 0) (int 2)) ∷ []) ⊎ ((n : ℕ) × (int 2 ≡ V.Ref n) × (Sent (Result (at 0 0) (int 1)) ∷ [] ≡ Sent (Created (at 0 0) n) ∷ [])) → ⊥
      on (inl e) = absurd (grind (arith, e))
      on (inr e) = absurd (let i = e.1 in cc)

  -- a message that has arrived, and is in no list
  a_message_of_no_list : IsRefused (delay [] ((at 0 0, record { sender = at 0 0; is_call = false; method = twice; args = [] }) ∷ []) [])
  a_message_of_no_list s = absurd (let e = s.state.lists (at 0 0) (at 0 0) in cc)

  -- a message of no object
  a_message_of_nobody : IsRefused (delay [] ((at 0 0, record { sender = at 1 0; is_call = false; method = twice; args = [] }) ∷ []) [])
  a_message_of_nobody s = absurd (let e = s.state.arrivals.0.1 in cc)

  -- a name of no object that waits
  nobody_waits : IsRefused (delay [] [] ((at 1 0, Posted) ∷ []))
  nobody_waits s = absurd (let e = (s.state.owned (at 1 0)).0 in cc)
