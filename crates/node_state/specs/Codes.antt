-- The encoding of a node's state in the logic, for objects of code.
use Rattle.std.specs.Prelude.{ℕ, Bool, List, Option, refl}
use Rattle.std.specs.Coded.{Coded, code_by, coded×, coded_bool, coded_list, coded_option, coded_ℕ}
use Rattle.run_types.specs.declared.types.Value.{Value}
use Rattle.run_types.specs.declared.types.Error.{Error}
use Rattle.run_types.specs.declared.frames.CodeObject.{CodeObject}
use Rattle.mesh_of_code.specs.Coded.{Placed}
use Rattle.node_semantics.specs.Node.{NodeState, NumberedArrival, Slot}

abbrev pub placed_code : Coded CodeObject → Coded Error → Coded Placed
placed_code x e =
    code_by (CodeObject × (Option Error × Option (ℕ × ℕ))) (coded× x (coded× (coded_option e) (coded_option (coded× coded_ℕ coded_ℕ))))
    (λ p. (p.object, (p.fault, p.served))) (λ t. record { object = t.0; fault = t.1.0; served = t.1.1 }) (λ _. refl)

abbrev pub arrival_code : Coded Value → Coded NumberedArrival
arrival_code v =
    code_by (Option ℕ × (ℕ × (Bool × (ℕ × List Value)))) (coded× (coded_option coded_ℕ) (coded× coded_ℕ (coded× coded_bool (coded× coded_ℕ (coded_list v)))))
    (λ a. (a.number, (a.message.sender, (a.message.is_call, (a.message.method, a.message.args)))))
    (λ t. record { number = t.0; message = record { sender = t.1.0; is_call = t.1.1.0; method = t.1.1.1.0; args = t.1.1.1.1 } }) (λ _. refl)

abbrev pub slot_code : Coded CodeObject → Coded Error → Coded Value → Coded (Slot Placed)
slot_code x e v =
    code_by (Placed × (Option ℕ × (List ℕ × (ℕ × List NumberedArrival))))
    (coded× (placed_code x e) (coded× (coded_option coded_ℕ) (coded× (coded_list coded_ℕ) (coded× coded_ℕ (coded_list (arrival_code v))))))
    (λ s. (s.state, (s.request, (s.callers, (s.goal, s.mailbox)))))
    (λ t. record { state = t.0; request = t.1.0; callers = t.1.1.0; goal = t.1.1.1.0; mailbox = t.1.1.1.1 }) (λ _. refl)

abbrev pub state_code : Coded CodeObject → Coded Error → Coded Value → Coded (NodeState Placed)
state_code x e v =
    code_by (List (Slot Placed) × (Option ℕ × List ℕ)) (coded× (coded_list (slot_code x e v)) (coded× (coded_option coded_ℕ) (coded_list coded_ℕ)))
    (λ s. (s.slots, (s.last, s.made))) (λ t. record { slots = t.0; last = t.1.0; made = t.1.1 }) (λ _. refl)
