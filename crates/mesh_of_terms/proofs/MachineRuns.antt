-- Machines of nodes over terms, computed: the lines that a machine writes are those of the record. For the call
-- between two nodes, the place of its request number and the status of the caller are computed after each event.
use Rattle.std.proofs.Common.{◌≡◌, refl, ℕ, zero, suc, ◌+◌, List, [], ◌∷◌, ◌++◌, Option, Some, None, true}
use Rattle.std.specs.Prelude.{flat_map, slice_get, nat_lt, length, if◌then◌else◌}
use Rattle.std.specs.List.{list_all}
use Rattle.run_types.specs.declared.types.Event.{Event}
use Rattle.run_types.specs.declared.types.Event.TheVariants.{Turn, Link, Wire}
use Rattle.mesh_semantics.specs.RecordOf.{record_of}
use Rattle.mesh_semantics.specs.Standing.{Standing, Ready, Finished, Calls, Creates, Due}
use Rattle.pool_relation.specs.Action.{Object}
use Rattle.node_semantics.specs.Node.{Slot, NodeState}
use Rattle.mesh_semantics.specs.NumberedPackets.{NumberedPacket}
use Rattle.node_semantics.specs.Machine as M
use Rattle.node_semantics.specs.Machine.{Machine, MachineActed, machine_act, machine_start}
use Rattle.node_semantics.specs.StandsFor.{slot_at, request_of}
use Rattle.node_semantics.specs.Standings.{machine_standing}
use Rattle.node_semantics.specs.MachineLines.{machine_lines, FreshAlong}
use Rattle.node_semantics.proofs.Laws.{is_unused, fresh_along}
use Rattle.mesh_of_terms.specs.Terms.{terms}
use Rattle.mesh_of_terms.proofs.Shorthand.{at}
use Rattle.mesh_of_terms.proofs.TwoNodes as Two
use Rattle.mesh_of_terms.proofs.FourNodes as Four

-- the buffer on four nodes, whose 805 events end quiet

abbrev round : List Event
round =
    Turn 0 ∷ Turn 1 ∷ Turn 2 ∷ Turn 3
    ∷ Link 0 1 ∷ Link 0 2 ∷ Link 1 0 ∷ Link 1 3 ∷ Link 2 0 ∷ Link 2 3 ∷ Link 3 1 ∷ Link 3 2
    ∷ []

abbrev pub rounds : ℕ → List Event
rounds zero = []
rounds (suc k) = round ++ rounds k

-- so many numbers that rise from k
abbrev pub rising : ℕ → ℕ → List ℕ
rising k zero = []
rising k (suc n) = k ∷ rising (k + 1) n

the_lines_over_four_nodes :
    machine_lines (terms Four.program) Four.placement 50 (rounds 70) (rising 0 840) ≡ (record_of (terms Four.program) Four.placement 50 (rounds 70)).lines
the_lines_over_four_nodes = refl

-- the least number that is not out at the node of the event
abbrev least : ℕ → ℕ → List (Slot Object) → ℕ
least zero k slots = k
least (suc more) k slots = if is_unused k slots then k else least more (k + 1) slots

abbrev least_in : Option (NodeState Object) → ℕ
least_in None = 0
least_in (Some x) = least (length x.slots) 0 x.slots

abbrev least_at : Machine Object → Event → ℕ
least_at m (Turn n) = least_in (slice_get m.nodes n)
least_at m (Link a b) = 0
least_at m (Wire w a b) = 0

abbrev on_machine : (Machine Object → List ℕ) → MachineActed Object → List ℕ
on_machine go (M.Acts what m) = go m
on_machine go _ = []

-- numbers that are used again as soon as they are free
abbrev least_along : Machine Object → List Event → List ℕ
least_along m [] = []
least_along m (e ∷ es) = least_at m e ∷ on_machine (λ m'. least_along m' es) (machine_act (terms Four.program) Four.placement 50 (least_at m e) m e)

abbrev least_numbers : Option (Machine Object) → List ℕ
least_numbers None = []
least_numbers (Some m) = least_along m (rounds 70)

abbrev reused : List ℕ
reused = least_numbers (machine_start (terms Four.program) Four.placement)

reused_is_fresh : FreshAlong (terms Four.program) Four.placement 50 (rounds 70) reused
reused_is_fresh = fresh_along (terms Four.program) Four.placement 50 (rounds 70) reused refl

the_lines_with_numbers_used_again :
    machine_lines (terms Four.program) Four.placement 50 (rounds 70) reused ≡ (record_of (terms Four.program) Four.placement 50 (rounds 70)).lines
the_lines_with_numbers_used_again = refl

-- no node has more than three objects that ask for anything: on the first one the main object, a producer and a consumer
three_numbers_do : list_all (λ k. nat_lt k 3) reused ≡ true
three_numbers_do = refl

-- the call between two nodes; the number 7 is used for both requests

abbrev caller : ℕ
caller = at 0 0

abbrev server : ℕ
server = at 1 0

abbrev callers_in : Option (Slot Object) → List ℕ
callers_in None = []
callers_in (Some s) = s.callers

abbrev numbers_of : List NumberedPacket → List (Option ℕ)
numbers_of [] = []
numbers_of (p ∷ ps) = p.number ∷ numbers_of ps

-- the number of the caller's request, the numbers of the callers that the server serves, those on the links, and where the caller stands
abbrev Seen : Type 0
Seen = Option ℕ × List ℕ × List (Option ℕ) × Option Standing

abbrev seen : Option (Machine Object) → List Seen
seen None = []
seen (Some m) = (request_of m caller, callers_in (slot_at m server), flat_map (λ e. numbers_of e.1) m.links, machine_standing (terms Two.program) m caller) ∷ []

abbrev machine_after : MachineActed Object → Option (Machine Object)
machine_after (M.Acts what m) = Some m
machine_after _ = None

-- after each event, each with its number
abbrev all_seen : Option (Machine Object) → List (Event × ℕ) → List Seen
all_seen None es = []
all_seen (Some m) [] = []
all_seen (Some m) (e ∷ es) =
    seen (machine_after (machine_act (terms Two.program) Two.placement 10 e.1 m e.0)) ++ all_seen (machine_after (machine_act (terms Two.program) Two.placement 10 e.1 m e.0)) es

the_number_of_a_call : all_seen (machine_start (terms Two.program) Two.placement) (
    (Turn 0, 7) ∷ (Link 0 1, 0) ∷ (Link 1 0, 0)
    ∷ (Turn 0, 7) ∷ (Turn 0, 7) ∷ (Link 0 1, 0) ∷ (Turn 0, 8)
    ∷ (Turn 1, 7) ∷ (Turn 1, 7) ∷ (Turn 1, 7) ∷ (Link 1 0, 0) ∷ (Turn 0, 7)
    ∷ []
    ) ≡
    -- a new object is asked for, it is made, and its name comes
    (Some 7, [], Some 7 ∷ [], Some (Creates Two.Server 1)) ∷ (Some 7, [], Some 7 ∷ [], Some Due) ∷ (None, [], [], Some Ready)
    -- a local turn; the call is posted, and arrives; the caller has no turn
    ∷ (None, [], [], Some Ready) ∷ (Some 7, [], Some 7 ∷ [], Some (Calls server Two.twice)) ∷ (Some 7, [], [], Some (Calls server Two.twice)) ∷ (Some 7, [], [], Some (Calls server Two.twice))
    -- the call is answered, a local turn, the value leaves, and comes; the caller writes it
    ∷ (Some 7, 7 ∷ [], [], Some (Calls server Two.twice)) ∷ (Some 7, 7 ∷ [], [], Some (Calls server Two.twice)) ∷ (Some 7, [], Some 7 ∷ [], Some Due)
    ∷ (None, [], [], Some Ready) ∷ (None, [], [], Some Finished)
    ∷ []
the_number_of_a_call = refl
