-- The packets in transit: the count of packets that leave a link, and the delay in which there are none.
use Rattle.std.specs.Prelude.{ℕ, Bool, if◌then◌else◌}
use Rattle.run_types.specs.declared.types.Event.{Event}
use Rattle.run_types.specs.declared.types.Event.TheVariants as Ev
use Rattle.run_types.specs.declared.types.What.{What}
use Rattle.run_types.specs.declared.types.What.TheVariants as W
use Rattle.mesh_semantics.specs.Delay.{Delay, no_delay, no_delay_on_wires}

-- 1 if a packet has left a link, and else 0
abbrev pub moved : Event → What → ℕ
moved (Ev.Turn n) what = 0
moved (Ev.Link a b) W.Idle = 0
moved (Ev.Link a b) (W.Stale n) = 0
moved (Ev.Link a b) what = 1
moved (Ev.Wire w a b) what = 0

-- nothing is in transit, on links that are wires or not
abbrev pub nothing_sent : Bool → Delay
nothing_sent lossy = if lossy then no_delay_on_wires else no_delay
