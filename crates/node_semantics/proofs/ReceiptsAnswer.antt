-- A node answers each packet that it can receive.
use Rattle.std.proofs.Common.{◌≢◌, refl, ℕ, Option, Some, None, Bool, true, false}
use Rattle.std.specs.Prelude.{nat_lt, length, ◌+◌, if◌then◌else◌}
use Rattle.run_types.specs.declared.types.Placement.{Placement}
use Rattle.mesh_semantics.specs.Language.{Language}
use Rattle.mesh_semantics.specs.Delay as D
use Rattle.mesh_semantics.specs.Delay.{Packet, Delay}
use Rattle.mesh_semantics.specs.NumberedPackets.{NumberedPacket}
use Rattle.run_types.specs.PathFacts.{In}
use Rattle.run_types.specs.declared.types.FullKind.{FullKind}
use Rattle.run_types.specs.declared.types.FullKind.TheVariants as F
use Rattle.node_semantics.specs.Node as N
use Rattle.node_semantics.specs.Node.{IsStep, NodeState, NodeActed, turn_act, receipt_act, receipt, created_for, within_node, message_count, frames_in, packet_count}
use Rattle.node_semantics.specs.Receives.{IsReceivable, Meets}

module _ {S : Type 0} (g : Language S) where
  limited : (b : Bool) (k : FullKind) (r : NodeActed S) → IsStep r → IsStep (if b then N.Full k else r)
  limited true k r h = tt
  limited false k r h = h

  -- a limit is an answer
  pub within_answers : (l : Placement) (z : ℕ) (r : NodeActed S) → IsStep r → IsStep (within_node g l z r)
  within_answers l z N.Nothing h = absurd h
  within_answers l z N.Idle h = absurd h
  within_answers l z (N.Full k) h = tt
  within_answers l z (N.Acts w p x) h = limited (nat_lt l.objects (length x.slots)) F.Heap _ (limited (nat_lt l.frames (frames_in g x.slots)) F.Frames _
      (limited (nat_lt l.cells (message_count x.slots + z + packet_count p)) F.Cells (N.Acts w p x) h))

  -- an object can be made of each class
  module _ (makes : (k : ℕ) → In k g.classes → g.made k ≢ None) where
    meets_answers : (n : ℕ) (x : NodeState S) (num : Option ℕ) (p : Packet) → Meets g n x num p → IsStep (receipt g n x num p)
    meets_answers n x num (D.Create o goal class) h = by (g.made class) (makes class h.2)
      where
        by : (y : Option S) → y ≢ None → IsStep (created_for n x num o class y)
        by None f = absurd (f refl)
        by (Some y) f = tt
    meets_answers n x num (D.Created o name) h = tt
    meets_answers n x num (D.Request o r m args) h = tt
    meets_answers n x num (D.Result o v) h = tt
    meets_answers n x num (D.Async o r m args) h = tt

    -- any node that is given a packet that it may be given
    pub receive_answers : (l : Placement) (z n : ℕ) (x : NodeState S) (num : Option ℕ) (p : Packet) → IsReceivable g n x num p
        → IsStep (receipt_act g l n z (record { number = num; packet = p }) x)
    receive_answers l z n x num p h = within_answers l z (receipt g n x num p) (meets_answers n x num p h.1)
