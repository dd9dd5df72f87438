-- Packets that a node can receive, and the tests of that.
use Rattle.std.proofs.Common.{◌≡◌, inl, inr, refl, sym, ◌∙◌, IsTrue, ℕ, zero, suc, ◌<◌, ◌==◌, List, [], ◌∷◌, length, Option, Some, None, Bool, true, false, arith}
use Rattle.std.specs.Prelude.{is_some, slice_get, nat_lt}
use Rattle.run_types.specs.declared.types.NameId.{NameId}
use Rattle.run_types.specs.ObjectNames.{slot_of}
use Rattle.run_types.specs.PathFacts.{In}
use Rattle.run_types.specs.Tables.{Each}
use Rattle.run_types.proofs.Laws.{equal}
use Rattle.code_semantics.specs.declared.unit.ClassCode.{ClassCode}
use Rattle.code_semantics.specs.declared.unit.Unit.{Unit as Code}
use Rattle.code_semantics.specs.Step.{class_from}
use Rattle.mesh_of_code.specs.Coded.{class_numbers}
use Rattle.mesh_semantics.specs.Language.{Language}
use Rattle.mesh_semantics.specs.Delay as D
use Rattle.mesh_semantics.specs.Delay.{Packet}
use Rattle.node_semantics.specs.Node.{NodeState}
use Rattle.node_semantics.specs.Receives.{HasObject, IsReceivable}
use Rattle.node_state.specs.declared.state.NodeParts.{NodeParts}
use Rattle.node_state.specs.Views.{node_of, slots_of}
use Rattle.node_state.proofs.Laws.{slots_length}
use Rattle.pool_node.specs.Acceptable.{IsAcceptable}
use Rattle.pool_node.specs.MadeCounts.{most_made}
use Rattle.pool_node.proofs.PacketReceipt.{named_there, object_there}

-- a packet that its node expects is acceptable
pub acceptable : {S : Type 0} (g : Language S) (n : ℕ) (x : NodeState S) (number : Option ℕ) (p : Packet) → IsReceivable g n x number p → IsAcceptable g x p
acceptable g n x number (D.Create o goal class) h = h.1.2
acceptable g n x number (D.Created o name) h = tt
acceptable g n x number (D.Request o r m args) h = h.1.2
acceptable g n x number (D.Result o v) h = tt
acceptable g n x number (D.Async o r m args) h = h.1.1

-- a class that was found has the name
pub found_is_in : (n : ℕ) (ks : List ClassCode) (k : NameId) (place : ℕ) → class_from n ks k ≡ Some place → In k.0 (class_numbers ks)
found_is_in n [] k place e = absurd (cc)
found_is_in n (c ∷ ks) k place e = by (c.name.0 == k.0) refl (found_is_in (suc n) ks k place)
  where
    by : (b : Bool) → (c.name.0 == k.0) ≡ b → (class_from (suc n) ks k ≡ Some place → In k.0 (class_numbers ks)) → In k.0 (class_numbers (c ∷ ks))
    by true z r = inl (equal c.name.0 k.0 z)
    by false z r = inr (r (rw z at e))

there_below : {X : Type 0} (xs : List X) (i : ℕ) → i < length xs → (x : X) × (slice_get xs i ≡ Some x)
there_below [] i h = absurd (omega arith)
there_below (x ∷ xs) zero h = (x, refl)
there_below (x ∷ xs) (suc i) h = there_below xs i (omega (arith, h))

-- a name has an object if its slot is below the number of objects
pub object_below : (p : NodeParts) (o : ℕ) → slot_of o < length p.heap.objects → HasObject (node_of p).state o
object_below p o h =
    let a = slots_length p.heap.objects p.outstanding p.faults p.goals p.mailbox.boxes in
    there_below (slots_of p) (slot_of o) (omega (arith, a, h))

-- if the largest count is below a number, each count is
pub made_below : (ks : List ℕ) (most : ℕ) → most_made ks < most → Each (λ k. k < most) ks
made_below [] most h = tt
made_below (k ∷ ks) most h = by (nat_lt (most_made ks) k) refl (made_below ks most)
  where
    by : (b : Bool) → nat_lt (most_made ks) k ≡ b → (most_made ks < most → Each (λ j. j < most) ks) → Each (λ j. j < most) (k ∷ ks)
    by true z r = let a : k < most = rw z at h in (a, r (grind (arith, z, a)))
    by false z r = let a : most_made ks < most = rw z at h in (grind (arith, z, a), r a)

-- the test of a class
pub class_tested : (u : Code) (k : NameId) (o : Option ℕ) (b : Bool) → o ≡ class_from 0 u.classes k → b ≡ is_some o → (IsTrue b → In k.0 (class_numbers u.classes)) × (In k.0 (class_numbers u.classes) → IsTrue b)
class_tested u k None b e t = (λ h. absurd (let z : true ≡ false = sym h ∙ t in cc), λ h. absurd (named_there 0 u.classes k h (sym e)))
class_tested u k (Some place) b e t = (λ h. found_is_in 0 u.classes k place (sym e), λ h. t)

-- the test of a receiver
pub slot_tested : (p : NodeParts) (o slot objects : ℕ) → slot ≡ slot_of o → objects ≡ length p.heap.objects
    → (IsTrue (nat_lt slot objects) → HasObject (node_of p).state o) × (HasObject (node_of p).state o → IsTrue (nat_lt slot objects))
slot_tested p o slot objects e f = (
  λ h. object_below p o (grind (arith, h, e, f)),
  λ h. let a = object_there p o h in grind (arith, a, e, f),
)
