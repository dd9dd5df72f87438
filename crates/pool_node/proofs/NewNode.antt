-- A new node is empty.
use Rattle.std.proofs.Common.{◌≡◌, ◌≤◌, ℕ, zero, suc, List, [], ◌∷◌, length, get_or, Option, None, false, replicate, refl, ap, sym, subst, ◌∙◌, arith}
use Rattle.std.proofs.lemmas.List.{length-replicate}
use Rattle.std.specs.Prelude.{take}
use Rattle.code_semantics.specs.declared.unit.ClassCode.{ClassCode}
use Rattle.code_semantics.specs.declared.unit.Unit.{Unit as Code}
use Rattle.mesh_of_code.specs.Coded.{class_numbers, coded}
use Rattle.node_semantics.specs.Machine.{empty_node}
use Rattle.node_state.specs.declared.state.NodeParts.{NodeParts}
use Rattle.slot_queues.specs.Mail.{Mail, box_of, mail}
use Rattle.slot_queues.specs.declared.Message.{Message}
use Rattle.run_types.specs.declared.types.Error.{Error}
use Rattle.node_state.specs.Views.{NodeInvariant, node_of, slots_by}

pub numbers_length : (ks : List ClassCode) → length (class_numbers ks) ≡ length ks
numbers_length [] = refl
numbers_length (k ∷ ks) = omega (arith, numbers_length ks)

-- without objects, and with no count above 0
pub fresh_view : (u : Code) (p : NodeParts) (id objects frames vars : ℕ) → p.heap ≡ record { node = id; most_objects = objects; most_frames = frames; most_vars = vars; objects = [] }
    → p.last ≡ None → p.made ≡ replicate (length u.classes) 0
    → node_of p ≡ record { id = p.id; most_objects = objects; most_frames = frames; most_cells = p.mailbox.cells; most_vars = vars; state = empty_node (coded u); ready = []; long = p.long }
fresh_view u p id objects frames vars heap last made = λ i. record {
  id = p.id;
  most_objects = (heap i).most_objects;
  most_frames = (heap i).most_frames;
  most_cells = p.mailbox.cells;
  most_vars = (heap i).most_vars;
  state = record {
    slots = slots_by (heap i).objects p.outstanding p.faults p.goals p.mailbox.boxes;
    last = last i;
    made = (made ∙ ap (λ (n : ℕ). replicate n 0) (sym (numbers_length u.classes))) i;
  };
  ready = take (length (heap i).objects) p.ready;
  long = p.long;
}

-- one value at each place is what is read, wherever it is looked for
same_at : {A : Type 0} (n : ℕ) (a : A) (i : ℕ) → get_or (replicate n a) i a ≡ a
same_at zero a i = refl
same_at (suc n) a zero = refl
same_at (suc n) a (suc i) = same_at n a i

-- the parts of a new node fit together
pub fresh_whole : (p : NodeParts) (objects : ℕ) → p.heap.node ≡ p.id → p.heap.most_objects ≡ objects → p.heap.objects ≡ [] → objects ≤ 4096 → 1 ≤ objects → 1 ≤ p.heap.most_frames
    → p.mailbox ≡ mail (replicate objects []) p.cells → p.outstanding ≡ replicate objects None → p.faults ≡ replicate objects None → p.goals ≡ replicate objects 0
    → p.ready ≡ replicate objects false → NodeInvariant p
fresh_whole p objects node most none few room frames mailbox requests faults goals ready = record {
  node = node;
  cells = ap (λ (m : Mail Message). m.cells) mailbox;
  boxes = ap (λ (m : Mail Message). length m.boxes) mailbox ∙ length-replicate objects [] ∙ sym most;
  requests = ap length requests ∙ length-replicate objects None ∙ sym most;
  faults = ap length faults ∙ length-replicate objects None ∙ sym most;
  goals = ap length goals ∙ length-replicate objects 0 ∙ sym most;
  ready = ap length ready ∙ length-replicate objects false ∙ sym most;
  objects = subst (λ (n : ℕ). n ≤ p.heap.most_objects) (sym (ap length none)) (omega arith);
  few = subst (λ (n : ℕ). n ≤ 4096) (sym most) few;
  room = subst (λ (n : ℕ). 1 ≤ n) (sym most) room;
  frames = frames;
  no_box = λ i h. ap (λ (m : Mail Message). box_of m i) mailbox ∙ same_at objects [] i;
  no_request = λ i h. ap (λ (xs : List (Option ℕ)). get_or xs i None) requests ∙ same_at objects None i;
  no_fault = λ i h. ap (λ (xs : List (Option Error)). get_or xs i None) faults ∙ same_at objects None i;
  no_goal = λ i h. ap (λ (xs : List ℕ). get_or xs i 0) goals ∙ same_at objects 0 i;
}
