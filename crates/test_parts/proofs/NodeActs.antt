-- A node through its acts: what no act changes, and how many objects it has made.
use Rattle.std.proofs.Common.{◌≡◌, refl, sym, ap, subst, ◌∙◌, ℕ, zero, suc, ◌+◌, ◌*◌, ◌<◌, ◌≤◌, List, [], ◌∷◌, replicate, Bool, arith}
use Rattle.run_types.specs.declared.types.Placement.{Placement}
use Rattle.run_types.specs.Tables.{Each}
use Rattle.code_semantics.specs.declared.unit.Unit.{Unit as Code}
use Rattle.mesh_of_code.specs.Coded.{Placed}
use Rattle.node_semantics.specs.Node as N
use Rattle.node_semantics.specs.Node.{NodeState, NodeActed}
use Rattle.node_state.specs.NodeOf.{NodeOf}
use Rattle.node_state.specs.OfUnit.{IsOfPlacement, IsOfUnit}
use Rattle.node_acts.specs.ActOf as A
use Rattle.node_turns.specs.Acts.{IsActOf}
use Rattle.test_parts.specs.DrivenNode.{IsDriven}

-- what no act changes
pub record IsSameNode (old new : NodeOf) : Type 0 where
  pub id : new.id ≡ old.id
  pub objects : new.most_objects ≡ old.most_objects
  pub frames : new.most_frames ≡ old.most_frames
  pub cells : new.most_cells ≡ old.most_cells

is_itself : (old new : NodeOf) → new ≡ old → IsSameNode old new
is_itself old new e = record { id = ap (λ (n : NodeOf). n.id) e; objects = ap (λ (n : NodeOf). n.most_objects) e; frames = ap (λ (n : NodeOf). n.most_frames) e; cells = ap (λ (n : NodeOf). n.most_cells) e }

is_moved : (old new : NodeOf) (x : NodeState Placed) (bits : List Bool) → new ≡ record old { state = x; ready = bits } → IsSameNode old new
is_moved old new x bits e = record { id = ap (λ (n : NodeOf). n.id) e; objects = ap (λ (n : NodeOf). n.most_objects) e; frames = ap (λ (n : NodeOf). n.most_frames) e; cells = ap (λ (n : NodeOf). n.most_cells) e }

pub same_node : (a : A.Act) (old new : NodeOf) (t : NodeActed Placed) → IsActOf a old new t → IsSameNode old new
same_node A.Idle old new N.Idle h = is_itself old new h
same_node A.Idle old new (N.Acts w p x) h = absurd h
same_node A.Idle old new (N.Full k) h = absurd h
same_node A.Idle old new N.Nothing h = absurd h
same_node (A.Line what packet) old new N.Idle h = absurd h
same_node (A.Line what packet) old new (N.Acts w p x) h = is_moved old new x new.ready h.2
same_node (A.Line what packet) old new (N.Full k) h = absurd h
same_node (A.Line what packet) old new N.Nothing h = absurd h
same_node (A.Full kind) old new N.Idle h = absurd h
same_node (A.Full kind) old new (N.Acts w p x) h = absurd h
same_node (A.Full kind) old new (N.Full k) h = is_itself old new h.1
same_node (A.Full kind) old new N.Nothing h = absurd h

pub still_placed : (u : Code) (l : Placement) (old new : NodeOf) → IsSameNode old new → IsOfPlacement u l old → IsOfPlacement u l new
still_placed u l old new s p = record {
  suits = p.suits;
  id = subst (λ z. z < l.width * l.height) (sym s.id) p.id;
  objects = s.objects ∙ p.objects;
  frames = s.frames ∙ p.frames;
  cells = s.cells ∙ p.cells;
}

-- counts
pub zeros : (n : ℕ) → Each (λ k. k ≤ 0) (replicate n 0)
zeros zero = tt
zeros (suc n) = (omega arith, zeros n)

pub each_below : (most top : ℕ) (ks : List ℕ) → most < top → Each (λ k. k ≤ most) ks → Each (λ k. k < top) ks
each_below most top [] h e = tt
each_below most top (k ∷ ks) h e = ((let a = e.0 in omega (arith, a, h)), each_below most top ks h e.1)

pub one_more : (most : ℕ) (ks : List ℕ) → Each (λ k. k ≤ most) ks → Each (λ k. k ≤ most + 1) ks
one_more most [] e = tt
one_more most (k ∷ ks) e = ((let a = e.0 in omega (arith, a)), one_more most ks e.1)

-- after an act the node has made a step more
pub still_driven : (u : Code) (l : Placement) (steps : ℕ) (a : A.Act) (old new : NodeOf) (t : NodeActed Placed) → IsDriven u l steps old → IsActOf a old new t → IsOfUnit u new
    → Each (λ k. k ≤ steps + 1) new.state.made → IsDriven u l (steps + 1) new
still_driven u l steps a old new t d h fits made =
    let same = same_node a old new t h in record { id = same.id ∙ d.id; unit = fits; placement = still_placed u l old new same d.placement; counted = made }

pub no_step : (u : Code) (l : Placement) (steps : ℕ) (n : NodeOf) → IsDriven u l steps n → IsDriven u l (steps + 1) n
no_step u l steps n d = record { id = d.id; unit = d.unit; placement = d.placement; counted = one_more steps n.state.made d.counted }
