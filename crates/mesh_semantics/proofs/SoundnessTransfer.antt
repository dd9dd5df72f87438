-- If objects correspond, a sound state of one machine is a sound state of the other.
use Rattle.std.proofs.Common.{◌≡◌, refl, sym, subst, ◌∙◌, ℕ, ◌<◌, ◌≤◌, List, Option, Some, None}
use Rattle.run_types.specs.declared.types.Label.{Label}
use Rattle.run_types.specs.declared.types.Placement.{Placement}
use Rattle.mesh_semantics.specs.Kind.{Kind}
use Rattle.mesh_semantics.specs.Language.{Language}
use Rattle.mesh_semantics.specs.Config.{Config, object_of}
use Rattle.mesh_semantics.specs.Moves.{move}
use Rattle.mesh_semantics.specs.Delay.{Delay, Holding, held}
use Rattle.run_types.specs.ObjectNames.{node_of, slot_of}
use Rattle.mesh_semantics.specs.Sound.{Entry, entries, Owns, OwnedAt, IsThere, IsPlaced, IsSound}
use Rattle.mesh_semantics.specs.Simulates.{Both, Simulates, Related}
use Rattle.run_types.proofs.Laws.{each_map}
use Rattle.mesh_semantics.proofs.EventSimulation.{found, messages_same}
use Rattle.mesh_semantics.proofs.SameActs.{objects_same, frames_same}

module _ {S T : Type 0} (g : Language S) (h : Language T) (W : Config S → Type 0) (R : ℕ → S → T → Type 0) (sim : Simulates g h W R) (kept : (c d : Config S) (lab : Label) → W c → move g c lab ≡ Some d → W d)
    (c : Config S) (e : Config T) (z : Related R c e) where
  over : (o : ℕ) → IsThere c o → IsThere e o
  over o t = by (object_of e o) refl (subst (λ a. Both (R o) a (object_of e o)) t.1 (found R o c.objects e.objects z.objects))
    where
      by : (b : Option T) → object_of e o ≡ b → Both (R o) (Some t.0) (object_of e o) → IsThere e o
      by None i r = absurd (rw i at r)
      by (Some y) i r = (y, i)

  back : (o : ℕ) → IsThere e o → IsThere c o
  back o t = by (object_of c o) refl (subst (λ b. Both (R o) (object_of c o) b) t.1 (found R o c.objects e.objects z.objects))
    where
      by : (a : Option S) → object_of c o ≡ a → Both (R o) (object_of c o) (Some t.0) → IsThere c o
      by None i r = absurd (rw i at r)
      by (Some x) i r = (x, i)

  owned_too : (o : ℕ) (a : Option S) (b : Option T) (t : Option Holding) (es : List Entry) → Both (R o) a b → OwnedAt g o a t es → OwnedAt h o b t es
  owned_too o None None t es r w = w
  owned_too o None (Some y) t es r w = absurd r
  owned_too o (Some x) None t es r w = absurd r
  owned_too o (Some x) (Some y) t es r w =
      (subst (λ (k : Kind). Owns o t k es) (sim.kinds o x y r) w.0, λ f i. w.1 f (sim.faults o x y r ∙ i))

  pub sound_across : (V : Config T → Type 0) (l : Placement) (d : Delay) → V e → IsSound g W l c d → IsSound h V l e d
  sound_across V l d v s = record {
    state = record {
      typed = v;
      names = λ o t. let n = s.state.names o (back o t) in (n.0, subst (λ k. slot_of o < k) (objects_same g h W R sim kept c e (node_of o) z) n.1);
      owned = λ o. owned_too o (object_of c o) (object_of e o) (held d o) (entries d o) (found R o c.objects e.objects z.objects) (s.state.owned o);
      packets = each_map (IsPlaced l c) (IsPlaced l e) (λ x p. record { sender = over _ p.sender; goal = p.goal; link = p.link; way = p.way; on_path = p.on_path }) d.links s.state.packets;
      arrivals = each_map (λ a. IsThere c a.1.sender) (λ a. IsThere e a.1.sender) (λ a p. over _ p) d.arrived s.state.arrivals;
      lists = λ p q. sym (messages_same R c e p q z) ∙ s.state.lists p q;
      order = s.state.order;
    };
    limits = λ n. let b = s.limits n in (subst (λ k. k ≤ l.objects) (objects_same g h W R sim kept c e n z) b.0, subst (λ k. k ≤ l.frames) (frames_same g h W R sim kept c e n z) b.1, b.2);
  }
