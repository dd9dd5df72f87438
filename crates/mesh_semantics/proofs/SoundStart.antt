-- The start is sound: one object on a node of the mesh, and nothing on the way.
use Rattle.std.proofs.Common.{◌≡◌, ◌≢◌, ◌⊎◌, inl, inr, refl, sym, ap, subst, ◌∙◌, ℕ, suc, ◌+◌, ◌*◌, ◌<◌, ◌≤◌, ◌==◌, List, [], ◌∷◌, slice_get, Option, Some, None, Bool, true, false, arith}
use Rattle.run_types.specs.declared.types.Place.{Place}
use Rattle.run_types.specs.declared.types.Place.TheVariants as Pl
use Rattle.run_types.specs.declared.types.Placement.{Placement}
use Rattle.run_types.proofs.Laws.{decide, equals, same_some, untied}
use Rattle.mesh_semantics.specs.Language.{Language}
use Rattle.mesh_semantics.specs.Config.{Config, object_of}
use Rattle.run_types.specs.Paths.{path}
use Rattle.mesh_semantics.specs.Delay.{Delay, Wires, no_delay}
use Rattle.run_types.specs.ObjectNames.{node_of, slot_of}
use Rattle.mesh_semantics.specs.Act.{object_count, frame_count}
use Rattle.mesh_semantics.specs.Record.{last_place, root_node, start}
use Rattle.mesh_semantics.specs.FitFor.{FitFor}
use Rattle.mesh_semantics.specs.Sound.{OwnedAt, letter, notes, CallsLast, IsThere, IsSound}
use Rattle.mesh_semantics.proofs.QuietIsFinal.{none_along}

module _ {S : Type 0} (g : Language S) (W : Config S → Type 0) (l : Placement) (k : ℕ) (x : S) where
  abbrev pub one : Config S
  one = record { objects = (k * 65536, x) ∷ []; messages = [] }

  at : node_of (k * 65536) ≡ k
  at = omega arith

  slot : slot_of (k * 65536) ≡ 0
  slot = omega arith

  there : (q : ℕ) (o : Option S) → object_of one q ≡ o → IsThere one q → q ≡ k * 65536
  there q o i t = by (decide q (k * 65536))
    where
      by : (q ≡ k * 65536) ⊎ (q ≢ k * 65536) → q ≡ k * 65536
      by (inl e) = e
      by (inr e) = absurd (let z = untied q (k * 65536) e in let n : None ≡ Some t.0 = rw z at t.1 in cc)

  pub start_sound : W one → k < l.width * l.height → g.frames x ≡ 0 → 1 ≤ l.objects → 1 ≤ l.frames → IsSound g W l one no_delay
  start_sound w inside f a b = record {
    state = record {
      typed = w;
      names = λ q t. let e = there q (object_of one q) refl t in name q e;
      owned = λ q. owned q (object_of one q) refl;
      packets = tt;
      arrivals = tt;
      lists = λ s r. sym (ap notes (none_along (letter s r) (path l (node_of s) (node_of r))));
      order = λ s r. subst CallsLast (sym (none_along (letter s r) (path l (node_of s) (node_of r)))) tt;
    };
    limits = λ n. limit n (node_of (k * 65536) == n) refl;
  }
    where
      counted : object_count one k ≡ 1
      counted = rw (at, equals k) refl

      name : (q : ℕ) → q ≡ k * 65536 → (node_of q < l.width * l.height) × (slot_of q < object_count one (node_of q))
      name q e =
          let i : node_of q ≡ k = ap node_of e ∙ at in
          let j : slot_of q ≡ 0 = ap slot_of e ∙ slot in
          (subst (λ n. n < l.width * l.height) (sym i) inside, subst (λ n. slot_of q < object_count one n) (sym i) (let c = counted in omega (arith, j, c)))

      owned : (q : ℕ) (o : Option S) → object_of one q ≡ o → OwnedAt g q (object_of one q) None []
      owned q None i = rw i (refl, refl)
      owned q (Some y) i = rw i (refl, λ e j. refl)

      limit : (n : ℕ) (t : Bool) → (node_of (k * 65536) == n) ≡ t → (object_count one n ≤ l.objects) × (frame_count g one n ≤ l.frames) × (0 + 0 ≤ l.cells)
      limit n true i = (rw i (omega (arith, a)), rw (i, f) (omega (arith, b)), omega arith)
      limit n false i = (rw i (omega arith), rw i (omega arith), omega arith)

-- soundness asks nothing of wires
pub with_wires : {S : Type 0} (g : Language S) (W : Config S → Type 0) (l : Placement) (c : Config S) (d : Delay) (ws : Wires) → IsSound g W l c d → IsSound g W l c (record d { wires = Some ws })
with_wires g W l c d ws s = record {
  state = record { typed = s.state.typed; names = s.state.names; owned = s.state.owned; packets = s.state.packets; arrivals = s.state.arrivals; lists = s.state.lists; order = s.state.order };
  limits = s.limits;
}

last_there : (ps : List Place) (k : ℕ) → last_place ps ≡ Some (Pl.At k) → (i : ℕ) × (slice_get ps i ≡ Some (Pl.At k))
last_there [] k h = absurd (cc)
last_there (q ∷ []) k h = (0, h)
last_there (q ∷ r ∷ ps) k h = let t = last_there (r ∷ ps) k h in (suc t.0, t.1)

module _ {S : Type 0} (g : Language S) (W : Config S → Type 0) (l : Placement) (fit : FitFor g l) where
  pub root_inside : root_node (last_place l.places) < l.width * l.height
  root_inside = by (last_place l.places) refl
    where
      by : (z : Option Place) → last_place l.places ≡ z → root_node (last_place l.places) < l.width * l.height
      by None e = rw e fit.nodes
      by (Some Pl.Same) e = rw e fit.nodes
      by (Some Pl.Spread) e = rw e fit.nodes
      by (Some (Pl.At k)) e = let t = last_there l.places k e in rw e (fit.places t.0 k t.1)

  -- the start of a language whose new root has no method under way
  pub placed_start_sound : (x : S) (c : Config S) → g.root ≡ Some x → g.frames x ≡ 0 → start g l ≡ Some c → W c → IsSound g W l c no_delay
  placed_start_sound x c r f h w =
      let is : one g W l (root_node (last_place l.places)) x ≡ c = same_some (rw r at h) in
      subst (λ (z : Config S). IsSound g W l z no_delay) is
      (start_sound g W l (root_node (last_place l.places)) x (subst W (sym is) w) root_inside f fit.objects.0 fit.frames)
