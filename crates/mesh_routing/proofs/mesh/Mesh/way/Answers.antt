use Rattle.std.proofs.Common.{◌≡◌, inl, inr, ◌<◌, ◌+◌, ◌-◌, ◌*◌, ◌%◌, ap, arith, sym, refl, ◌∙◌, subst, ℕ, [], Some, Bool, true, false, nat_le, nat_lt, slice_get}
use Rattle.mesh_routing.specs.Ways.{led, ends, one_if}
use Rattle.mesh_routing.proofs.NeighbourSteps.{onward}
use Rattle.mesh_routing.proofs.mesh.Mesh.way.Goals as goal
use Rattle.mesh_routing.proofs.mesh.Mesh.way.Goals.{else-to-from-2-via-then-to-from-2+else-from-self, else-to-from-2-via-else-to-from-2}
use mir.Val.{bool_byte}

-- the last way stands behind those that are there
last : (b d f t : Bool) (w x y z : ℕ) → t ≡ true → slice_get (led b w (led d x (led f y (led t z [])))) ((one_if b + one_if d) + bool_byte f) ≡ Some z
last b d f t w x y z e = subst (λ s. slice_get (led b w (led d x (led f y (led s z [])))) ((one_if b + one_if d) + bool_byte f) ≡ Some z) (sym e) (by b d f)
  where
    by : (b d f : Bool) → slice_get (led b w (led d x (led f y (led true z [])))) ((one_if b + one_if d) + bool_byte f) ≡ Some z
    by true true true = refl
    by true true false = refl
    by true false true = refl
    by true false false = refl
    by false true true = refl
    by false true false = refl
    by false false true = refl
    by false false false = refl

below : (x y : ℕ) → x < y → nat_lt x y ≡ true
below x y h = grind (arith, h)

pub returns : goal.returns
returns c =
    let o = onward c.args.self.now.width c.args.self.now.height c.args.from c.args.to c.args.self.now.wide.0 c.requires.beside (omega (arith, c.if-to-from.false)) in
    elim o as (λ z. slice_get (ends c.args.self.now.width c.args.self.now.height c.args.from) (c.ways_back-2.result + bool_byte (nat_lt (c.args.from % c.args.self.now.width + 1) c.args.self.now.width)) ≡ Some c.args.to) [
      | inl q ↦ absurd (elim c.else-to-from-2.branch [
        | else-to-from-2-via-then-to-from-2+else-from-self w ↦ absurd (omega (arith, w.if-from-self.false, q.1))
        | else-to-from-2-via-else-to-from-2 w ↦ absurd (omega (arith, w.if-to-from-2.false, q.0))
      ])
      | inr q ↦
          subst (λ n. slice_get (ends c.args.self.now.width c.args.self.now.height c.args.from) (n + bool_byte (nat_lt (c.args.from % c.args.self.now.width + 1) c.args.self.now.width)) ≡ Some c.args.to)
          (sym c.ways_back-2.ensures)
          (last (nat_le c.args.self.now.width c.args.from) (nat_lt 0 (c.args.from % c.args.self.now.width)) (nat_lt (c.args.from % c.args.self.now.width + 1) c.args.self.now.width) (nat_lt (c.args.from + c.args.self.now.width) (c.args.self.now.width * c.args.self.now.height))
          (c.args.from - c.args.self.now.width) (c.args.from - 1) (c.args.from + 1) (c.args.from + c.args.self.now.width) (below (c.args.from + c.args.self.now.width) (c.args.self.now.width * c.args.self.now.height) (omega (arith, q, c.requires.to))) ∙ ap Some (sym q))
    ]
