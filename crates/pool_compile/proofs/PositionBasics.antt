-- Positions in expressions.
use Rattle.run_types.specs.declared.frames.Frame.{Frame}
use Rattle.std.proofs.Common.{◌≡◌, refl, sym, ap, subst, ℕ, List, [], ◌∷◌, Option, Some, true, inl, inr, arith}
use Rattle.run_types.specs.declared.types.Value.{Value}
use Rattle.pool_syntax.specs.Terms as T
use Rattle.pool_syntax.specs.Terms.{Store, Expression, Expressions, Statement, Statements, Alternatives, append}
use Rattle.pool_relation.specs.Reducible as R
use Rattle.pool_relation.specs.Reducible.{Choice, Reducible, Found, Evaluated, At, Contractum, AsExpression, AsStatements, as_expression, as_statements, set_value, assigned, fill_expression, fill_expressions, fill_statement, fill_statements, fill_guards, is_value, are_values}
use Rattle.code_semantics.specs.declared.unit.ClassCode.{ClassCode}
use Rattle.code_semantics.specs.Frames.{code_of}
use Rattle.pool_compile.specs.Code.{Numbering}
use Rattle.pool_compile.specs.StandsFor.{Point, Head, level, fresh, as_value, PointsOf, InTurn, push_all, Under, UnderAll}
use Rattle.pool_compile.proofs.Focus.{Focus, Idle, Sight, over, redex, idle, within, idle_within}

pub is_value_of : (e : Expression) (v : Value) → as_value e ≡ Some v → is_value e ≡ true
is_value_of (T.Literal w p) v h = refl
is_value_of _ v h = absurd (grind arith)

pub value_at : (t : Store) (e : Expression) (v : Value) → as_value e ≡ Some v → R.expression_redex t e ≡ Evaluated v
value_at t (T.Literal w p) v h = let q : w ≡ v = grind (arith, h) in ap Evaluated q
value_at t _ v h = absurd (grind arith)

-- with another part in the place of the redex, and as it is
abbrev pub Refills : Head → Store → (Contractum → PointsOf) → List Value → ℕ → List Frame → Contractum → Type 0
Refills h t U base end fs part = (z : Point) × (fs ≡ level h t z) × U part base z end

abbrev pub Keeps : Head → Store → PointsOf → List Value → ℕ → List Frame → Type 0
Keeps h t U base end fs = (z : Point) × (fs ≡ level h t z) × U base z end

-- a value on the operands
abbrev pub There : Expression → List Value → Point → ℕ → Value → Type 0
There e base s end v = (as_value e ≡ Some v) × (s.above ≡ []) × (s.operands ≡ v ∷ base) × (s.at ≡ end)

-- values on the operands
abbrev pub AllThere : List Value → Point → ℕ → List Value → Type 0
AllThere base s end vs = (s.above ≡ []) × (s.operands ≡ push_all vs base) × (s.at ≡ end)

module _ (k : Option ClassCode) where
  abbrev pub SeenExpression : Head → Store → Numbering → Expression → List Value → Point → ℕ → Type 0
  SeenExpression h t g e base s end =
      Sight k g.vars (level h t s) (R.expression_redex t e) (There e base s end)
      (Refills h t (λ part. Under k (code_of k h.method) g (fill_expression e part)) base end)
      (Keeps h t (Under k (code_of k h.method) g e) base end)

  abbrev pub SeenAll : Head → Store → Numbering → Expressions → List Value → Point → ℕ → Type 0
  SeenAll h t g es base s end =
      Sight k g.vars (level h t s) (R.expressions_redex t es) (AllThere base s end)
      (Refills h t (λ part. UnderAll k (code_of k h.method) g (fill_expressions es part)) base end)
      (Keeps h t (UnderAll k (code_of k h.method) g es) base end)

  -- an expression and a second part
  pub data Turn (h : Head) (t : Store) (g : Numbering) (e : Expression) {B : Type 0} (found : Found B) (U : PointsOf) (fill : Contractum → PointsOf) (Fin : List Value → Point → ℕ → B → Type 0) (base : List Value) (s : Point) (end : ℕ) : Type 0 where
    both : (v : Value) (b : B) → as_value e ≡ Some v → found ≡ Evaluated b → Fin (v ∷ base) s end b → Turn h t g e found U fill Fin base s end
    first : (r : Reducible) (u : Store) → R.expression_redex t e ≡ At r u
        → Focus k g.vars (level h t s) r u (Refills h t (λ part. InTurn (Under k (code_of k h.method) g (fill_expression e part)) (as_value (fill_expression e part)) U) base end)
        → Turn h t g e found U fill Fin base s end
    second : (v : Value) (r : Reducible) (u : Store) → as_value e ≡ Some v → found ≡ At r u
        → Focus k g.vars (level h t s) r u (Refills h t (λ part. InTurn (Under k (code_of k h.method) g e) (as_value e) (fill part)) base end)
        → Turn h t g e found U fill Fin base s end
    quiet : Idle k (level h t s) (Keeps h t (InTurn (Under k (code_of k h.method) g e) (as_value e) U) base end) → Turn h t g e found U fill Fin base s end

  module _ (h : Head) (t : Store) (g : Numbering) (e : Expression) {B : Type 0} (found : Found B) (U : PointsOf) (fill : Contractum → PointsOf) (Fin : List Value → Point → ℕ → B → Type 0) (end : ℕ) where
    second_turn : (base : List Value) (s : Point) (v : Value) → as_value e ≡ Some v
        → Sight k g.vars (level h t s) found (Fin (v ∷ base) s end) (Refills h t fill (v ∷ base) end) (Keeps h t U (v ∷ base) end)
        → Turn h t g e found U fill Fin base s end
    second_turn base s v is (over b f fin) = both v b is f fin
    second_turn base s v is (redex r u f x) = second v r u is f (within k g.vars (level h t s) r u _ _ x (λ fs part z. (z.0, z.1, inr (v, is, z.2))))
    second_turn base s v is (idle x) = quiet (idle_within k (level h t s) _ _ x (λ fs z. (z.0, z.1, inr (v, is, z.2))))

    first_turn : (base : List Value) (s : Point) (m : ℕ) → ((b : List Value) → U b (fresh m b) end)
        → ((v : Value) → U (v ∷ base) s end → Sight k g.vars (level h t s) found (Fin (v ∷ base) s end) (Refills h t fill (v ∷ base) end) (Keeps h t U (v ∷ base) end))
        → SeenExpression h t g e base s m → Turn h t g e found U fill Fin base s end
    first_turn base s m ready see (over v f fin) =
        let same : fresh m (v ∷ base) ≡ s = λ i. record { at = sym fin.3 i; operands = sym fin.2 i; above = sym fin.1 i } in
        second_turn base s v fin.0 (see v (subst (λ z. U (v ∷ base) z end) same (ready (v ∷ base))))
    first_turn base s m ready see (redex r u f x) = first r u f (within k g.vars (level h t s) r u _ _ x (λ fs part z. (z.0, z.1, inl (m, z.2, ready))))
    first_turn base s m ready see (idle x) = quiet (idle_within k (level h t s) _ _ x (λ fs z. (z.0, z.1, inl (m, z.2, ready))))

    pub in_turn : (base : List Value) (s : Point)
        → ((m : ℕ) → Under k (code_of k h.method) g e base s m → SeenExpression h t g e base s m)
        → ((b : List Value) → U b s end → Sight k g.vars (level h t s) found (Fin b s end) (Refills h t fill b end) (Keeps h t U b end))
        → InTurn (Under k (code_of k h.method) g e) (as_value e) U base s end → Turn h t g e found U fill Fin base s end
    in_turn base s see1 see2 (inl w) = first_turn base s w.0 w.2 (λ v. see2 (v ∷ base)) (see1 w.0 w.1)
    in_turn base s see1 see2 (inr w) = second_turn base s w.0 w.1 (see2 (w.0 ∷ base) w.2)
