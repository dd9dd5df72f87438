-- Bytes appended to bytes, and values read one by one.
use Rattle.std.proofs.Common.{◌≡◌, refl, sym, ap, ◌∙◌, ℕ, suc, List, [], ◌∷◌, ◌++◌, append_assoc, Some, None}
use Rattle.run_types.specs.declared.types.Value.{Value}
use Rattle.run_types.specs.Partial.{◌>>=◌}
use Rattle.wire_link.specs.Bytes.{Read, read_value, read_values}

pub behind : {X : Type 0} (xs ys zs a b : List X) → a ≡ xs ++ ys → b ≡ a ++ zs → b ≡ xs ++ (ys ++ zs)
behind xs ys zs a b h k = k ∙ ap (λ ws. ws ++ zs) h ∙ append_assoc xs ys zs

-- values in front of those that are read
abbrev pub in_front : List Value → Read (List Value) → Read (List Value)
in_front xs None = None
in_front xs (Some s) = Some (xs ++ s.0, s.1)

abbrev and_first : Value → Read (List Value) → Read (List Value)
and_first v o = o >>= λ s. Some (v ∷ s.0, s.1)

abbrev then_values : ℕ → Read Value → Read (List Value)
then_values m o = o >>= λ r. and_first r.0 (read_values m r.1)

-- a value more is read
pub value_more : (n m : ℕ) (xs : List Value) (v : Value) (bs ds : List ℕ) → n ≡ suc m → read_value bs ≡ Some (v, ds) → in_front (xs ++ v ∷ []) (read_values m ds) ≡ in_front xs (read_values n bs)
value_more n m xs v bs ds e h =
    by (read_values m ds) ∙ ap (λ (o : Read Value). in_front xs (then_values m o)) (sym h) ∙ ap (λ k. in_front xs (read_values k bs)) (sym e)
  where
    by : (o : Read (List Value)) → in_front (xs ++ v ∷ []) o ≡ in_front xs (and_first v o)
    by None = refl
    by (Some s) = ap (λ (ys : List Value). Some (ys, s.1)) (append_assoc xs (v ∷ []) s.0)
