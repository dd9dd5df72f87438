-- Nodes that are made one after another.
use Rattle.std.proofs.Common.{◌≡◌, ◌≢◌, ◌⊎◌, inl, inr, sym, subst, ◌∙◌, ap, ℕ, ◌+◌, List, [], ◌∷◌, ◌++◌, length, Some}
use Rattle.std.specs.Prelude.{slice_get}
use Rattle.std.proofs.lemmas.List.{length_push}
use Rattle.run_types.specs.declared.types.Placement.{Placement}
use Rattle.code_semantics.specs.declared.unit.Unit.{Unit as Code}
use Rattle.run_types.proofs.Laws.{decide, same_some}
use Rattle.node_semantics.proofs.Laws.{last_there, front_there}
use Rattle.node_state.specs.NodeOf.{NodeOf}
use Rattle.pool_machine.specs.MachineInvariant.{AreEmpty, IsEmptyNode}

pub node_made : (u : Code) (l : Placement) (size : ℕ) (nodes : List NodeOf) (n : NodeOf) → AreEmpty u l size nodes → IsEmptyNode u l size n → AreEmpty u l (size + 1) (nodes ++ n ∷ [])
node_made u l size nodes n empty new = record { count = length_push nodes n ∙ ap (λ (k : ℕ). k + 1) empty.count; each = each }
  where
    each : (i : ℕ) (m : NodeOf) → slice_get (nodes ++ n ∷ []) i ≡ Some m → IsEmptyNode u l i m
    each i m h = by (decide i (length nodes))
      where
        by : (i ≡ length nodes) ⊎ (i ≢ length nodes) → IsEmptyNode u l i m
        by (inl e) =
            let k : slice_get (nodes ++ n ∷ []) (length nodes) ≡ Some m = subst (λ (z : ℕ). slice_get (nodes ++ n ∷ []) z ≡ Some m) e h in
            let same : n ≡ m = same_some (sym (last_there nodes n) ∙ k) in
            subst (λ (z : ℕ). IsEmptyNode u l z m) (sym (e ∙ empty.count)) (subst (λ (x : NodeOf). IsEmptyNode u l size x) same new)
        by (inr e) = empty.each i m (sym (front_there nodes n i e) ∙ h)
