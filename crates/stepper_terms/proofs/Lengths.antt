-- The values of operands and of guards.
use Rattle.std.proofs.Common.{◌≡◌, refl, ap, suc, List, [], ◌∷◌, ◌++◌, length, ◌||◌}
use Rattle.std.specs.List.{list_any}
use Rattle.stepper_terms.specs.declared.contexts.Operand.{Operand}
use Rattle.stepper_terms.specs.declared.contexts.Guarded.{Guarded}
use Rattle.pool_syntax.specs.declared.tree.Var.{Var}
use Rattle.run_types.specs.Values.{is_nil, not_bool, is_true}
use Rattle.pool_relation.specs.Action.{bind, nil_store}
use Rattle.stepper_terms.specs.Reduced.{values, choices}

pub length_values : (vs : List Operand) → length (values vs) ≡ length vs
length_values [] = refl
length_values (v ∷ vs) = ap suc (length_values vs)

pub nil_guard : (gs : List Guarded) → list_any (λ c. is_nil c.guard) (choices gs) ≡ list_any (λ g. is_nil g.guard.value) gs
nil_guard [] = refl
nil_guard (g ∷ gs) = ap (λ b. is_nil g.guard.value || b) (nil_guard gs)

pub other_guard : (gs : List Guarded) → list_any (λ c. not_bool c.guard) (choices gs) ≡ list_any (λ g. not_bool g.guard.value) gs
other_guard [] = refl
other_guard (g ∷ gs) = ap (λ b. not_bool g.guard.value || b) (other_guard gs)

pub true_guard : (gs : List Guarded) → list_any (λ c. is_true c.guard) (choices gs) ≡ list_any (λ g. is_true g.guard.value) gs
true_guard [] = refl
true_guard (g ∷ gs) = ap (λ b. is_true g.guard.value || b) (true_guard gs)

pub values_more : (vs : List Operand) (v : Operand) → values (vs ++ v ∷ []) ≡ values vs ++ v.value ∷ []
values_more [] v = refl
values_more (w ∷ vs) v = ap (λ l. w.value ∷ l) (values_more vs v)

pub bind_nothing : (vs : List Var) → bind vs [] ≡ nil_store vs
bind_nothing [] = refl
bind_nothing (v ∷ vs) = refl
