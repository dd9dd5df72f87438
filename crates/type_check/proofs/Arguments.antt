-- The faults of a list of arguments, one after another.
use Rattle.std.proofs.Common.{◌≡◌, refl, sym, ap, ◌∙◌, ℕ, zero, suc, ◌+◌, ◌<◌, min, List, [], ◌∷◌, ◌++◌, length, drop, get_or, slice_get, Option, arith}
use Rattle.std.proofs.lemmas.List.{at_drop_more, drop-drop}
use Rattle.pool_syntax.specs.declared.tree.Expr.{Expr}
use Rattle.pool_syntax.specs.declared.tree.Var.{Var}
use Rattle.pool_syntax.specs.TreeOf.{expression_of, expressions_of}
use Rattle.pool_syntax.specs.Terms.{Expressions, Expression, Arg}
use Rattle.pool_syntax.specs.Typing.{Scope, expression_faults, arguments_faults, sort_of, position, size}
use Rattle.run_types.specs.Sorts.{Sort}
use Rattle.type_check.specs.CheckerScopes.{argument_faults}
use Rattle.type_check.specs.declared.fault.ClassFault.{ClassFault}
use Rattle.type_check.specs.NotedFaults.{noted, Notes, found_of}
use Rattle.type_check.proofs.OperandLimit.{same_arguments}
use Rattle.type_check.proofs.FaultAccumulation.{noted_append}

pub size_of_all : (es : List Expr) → size (expressions_of es) ≡ length es
size_of_all [] = refl
size_of_all (e ∷ es) = ap suc (size_of_all es)

first_argument : (g : Scope) (h : ℕ) (vs : List Var) (e : Expression) (es : Expressions)
    → arguments_faults g h vs (Arg e es) ≡ expression_faults g h e ++ (argument_faults g.program (slice_get vs 0) (sort_of g e) (position e) ++ arguments_faults g (h + 1) (drop 1 vs) es)
first_argument g h [] e es = refl
first_argument g h (v ∷ vs) e es = refl

first_of_drop : (vs : List Var) (i : ℕ) → slice_get (drop i vs) 0 ≡ slice_get vs i
first_of_drop [] zero = refl
first_of_drop [] (suc i) = refl
first_of_drop (v ∷ vs) zero = refl
first_of_drop (v ∷ vs) (suc i) = first_of_drop vs i

-- what is noted of the arguments from one on is what is noted of it and then of those behind it
pub argument_noted : (g : Scope) (h k : ℕ) (vs : List Var) (es : List Expr) (i : ℕ) (e : Expr) (s : Sort) (v : Option Var) (a b c : Option ClassFault)
    → i < length es → e ≡ get_or es i e → s ≡ sort_of g (expression_of e) → v ≡ slice_get vs i → k ≡ min (h + 1) 64
    → Notes a b (expression_faults g h (expression_of e)) → Notes b c (argument_faults g.program v s (position (expression_of e)))
    → noted (found_of c) (arguments_faults g k (drop (i + 1) vs) (expressions_of (drop (i + 1) es))) ≡ noted (found_of a) (arguments_faults g h (drop i vs) (expressions_of (drop i es)))
argument_noted g h k vs es i e s v a b c within at is_sort is_parameter more inner place =
    let front : expressions_of (drop i es) ≡ Arg (expression_of e) (expressions_of (drop (i + 1) es)) = at_drop_more expressions_of es i e within ∙ ap (λ x. Arg (expression_of x) (expressions_of (drop (i + 1) es))) (sym at) in
    let parts = first_argument g h (drop i vs) (expression_of e) (expressions_of (drop (i + 1) es)) in
    let first = first_of_drop vs i in
    let rest : drop 1 (drop i vs) ≡ drop (i + 1) vs = drop-drop 1 i vs in
    let more_held = same_arguments g k (h + 1) (drop (i + 1) vs) (expressions_of (drop (i + 1) es)) (omega arith) in
    grind (arith, noted_append)
