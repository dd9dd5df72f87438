-- The faults of an expression are the faults of its parts, one after another.
use Rattle.std.proofs.Common.{◌≡◌, refl, sym, ℕ, ◌+◌, min, List, length, Option, arith}
use Rattle.run_types.specs.declared.types.Op.{Op}
use Rattle.run_types.specs.declared.types.Op.TheVariants as O
use Rattle.pool_syntax.specs.declared.tree.Expr.{Expr}
use Rattle.pool_syntax.specs.Terms.{Expression, Infix, Call, Send, MethodTree}
use Rattle.pool_syntax.specs.TreeOf.{expressions_of}
use Rattle.pool_syntax.specs.Typing.{Scope, limit_faults, expression_faults, arguments_faults, method_faults, destination_faults, own_method, sent_method, params_of, needs_operands, sort_of, position}
use Rattle.run_types.specs.Sorts.{Sort}
use Rattle.type_check.specs.declared.fault.ClassFault.{ClassFault}
use Rattle.type_check.specs.NotedFaults.{Notes}
use Rattle.type_check.specs.CheckerScopes.{operands_faults}
use Rattle.type_check.proofs.FaultAccumulation.{noted_append}
use Rattle.type_check.proofs.OperandLimit.{same_faults, same_arguments}
use Rattle.type_check.proofs.Arguments.{size_of_all}

operands_needed : (g : Scope) (op : Op) (l r : Expression) → needs_operands g op l r ≡ operands_faults op (sort_of g l) (position l) (sort_of g r) (position r)
operands_needed g O.Same l r = refl
operands_needed g O.Differs l r = refl
operands_needed g _ l r = refl

pub binary_noted : (g : Scope) (h k : ℕ) (op : Op) (l r : Expression) (pos : ℕ) (s t : Sort) (a b c d e : Option ClassFault)
    → Notes a b (limit_faults h pos) → Notes b c (expression_faults g h l) → k ≡ min (h + 1) 64 → Notes c d (expression_faults g k r)
    → s ≡ sort_of g l → t ≡ sort_of g r → Notes d e (operands_faults op s (position l) t (position r)) → Notes a e (expression_faults g h (Infix op l r pos))
binary_noted g h k op l r pos s t a b c d e begun left more right is_left is_right fit =
    let more_held : expression_faults g k r ≡ expression_faults g (h + 1) r = same_faults g k (h + 1) r (omega arith) in
    let needed : operands_faults op s (position l) t (position r) ≡ needs_operands g op l r = rw (is_left, is_right) (sym (operands_needed g op l r)) in
    grind (arith, noted_append)

pub call_noted : (g : Scope) (h m : ℕ) (es : List Expr) (pos : ℕ) (method : Option MethodTree) (a b c d : Option ClassFault)
    → Notes a b (limit_faults h pos) → method ≡ own_method g m → Notes b c (method_faults method (length es) pos)
    → Notes c d (arguments_faults g h (params_of method) (expressions_of es)) → Notes a d (expression_faults g h (Call m (expressions_of es) pos))
call_noted g h m es pos method a b c d begun found called rest =
    let count = size_of_all es in
    grind (arith, noted_append)

pub send_noted : (g : Scope) (h k : ℕ) (to : Expression) (m : ℕ) (es : List Expr) (pos : ℕ) (s : Sort) (method : Option MethodTree) (a b c d e : Option ClassFault)
    → Notes a b (limit_faults h pos) → Notes b c (expression_faults g h to) → s ≡ sort_of g to → method ≡ sent_method g s m
    → Notes c d (destination_faults g s m (length es) pos (position to)) → k ≡ min (h + 1) 64
    → Notes d e (arguments_faults g k (params_of method) (expressions_of es)) → Notes a e (expression_faults g h (Send to m (expressions_of es) pos))
send_noted g h k to m es pos s method a b c d e begun dest is_sort found sent more rest =
    let more_held = same_arguments g k (h + 1) (params_of method) (expressions_of es) (omega arith) in
    let count = size_of_all es in
    grind (arith, noted_append)
