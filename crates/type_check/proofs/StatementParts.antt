-- The faults of statements are the faults of their parts, one after another.
use Rattle.std.proofs.Common.{◌≡◌, sym, ap, ◌∙◌, ℕ, ◌+◌, ◌<◌, ◌++◌, ◌||◌, ◌==◌, not, is_some, min, Bool, List, [], ◌∷◌, length, take, drop, get_or, Option, arith}
use Rattle.std.specs.List.{list_any}
use Rattle.std.proofs.lemmas.List.{at_drop_more}
use Rattle.pool_syntax.specs.declared.tree.Expr.{Expr}
use Rattle.pool_syntax.specs.declared.tree.Stmt.{Stmt}
use Rattle.pool_syntax.specs.declared.tree.Alt.{Alt, out-Alt}
use Rattle.pool_syntax.specs.declared.tree.Named.{Named}
use Rattle.pool_syntax.specs.Terms.{Expression, Async, Then, Alt as OneAlt, MethodTree}
use Rattle.pool_syntax.specs.TreeOf.{expression_of, expressions_of, statement_of, statements_of, alternatives_of}
use Rattle.pool_syntax.specs.FaultNumbers.{answer_name}
use Rattle.pool_syntax.specs.Typing.{Scope, needs, expression_faults, arguments_faults, destination_faults, answer_faults, statement_faults, statements_faults, alternatives_faults, names_faults, fault_if, own_method, sent_method, params_of, sort_of, position}
use Rattle.run_types.specs.Sorts.{Sort, BoolSort}
use Rattle.type_check.specs.declared.fault.ClassFault.{ClassFault}
use Rattle.type_check.specs.NotedFaults.{noted, Notes, found_of}
use Rattle.type_check.specs.Before.{names_before}
use Rattle.type_check.proofs.FaultAccumulation.{noted_append}
use Rattle.type_check.proofs.OperandLimit.{same_faults}
use Rattle.type_check.proofs.Arguments.{size_of_all}
use Rattle.type_check.proofs.BeforeLaws.{before_more, any_before}

pub async_noted : (g : Scope) (to : Expression) (m pos : ℕ) (es : List Expr) (s : Sort) (method : Option MethodTree) (a b c d : Option ClassFault)
    → Notes a b (expression_faults g g.held to) → s ≡ sort_of g to → method ≡ sent_method g s m → Notes b c (destination_faults g s m (length es) pos (position to))
    → Notes c d (arguments_faults g (g.held + 1) (params_of method) (expressions_of es)) → Notes a d (statement_faults g (Async to m pos (expressions_of es)))
async_noted g to m pos es s method a b c d dest is_sort found sent rest =
    let count = size_of_all es in
    grind (arith, noted_append)

-- what is noted of the statements from one on is what is noted of it and then of those behind it
pub statement_noted : (g : Scope) (ss : List Stmt) (i : ℕ) (s : Stmt) (a b : Option ClassFault) → i < length ss → s ≡ get_or ss i s → Notes a b (statement_faults g (statement_of s))
    → noted (found_of b) (statements_faults g (statements_of (drop (i + 1) ss))) ≡ noted (found_of a) (statements_faults g (statements_of (drop i ss)))
statement_noted g ss i s a b within at one =
    let front : statements_of (drop i ss) ≡ Then (statement_of s) (statements_of (drop (i + 1) ss)) = at_drop_more statements_of ss i s within ∙ ap (λ x. Then (statement_of x) (statements_of (drop (i + 1) ss))) (sym at) in
    grind (arith, noted_append)

-- and so of the alternatives
pub alternative_noted : (g : Scope) (h : ℕ) (xs : List Alt) (i : ℕ) (x : Alt) (a b c d : Option ClassFault) → i < length xs → x ≡ get_or xs i x → h ≡ min (g.held + i) 64
    → Notes a b (expression_faults g h (expression_of (out-Alt x).guard) ++ needs g BoolSort (expression_of (out-Alt x).guard))
    → Notes b c (answer_faults g (out-Alt x).answer) → Notes c d (statements_faults g (statements_of (out-Alt x).work))
    → noted (found_of d) (alternatives_faults g (g.held + (i + 1)) (alternatives_of (drop (i + 1) xs))) ≡ noted (found_of a) (alternatives_faults g (g.held + i) (alternatives_of (drop i xs)))
alternative_noted g h xs i x a b c d within at held cond names work =
    let front : alternatives_of (drop i xs) ≡ OneAlt (expression_of (out-Alt x).guard) (out-Alt x).answer (statements_of (out-Alt x).work) (alternatives_of (drop (i + 1) xs)) =
    at_drop_more alternatives_of xs i x within ∙ ap (λ y. OneAlt (expression_of (out-Alt y).guard) (out-Alt y).answer (statements_of (out-Alt y).work) (alternatives_of (drop (i + 1) xs))) (sym at) in
    let same = same_faults g h (g.held + i) (expression_of (out-Alt x).guard) (omega arith) in
    let up : g.held + (i + 1) ≡ (g.held + i) + 1 = omega arith in
    grind (arith, noted_append)

-- and so of the names of an answer list
pub name_noted : (g : Scope) (ns : List Named) (i : ℕ) (n : Named) (twice : Bool) (a b : Option ClassFault) → i < length ns → n ≡ get_or ns i n
    → twice ≡ list_any (λ m. m.name.0 == n.name.0) (take i ns)
    → Notes a b (fault_if (not (is_some (own_method g n.name.0)) || twice) n.pos answer_name)
    → noted (found_of b) (names_faults g (names_before (λ m. m.name.0) [] (take (i + 1) ns)) (drop (i + 1) ns)) ≡ noted (found_of a) (names_faults g (names_before (λ m. m.name.0) [] (take i ns)) (drop i ns))
name_noted g ns i n twice a b within at is_twice one =
    let front : drop i ns ≡ n ∷ drop (i + 1) ns = at_drop_more (λ l. l) ns i n within ∙ ap (λ x. x ∷ drop (i + 1) ns) (sym at) in
    let more = before_more (λ (m : Named). m.name.0) [] ns i n within at in
    let known = any_before (λ (m : Named). m.name.0) (λ m. m == n.name.0) [] (take i ns) in
    grind (arith, noted_append)
