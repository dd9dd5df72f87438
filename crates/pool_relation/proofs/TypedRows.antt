-- Worked terms that are typed, and worked terms that are not.
use Rattle.std.proofs.Common.{◌≡◌, refl, ℕ, zero, suc, pos, [], ◌∷◌, None, Some, true, false}
use Rattle.run_types.specs.declared.types.Value.TheVariants as V
use Rattle.run_types.specs.declared.types.Op.TheVariants as O
use Rattle.run_types.specs.declared.types.Kind.TheVariants as K
use Rattle.pool_syntax.specs.declared.tree.Named.{Named}
use Rattle.pool_syntax.specs.Terms.{Expression, Literal, Prefix, Infix, Frame, Wait, Do, Statements, Done, Then, MethodTree, ProgramTree}
use Rattle.pool_syntax.specs.Typing.{Scope, faults, statements_faults}
use Rattle.pool_relation.specs.Configuration.{Configuration}
use Rattle.pool_relation.specs.Typed.{scope, are_sound_statements}

abbrev named : ℕ → Named
named n = record { name = record { 0 = n }; pos = 0 }

abbrev number : ℕ → Expression
number n = Literal (V.Int (pos n)) 0

abbrev nil : Expression
nil = Literal V.Nil 0

-- a class with a method of the result Int, and one without result
abbrev valued : MethodTree
valued = record { name = named 1; params = []; locals = []; outcome = Some K.Int; outcome_pos = 0; body = Done; value = number 7; post = Done }

abbrev silent : MethodTree
silent = record { name = named 2; params = []; locals = []; outcome = None; outcome_pos = 0; body = Done; value = nil; post = Done }

abbrev program : ProgramTree
program = record { name = named 0; vars = []; methods = valued ∷ silent ∷ []; body = Done } ∷ []

no_fault : faults program ≡ []
no_fault = refl

-- two objects of it
abbrev among : Configuration
among = record { objects = (0, record { class = 0; vars = []; term = Done; fault = None }) ∷ (1, record { class = 0; vars = []; term = Done; fault = None }) ∷ []; messages = [] }

abbrev here : Scope
here = scope program among 0

abbrev does : Expression → Statements
does e = Then (Do e) Done

-- each of the terms has no faults of its own
plus : statements_faults here (does (Prefix O.Add (number 1) 0)) ≡ []
plus = refl

-- an operator has its number of operands
plus_refused : are_sound_statements here (does (Prefix O.Add (number 1) 0)) ≡ false
plus_refused = refl

minus_accepted : are_sound_statements here (does (Prefix O.Neg (number 1) 0)) ≡ true
minus_accepted = refl

negation_refused : are_sound_statements here (does (Infix O.Not (Literal (V.Bool true) 0) (Literal (V.Bool true) 0) 0)) ≡ false
negation_refused = refl

-- a wait and a method under way stand where fewer than 64 operands are held
abbrev behind : ℕ → Expression → Expression
behind zero e = e
behind (suc n) e = Infix O.Add (number 1) (behind n e) 0

deep : statements_faults here (does (behind 64 (Wait 1 1))) ≡ []
deep = refl

wait_refused : are_sound_statements here (does (behind 64 (Wait 1 1))) ≡ false
wait_refused = refl

wait_accepted : are_sound_statements here (does (behind 63 (Wait 1 1))) ≡ true
wait_accepted = refl

method_refused : are_sound_statements here (does (behind 64 (Frame 1 [] Done (number 7) Done))) ≡ false
method_refused = refl

method_accepted : are_sound_statements here (does (behind 63 (Frame 1 [] Done (number 7) Done))) ≡ true
method_accepted = refl

-- a method under way without result has the value nil
silent_faults : statements_faults here (does (Frame 2 [] Done (number 7) Done)) ≡ []
silent_faults = refl

silent_refused : are_sound_statements here (does (Frame 2 [] Done (number 7) Done)) ≡ false
silent_refused = refl

silent_accepted : are_sound_statements here (does (Frame 2 [] Done nil Done)) ≡ true
silent_accepted = refl
