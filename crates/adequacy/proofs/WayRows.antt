-- The way of a program that writes 1 + 2.
use Rattle.std.proofs.Common.{◌≡◌, refl, ℕ, pos, List, [], ◌∷◌, Some, None}
use Rattle.run_types.specs.declared.types.Item.TheVariants as I
use Rattle.run_types.specs.declared.types.Label.{Label}
use Rattle.run_types.specs.declared.types.Label.TheVariants as L
use Rattle.run_types.specs.declared.types.Op.TheVariants as O
use Rattle.run_types.specs.declared.types.Value.TheVariants as V
use Rattle.pool_syntax.specs.Terms.{Expression, Literal, Infix, Write, Statements, Done, Then, ProgramTree}
use Rattle.pool_relation.specs.Configuration.{Configuration}
use Rattle.pool_relation.specs.Transition.{start}
use Rattle.pool_relation.proofs.Laws.{start_typed}
use Rattle.adequacy.specs.RightWay.{IsRightWay}
use Rattle.adequacy.proofs.RunPrefixes.{run_is}

abbrev number : ℕ → Expression
number n = Literal (V.Int (pos n)) 0

abbrev work : Statements
work = Then (Write (Infix O.Add (number 1) (number 2) 0)) Done

abbrev program : ProgramTree
program = record { name = record { name = record { 0 = 0 }; pos = 0 }; vars = []; methods = []; body = work } ∷ []

-- its only object, with this to do
abbrev doing : Statements → Configuration
doing ss = record { objects = (0, record { class = 0; vars = []; term = ss; fault = None }) ∷ []; messages = [] }

abbrev labels : List Label
labels = L.Local 0 ∷ L.Write 0 (I.Value (V.Int (pos 3))) ∷ []

first_is : start program 0 ≡ Some (doing work)
first_is = refl

way : IsRightWay program (doing work) labels (doing Done)
way = run_is program refl refl labels (doing work) (doing Done) (start_typed program refl refl 0 (doing work) refl) refl
