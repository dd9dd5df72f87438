-- A message that is taken from the middle of the arrived messages, computed.
--
-- class Box method a(n : Int) begin write n end method b(n : Int) begin write n end body answer(b) end
-- class Main var x : Box body x := new Box; x !! a(1); x !! b(2); x !! a(3); x !! b(4) end
use Rattle.std.proofs.Common.{◌≡◌, refl, ℕ, List, [], ◌∷◌, ◌++◌, length, None}
use Rattle.run_types.specs.declared.types.Label.TheVariants as L
use Rattle.run_types.specs.declared.types.What.TheVariants as W
use Rattle.run_types.specs.declared.types.Event.{Event}
use Rattle.run_types.specs.declared.types.Event.TheVariants.{Turn, Link}
use Rattle.run_types.specs.declared.types.End.TheVariants.{Quiet}
use Rattle.run_types.specs.declared.types.Place.TheVariants as P
use Rattle.run_types.specs.declared.types.Placement.{Placement}
use Rattle.run_types.specs.declared.types.Kind.TheVariants.{Int}
use Rattle.pool_syntax.specs.Terms.{ProgramTree, MethodTree, Write, Answer}
use Rattle.pool_relation.specs.Action.{Object}
use Rattle.mesh_semantics.specs.Config.{messages_of}
use Rattle.mesh_semantics.specs.Act.{id}
use Rattle.mesh_semantics.specs.Record.{Record}
use Rattle.mesh_semantics.specs.RecordOf.{record_of}
use Rattle.mesh_of_terms.specs.Terms.{terms}
use Rattle.mesh_of_terms.proofs.Shorthand.{names, var, object_of_class, method, class, block, it, number, nothing, new, set, send, mesh, turns, moves, int, at, step, local, written, lines}

-- names in the order of the text
abbrev Box : ℕ
Box = 0

abbrev a : ℕ
a = 1

abbrev n : ℕ
n = 2

abbrev b : ℕ
b = 3

abbrev Main : ℕ
Main = 4

abbrev x : ℕ
x = 5

-- a method that writes its argument
abbrev writes : ℕ → MethodTree
writes m = method m (var n Int ∷ []) [] None (block (Write (it n) ∷ [])) nothing

abbrev program : ProgramTree
program =
    class Box [] (writes a ∷ writes b ∷ []) (block (Answer (names (b ∷ [])) ∷ []))
    ∷ class Main (var x (object_of_class Box) ∷ []) [] (block (set x (new Box) ∷ send (it x) a (number 1 ∷ []) ∷ send (it x) b (number 2 ∷ []) ∷ send (it x) a (number 3 ∷ []) ∷ send (it x) b (number 4 ∷ []) ∷ []))
    ∷ []

abbrev placement : Placement
placement = mesh 2 1 (P.At 1 ∷ P.Same ∷ [])

abbrev schedule : List Event
schedule = Turn 0 ∷ Link 0 1 ∷ Link 1 0 ∷ turns 0 8 ++ moves 0 1 4 ++ turns 1 9

abbrev run : Record Object
run = record_of (terms program) placement 10 schedule

a_message_taken_out_of_the_middle : run.lines ≡
    lines (
    (Turn 0, W.PostCreate (at 0 0) (id Box) 1)
    ∷ (Link 0 1, step (L.New (at 0 0) (at 1 0) (id Box)))
    ∷ (Link 1 0, W.Created (at 0 0) (at 1 0))
    ∷ (Turn 0, local (at 0 0) 2)
    ∷ (Turn 0, step (L.Send (at 0 0) (at 1 0) (id a) (int 1 ∷ [])))
    ∷ (Turn 0, local (at 0 0) 1)
    ∷ (Turn 0, step (L.Send (at 0 0) (at 1 0) (id b) (int 2 ∷ [])))
    ∷ (Turn 0, local (at 0 0) 1)
    ∷ (Turn 0, step (L.Send (at 0 0) (at 1 0) (id a) (int 3 ∷ [])))
    ∷ (Turn 0, local (at 0 0) 1)
    ∷ (Turn 0, step (L.Send (at 0 0) (at 1 0) (id b) (int 4 ∷ [])))
    ∷ (Link 0 1, W.Arrive (at 0 0) (at 1 0) (id a))
    ∷ (Link 0 1, W.Arrive (at 0 0) (at 1 0) (id b))
    ∷ (Link 0 1, W.Arrive (at 0 0) (at 1 0) (id a))
    ∷ (Link 0 1, W.Arrive (at 0 0) (at 1 0) (id b))
    ∷ (Turn 1, step (L.Take (at 1 0) (at 0 0) (id b) (int 2 ∷ [])))
    ∷ (Turn 1, local (at 1 0) 1)
    ∷ (Turn 1, written (at 1 0) 2)
    ∷ (Turn 1, local (at 1 0) 1)
    ∷ []
    ) (Quiet 19)
a_message_taken_out_of_the_middle = refl

three_messages_stay_untaken : length (messages_of run.last (at 0 0) (at 1 0)) ≡ 3
three_messages_stay_untaken = refl
