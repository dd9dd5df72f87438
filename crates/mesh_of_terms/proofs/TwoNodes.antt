-- A call between two nodes, computed line by line.
--
-- class Server method twice(n : Int) : Int begin result n + n end body answer(twice) end
-- class Main var s : Server body s := new Server; write s ! twice(21) end
use Rattle.std.proofs.Common.{◌≡◌, refl, ℕ, List, [], ◌∷◌, ◌++◌, Some}
use Rattle.run_types.specs.declared.types.Op.TheVariants.{Add}
use Rattle.run_types.specs.declared.types.Label.TheVariants as L
use Rattle.run_types.specs.declared.types.What.TheVariants as W
use Rattle.run_types.specs.declared.types.Event.{Event}
use Rattle.run_types.specs.declared.types.Event.TheVariants.{Turn, Link}
use Rattle.run_types.specs.declared.types.End.TheVariants.{Quiet}
use Rattle.run_types.specs.declared.types.Place.TheVariants as P
use Rattle.run_types.specs.declared.types.Placement.{Placement}
use Rattle.run_types.specs.declared.types.Kind.TheVariants.{Int}
use Rattle.pool_syntax.specs.Terms.{ProgramTree, Write, Answer}
use Rattle.mesh_semantics.specs.Act.{id}
use Rattle.mesh_semantics.specs.RecordOf.{record_of}
use Rattle.mesh_of_terms.specs.Terms.{terms}
use Rattle.mesh_of_terms.proofs.Shorthand.{names, var, object_of_class, method, class, block, it, number, new, infix_of, set, call, mesh, turns, int, at, step, local, written, lines}

-- names in the order of the text
abbrev pub Server : ℕ
Server = 0

abbrev pub twice : ℕ
twice = 1

abbrev n : ℕ
n = 2

abbrev Main : ℕ
Main = 3

abbrev s : ℕ
s = 4

abbrev pub program : ProgramTree
program =
    class Server [] (method twice (var n Int ∷ []) [] (Some Int) (block []) (infix_of Add (it n) (it n)) ∷ []) (block (Answer (names (twice ∷ [])) ∷ []))
    ∷ class Main (var s (object_of_class Server) ∷ []) [] (block (set s (new Server) ∷ Write (call (it s) twice (number 21 ∷ [])) ∷ []))
    ∷ []

abbrev pub placement : Placement
placement = mesh 2 1 (P.At 1 ∷ P.Same ∷ [])

abbrev schedule : List Event
schedule = Turn 0 ∷ Link 0 1 ∷ Link 1 0 ∷ turns 0 2 ++ Link 0 1 ∷ Turn 0 ∷ turns 1 3 ++ Link 1 0 ∷ Turn 0 ∷ []

a_call_between_two_nodes : (record_of (terms program) placement 10 schedule).lines ≡
    lines (
    (Turn 0, W.PostCreate (at 0 0) (id Server) 1)
    ∷ (Link 0 1, step (L.New (at 0 0) (at 1 0) (id Server)))
    ∷ (Link 1 0, W.Created (at 0 0) (at 1 0))
    ∷ (Turn 0, local (at 0 0) 2)
    ∷ (Turn 0, W.PostCall (at 0 0) (at 1 0) (id twice) (int 21 ∷ []))
    ∷ (Link 0 1, W.Arrive (at 0 0) (at 1 0) (id twice))
    ∷ (Turn 0, W.Idle)
    ∷ (Turn 1, step (L.Answer (at 1 0) (at 0 0) (id twice) (int 21 ∷ [])))
    ∷ (Turn 1, local (at 1 0) 3)
    ∷ (Turn 1, step (L.Return (at 1 0) (at 0 0) (int 42)))
    ∷ (Link 1 0, W.Result (at 0 0) (int 42))
    ∷ (Turn 0, written (at 0 0) 42)
    ∷ []
    ) (Quiet 12)
a_call_between_two_nodes = refl
