-- A message of an object to itself takes the last free cell of a node, and one more cell is enough, computed.
--
-- class S method note() begin end method f() : Int begin self !! note() result 5 end body answer(f) end
-- class Main var s : S body s := new S; write s ! f() end
use Rattle.std.proofs.Common.{◌≡◌, refl, ℕ, List, [], ◌∷◌, ◌++◌, Some, None}
use Rattle.run_types.specs.declared.types.Label.TheVariants as L
use Rattle.run_types.specs.declared.types.What.{What}
use Rattle.run_types.specs.declared.types.What.TheVariants as W
use Rattle.run_types.specs.declared.types.Event.{Event}
use Rattle.run_types.specs.declared.types.Event.TheVariants.{Turn, Link}
use Rattle.run_types.specs.declared.types.End.TheVariants.{Quiet, Full}
use Rattle.run_types.specs.declared.types.FullKind.TheVariants.{Cells}
use Rattle.run_types.specs.declared.types.Place.TheVariants as P
use Rattle.run_types.specs.declared.types.Placement.{Placement}
use Rattle.run_types.specs.declared.types.Kind.TheVariants.{Int}
use Rattle.pool_syntax.specs.Terms.{ProgramTree, Me, Write, Answer}
use Rattle.mesh_semantics.specs.Act.{id}
use Rattle.mesh_semantics.specs.RecordOf.{record_of}
use Rattle.mesh_of_terms.specs.Terms.{terms}
use Rattle.mesh_of_terms.proofs.Shorthand.{names, var, object_of_class, method, class, block, it, number, nothing, new, set, call, send, mesh, turns, int, at, step, local, written, lines}

-- names in the order of the text
abbrev S : ℕ
S = 0

abbrev note : ℕ
note = 1

abbrev f : ℕ
f = 2

abbrev Main : ℕ
Main = 3

abbrev s : ℕ
s = 4

abbrev program : ProgramTree
program =
    class S [] (method note [] [] None (block []) nothing ∷ method f [] [] (Some Int) (block (send (Me 0) note [] ∷ [])) (number 5) ∷ []) (block (Answer (names (f ∷ [])) ∷ []))
    ∷ class Main (var s (object_of_class S) ∷ []) [] (block (set s (new S) ∷ Write (call (it s) f []) ∷ []))
    ∷ []

-- two nodes, with so many cells each
abbrev placement : ℕ → Placement
placement cells = record (mesh 2 1 (P.At 1 ∷ P.Same ∷ [])) { cells = cells }

abbrev schedule : List Event
schedule = Turn 0 ∷ Link 0 1 ∷ Link 1 0 ∷ turns 0 2 ++ Link 0 1 ∷ turns 1 4 ++ Link 1 0 ∷ Turn 0 ∷ []

-- up to the message to oneself
abbrev to_the_note : List (Event × What)
to_the_note =
    (Turn 0, W.PostCreate (at 0 0) (id S) 1)
    ∷ (Link 0 1, step (L.New (at 0 0) (at 1 0) (id S)))
    ∷ (Link 1 0, W.Created (at 0 0) (at 1 0))
    ∷ (Turn 0, local (at 0 0) 2)
    ∷ (Turn 0, W.PostCall (at 0 0) (at 1 0) (id f) [])
    ∷ (Link 0 1, W.Arrive (at 0 0) (at 1 0) (id f))
    ∷ (Turn 1, step (L.Answer (at 1 0) (at 0 0) (id f) []))
    ∷ (Turn 1, local (at 1 0) 1)
    ∷ (Turn 1, step (L.Send (at 1 0) (at 1 0) (id note) []))
    ∷ []

the_last_free_cell_is_taken : (record_of (terms program) (placement 1) 5 schedule).lines ≡ lines to_the_note (Full Cells 1 9)
the_last_free_cell_is_taken = refl

one_cell_more_is_enough : (record_of (terms program) (placement 2) 5 schedule).lines ≡
    lines (
    to_the_note
    ++ (Turn 1, step (L.Return (at 1 0) (at 0 0) (int 5)))
    ∷ (Link 1 0, W.Result (at 0 0) (int 5))
    ∷ (Turn 0, written (at 0 0) 5)
    ∷ []
    ) (Quiet 12)
one_cell_more_is_enough = refl
