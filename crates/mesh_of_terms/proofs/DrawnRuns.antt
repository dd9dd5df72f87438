-- Five programs drawn at random, with drawn placements and schedules, and the lines of their runs. Another program,
-- written from the rules in words, made the lines; it shares nothing with the definitions. The definitions compute the
-- same lines. Names are numbers, as they were drawn.
use Rattle.std.proofs.Common.{◌≡◌, refl, negsuc, List, [], ◌∷◌, ◌++◌, Some, None, true, false}
use Rattle.run_types.specs.declared.types.Op.TheVariants.{Add, And, Differs, Div, Less, LessEq, More, MoreEq, Mul, Neg, Not, Or, Same, Sub}
use Rattle.run_types.specs.declared.types.Value.TheVariants as V
use Rattle.run_types.specs.declared.types.Item.TheVariants as I
use Rattle.run_types.specs.declared.types.Error.TheVariants as Er
use Rattle.run_types.specs.declared.types.Label.TheVariants as L
use Rattle.run_types.specs.declared.types.What.{What}
use Rattle.run_types.specs.declared.types.What.TheVariants as W
use Rattle.run_types.specs.declared.types.Event.{Event}
use Rattle.run_types.specs.declared.types.Event.TheVariants.{Turn, Link}
use Rattle.run_types.specs.declared.types.End.TheVariants as En
use Rattle.run_types.specs.declared.types.FullKind.TheVariants as F
use Rattle.run_types.specs.declared.types.Place.TheVariants as P
use Rattle.run_types.specs.declared.types.Kind.TheVariants.{Int, Bool}
use Rattle.pool_syntax.specs.Terms.{ProgramTree, Write, WriteText, Do, If, While, Answer, Select, Alt, NoAlts}
use Rattle.mesh_semantics.specs.Act.{id}
use Rattle.mesh_semantics.specs.RecordOf.{record_of}
use Rattle.mesh_of_terms.specs.Terms.{terms}
use Rattle.mesh_of_terms.proofs.Shorthand.{names, var, object_of_class, method, class, block, it, number, yes, no, me, nothing, new, prefix_of, infix_of, set, call, own, send, mesh, int, at, step, local, events, lines}

-- three nodes in a column: calls, results and packets that pass, until the cells of node 1 are full
abbrev a_column : ProgramTree
a_column =
    class 0 (var 1 Int ∷ var 2 Bool ∷ var 3 (object_of_class 4) ∷ []) (
    method 5 (var 6 Bool ∷ []) (var 7 Int ∷ []) (Some Int) (block (
    set 7 (number 0)
    ∷ set 1 (infix_of Add (it 1) (prefix_of Neg (number 1)))
    ∷ Write (number 6)
    ∷ Write (infix_of Add (it 1) (it 7))
    ∷ []
    )) (infix_of Mul (it 1) (number 2))
    ∷ []
    ) (block (
    set 1 (number 0)
    ∷ set 2 yes
    ∷ While yes (block (
    Select (Alt (it 2) (Some (names (5 ∷ []))) (block []) (Alt (it 2) (Some (names (5 ∷ []))) (block []) (Alt yes (Some (names (5 ∷ []))) (block []) (Alt (infix_of More (it 1) (number 4)) None (block (set 1 (number 0) ∷ [])) NoAlts))))
    ∷ []
    ))
    ∷ []
    ))
    ∷ class 4 (var 1 Int ∷ var 2 Bool ∷ var 8 (object_of_class 0) ∷ []) (
    method 9 (var 10 (object_of_class 0) ∷ []) [] None (block (set 8 (it 10) ∷ [])) nothing
    ∷ method 5 (var 6 Int ∷ []) (var 7 Int ∷ []) None (block (
    set 7 (number 0)
    ∷ set 1 (infix_of Add (it 1) (number 1))
    ∷ Do (call (it 8) 5 (infix_of MoreEq (it 7) (number 0) ∷ []))
    ∷ []
    )) nothing
    ∷ []
    ) (block (
    set 1 (number 0)
    ∷ set 2 yes
    ∷ Answer (names (9 ∷ []))
    ∷ While (infix_of Less (it 1) (number 3)) (block (
    set 1 (infix_of Add (it 1) (number 1))
    ∷ Do (call (it 8) 5 (infix_of And (it 2) no ∷ []))
    ∷ Do (call (it 8) 5 (no ∷ []))
    ∷ Write (infix_of Same (new 11) nothing)
    ∷ []
    ))
    ∷ While yes (block (Answer (names (5 ∷ [])) ∷ []))
    ∷ []
    ))
    ∷ class 11 (var 1 Int ∷ var 2 Bool ∷ var 8 (object_of_class 0) ∷ var 3 (object_of_class 4) ∷ []) [] (block (
    set 1 (number 0)
    ∷ set 2 yes
    ∷ set 8 (new 0)
    ∷ set 3 (new 4)
    ∷ Do (call (it 3) 9 (it 8 ∷ []))
    ∷ set 3 (new 4)
    ∷ Do (call (it 3) 9 (it 8 ∷ []))
    ∷ set 3 (new 4)
    ∷ send (it 3) 9 (it 8 ∷ [])
    ∷ set 3 (new 4)
    ∷ send (it 3) 9 (it 8 ∷ [])
    ∷ []
    ))
    ∷ []

abbrev a_column_lines : List (Event × What)
a_column_lines =
    (Turn 0, local (at 0 0) 2)
    ∷ (Link 1 2, W.Idle)
    ∷ (Turn 0, W.PostCreate (at 0 0) (id 0) 1)
    ∷ (Turn 1, W.Idle)
    ∷ (Link 0 1, step (L.New (at 0 0) (at 1 0) (id 0)))
    ∷ (Turn 1, local (at 1 0) 8)
    ∷ (Link 1 0, W.Created (at 0 0) (at 1 0))
    ∷ (Turn 0, local (at 0 0) 1)
    ∷ (Turn 0, step (L.New (at 0 0) (at 0 1) (id 4)))
    ∷ (Turn 0, local (at 0 1) 2)
    ∷ (Turn 0, local (at 0 0) 3)
    ∷ (Turn 0, W.PostCall (at 0 0) (at 0 1) (id 9) (V.Ref (at 1 0) ∷ []))
    ∷ (Turn 0, step (L.Answer (at 0 1) (at 0 0) (id 9) (V.Ref (at 1 0) ∷ [])))
    ∷ (Turn 0, local (at 0 1) 2)
    ∷ (Turn 0, step (L.Return (at 0 1) (at 0 0) (V.Nil)))
    ∷ (Turn 0, local (at 0 0) 1)
    ∷ (Turn 1, W.Idle)
    ∷ (Turn 0, local (at 0 1) 10)
    ∷ (Turn 0, W.PostCreate (at 0 0) (id 4) 1)
    ∷ (Turn 0, W.PostCall (at 0 1) (at 1 0) (id 5) (V.Bool false ∷ []))
    ∷ (Link 0 1, step (L.New (at 0 0) (at 1 1) (id 4)))
    ∷ (Turn 1, local (at 1 1) 2)
    ∷ (Link 1 0, W.Created (at 0 0) (at 1 1))
    ∷ (Turn 0, local (at 0 0) 3)
    ∷ (Turn 0, W.PostCall (at 0 0) (at 1 1) (id 9) (V.Ref (at 1 0) ∷ []))
    ∷ (Link 0 1, W.Arrive (at 0 1) (at 1 0) (id 5))
    ∷ (Turn 1, step (L.Answer (at 1 0) (at 0 1) (id 5) (V.Bool false ∷ [])))
    ∷ (Turn 0, W.Idle)
    ∷ (Link 0 1, W.Arrive (at 0 0) (at 1 1) (id 9))
    ∷ (Turn 1, step (L.Answer (at 1 1) (at 0 0) (id 9) (V.Ref (at 1 0) ∷ [])))
    ∷ (Turn 1, local (at 1 0) 5)
    ∷ (Turn 1, local (at 1 1) 2)
    ∷ (Turn 0, W.Idle)
    ∷ (Turn 1, step (L.Write (at 1 0) (I.Value (int 6))))
    ∷ (Turn 1, step (L.Return (at 1 1) (at 0 0) (V.Nil)))
    ∷ (Link 1 0, W.Result (at 0 0) (V.Nil))
    ∷ (Turn 0, local (at 0 0) 1)
    ∷ (Turn 1, local (at 1 0) 3)
    ∷ (Turn 1, local (at 1 1) 10)
    ∷ (Turn 0, W.PostCreate (at 0 0) (id 4) 2)
    ∷ (Turn 1, step (L.Write (at 1 0) (I.Value (V.Int (negsuc 0)))))
    ∷ (Link 0 1, W.Pass)
    ∷ (Turn 1, W.PostCall (at 1 1) (at 1 0) (id 5) (V.Bool false ∷ []))
    ∷ (Link 1 2, step (L.New (at 0 0) (at 2 0) (id 4)))
    ∷ (Link 2 1, W.Pass)
    ∷ (Turn 1, local (at 1 0) 2)
    ∷ (Link 1 0, W.Created (at 0 0) (at 2 0))
    ∷ (Turn 0, local (at 0 0) 3)
    ∷ (Turn 1, step (L.Return (at 1 0) (at 0 1) (V.Int (negsuc 1))))
    ∷ (Link 1 0, W.Result (at 0 1) (V.Int (negsuc 1)))
    ∷ (Turn 0, local (at 0 1) 2)
    ∷ (Turn 2, local (at 2 0) 2)
    ∷ (Turn 0, step (L.Send (at 0 0) (at 2 0) (id 9) (V.Ref (at 1 0) ∷ [])))
    ∷ (Link 0 1, W.Pass)
    ∷ (Link 1 2, W.Arrive (at 0 0) (at 2 0) (id 9))
    ∷ (Turn 1, local (at 1 0) 6)
    ∷ (Turn 0, W.PostCall (at 0 1) (at 1 0) (id 5) (V.Bool false ∷ []))
    ∷ (Link 0 1, W.Arrive (at 0 1) (at 1 0) (id 5))
    ∷ (Turn 0, step (L.New (at 0 0) (at 0 2) (id 4)))
    ∷ (Turn 2, step (L.Take (at 2 0) (at 0 0) (id 9) (V.Ref (at 1 0) ∷ [])))
    ∷ (Turn 0, local (at 0 2) 2)
    ∷ (Turn 2, local (at 2 0) 13)
    ∷ (Turn 0, local (at 0 0) 3)
    ∷ (Turn 0, step (L.Send (at 0 0) (at 0 2) (id 9) (V.Ref (at 1 0) ∷ [])))
    ∷ (Turn 1, step (L.Answer (at 1 0) (at 1 1) (id 5) (V.Bool false ∷ [])))
    ∷ (Turn 1, local (at 1 0) 5)
    ∷ (Turn 1, step (L.Write (at 1 0) (I.Value (int 6))))
    ∷ (Turn 1, local (at 1 0) 3)
    ∷ (Turn 1, step (L.Write (at 1 0) (I.Value (V.Int (negsuc 1)))))
    ∷ (Turn 0, step (L.Take (at 0 2) (at 0 0) (id 9) (V.Ref (at 1 0) ∷ [])))
    ∷ (Turn 0, local (at 0 2) 13)
    ∷ (Turn 1, local (at 1 0) 2)
    ∷ (Turn 1, step (L.Return (at 1 0) (at 1 1) (V.Int (negsuc 3))))
    ∷ (Turn 2, W.PostCall (at 2 0) (at 1 0) (id 5) (V.Bool false ∷ []))
    ∷ (Turn 1, local (at 1 1) 2)
    ∷ (Turn 1, local (at 1 0) 6)
    ∷ (Turn 1, W.PostCall (at 1 1) (at 1 0) (id 5) (V.Bool false ∷ []))
    ∷ (Turn 0, W.PostCall (at 0 2) (at 1 0) (id 5) (V.Bool false ∷ []))
    ∷ (Turn 1, step (L.Answer (at 1 0) (at 0 1) (id 5) (V.Bool false ∷ [])))
    ∷ (Turn 1, local (at 1 0) 5)
    ∷ (Link 2 1, W.Arrive (at 2 0) (at 1 0) (id 5))
    ∷ (Turn 2, W.Idle)
    ∷ []

a_column_is_made : (record_of (terms a_column) (record (mesh 1 3 (P.At 1 ∷ P.Spread ∷ P.Same ∷ [])) { objects = 4; frames = 12; cells = 2 }) 20 (events a_column_lines ++ Link 0 1 ∷ [])).lines ≡ lines a_column_lines (En.Full F.Cells 1 82)
a_column_is_made = refl

-- one node: four language errors, and a quiet end
abbrev one_node : ProgramTree
one_node =
    class 0 (var 1 Int ∷ var 2 Bool ∷ []) (
    method 3 (var 4 Int ∷ []) (var 5 Int ∷ []) (Some Int) (block (
    set 5 (number 0)
    ∷ set 1 (infix_of Add (it 1) (number 1))
    ∷ While (infix_of Less (it 1) (number 7)) (block (
    set 1 (infix_of Add (it 1) (number 1))
    ∷ set 1 (number 2)
    ∷ WriteText 6
    ∷ send me 7 (nothing ∷ infix_of Sub (it 4) (it 1) ∷ [])
    ∷ []
    ))
    ∷ Write (new 8)
    ∷ []
    )) (it 1)
    ∷ method 7 (var 4 (object_of_class 8) ∷ var 9 Int ∷ []) (var 5 Int ∷ []) (Some Int) (block (
    set 5 (number 0)
    ∷ set 1 (infix_of Add (it 1) (number 1))
    ∷ set 9 (number 1)
    ∷ Write (number 5)
    ∷ []
    )) (it 9)
    ∷ []
    ) (block (set 1 (number 0) ∷ set 2 yes ∷ While yes (block (Answer (names (3 ∷ 7 ∷ [])) ∷ [])) ∷ []))
    ∷ class 8 (var 1 Int ∷ var 2 Bool ∷ var 10 (object_of_class 0) ∷ []) (
    method 11 (var 12 (object_of_class 0) ∷ []) [] None (block (set 10 (it 12) ∷ [])) nothing
    ∷ method 3 (var 4 Bool ∷ var 9 Int ∷ []) (var 5 Int ∷ []) (Some Int) (block (
    set 5 (number 0)
    ∷ set 1 (infix_of Add (it 1) (number 1))
    ∷ If (it 2) (block []) (block [])
    ∷ While (infix_of Less (it 1) (number 6)) (block (
    set 1 (infix_of Add (it 1) (number 1))
    ∷ Do (call (it 10) 3 (call (it 10) 3 (it 5 ∷ []) ∷ []))
    ∷ Do (call (it 10) 3 (infix_of Add (number 7) (it 9) ∷ []))
    ∷ Do (call (it 10) 7 (me ∷ number 9223372036854775807 ∷ []))
    ∷ []
    ))
    ∷ []
    )) (call (it 10) 7 (me ∷ number 2 ∷ []))
    ∷ method 7 (var 4 (object_of_class 8) ∷ []) [] (Some Int) (block (set 1 (infix_of Add (it 1) (number 1)) ∷ [])) (call (it 10) 3 (number 6 ∷ []))
    ∷ []
    ) (block (
    set 1 (number 0)
    ∷ set 2 yes
    ∷ Answer (names (11 ∷ []))
    ∷ While (infix_of Less (it 1) (number 3)) (block (
    set 1 (infix_of Add (it 1) (number 1))
    ∷ WriteText 6
    ∷ set 2 (infix_of And (infix_of LessEq (number 0) (it 1)) yes)
    ∷ set 1 (infix_of Div (number 6) (infix_of Sub (it 1) (it 1)))
    ∷ []
    ))
    ∷ While yes (block (Answer (names (3 ∷ 7 ∷ [])) ∷ []))
    ∷ []
    ))
    ∷ class 13 (var 1 Int ∷ var 2 Bool ∷ var 10 (object_of_class 0) ∷ var 14 (object_of_class 8) ∷ []) [] (block (
    set 1 (number 0)
    ∷ set 2 yes
    ∷ set 10 (new 0)
    ∷ set 14 (new 8)
    ∷ send (it 14) 11 (it 10 ∷ [])
    ∷ set 14 (new 8)
    ∷ Do (call (it 14) 11 (it 10 ∷ []))
    ∷ set 14 (new 8)
    ∷ Do (call (it 14) 11 (it 10 ∷ []))
    ∷ set 14 (new 8)
    ∷ send (it 14) 11 (it 10 ∷ [])
    ∷ While (infix_of Less (it 1) (number 4)) (block (
    set 1 (infix_of Add (it 1) (number 1))
    ∷ Do (call (it 10) 3 (call (it 14) 7 (it 14 ∷ []) ∷ []))
    ∷ Write (number 6)
    ∷ Do (call (it 14) 3 (it 2 ∷ infix_of Sub (it 1) (it 1) ∷ []))
    ∷ []
    ))
    ∷ Do (call (it 10) 3 (infix_of Add (it 1) (it 1) ∷ []))
    ∷ While (infix_of Less (it 1) (number 6)) (block (
    set 1 (infix_of Add (it 1) (number 1))
    ∷ WriteText 6
    ∷ send (it 10) 7 (it 14 ∷ prefix_of Neg (it 1) ∷ [])
    ∷ []
    ))
    ∷ []
    ))
    ∷ []

abbrev one_node_lines : List (Event × What)
one_node_lines =
    (Turn 0, local (at 0 0) 2)
    ∷ (Turn 0, step (L.New (at 0 0) (at 0 1) (id 0)))
    ∷ (Turn 0, local (at 0 1) 4)
    ∷ (Turn 0, local (at 0 0) 1)
    ∷ (Turn 0, step (L.New (at 0 0) (at 0 2) (id 8)))
    ∷ (Turn 0, local (at 0 2) 2)
    ∷ (Turn 0, local (at 0 0) 3)
    ∷ (Turn 0, step (L.Send (at 0 0) (at 0 2) (id 11) (V.Ref (at 0 1) ∷ [])))
    ∷ (Turn 0, step (L.Take (at 0 2) (at 0 0) (id 11) (V.Ref (at 0 1) ∷ [])))
    ∷ (Turn 0, step (L.New (at 0 0) (at 0 3) (id 8)))
    ∷ (Turn 0, local (at 0 2) 5)
    ∷ (Turn 0, local (at 0 3) 2)
    ∷ (Turn 0, local (at 0 0) 3)
    ∷ (Turn 0, local (at 0 2) 5)
    ∷ (Turn 0, W.PostCall (at 0 0) (at 0 3) (id 11) (V.Ref (at 0 1) ∷ []))
    ∷ (Turn 0, step (L.Write (at 0 2) (I.Text (id 6))))
    ∷ (Turn 0, step (L.Answer (at 0 3) (at 0 0) (id 11) (V.Ref (at 0 1) ∷ [])))
    ∷ (Turn 0, local (at 0 2) 5)
    ∷ (Turn 0, local (at 0 3) 2)
    ∷ (Turn 0, local (at 0 2) 2)
    ∷ (Turn 0, step (L.Return (at 0 3) (at 0 0) (V.Nil)))
    ∷ (Turn 0, local (at 0 0) 1)
    ∷ (Turn 0, step (L.Fault (at 0 2) Er.ZeroDivisor))
    ∷ (Turn 0, local (at 0 3) 5)
    ∷ (Turn 0, step (L.New (at 0 0) (at 0 4) (id 8)))
    ∷ (Turn 0, local (at 0 3) 2)
    ∷ (Turn 0, local (at 0 4) 2)
    ∷ (Turn 0, local (at 0 0) 3)
    ∷ (Turn 0, step (L.Write (at 0 3) (I.Text (id 6))))
    ∷ (Turn 0, W.PostCall (at 0 0) (at 0 4) (id 11) (V.Ref (at 0 1) ∷ []))
    ∷ (Turn 0, local (at 0 3) 5)
    ∷ (Turn 0, step (L.Answer (at 0 4) (at 0 0) (id 11) (V.Ref (at 0 1) ∷ [])))
    ∷ (Turn 0, local (at 0 3) 2)
    ∷ (Turn 0, local (at 0 4) 2)
    ∷ (Turn 0, step (L.Fault (at 0 3) Er.ZeroDivisor))
    ∷ (Turn 0, step (L.Return (at 0 4) (at 0 0) (V.Nil)))
    ∷ (Turn 0, local (at 0 0) 1)
    ∷ (Turn 0, local (at 0 4) 5)
    ∷ (Turn 0, step (L.New (at 0 0) (at 0 5) (id 8)))
    ∷ (Turn 0, local (at 0 4) 2)
    ∷ (Turn 0, local (at 0 5) 2)
    ∷ (Turn 0, local (at 0 0) 3)
    ∷ (Turn 0, step (L.Write (at 0 4) (I.Text (id 6))))
    ∷ (Turn 0, step (L.Send (at 0 0) (at 0 5) (id 11) (V.Ref (at 0 1) ∷ [])))
    ∷ (Turn 0, local (at 0 4) 5)
    ∷ (Turn 0, step (L.Take (at 0 5) (at 0 0) (id 11) (V.Ref (at 0 1) ∷ [])))
    ∷ (Turn 0, local (at 0 0) 5)
    ∷ (Turn 0, local (at 0 4) 2)
    ∷ (Turn 0, local (at 0 5) 5)
    ∷ (Turn 0, local (at 0 0) 5)
    ∷ (Turn 0, step (L.Fault (at 0 4) Er.ZeroDivisor))
    ∷ (Turn 0, local (at 0 5) 5)
    ∷ (Turn 0, W.PostCall (at 0 0) (at 0 5) (id 7) (V.Ref (at 0 5) ∷ []))
    ∷ (Turn 0, step (L.Write (at 0 5) (I.Text (id 6))))
    ∷ (Turn 0, local (at 0 5) 5)
    ∷ (Turn 0, local (at 0 5) 2)
    ∷ (Turn 0, step (L.Fault (at 0 5) Er.ZeroDivisor))
    ∷ []

one_node_is_made : (record_of (terms one_node) (record (mesh 1 1 (P.At 0 ∷ P.Spread ∷ P.Same ∷ [])) { objects = 40; frames = 30; cells = 1024 }) 5 (events one_node_lines ++ [])).lines ≡ lines one_node_lines (En.Quiet 57)
one_node_is_made = refl

-- one node: open plain alternatives, until the frames are full
abbrev picks : ProgramTree
picks =
    class 0 (var 1 Bool ∷ var 2 (object_of_class 3) ∷ []) (
    method 4 (var 5 Int ∷ []) (var 6 Int ∷ []) None (block (
    set 6 (number 1)
    ∷ While (infix_of Less (it 5) (number 3)) (block (set 5 (infix_of Add (it 5) (number 1)) ∷ set 6 (infix_of Add (number 4) (it 5)) ∷ set 2 (it 2) ∷ []))
    ∷ set 1 yes
    ∷ []
    )) nothing
    ∷ []
    ) (block (
    set 1 yes
    ∷ Write (number 5)
    ∷ Write (number 5)
    ∷ Write (number 5)
    ∷ WriteText 7
    ∷ set 1 (infix_of Same no (infix_of Or (it 1) (it 1)))
    ∷ set 1 (it 1)
    ∷ []
    ))
    ∷ class 3 (var 1 Int ∷ var 2 (object_of_class 0) ∷ var 8 (object_of_class 3) ∷ []) (
    method 4 [] (var 6 Int ∷ []) None (block (
    set 6 (number 1)
    ∷ send (it 8) 9 []
    ∷ Write (infix_of And (infix_of LessEq (it 1) (it 1)) (infix_of More (it 1) (it 1)))
    ∷ set 2 (it 2)
    ∷ []
    )) nothing
    ∷ method 9 [] (var 6 Int ∷ []) (Some Int) (block (
    If (infix_of Same yes no) (block (set 6 (it 6) ∷ [])) (block [])
    ∷ send (it 8) 4 []
    ∷ send (it 2) 4 (call (it 8) 9 [] ∷ [])
    ∷ []
    )) (call (it 8) 9 [])
    ∷ []
    ) (block (
    set 1 (number 0)
    ∷ set 2 (new 0)
    ∷ set 8 (new 3)
    ∷ Select (Alt yes (Some (names (4 ∷ []))) (block (Write (it 2) ∷ set 8 (it 8) ∷ [])) (Alt yes (Some (names (4 ∷ 9 ∷ []))) (block (send (it 8) 9 [] ∷ set 1 (infix_of Add (infix_of Add (it 1) (number 2)) (it 1)) ∷ [])) (Alt yes None (block []) NoAlts)))
    ∷ If (infix_of More (it 1) (number 3)) (block (If (prefix_of Not yes) (block (WriteText 7 ∷ Write (number 2) ∷ [])) (block []) ∷ Write me ∷ [])) (block [])
    ∷ Write (it 1)
    ∷ Write (it 8)
    ∷ While (infix_of Less (it 1) (number 5)) (block (
    set 1 (infix_of Add (it 1) (number 1))
    ∷ set 2 (it 2)
    ∷ set 1 (call (it 8) 9 [])
    ∷ set 1 (number 9)
    ∷ []
    ))
    ∷ set 2 (it 2)
    ∷ Write no
    ∷ While (infix_of Less (it 1) (number 30)) (block (set 1 (infix_of Add (it 1) (number 1)) ∷ Do (call (it 8) 4 []) ∷ set 1 (call (it 8) 9 []) ∷ []))
    ∷ While yes (block (Answer (names (4 ∷ 9 ∷ [])) ∷ []))
    ∷ []
    ))
    ∷ []

abbrev picks_lines : List (Event × What)
picks_lines =
    (Turn 0, local (at 0 0) 1)
    ∷ (Turn 0, step (L.New (at 0 0) (at 0 1) (id 0)))
    ∷ (Turn 0, local (at 0 1) 1)
    ∷ (Turn 0, local (at 0 0) 1)
    ∷ (Turn 0, step (L.Write (at 0 1) (I.Value (int 5))))
    ∷ (Turn 0, step (L.New (at 0 0) (at 0 2) (id 3)))
    ∷ (Turn 0, step (L.Write (at 0 1) (I.Value (int 5))))
    ∷ (Turn 0, local (at 0 2) 1)
    ∷ (Turn 0, local (at 0 0) 1)
    ∷ (Turn 0, step (L.Write (at 0 1) (I.Value (int 5))))
    ∷ (Turn 0, step (L.New (at 0 2) (at 0 3) (id 0)))
    ∷ (Turn 0, local (at 0 3) 1)
    ∷ (Turn 0, step (L.Pick (at 0 0) 3))
    ∷ (Turn 0, step (L.Write (at 0 1) (I.Text (id 7))))
    ∷ (Turn 0, local (at 0 2) 1)
    ∷ (Turn 0, step (L.Write (at 0 3) (I.Value (int 5))))
    ∷ (Turn 0, local (at 0 0) 1)
    ∷ (Turn 0, local (at 0 1) 1)
    ∷ (Turn 0, step (L.New (at 0 2) (at 0 4) (id 3)))
    ∷ (Turn 0, step (L.Write (at 0 3) (I.Value (int 5))))
    ∷ (Turn 0, local (at 0 4) 1)
    ∷ (Turn 0, local (at 0 0) 1)
    ∷ (Turn 0, local (at 0 1) 1)
    ∷ (Turn 0, local (at 0 2) 1)
    ∷ (Turn 0, step (L.Write (at 0 3) (I.Value (int 5))))
    ∷ (Turn 0, step (L.New (at 0 4) (at 0 5) (id 0)))
    ∷ (Turn 0, local (at 0 5) 1)
    ∷ (Turn 0, local (at 0 0) 1)
    ∷ (Turn 0, local (at 0 1) 1)
    ∷ (Turn 0, step (L.Pick (at 0 2) 3))
    ∷ (Turn 0, step (L.Write (at 0 3) (I.Text (id 7))))
    ∷ (Turn 0, local (at 0 4) 1)
    ∷ (Turn 0, step (L.Write (at 0 5) (I.Value (int 5))))
    ∷ (Turn 0, local (at 0 0) 1)
    ∷ (Turn 0, local (at 0 1) 1)
    ∷ (Turn 0, local (at 0 2) 1)
    ∷ (Turn 0, local (at 0 3) 1)
    ∷ (Turn 0, step (L.New (at 0 4) (at 0 6) (id 3)))
    ∷ (Turn 0, step (L.Write (at 0 5) (I.Value (int 5))))
    ∷ (Turn 0, local (at 0 6) 1)
    ∷ (Turn 0, step (L.Write (at 0 0) (I.Value (int 0))))
    ∷ (Turn 0, local (at 0 1) 1)
    ∷ (Turn 0, local (at 0 2) 1)
    ∷ (Turn 0, local (at 0 3) 1)
    ∷ (Turn 0, local (at 0 4) 1)
    ∷ (Turn 0, step (L.Write (at 0 5) (I.Value (int 5))))
    ∷ []

picks_is_made : (record_of (terms picks) (record (mesh 1 1 (P.Spread ∷ P.At 0 ∷ [])) { objects = 8; frames = 7; cells = 8 }) 1 (events picks_lines ++ Turn 0 ∷ [])).lines ≡ lines picks_lines (En.Full F.Frames 0 46)
picks_is_made = refl

-- six nodes: packets over several links, until a heap is full
abbrev six_nodes : ProgramTree
six_nodes =
    class 0 (var 1 Int ∷ var 2 Bool ∷ []) (
    method 3 (var 4 Int ∷ []) [] (Some Int) (block (set 1 (infix_of Add (it 1) (number 1)) ∷ Write nothing ∷ [])) (number 8)
    ∷ []
    ) (block (
    set 1 (number 0)
    ∷ set 2 yes
    ∷ While yes (block (
    Select (Alt (it 2) (Some (names (3 ∷ []))) (block []) (Alt (it 2) (Some (names (3 ∷ []))) (block (set 1 (it 1) ∷ [])) (Alt (infix_of More (it 1) (number 1)) (Some (names (3 ∷ []))) (block []) NoAlts)))
    ∷ []
    ))
    ∷ []
    ))
    ∷ class 5 (var 1 Int ∷ var 2 Bool ∷ var 6 (object_of_class 0) ∷ []) (
    method 7 (var 8 (object_of_class 0) ∷ []) [] None (block (set 6 (it 8) ∷ [])) nothing
    ∷ method 3 (var 4 Bool ∷ []) [] (Some Bool) (block (set 1 (infix_of Add (it 1) (number 1)) ∷ [])) yes
    ∷ []
    ) (block (
    set 1 (number 0)
    ∷ set 2 yes
    ∷ Answer (names (7 ∷ []))
    ∷ While yes (block (
    Select (Alt yes (Some (names (3 ∷ []))) (block []) (Alt yes (Some (names (3 ∷ []))) (block []) NoAlts))
    ∷ []
    ))
    ∷ []
    ))
    ∷ class 9 (var 1 Int ∷ var 2 Bool ∷ var 6 (object_of_class 0) ∷ var 10 (object_of_class 5) ∷ []) (
    method 7 (var 8 (object_of_class 0) ∷ var 11 (object_of_class 5) ∷ []) [] None (block (set 6 (it 8) ∷ set 10 (it 11) ∷ [])) nothing
    ∷ method 3 (var 4 (object_of_class 9) ∷ var 12 Int ∷ []) (var 13 Int ∷ []) (Some Int) (block (
    set 13 (number 0)
    ∷ set 1 (infix_of Add (it 1) (number 1))
    ∷ set 1 (call (it 6) 3 (number 7 ∷ []))
    ∷ []
    )) (call (it 6) 3 (it 1 ∷ []))
    ∷ []
    ) (block (
    set 1 (number 0)
    ∷ set 2 yes
    ∷ Answer (names (7 ∷ []))
    ∷ While (infix_of Less (it 1) (number 3)) (block (
    set 1 (infix_of Add (it 1) (number 1))
    ∷ Do (call (it 10) 3 (no ∷ []))
    ∷ Do (call (it 10) 3 (infix_of MoreEq (it 1) (it 1) ∷ []))
    ∷ []
    ))
    ∷ While yes (block (Answer (names (3 ∷ [])) ∷ []))
    ∷ []
    ))
    ∷ class 14 (var 1 Int ∷ var 2 Bool ∷ var 6 (object_of_class 0) ∷ var 10 (object_of_class 5) ∷ var 15 (object_of_class 9) ∷ []) [] (block (
    set 1 (number 0)
    ∷ set 2 yes
    ∷ set 6 (new 0)
    ∷ set 10 (new 5)
    ∷ Do (call (it 10) 7 (it 6 ∷ []))
    ∷ set 15 (new 9)
    ∷ send (it 15) 7 (it 6 ∷ it 10 ∷ [])
    ∷ set 15 (new 9)
    ∷ send (it 15) 7 (it 6 ∷ it 10 ∷ [])
    ∷ set 15 (new 9)
    ∷ send (it 15) 7 (it 6 ∷ it 10 ∷ [])
    ∷ Do (call (it 6) 3 (call (it 6) 3 (it 1 ∷ []) ∷ []))
    ∷ Do (call (it 10) 3 (call (it 10) 3 (it 2 ∷ []) ∷ []))
    ∷ send (it 6) 3 (number 2 ∷ [])
    ∷ []
    ))
    ∷ []

abbrev six_nodes_lines : List (Event × What)
six_nodes_lines =
    (Turn 0, local (at 0 0) 2)
    ∷ (Turn 0, W.PostCreate (at 0 0) (id 0) 3)
    ∷ (Link 0 3, step (L.New (at 0 0) (at 3 0) (id 0)))
    ∷ (Turn 3, local (at 3 0) 5)
    ∷ (Turn 3, local (at 3 0) 3)
    ∷ (Link 3 0, W.Created (at 0 0) (at 3 0))
    ∷ (Turn 0, local (at 0 0) 1)
    ∷ (Turn 0, W.PostCreate (at 0 0) (id 5) 3)
    ∷ (Link 0 3, step (L.New (at 0 0) (at 3 1) (id 5)))
    ∷ (Turn 3, local (at 3 1) 2)
    ∷ (Link 3 0, W.Created (at 0 0) (at 3 1))
    ∷ (Turn 0, local (at 0 0) 3)
    ∷ (Turn 0, W.PostCall (at 0 0) (at 3 1) (id 7) (V.Ref (at 3 0) ∷ []))
    ∷ (Link 0 3, W.Arrive (at 0 0) (at 3 1) (id 7))
    ∷ (Turn 3, step (L.Answer (at 3 1) (at 0 0) (id 7) (V.Ref (at 3 0) ∷ [])))
    ∷ (Turn 3, local (at 3 1) 2)
    ∷ (Turn 3, step (L.Return (at 3 1) (at 0 0) (V.Nil)))
    ∷ (Turn 3, local (at 3 1) 2)
    ∷ (Link 3 0, W.Result (at 0 0) (V.Nil))
    ∷ (Turn 0, local (at 0 0) 1)
    ∷ (Turn 0, W.PostCreate (at 0 0) (id 9) 5)
    ∷ (Link 0 1, W.Pass)
    ∷ (Link 1 2, W.Pass)
    ∷ (Link 2 5, step (L.New (at 0 0) (at 5 0) (id 9)))
    ∷ (Turn 5, local (at 5 0) 2)
    ∷ (Link 5 4, W.Pass)
    ∷ (Link 4 3, W.Pass)
    ∷ (Link 3 0, W.Created (at 0 0) (at 5 0))
    ∷ (Turn 4, W.Idle)
    ∷ (Turn 0, local (at 0 0) 4)
    ∷ (Turn 0, step (L.Send (at 0 0) (at 5 0) (id 7) (V.Ref (at 3 0) ∷ V.Ref (at 3 1) ∷ [])))
    ∷ (Link 5 2, W.Idle)
    ∷ (Link 0 1, W.Pass)
    ∷ (Turn 0, W.PostCreate (at 0 0) (id 9) 5)
    ∷ (Link 0 1, W.Pass)
    ∷ (Link 1 2, W.Pass)
    ∷ (Link 1 2, W.Pass)
    ∷ (Link 2 5, W.Arrive (at 0 0) (at 5 0) (id 7))
    ∷ (Turn 5, step (L.Take (at 5 0) (at 0 0) (id 7) (V.Ref (at 3 0) ∷ V.Ref (at 3 1) ∷ [])))
    ∷ (Turn 5, local (at 5 0) 5)
    ∷ (Turn 5, local (at 5 0) 5)
    ∷ (Turn 5, local (at 5 0) 3)
    ∷ (Turn 5, W.PostCall (at 5 0) (at 3 1) (id 3) (V.Bool false ∷ []))
    ∷ (Link 5 4, W.Pass)
    ∷ (Link 2 5, step (L.New (at 0 0) (at 5 1) (id 9)))
    ∷ (Turn 0, W.Idle)
    ∷ (Link 4 3, W.Arrive (at 5 0) (at 3 1) (id 3))
    ∷ (Turn 3, step (L.Answer (at 3 1) (at 5 0) (id 3) (V.Bool false ∷ [])))
    ∷ (Link 5 4, W.Pass)
    ∷ (Turn 5, local (at 5 1) 2)
    ∷ (Turn 3, local (at 3 1) 3)
    ∷ (Turn 3, step (L.Return (at 3 1) (at 5 0) (V.Bool true)))
    ∷ (Link 3 4, W.Pass)
    ∷ (Link 4 5, W.Result (at 5 0) (V.Bool true))
    ∷ (Link 4 3, W.Pass)
    ∷ (Turn 5, local (at 5 0) 5)
    ∷ (Link 3 0, W.Created (at 0 0) (at 5 1))
    ∷ (Turn 5, W.PostCall (at 5 0) (at 3 1) (id 3) (V.Bool true ∷ []))
    ∷ (Link 5 4, W.Pass)
    ∷ (Turn 0, local (at 0 0) 4)
    ∷ (Turn 3, local (at 3 1) 2)
    ∷ (Turn 0, step (L.Send (at 0 0) (at 5 1) (id 7) (V.Ref (at 3 0) ∷ V.Ref (at 3 1) ∷ [])))
    ∷ (Turn 0, W.PostCreate (at 0 0) (id 9) 5)
    ∷ (Link 4 3, W.Arrive (at 5 0) (at 3 1) (id 3))
    ∷ (Turn 3, step (L.Answer (at 3 1) (at 5 0) (id 3) (V.Bool true ∷ [])))
    ∷ (Turn 3, local (at 3 1) 3)
    ∷ (Link 0 1, W.Pass)
    ∷ (Turn 3, step (L.Return (at 3 1) (at 5 0) (V.Bool true)))
    ∷ (Turn 3, local (at 3 1) 2)
    ∷ (Link 1 2, W.Pass)
    ∷ (Link 0 1, W.Pass)
    ∷ (Link 3 4, W.Pass)
    ∷ (Link 2 5, W.Arrive (at 0 0) (at 5 1) (id 7))
    ∷ (Link 1 2, W.Pass)
    ∷ (Turn 5, step (L.Take (at 5 1) (at 0 0) (id 7) (V.Ref (at 3 0) ∷ V.Ref (at 3 1) ∷ [])))
    ∷ (Turn 5, local (at 5 1) 5)
    ∷ []

six_nodes_is_made : (record_of (terms six_nodes) (record (mesh 3 2 (P.At 3 ∷ P.At 3 ∷ P.At 5 ∷ P.At 0 ∷ [])) { objects = 2; frames = 6; cells = 8 }) 5 (events six_nodes_lines ++ Link 2 5 ∷ [])).lines ≡ lines six_nodes_lines (En.Full F.Heap 5 76)
six_nodes_is_made = refl

-- two nodes: language errors, and messages to who has met one, until the cells of node 1 are full
abbrev two_nodes : ProgramTree
two_nodes =
    class 0 (var 1 (object_of_class 0) ∷ var 2 Bool ∷ var 3 (object_of_class 0) ∷ []) (
    method 4 [] (var 5 Int ∷ []) (Some Bool) (block (
    While (infix_of Less (it 5) (number 6)) (block (set 5 (infix_of Add (it 5) (number 1)) ∷ set 1 (it 1) ∷ Do (own 4 []) ∷ set 5 (it 5) ∷ []))
    ∷ []
    )) (infix_of Differs (it 3) (it 3))
    ∷ []
    ) (block (
    set 2 yes
    ∷ set 1 (it 3)
    ∷ set 1 (it 1)
    ∷ set 2 (infix_of Same (number 9) (infix_of Add (number 5) (number 5)))
    ∷ set 2 (own 4 [])
    ∷ Write (number 5)
    ∷ []
    ))
    ∷ class 6 (var 1 Bool ∷ var 2 (object_of_class 0) ∷ var 7 (object_of_class 0) ∷ var 8 (object_of_class 6) ∷ var 3 (object_of_class 0) ∷ var 9 (object_of_class 6) ∷ []) (
    method 4 [] [] None (block []) nothing
    ∷ []
    ) (block (
    set 1 yes
    ∷ set 2 (new 0)
    ∷ set 3 (new 0)
    ∷ send (it 3) 4 []
    ∷ Write (it 9)
    ∷ While yes (block (send (it 3) 4 [] ∷ []))
    ∷ Write (number 5)
    ∷ While yes (block (Do (call (it 3) 4 []) ∷ []))
    ∷ Do (own 4 [])
    ∷ While yes (block (Answer (names (4 ∷ [])) ∷ []))
    ∷ []
    ))
    ∷ []

abbrev two_nodes_lines : List (Event × What)
two_nodes_lines =
    (Turn 0, local (at 0 0) 1)
    ∷ (Turn 0, W.PostCreate (at 0 0) (id 0) 1)
    ∷ (Link 0 1, step (L.New (at 0 0) (at 1 0) (id 0)))
    ∷ (Turn 0, W.Idle)
    ∷ (Link 1 0, W.Created (at 0 0) (at 1 0))
    ∷ (Link 1 0, W.Idle)
    ∷ (Turn 1, local (at 1 0) 11)
    ∷ (Turn 0, local (at 0 0) 1)
    ∷ (Turn 0, W.PostCreate (at 0 0) (id 0) 1)
    ∷ (Link 1 0, W.Idle)
    ∷ (Link 1 0, W.Idle)
    ∷ (Link 0 1, step (L.New (at 0 0) (at 1 1) (id 0)))
    ∷ (Turn 1, local (at 1 1) 11)
    ∷ (Turn 1, step (L.Fault (at 1 0) Er.NilOperand))
    ∷ (Link 1 0, W.Created (at 0 0) (at 1 1))
    ∷ (Turn 1, step (L.Fault (at 1 1) Er.NilOperand))
    ∷ (Turn 1, W.Idle)
    ∷ (Turn 0, local (at 0 0) 2)
    ∷ (Turn 0, step (L.Send (at 0 0) (at 1 1) (id 4) []))
    ∷ (Turn 1, W.Idle)
    ∷ (Link 0 1, W.Arrive (at 0 0) (at 1 1) (id 4))
    ∷ (Turn 0, local (at 0 0) 1)
    ∷ (Turn 0, step (L.Write (at 0 0) (I.Value (V.Nil))))
    ∷ (Turn 0, local (at 0 0) 3)
    ∷ (Link 0 1, W.Idle)
    ∷ (Turn 0, step (L.Send (at 0 0) (at 1 1) (id 4) []))
    ∷ (Turn 0, local (at 0 0) 3)
    ∷ (Link 0 1, W.Arrive (at 0 0) (at 1 1) (id 4))
    ∷ (Turn 0, step (L.Send (at 0 0) (at 1 1) (id 4) []))
    ∷ (Link 1 0, W.Idle)
    ∷ (Link 0 1, W.Arrive (at 0 0) (at 1 1) (id 4))
    ∷ (Turn 0, local (at 0 0) 3)
    ∷ (Turn 0, step (L.Send (at 0 0) (at 1 1) (id 4) []))
    ∷ (Turn 0, local (at 0 0) 3)
    ∷ (Link 0 1, W.Arrive (at 0 0) (at 1 1) (id 4))
    ∷ (Turn 1, W.Idle)
    ∷ (Turn 0, step (L.Send (at 0 0) (at 1 1) (id 4) []))
    ∷ (Turn 0, local (at 0 0) 3)
    ∷ []

two_nodes_is_made : (record_of (terms two_nodes) (record (mesh 2 1 (P.At 1 ∷ P.Spread ∷ [])) { objects = 256; frames = 11; cells = 4 }) 20 (events two_nodes_lines ++ Link 0 1 ∷ [])).lines ≡ lines two_nodes_lines (En.Full F.Cells 1 38)
two_nodes_is_made = refl
