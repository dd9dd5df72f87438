-- A heap that is full when a packet arrives: the packet stays on its link, computed.
--
-- class C body end
-- class Main var a : C body a := new C; a := new C; a := new C end
use Rattle.std.proofs.Common.{◌≡◌, refl, ℕ, List, [], ◌∷◌, ◌++◌}
use Rattle.run_types.specs.declared.types.Label.TheVariants as L
use Rattle.run_types.specs.declared.types.What.TheVariants as W
use Rattle.run_types.specs.declared.types.Event.{Event}
use Rattle.run_types.specs.declared.types.Event.TheVariants.{Turn, Link}
use Rattle.run_types.specs.declared.types.End.TheVariants.{Full}
use Rattle.run_types.specs.declared.types.FullKind.TheVariants.{Heap}
use Rattle.run_types.specs.declared.types.Place.TheVariants as P
use Rattle.run_types.specs.declared.types.Placement.{Placement}
use Rattle.pool_syntax.specs.Terms.{ProgramTree}
use Rattle.pool_relation.specs.Action.{Object}
use Rattle.run_types.specs.Paths.{on_link}
use Rattle.mesh_semantics.specs.Delay.{Create}
use Rattle.mesh_semantics.specs.Act.{id}
use Rattle.mesh_semantics.specs.Record.{Record}
use Rattle.mesh_semantics.specs.RecordOf.{record_of}
use Rattle.mesh_of_terms.specs.Terms.{terms}
use Rattle.mesh_of_terms.proofs.Shorthand.{var, object_of_class, class, block, new, set, mesh, turns, at, step, local, lines}

-- names in the order of the text
abbrev C : ℕ
C = 0

abbrev Main : ℕ
Main = 1

abbrev a : ℕ
a = 2

abbrev program : ProgramTree
program =
    class C [] [] (block [])
    ∷ class Main (var a (object_of_class C) ∷ []) [] (block (set a (new C) ∷ set a (new C) ∷ set a (new C) ∷ []))
    ∷ []

abbrev placement : Placement
placement = record (mesh 2 1 (P.At 1 ∷ P.Same ∷ [])) { objects = 2 }

abbrev schedule : List Event
schedule = Turn 0 ∷ Link 0 1 ∷ Link 1 0 ∷ turns 0 2 ++ Link 0 1 ∷ Link 1 0 ∷ turns 0 2 ++ Link 0 1 ∷ []

abbrev run : Record Object
run = record_of (terms program) placement 5 schedule

a_full_heap_by_a_packet : run.lines ≡
    lines (
    (Turn 0, W.PostCreate (at 0 0) (id C) 1)
    ∷ (Link 0 1, step (L.New (at 0 0) (at 1 0) (id C)))
    ∷ (Link 1 0, W.Created (at 0 0) (at 1 0))
    ∷ (Turn 0, local (at 0 0) 1)
    ∷ (Turn 0, W.PostCreate (at 0 0) (id C) 1)
    ∷ (Link 0 1, step (L.New (at 0 0) (at 1 1) (id C)))
    ∷ (Link 1 0, W.Created (at 0 0) (at 1 1))
    ∷ (Turn 0, local (at 0 0) 1)
    ∷ (Turn 0, W.PostCreate (at 0 0) (id C) 1)
    ∷ []
    ) (Full Heap 1 9)
a_full_heap_by_a_packet = refl

the_packet_was_not_moved : on_link run.delay.links (0, 1) ≡ Create (at 0 0) 1 C ∷ []
the_packet_was_not_moved = refl
