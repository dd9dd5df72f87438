-- A call between two nodes, watched from the start to its end; and the same with one local transition too few, which stops.
use Rattle.std.proofs.Common.{◌≡◌, refl, ℕ, List, [], ◌∷◌, ◌++◌, Option, Some, None, codes}
use Rattle.std.specs.Fmt.{digits}
use Rattle.text_scan.specs.Text.{Text}
use Rattle.run_types.specs.declared.types.What.{What}
use Rattle.run_types.specs.declared.types.What.TheVariants as W
use Rattle.run_types.specs.declared.types.Label.TheVariants as L
use Rattle.run_types.specs.declared.types.Event.{Event}
use Rattle.run_types.specs.declared.types.Event.TheVariants.{Turn, Link}
use Rattle.run_types.specs.declared.types.End.TheVariants.{Quiet}
use Rattle.pool_relation.specs.Configuration.{Configuration}
use Rattle.pool_relation.specs.Transition.{start}
use Rattle.mesh_semantics.specs.Act.{id}
use Rattle.mesh_of_terms.proofs.Laws.{int, at, step, local, written, lines, Server, two_nodes_twice as twice, two_nodes_program as program}
use Rattle.term_text.specs.Watched.{watched_text}

abbrev table : List Text
table = codes "Server" ∷ codes "twice" ∷ codes "n" ∷ codes "Main" ∷ codes "s" ∷ []

abbrev nothing : Configuration
nothing = record { objects = []; messages = [] }

abbrev given : Option Configuration → Configuration
given None = nothing
given (Some c) = c

abbrev call : List (Event × What)
call =
    (Turn 0, W.PostCreate (at 0 0) (id Server) 1)
    ∷ (Link 0 1, step (L.New (at 0 0) (at 1 0) (id Server)))
    ∷ (Link 1 0, W.Created (at 0 0) (at 1 0))
    ∷ (Turn 0, local (at 0 0) 2)
    ∷ (Turn 0, W.PostCall (at 0 0) (at 1 0) (id twice) (int 21 ∷ []))
    ∷ (Link 0 1, W.Arrive (at 0 0) (at 1 0) (id twice))
    ∷ (Turn 0, W.Idle)
    ∷ (Turn 1, step (L.Answer (at 1 0) (at 0 0) (id twice) (int 21 ∷ [])))
    ∷ []

abbrev answer : ℕ → List (Event × What)
answer k =
    (Turn 1, local (at 1 0) k) ∷ (Turn 1, step (L.Return (at 1 0) (at 0 0) (int 42))) ∷ (Link 1 0, W.Result (at 0 0) (int 42)) ∷ (Turn 0, written (at 0 0) 42) ∷ []

abbrev front : Text
front =
    codes "watch\nobject 0.0 Main s=nil\nat 0.0 new Server\nbody 0.0 : s := [ new Server ] ; write s ! twice ( 21 )\nevent 1 turn 0 post create 0.0 Server 1\nevent 2 link 0 1 new 0.0 1.0 Server\nobject 0.0 Main s=nil\nat 0.0 local\nbody 0.0 : [ s := 1.0 ] ; write s ! twice ( 21 )\nobject 1.0 Server\nat 1.0 answer twice\nbody 1.0 : [ answer ( twice ) ]\nevent 3 link 1 0 created 0.0 1.0\nevent 4 turn 0 local 0.0 2\nobject 0.0 Main s=1.0\nat 0.0 send 1.0 twice 21\nbody 0.0 : write [ 1.0 ! twice ( 21 ) ]\nevent 5 turn 0 post call 0.0 1.0 twice 21\nevent 6 link 0 1 arrive 0.0 1.0 twice\nevent 7 turn 0 idle\nevent 8 turn 1 answer 1.0 0.0 twice 21\nobject 1.0 Server\nat 1.0 local\nbody 1.0 : { twice }\nserve 1.0 twice 0.0 n=21 : result [ n ] + n\nobject 0.0 Main s=1.0\nat 0.0 waits 1.0 twice\nbody 0.0 : write [ waits 1.0 twice ]\n"

whole :
    watched_text table program (given (start program 0)) (lines (call ++ answer 3) (Quiet 12)) ≡
    front ++ codes "event 9 turn 1 local 1.0 3\nobject 1.0 Server\nat 1.0 return 0.0 42\nbody 1.0 : { twice }\nserve 1.0 twice 0.0 n=21 : [ result 42 ]\nevent 10 turn 1 return 1.0 0.0 42\nobject 1.0 Server\nat 1.0 finished\nbody 1.0 :\nobject 0.0 Main s=1.0\nat 0.0 write 42\nbody 0.0 : [ write 42 ]\nevent 11 link 1 0 result 0.0 42\nevent 12 turn 0 write 0.0 42\nobject 0.0 Main s=1.0\nat 0.0 finished\nbody 0.0 :\nend quiet 12\n"
unfolding digits
whole = refl

with_one_local_transition_too_few :
    watched_text table program (given (start program 0)) (lines (call ++ answer 2) (Quiet 12)) ≡
    front ++ codes "event 9 turn 1 local 1.0 2\nobject 1.0 Server\nat 1.0 local\nbody 1.0 : { twice }\nserve 1.0 twice 0.0 n=21 : result [ 21 + 21 ]\nevent 10 turn 1 return 1.0 0.0 42\n"
unfolding digits
with_one_local_transition_too_few = refl
