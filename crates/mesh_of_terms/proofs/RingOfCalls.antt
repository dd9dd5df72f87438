-- A ring of calls: three objects of which each calls the next, with the status of each at the end and the cycle,
-- computed.
--
-- class Peer var next : Peer method set(p : Peer) begin next := p end method hit() begin end body answer(set); next ! hit() end
-- class Main var a, b, c : Peer body a := new Peer; b := new Peer; c := new Peer; a !! set(b); b !! set(c); c !! set(a) end
use Rattle.std.proofs.Common.{◌≡◌, refl, ℕ, List, [], ◌∷◌, None}
use Rattle.std.specs.Prelude.{map}
use Rattle.run_types.specs.declared.types.End.{End}
use Rattle.run_types.specs.declared.types.End.TheVariants.{Quiet}
use Rattle.run_types.specs.declared.types.Line.{Line}
use Rattle.run_types.specs.declared.types.Line.TheVariants as R
use Rattle.run_types.specs.declared.types.Place.TheVariants as P
use Rattle.pool_syntax.specs.Terms.{ProgramTree, Do, Answer}
use Rattle.pool_relation.specs.Action.{Object}
use Rattle.mesh_semantics.specs.Record.{Record}
use Rattle.mesh_semantics.specs.RecordOf.{record_of}
use Rattle.mesh_semantics.specs.Standing.{Standing, Finished, Calls, standing}
use Rattle.mesh_semantics.specs.Cycles.{cycles}
use Rattle.mesh_of_terms.specs.Terms.{terms}
use Rattle.mesh_of_terms.proofs.Shorthand.{names, var, object_of_class, method, class, block, it, nothing, new, set, call, send, mesh, turns, at}

-- names in the order of the text
abbrev Peer : ℕ
Peer = 0

abbrev next : ℕ
next = 1

abbrev setting : ℕ
setting = 2

abbrev p : ℕ
p = 3

abbrev hit : ℕ
hit = 4

abbrev Main : ℕ
Main = 5

abbrev a : ℕ
a = 6

abbrev b : ℕ
b = 7

abbrev c : ℕ
c = 8

abbrev program : ProgramTree
program =
    class Peer (var next (object_of_class Peer) ∷ []) (
    method setting (var p (object_of_class Peer) ∷ []) [] None (block (set next (it p) ∷ [])) nothing
    ∷ method hit [] [] None (block []) nothing
    ∷ []
    ) (block (Answer (names (setting ∷ [])) ∷ Do (call (it next) hit []) ∷ []))
    ∷ class Main (var a (object_of_class Peer) ∷ var b (object_of_class Peer) ∷ var c (object_of_class Peer) ∷ []) [] (block (
    set a (new Peer) ∷ set b (new Peer) ∷ set c (new Peer)
    ∷ send (it a) setting (it b ∷ []) ∷ send (it b) setting (it c ∷ []) ∷ send (it c) setting (it a ∷ [])
    ∷ []
    ))
    ∷ []

abbrev run : Record Object
run = record_of (terms program) (mesh 1 1 (P.Same ∷ P.Same ∷ [])) 20 (turns 0 100)

-- each object with its class and where it stands
abbrev report : List (ℕ × ℕ × Standing)
report = map (λ e. (e.0, e.1.class, standing (terms program) run.delay e.0 e.1)) run.last.objects

each_stands : report ≡
    (at 0 0, Main, Finished)
    ∷ (at 0 1, Peer, Calls (at 0 2) hit)
    ∷ (at 0 2, Peer, Calls (at 0 3) hit)
    ∷ (at 0 3, Peer, Calls (at 0 1) hit)
    ∷ []
each_stands = refl

the_cycle : cycles (terms program) run.last run.delay ≡ (at 0 1 ∷ at 0 2 ∷ at 0 3 ∷ []) ∷ []
the_cycle = refl

-- the last line
abbrev end_of : List Line → List End
end_of [] = []
end_of (R.Event n e w ∷ ls) = end_of ls
end_of (R.End e ∷ ls) = e ∷ end_of ls

quiet_after_20 : end_of run.lines ≡ Quiet 20 ∷ []
quiet_after_20 = refl
