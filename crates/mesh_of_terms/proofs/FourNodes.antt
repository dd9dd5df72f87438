-- Two producers and two consumers over a buffer on four nodes: the whole run to its quiet end, computed, and the
-- conclusions of the theorems.
--
-- class Buffer var first, second, count : Int
--     method put(n : Int) begin if count == 0 then first := n else second := n fi; count := count + 1 end
--     method get() : Int local r : Int begin r := first; first := second; count := count - 1 result r end
--     body count := 0; while true do
--       select when count < 2 answer(put) then when count > 0 answer(get) then end od end
-- class Total var sum, n : Int method add(v : Int) begin sum := sum + v; n := n + 1 end
--     body sum := 0; n := 0; while n < 6 do answer(add) od; write sum end
-- class Producer method start(b : Buffer, low : Int) local i : Int
--     begin i := low; while i < low + 3 do b ! put(i); i := i + 1 od end body answer(start) end
-- class Consumer method start(b : Buffer, t : Total) local i : Int
--     begin i := 0; while i < 3 do t !! add(b ! get()); i := i + 1 od end body answer(start) end
-- class Main var b : Buffer var t : Total var p : Producer var c : Consumer
--     body b := new Buffer; t := new Total; p := new Producer; p !! start(b, 1);
--     p := new Producer; p !! start(b, 11); c := new Consumer; c !! start(b, t);
--     c := new Consumer; c !! start(b, t) end
use Rattle.std.proofs.Common.{◌≡◌, refl, ap, ℕ, zero, suc, ◌*◌, ◌<◌, List, [], ◌∷◌, ◌++◌, Option, Some, None, true, slice_get, arith, IsTrue}
use Rattle.run_types.specs.declared.types.Value.TheVariants as V
use Rattle.run_types.specs.declared.types.Op.TheVariants.{Add, Sub, Less, More, Same}
use Rattle.run_types.specs.declared.types.Item.{Item}
use Rattle.run_types.specs.declared.types.Item.TheVariants as I
use Rattle.run_types.specs.declared.types.Label.TheVariants as L
use Rattle.run_types.specs.declared.types.What.TheVariants as W
use Rattle.run_types.specs.declared.types.Event.{Event}
use Rattle.run_types.specs.declared.types.Event.TheVariants.{Turn, Link}
use Rattle.run_types.specs.declared.types.End.{End}
use Rattle.run_types.specs.declared.types.End.TheVariants.{Quiet}
use Rattle.run_types.specs.declared.types.Line.{Line}
use Rattle.run_types.specs.declared.types.Line.TheVariants as R
use Rattle.run_types.specs.declared.types.Place.{Place}
use Rattle.run_types.specs.declared.types.Place.TheVariants.{At, Same as Here, Spread}
use Rattle.run_types.specs.declared.types.Placement.{Placement}
use Rattle.run_types.specs.declared.types.Kind.TheVariants.{Int}
use Rattle.pool_syntax.specs.Terms.{Literal, ProgramTree, Statement, NoAlts, Alt, If, While, Select, Write, Do, Answer}
use Rattle.pool_syntax.specs.Typing.{faults}
use Rattle.pool_syntax.specs.Written.{is_written}
use Rattle.pool_relation.specs.Configuration.{Configuration}
use Rattle.pool_relation.specs.Transition as X
use Rattle.mesh_semantics.specs.FitFor.{FitFor}
use Rattle.run_types.proofs.Laws.{plain_ways}
use Rattle.mesh_semantics.specs.Delay.{no_delay}
use Rattle.mesh_semantics.specs.Record.{root_name}
use Rattle.mesh_semantics.specs.RecordOf.{record_of}
use Rattle.mesh_of_terms.specs.RunOf.{IsRunFrom}
use Rattle.mesh_of_terms.proofs.RecordIsRun.{runs_from}
use Rattle.mesh_of_terms.specs.Terms.{terms}
use Rattle.mesh_of_terms.proofs.Shorthand.{names, var, object_of_class, method, class, block, it, number, nothing, new, infix_of, set, call, send, mesh, int}

-- names in the order of the text
abbrev Buffer : ℕ
Buffer = 0

abbrev first : ℕ
first = 1

abbrev second : ℕ
second = 2

abbrev count : ℕ
count = 3

abbrev put : ℕ
put = 4

abbrev n : ℕ
n = 5

abbrev get : ℕ
get = 6

abbrev r : ℕ
r = 7

abbrev Total : ℕ
Total = 8

abbrev sum : ℕ
sum = 9

abbrev add : ℕ
add = 10

abbrev v : ℕ
v = 11

abbrev Producer : ℕ
Producer = 12

abbrev start : ℕ
start = 13

abbrev b : ℕ
b = 14

abbrev low : ℕ
low = 15

abbrev i : ℕ
i = 16

abbrev Consumer : ℕ
Consumer = 17

abbrev t : ℕ
t = 18

abbrev Main : ℕ
Main = 19

abbrev p : ℕ
p = 20

abbrev c : ℕ
c = 21

-- x := x + 1
abbrev one_more : ℕ → Statement
one_more x = set x (infix_of Add (it x) (number 1))

abbrev pub program : ProgramTree
program =
    class Buffer (var first Int ∷ var second Int ∷ var count Int ∷ []) (
    method put (var n Int ∷ []) [] None (block (
    If (infix_of Same (it count) (number 0)) (block (set first (it n) ∷ [])) (block (set second (it n) ∷ []))
    ∷ one_more count
    ∷ []
    )) nothing
    ∷ method get [] (var r Int ∷ []) (Some Int) (block (
    set r (it first) ∷ set first (it second) ∷ set count (infix_of Sub (it count) (number 1))
    ∷ []
    )) (it r)
    ∷ []
    ) (block (
    set count (number 0)
    ∷ While (Literal (V.Bool true) 0) (block (
    Select (Alt (infix_of Less (it count) (number 2)) (Some (names (put ∷ []))) (block []) (Alt (infix_of More (it count) (number 0)) (Some (names (get ∷ []))) (block []) NoAlts))
    ∷ []
    ))
    ∷ []
    ))
    ∷ class Total (var sum Int ∷ var n Int ∷ []) (
    method add (var v Int ∷ []) [] None (block (set sum (infix_of Add (it sum) (it v)) ∷ one_more n ∷ [])) nothing
    ∷ []
    ) (block (
    set sum (number 0) ∷ set n (number 0)
    ∷ While (infix_of Less (it n) (number 6)) (block (Answer (names (add ∷ [])) ∷ []))
    ∷ Write (it sum)
    ∷ []
    ))
    ∷ class Producer [] (
    method start (var b (object_of_class Buffer) ∷ var low Int ∷ []) (var i Int ∷ []) None (block (
    set i (it low)
    ∷ While (infix_of Less (it i) (infix_of Add (it low) (number 3))) (block (Do (call (it b) put (it i ∷ [])) ∷ one_more i ∷ []))
    ∷ []
    )) nothing
    ∷ []
    ) (block (Answer (names (start ∷ [])) ∷ []))
    ∷ class Consumer [] (
    method start (var b (object_of_class Buffer) ∷ var t (object_of_class Total) ∷ []) (var i Int ∷ []) None (block (
    set i (number 0)
    ∷ While (infix_of Less (it i) (number 3)) (block (send (it t) add (call (it b) get [] ∷ []) ∷ one_more i ∷ []))
    ∷ []
    )) nothing
    ∷ []
    ) (block (Answer (names (start ∷ [])) ∷ []))
    ∷ class Main (var b (object_of_class Buffer) ∷ var t (object_of_class Total) ∷ var p (object_of_class Producer) ∷ var c (object_of_class Consumer) ∷ []) [] (block (
    set b (new Buffer) ∷ set t (new Total)
    ∷ set p (new Producer) ∷ send (it p) start (it b ∷ number 1 ∷ [])
    ∷ set p (new Producer) ∷ send (it p) start (it b ∷ number 11 ∷ [])
    ∷ set c (new Consumer) ∷ send (it c) start (it b ∷ it t ∷ [])
    ∷ set c (new Consumer) ∷ send (it c) start (it b ∷ it t ∷ [])
    ∷ []
    ))
    ∷ []

abbrev pub placement : Placement
placement = mesh 2 2 (At 3 ∷ Here ∷ Spread ∷ Spread ∷ Here ∷ [])

-- a turn of each node, and then a move of each link
abbrev round : List Event
round =
    Turn 0 ∷ Turn 1 ∷ Turn 2 ∷ Turn 3
    ∷ Link 0 1 ∷ Link 0 2 ∷ Link 1 0 ∷ Link 1 3 ∷ Link 2 0 ∷ Link 2 3 ∷ Link 3 1 ∷ Link 3 2
    ∷ []

abbrev rounds : ℕ → List Event
rounds zero = []
rounds (suc k) = round ++ rounds k

-- the items that are written, and the ends
abbrev pub told : List Line → List Item × List End
told [] = ([], [])
told (R.Event k e (W.Step (L.Write o item) times) ∷ ls) = let rest = told ls in (item ∷ rest.0, rest.1)
told (R.Event k e w ∷ ls) = told ls
told (R.End e ∷ ls) = let rest = told ls in (rest.0, e ∷ rest.1)

the_sum_after_805_events : told (record_of (terms program) placement 50 (rounds 500)).lines ≡ (I.Value (int 42) ∷ [], Quiet 805 ∷ [])
the_sum_after_805_events = refl

-- what the laws ask of a program and its placement

no_faults : faults program ≡ []
no_faults = refl

is_written_so : IsTrue (is_written program)
is_written_so = refl

abbrev node_in : Option Place → ℕ
node_in (Some (At k)) = k
node_in _ = 0

at_nodes : (j k : ℕ) → slice_get placement.places j ≡ Some (At k) → k < 2 * 2
at_nodes zero k h = let e : 3 ≡ k = ap node_in h in omega (arith, e)
at_nodes (suc zero) k h = absurd (cc)
at_nodes (suc (suc zero)) k h = absurd (cc)
at_nodes (suc (suc (suc zero))) k h = absurd (cc)
at_nodes (suc (suc (suc (suc zero)))) k h = absurd (cc)
at_nodes (suc (suc (suc (suc (suc j))))) k h = absurd (cc)

the_placement_fits : FitFor (terms program) placement
the_placement_fits = record { ways = plain_ways placement (omega arith) refl refl; nodes = omega arith; objects = (omega arith, omega arith); frames = omega arith; count = refl; places = at_nodes }

-- so its record is a run of the relation
the_record_is_a_run : (z : Configuration) → X.start program (root_name placement) ≡ Some z → IsRunFrom program placement 50 z no_delay (record_of (terms program) placement 50 (rounds 500))
the_record_is_a_run z h = runs_from program no_faults is_written_so placement the_placement_fits 50 (rounds 500) z h
