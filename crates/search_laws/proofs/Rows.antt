-- Worked programs, which compute: one that is stuck, one with three configurations to keep that is never stuck or
-- faulty, and callers that are caught or dead.
use Rattle.std.proofs.Common.{◌≡◌, true, false, inl, inr, refl, sym, ap, ◌∙◌, subst, ℕ, pos, List, [], ◌∷◌, ◌++◌, map, Option, Some, None}
use Rattle.run_types.specs.declared.types.Value.{Value}
use Rattle.run_types.specs.declared.types.Value.TheVariants as V
use Rattle.run_types.specs.declared.types.NameId.{NameId}
use Rattle.run_types.specs.declared.types.Item.TheVariants as I
use Rattle.run_types.specs.declared.types.Op.TheVariants as O
use Rattle.run_types.specs.declared.types.Label.{Label}
use Rattle.run_types.specs.declared.types.Label.TheVariants as L
use Rattle.run_types.specs.declared.types.Kind.{Kind}
use Rattle.run_types.specs.declared.types.Kind.TheVariants as K
use Rattle.pool_syntax.specs.declared.tree.Named.{Named}
use Rattle.pool_syntax.specs.declared.tree.Var.{Var}
use Rattle.pool_syntax.specs.Terms.{Expression, Literal, Me, Variable, Create, Infix, Send, NoArgs, Arg, Assign, Write, Do, While, Answer, Done, Then, MethodTree, ClassTree, ProgramTree}
use Rattle.run_types.specs.Partial.{◌>>=◌}
use Rattle.run_types.proofs.Laws.{same_some}
use Rattle.pool_relation.specs.Configuration.{Configuration}
use Rattle.pool_relation.specs.Transition.{transition, run, start}
use Rattle.reachability.specs.Search.{IsReached, IsStuck, IsFaulty, WaitsAt, IsIn}
use Rattle.search_laws.specs.Renamed.{IsNameless}
use Rattle.reachability.specs.Labels.{labels_to_try}
use Rattle.search_laws.specs.Outcomes.{Passed}
use Rattle.search_laws.specs.Tried.{Follows, Stays, Every, ByBirth, IsTried, states_only, state_of}
use Rattle.search_laws.specs.PutOff.{IsWholeByChoices}
use Rattle.search_laws.specs.Dead.{IsDead, HasDead}
use Rattle.search_laws.specs.Caught.{is_caught}
use Rattle.search_laws.proofs.Dead.{stuck_is_dead}
use Rattle.search_laws.proofs.Caught.{caught_is_dead}
use Rattle.search_laws.proofs.CaughtWalk.{is_told_caught}
use Rattle.search_laws.proofs.AllLabels.{at_end_by_trying}
use Rattle.search_laws.proofs.Choices.{never_stuck_by_choices}
use Rattle.search_laws.proofs.ByChoices.{for_ends, never_faulty_by_choices}
use Rattle.search_laws.proofs.AllLabelsTried.{follows_by, whole_by_trying, nobody_waits, nobody_faulty}

abbrev name : ℕ → NameId
name n = record { 0 = n }

abbrev named : ℕ → Named
named n = record { name = name n; pos = 0 }

abbrev var : ℕ → Kind → Var
var n k = record { name = name n; kind = k; pos = 0; kind_pos = 0 }

abbrev num : ℕ → Expression
num n = Literal (V.Int (pos n)) 0

abbrev read : ℕ → Expression
read n = Variable n 0

abbrev int : ℕ → Value
int n = V.Int (pos n)

-- where the labels lead from the start, or nothing
abbrev nothing : Configuration
nothing = record { objects = []; messages = [] }

abbrev got : Option Configuration → Configuration
got None = nothing
got (Some c) = c

abbrev reached : ProgramTree → List Label → Configuration
reached p ls = got (start p 0 >>= λ c. run p c ls)

-- Main 0, ask 1: an object that calls itself
abbrev ask : MethodTree
ask = record { name = named 1; params = []; locals = []; outcome = Some K.Int; outcome_pos = 0; body = Done; value = num 7; post = Done }

abbrev itself : ProgramTree
itself = record { name = named 0; vars = []; methods = ask ∷ []; body = Then (Write (Send (Me 0) 1 NoArgs 0)) Done } ∷ []

calls_itself : labels_to_try itself 1 (reached itself (L.Local 0 ∷ [])) ≡ L.Answer 0 0 (name 1) [] ∷ []
calls_itself = refl

is_reached : IsReached itself (reached itself (L.Local 0 ∷ []))
is_reached = record { root = 0; first = reached itself []; labels = L.Local 0 ∷ []; starts = refl; leads = refl }

is_stuck : IsStuck itself (reached itself (L.Local 0 ∷ []))
is_stuck = record {
  at_end = at_end_by_trying itself (reached itself (L.Local 0 ∷ [])) 1 refl (refl, tt);
  name = 0;
  waits = record { object = _; there = refl; sound = refl; waits = refl };
}

-- Server 0, twice 1, n 2, Main 3, s 4: a call, and a post statement that writes 7 once the value is given
abbrev twice : MethodTree
twice = record {
  name = named 1;
  params = var 2 K.Int ∷ [];
  locals = [];
  outcome = Some K.Int;
  outcome_pos = 0;
  body = Done;
  value = Infix O.Add (read 2) (read 2) 0;
  post = Then (Write (num 7)) Done;
}

abbrev server : ClassTree
server = record { name = named 0; vars = []; methods = twice ∷ []; body = Then (Answer (named 1 ∷ [])) Done }

abbrev main : ClassTree
main = record {
  name = named 3;
  vars = var 4 (K.Class (name 0)) ∷ [];
  methods = [];
  body = Then (Assign 4 0 (Create 0 0)) (Then (Write (Send (read 4) 1 (Arg (num 21) NoArgs) 0)) Done);
}

abbrev program : ProgramTree
program = server ∷ main ∷ []

abbrev creates : Label
creates = L.New 0 1 (name 0)

abbrev asks : List Label
asks = L.Local 0 ∷ L.Local 0 ∷ []

abbrev answers : Label
answers = L.Answer 1 0 (name 1) (int 21 ∷ [])

abbrev finishes : List Label
finishes =
    L.Local 1 ∷ L.Local 1 ∷ L.Local 1 ∷ L.Return 1 0 (int 42) ∷ L.Write 1 (I.Value (int 7)) ∷ L.Local 1 ∷ L.Write 0 (I.Value (int 42)) ∷ []

-- what a search keeps: the start, before the call is answered, and the end
abbrev first : Configuration
first = reached program []

abbrev second : Configuration
second = reached program (creates ∷ asks)

abbrev third : Configuration
third = reached program (creates ∷ (asks ++ answers ∷ finishes))

abbrev entry : ℕ → Configuration → Passed
entry n c = record { next = n; items = []; configuration = c }

abbrev kept : List Passed
kept = entry 1 first ∷ entry 2 second ∷ entry 2 third ∷ []

abbrev states : List (ℕ × Configuration)
states = map state_of kept

first_labels : labels_to_try program 1 first ≡ creates ∷ []
first_labels = refl

second_labels : labels_to_try program 2 second ≡ answers ∷ []
second_labels = refl

third_labels : labels_to_try program 2 third ≡ []
third_labels = refl

is_tried : IsTried program states_only kept
is_tried = record {
  begins = λ c e. (first, subst (λ (x : Configuration). Follows program states_only x first) (same_some e) Stays, inl (refl, refl, refl));
  tried = (
    (refl, refl),
    Every (inr (record { next = reached program (creates ∷ []); step = refl; to = second; follows = follows_by program states_only _ second asks refl refl; is_in = inr (inl (refl, refl, refl)) }), tt),
    (
      (refl, refl),
      Every (inr (record { next = reached program (creates ∷ (asks ++ answers ∷ [])); step = refl; to = third; follows = follows_by program states_only _ third finishes refl refl; is_in = inr (inr (inl (refl, refl, refl))) }), tt),
      ((refl, refl), Every tt, tt),
    ),
  );
}

nameless : IsNameless program
nameless f = refl

-- the same list, of which the first entry was tried by its creation alone
tried_by_birth : IsTried program states_only kept
tried_by_birth = record {
  begins = is_tried.begins;
  tried = (
    (refl, refl),
    ByBirth 0 (name 0) (record { next = reached program (creates ∷ []); step = refl; to = second; follows = follows_by program states_only _ second asks refl refl; is_in = inr (inl (refl, refl, refl)) }),
    is_tried.tried.2,
  );
}

whole_by_birth : IsWholeByChoices program states
whole_by_birth = whole_by_trying program kept nameless tried_by_birth

none_stuck : (n : ℕ) (c : Configuration) → IsIn n c states → ¬ (IsStuck program c)
none_stuck n c (inl i) s = absurd (let z = ap (λ d. transition program d creates) i.1 ∙ s.at_end creates in cc)
none_stuck n c (inr (inl i)) s = absurd (let z = ap (λ d. transition program d answers) i.1 ∙ s.at_end answers in cc)
none_stuck n c (inr (inr (inl i))) s = nobody_waits program third s.name (refl, (refl, tt)) (subst (λ (d : Configuration). WaitsAt program d s.name) (sym i.1) s.waits)
none_stuck n c (inr (inr (inr i))) s = absurd i

none_faulty : (n : ℕ) (c : Configuration) → IsIn n c states → ¬ (IsFaulty c)
none_faulty n c (inl i) f = nobody_faulty first (refl, tt) (subst IsFaulty (sym i.1) f)
none_faulty n c (inr (inl i)) f = nobody_faulty second (refl, (refl, tt)) (subst IsFaulty (sym i.1) f)
none_faulty n c (inr (inr (inl i))) f = nobody_faulty third (refl, (refl, tt)) (subst IsFaulty (sym i.1) f)
none_faulty n c (inr (inr (inr i))) f = absurd i

whole : IsWholeByChoices program states
whole = whole_by_trying program kept nameless is_tried

-- no run of the program leads to a stuck configuration, nor to a faulty one
never_stuck : (d : Configuration) → IsReached program d → ¬ (IsStuck program d)
never_stuck d reached = never_stuck_by_choices program states nameless (for_ends program states whole) none_stuck d reached

never_faulty : (d : Configuration) → IsReached program d → ¬ (IsFaulty d)
never_faulty d reached = never_faulty_by_choices program states nameless whole none_faulty d reached

-- an object that calls itself is caught, so it is dead
itself_caught : is_caught itself (reached itself (L.Local 0 ∷ [])) 0 ≡ true
itself_caught = refl

itself_dead : IsDead itself (reached itself (L.Local 0 ∷ [])) 0
itself_dead = caught_is_dead itself (reached itself (L.Local 0 ∷ [])) 0 (is_told_caught itself (reached itself (L.Local 0 ∷ [])) 0 itself_caught)

-- Endless 5, Main 6: the same beside an object that goes on for ever
abbrev endless : ClassTree
endless = record { name = named 5; vars = []; methods = []; body = Then (While (Literal (V.Bool true) 0) Done) Done }

abbrev beside : ProgramTree
beside = endless ∷ record { name = named 6; vars = []; methods = ask ∷ []; body = Then (Do (Create 5 0)) (Then (Write (Send (Me 0) 1 NoArgs 0)) Done) } ∷ []

abbrev called : List Label
called = L.New 0 1 (name 5) ∷ L.Local 0 ∷ L.Local 0 ∷ []

goes_on : transition beside (reached beside called) (L.Local 1) ≡ Some (reached beside (called ++ L.Local 1 ∷ []))
goes_on = refl

beside_caught : is_caught beside (reached beside called) 0 ≡ true
beside_caught = refl

-- Gate 7, enter 1, leave 8, Main 9, g 4: the called object is at an answer to another method. So the caller is not
-- caught, but since no label is possible, it is dead.
abbrev leave : MethodTree
leave = record { name = named 8; params = []; locals = []; outcome = None; outcome_pos = 0; body = Done; value = Literal V.Nil 0; post = Done }

abbrev gated : ProgramTree
gated =
    record { name = named 7; vars = []; methods = ask ∷ leave ∷ []; body = Then (Answer (named 8 ∷ [])) Done }
    ∷ record { name = named 9; vars = var 4 (K.Class (name 7)) ∷ []; methods = []; body = Then (Assign 4 0 (Create 7 0)) (Then (Write (Send (read 4) 1 NoArgs 0)) Done) } ∷ []

abbrev before_gate : List Label
before_gate = L.New 0 1 (name 7) ∷ L.Local 0 ∷ L.Local 0 ∷ []

gate_not_caught : is_caught gated (reached gated before_gate) 0 ≡ false
gate_not_caught = refl

gate_dead : HasDead gated (reached gated before_gate)
gate_dead =
    stuck_is_dead gated (reached gated before_gate)
    (record { at_end = at_end_by_trying gated (reached gated before_gate) 2 refl (refl, tt); name = 0; waits = record { object = _; there = refl; sound = refl; waits = refl } })

-- Empty 5, Main 9, e 4: the caller of an object that has finished is caught
abbrev finished : ProgramTree
finished =
    record { name = named 5; vars = []; methods = ask ∷ []; body = Done }
    ∷ record { name = named 9; vars = var 4 (K.Class (name 5)) ∷ []; methods = []; body = Then (Assign 4 0 (Create 5 0)) (Then (Write (Send (read 4) 1 NoArgs 0)) Done) } ∷ []

finished_caught : is_caught finished (reached finished (L.New 0 1 (name 5) ∷ L.Local 0 ∷ L.Local 0 ∷ [])) 0 ≡ true
finished_caught = refl
