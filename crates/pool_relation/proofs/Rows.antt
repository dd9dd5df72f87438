-- Worked examples, which compute.
use Rattle.std.proofs.Common.{◌≡◌, refl, ℕ, ◌+◌, ◌-◌, ◌^◌, pos, List, [], ◌∷◌, ◌++◌, zero, suc, Option, Some, None, true, false}
use Rattle.run_types.specs.declared.types.Value.{Value}
use Rattle.run_types.specs.declared.types.Value.TheVariants as V
use Rattle.run_types.specs.declared.types.NameId.{NameId}
use Rattle.run_types.specs.declared.types.Item.TheVariants as I
use Rattle.run_types.specs.declared.types.Error.TheVariants as E
use Rattle.run_types.specs.declared.types.Op.TheVariants as O
use Rattle.run_types.specs.declared.types.Label.{Label}
use Rattle.run_types.specs.declared.types.Label.TheVariants as L
use Rattle.run_types.specs.declared.types.Kind.{Kind}
use Rattle.run_types.specs.declared.types.Kind.TheVariants as K
use Rattle.pool_syntax.specs.declared.tree.Named.{Named}
use Rattle.pool_syntax.specs.declared.tree.Var.{Var}
use Rattle.pool_syntax.specs.Terms.{Expression, Literal, Me, Variable, Create, Prefix, Infix, Call, Send, NoArgs, Arg, Assign, Write, Do, Async, If, While, Answer, Select, Serve, Statements, Done, Then, NoAlts, Alt, MethodTree, ClassTree, ProgramTree}
use Rattle.pool_syntax.specs.Typing.{faults}
use Rattle.pool_relation.specs.Action as A
use Rattle.pool_relation.specs.Action.{Object, Action, action}
use Rattle.pool_relation.specs.Configuration.{Configuration, object_of}
use Rattle.run_types.specs.Partial.{◌>>=◌}
use Rattle.pool_relation.specs.Transition.{run, start}

abbrev name : ℕ → NameId
name n = record { 0 = n }

abbrev named : ℕ → Named
named n = record { name = name n; pos = 0 }

abbrev var : ℕ → Kind → Var
var n k = record { name = name n; kind = k; pos = 0; kind_pos = 0 }

-- a number
abbrev num : ℕ → Expression
num n = Literal (V.Int (pos n)) 0

abbrev read : ℕ → Expression
read n = Variable n 0

-- Server 0, twice 1, n 2, Main 3, s 4
abbrev twice : MethodTree
twice = record {
  name = named 1;
  params = var 2 K.Int ∷ [];
  locals = [];
  outcome = Some K.Int;
  outcome_pos = 0;
  body = Done;
  value = Infix O.Add (read 2) (read 2) 0;
  post = Done;
}

abbrev server : ClassTree
server = record { name = named 0; vars = []; methods = twice ∷ []; body = Then (Answer (named 1 ∷ [])) Done }

abbrev main : ClassTree
main = record {
  name = named 3;
  vars = var 4 (K.Class (name 0)) ∷ [];
  methods = [];
  body = Then (Assign 4 0 (Create 0 0)) (Then (Write (Send (read 4) 1 (Arg (num 21) NoArgs) 0)) Done);
}

abbrev pub program : ProgramTree
program = server ∷ main ∷ []

abbrev pub int : ℕ → Value
int n = V.Int (pos n)

-- the configuration after these labels from the start
abbrev after : ProgramTree → List Label → Option Configuration
after p ls = start p 0 >>= λ c. run p c ls

abbrev action_at : ProgramTree → ℕ → Configuration → Option Action
action_at p o c = object_of c o >>= λ x. Some (action p o x)

-- what the object does next after these labels
abbrev next : ProgramTree → List Label → ℕ → Option Action
next p ls o = after p ls >>= action_at p o

abbrev created : List Label
created = L.New 0 5 (name 0) ∷ []

abbrev asked : List Label
asked = created ++ L.Local 0 ∷ L.Local 0 ∷ []

abbrev served : List Label
served = asked ++ L.Answer 5 0 (name 1) (int 21 ∷ []) ∷ []

abbrev computed : List Label
computed = served ++ L.Local 5 ∷ L.Local 5 ∷ L.Local 5 ∷ []

abbrev returned : List Label
returned = computed ++ L.Return 5 0 (int 42) ∷ []

abbrev written : List Label
written = returned ++ L.Write 0 (I.Value (int 42)) ∷ []

-- a call of another object: what is refused, and what comes next after each transition
no_take : after program (L.Take 0 0 (name 1) [] ∷ []) ≡ None
no_take = refl

no_new : after program (L.New 0 0 (name 0) ∷ []) ≡ None
no_new = refl

first_action : next program [] 0 ≡ Some (A.New 0)
first_action = refl

no_answer : after program (created ++ L.Answer 5 0 (name 1) (int 21 ∷ []) ∷ []) ≡ None
no_answer = refl

answer_action : next program created 5 ≡ Some (A.Answer (named 1 ∷ []))
answer_action = refl

send_action : next program asked 0 ≡ Some (A.Send 5 1 (int 21 ∷ []))
send_action = refl

waits_action : next program served 0 ≡ Some (A.Waits 5 1)
waits_action = refl

return_action : next program computed 5 ≡ Some (A.Return 0 (int 42))
return_action = refl

finished_action : next program returned 5 ≡ Some A.Finished
finished_action = refl

abbrev last : Configuration
last = record {
  objects =
      (0, record { class = 3; vars = (4, V.Ref 5) ∷ []; term = Done; fault = None })
      ∷ (5, record { class = 0; vars = []; term = Done; fault = None }) ∷ [];
  messages = [];
}

whole : after program written ≡ Some last
whole = refl

-- a program of one class without variables or methods
abbrev only : Statements → ProgramTree
only body = record { name = named 0; vars = []; methods = []; body = body } ∷ []

-- x := 2 + 3; write x
abbrev sum : ProgramTree
sum = record {
  name = named 0;
  vars = var 1 K.Int ∷ [];
  methods = [];
  body = Then (Assign 1 0 (Infix O.Add (num 2) (num 3) 0)) (Then (Write (read 1)) Done);
} ∷ []

three : List Label
three = L.Local 0 ∷ L.Local 0 ∷ L.Local 0 ∷ []

sum_action : next sum three 0 ≡ Some (A.Write (I.Value (int 5)))
unfolding three
sum_action = refl

no_fourth : after sum (three ++ L.Local 0 ∷ []) ≡ None
unfolding three
no_fourth = refl

-- the first possible alternative
abbrev picking : ProgramTree
picking = record {
  name = named 0;
  vars = [];
  methods = record {
    name = named 1;
    params = [];
    locals = [];
    outcome = None;
    outcome_pos = 0;
    body = Then (Write (num 2)) Done;
    value = Literal V.Nil 0;
    post = Done;
  } ∷ [];
  body = Then (Async (Me 0) 1 0 NoArgs) (Then (Select
      (Alt (Literal (V.Bool true) 0) None (Then (Write (num 1)) Done)
      (Alt (Literal (V.Bool true) 0) (Some (named 1 ∷ [])) (Then (Write (num 3)) Done) NoAlts))) Done);
} ∷ []

abbrev posted : List Label
posted = L.Local 0 ∷ L.Send 0 0 (name 1) [] ∷ []

pick_one : next picking (posted ++ L.Pick 0 1 ∷ []) 0 ≡ Some (A.Write (I.Value (int 1)))
pick_one = refl

pick_two : after picking (posted ++ L.Pick 0 2 ∷ []) ≡ None
pick_two = refl

abbrev taken : List Label
taken = posted ++ L.Take 0 0 (name 1) [] ∷ L.Write 0 (I.Value (int 2)) ∷ L.Local 0 ∷ L.Write 0 (I.Value (int 3)) ∷ []

taken_last : after picking taken ≡ Some (record {
  objects = (0, record { class = 0; vars = []; term = Done; fault = None }) ∷ [];
  messages = [];
})
taken_last = refl

-- the type's ends
abbrev greatest : Expression
greatest = num (2 ^ 63 - 1)

abbrev lowest : Expression
lowest = Infix O.Sub (Prefix O.Neg greatest 0) (num 1) 0

abbrev writes : Expression → ProgramTree
writes e = only (Then (Write e) Done)

lowest_by_minus_one : next (writes (Infix O.Div lowest (Prefix O.Neg (num 1) 0) 0)) (L.Local 0 ∷ L.Local 0 ∷ L.Local 0 ∷ []) 0 ≡ Some (A.Fault E.Overflow)
lowest_by_minus_one = refl

past_the_end : next (writes (Infix O.Add greatest (num 1) 0)) [] 0 ≡ Some (A.Fault E.Overflow)
past_the_end = refl

by_zero : next (writes (Infix O.Div (num 1) (num 0) 0)) [] 0 ≡ Some (A.Fault E.ZeroDivisor)
by_zero = refl

rest_by_minus_one : next (writes (Infix O.Rem lowest (Prefix O.Neg (num 1) 0) 0)) (L.Local 0 ∷ L.Local 0 ∷ L.Local 0 ∷ L.Local 0 ∷ []) 0 ≡ Some (A.Write (I.Value (int 0)))
rest_by_minus_one = refl

nothing_after_a_fault : after (writes (Infix O.Div (num 1) (num 0) 0)) (L.Fault 0 E.ZeroDivisor ∷ L.Fault 0 E.ZeroDivisor ∷ []) ≡ None
nothing_after_a_fault = refl

-- while true do .. od without end: these many local transitions
abbrev spin : ProgramTree
spin = only (Then (While (Literal (V.Bool true) 0) (Then (Do (Infix O.Add (num 1) (num 2) 0)) Done)) Done)

abbrev repeated : ℕ → List Label
repeated zero = []
repeated (suc n) = L.Local 0 ∷ repeated n

abbrev at : ℕ → ℕ → Named
at n p = record { name = name n; pos = p }

-- class S body end class Main var s : S var n : Int body s ! go(); n := true end
unknown_method : faults (
    record { name = at 0 1; vars = []; methods = []; body = Done }
    ∷ record {
      name = at 1 5;
      vars = record { name = name 2; kind = K.Class (name 0); pos = 7; kind_pos = 9 } ∷ record { name = name 3; kind = K.Int; pos = 11; kind_pos = 13 } ∷ [];
      methods = [];
      body = Then (Do (Send (Variable 2 15) 4 NoArgs 17)) (Then (Assign 3 21 (Literal (V.Bool true) 23)) Done);
    } ∷ []) ≡ (17, 7) ∷ (23, 9) ∷ []
unknown_method = refl

-- method m() begin end
abbrev empty_method : MethodTree
empty_method = record { name = at 1 3; params = []; locals = []; outcome = None; outcome_pos = 0; body = Done; value = Literal V.Nil 0; post = Done }

abbrev with_method : Statements → ProgramTree
with_method body = record { name = at 0 1; vars = []; methods = empty_method ∷ []; body = body } ∷ []

argument_count : faults (with_method (Then (Do (Call 1 (Arg (Literal (V.Int (pos 1)) 11) NoArgs) 9)) Done)) ≡ (9, 8) ∷ []
argument_count = refl

no_result : faults (with_method (Then (Write (Call 1 NoArgs 10)) Done)) ≡ (10, 10) ∷ []
no_result = refl

answer_name : faults (only (Then (Answer (at 9 5 ∷ [])) Done)) ≡ (5, 11) ∷ []
answer_name = refl

no_fault : faults program ≡ []
no_fault = refl

-- a class of these variables and methods, with this body
abbrev class_with : List Var → List MethodTree → Statements → ClassTree
class_with vars methods body = record { name = at 0 1; vars = vars; methods = methods; body = body }

abbrev int_var : ℕ → ℕ → Var
int_var n p = record { name = name n; kind = K.Int; pos = p; kind_pos = p + 2 }

class_twice : faults (class_with [] [] Done ∷ record { name = at 0 5; vars = []; methods = []; body = Done } ∷ []) ≡ (5, 1) ∷ []
class_twice = refl

unknown_class : faults (class_with (record { name = name 1; kind = K.Class (name 2); pos = 3; kind_pos = 5 } ∷ []) [] Done ∷ []) ≡ (5, 2) ∷ []
unknown_class = refl

variable_twice : faults (class_with (int_var 1 3 ∷ int_var 1 5 ∷ []) [] Done ∷ []) ≡ (5, 3) ∷ []
variable_twice = refl

abbrev takes : List Var → MethodTree
takes params = record { name = at 1 3; params = params; locals = []; outcome = None; outcome_pos = 0; body = Done; value = Literal V.Nil 0; post = Done }

local_twice : faults (class_with [] (takes (int_var 2 5 ∷ int_var 2 9 ∷ []) ∷ []) Done ∷ []) ≡ (9, 5) ∷ []
local_twice = refl

unknown_variable : faults (only (Then (Assign 9 3 (Literal (V.Int (pos 1)) 5)) Done)) ≡ (3, 6) ∷ []
unknown_variable = refl

type_differs : faults (only (Then (If (Literal (V.Int (pos 1)) 4) Done Done) Done)) ≡ (4, 9) ∷ []
type_differs = refl

ninth_parameter : faults (class_with [] (takes (int_var 11 5 ∷ int_var 12 9 ∷ int_var 13 13 ∷ int_var 14 17 ∷ int_var 15 21 ∷ int_var 16 25 ∷ int_var 17 29 ∷ int_var 18 33 ∷ int_var 19 37 ∷ []) ∷ []) Done ∷ []) ≡ (37, 12) ∷ []
ninth_parameter = refl

-- a hundred turns of a loop
hundred_turns : after spin (repeated 400) ≡ after spin []
hundred_turns = refl

method_twice : faults (class_with [] (takes [] ∷ record { name = at 1 9; params = []; locals = []; outcome = None; outcome_pos = 0; body = Done; value = Literal V.Nil 0; post = Done } ∷ []) Done ∷ []) ≡ (9, 4) ∷ []
method_twice = refl

-- the same with the two alternatives exchanged: both are possible, and the plain one is the second
abbrev exchanged : ProgramTree
exchanged = record {
  name = named 0;
  vars = [];
  methods = record {
    name = named 1;
    params = [];
    locals = [];
    outcome = None;
    outcome_pos = 0;
    body = Then (Write (num 2)) Done;
    value = Literal V.Nil 0;
    post = Done;
  } ∷ [];
  body = Then (Async (Me 0) 1 0 NoArgs) (Then (Select
      (Alt (Literal (V.Bool true) 0) (Some (named 1 ∷ [])) (Then (Write (num 3)) Done)
      (Alt (Literal (V.Bool true) 0) None (Then (Write (num 1)) Done) NoAlts))) Done);
} ∷ []

exchanged_one : after exchanged (posted ++ L.Pick 0 1 ∷ []) ≡ None
exchanged_one = refl

exchanged_two : next exchanged (posted ++ L.Pick 0 2 ∷ []) 0 ≡ Some (A.Write (I.Value (int 1)))
exchanged_two = refl

exchanged_take : next exchanged (posted ++ L.Take 0 0 (name 1) [] ∷ L.Write 0 (I.Value (int 2)) ∷ L.Local 0 ∷ []) 0 ≡ Some (A.Write (I.Value (int 3)))
exchanged_take = refl

-- the other language errors, and their order

abbrev nil : Expression
nil = Literal V.Nil 0

call_of_nil : next (only (Then (Do (Send nil 1 NoArgs 0)) Done)) [] 0 ≡ Some (A.Fault E.NilDestination)
call_of_nil = refl

message_to_nil : next (only (Then (Async nil 1 0 NoArgs) Done)) [] 0 ≡ Some (A.Fault E.NilDestination)
message_to_nil = refl

sum_with_nil : next (writes (Infix O.Add nil (num 1) 0)) [] 0 ≡ Some (A.Fault E.NilOperand)
sum_with_nil = refl

-- a nil operand comes before a zero divisor
nil_by_zero : next (writes (Infix O.Div nil (num 0) 0)) [] 0 ≡ Some (A.Fault E.NilOperand)
nil_by_zero = refl

nil_condition : next (only (Then (If nil Done Done) Done)) [] 0 ≡ Some (A.Fault E.NilOperand)
nil_condition = refl

-- nil can be compared
nil_is_nil : next (writes (Infix O.Same nil nil 0)) (L.Local 0 ∷ []) 0 ≡ Some (A.Write (I.Value (V.Bool true)))
nil_is_nil = refl

no_open_guard : next (only (Then (Select (Alt (Literal (V.Bool false) 0) None (Then (Write (num 1)) Done) NoAlts)) Done)) [] 0 ≡ Some (A.Fault E.NoOpenGuard)
no_open_guard = refl

-- a nil guard comes before that none is open
nil_guard : next (only (Then (Select (Alt (Literal (V.Bool false) 0) None Done (Alt nil None Done NoAlts))) Done)) [] 0 ≡ Some (A.Fault E.NilOperand)
nil_guard = refl

-- post statements: Server 0, f 1, n 2, Main 3, s 4
-- class Server method f(n : Int) : Int begin result n + 1 post write n end body answer(f) end
-- class Main var s : Server body s := new Server; write s ! f(4) end
abbrev post_method : MethodTree
post_method = record {
  name = named 1;
  params = var 2 K.Int ∷ [];
  locals = [];
  outcome = Some K.Int;
  outcome_pos = 0;
  body = Done;
  value = Infix O.Add (read 2) (num 1) 0;
  post = Then (Write (read 2)) Done;
}

abbrev posting : ProgramTree
posting =
    record { name = named 0; vars = []; methods = post_method ∷ []; body = Then (Answer (named 1 ∷ [])) Done }
    ∷ record {
      name = named 3;
      vars = var 4 (K.Class (name 0)) ∷ [];
      methods = [];
      body = Then (Assign 4 0 (Create 0 0)) (Then (Write (Send (read 4) 1 (Arg (num 4) NoArgs) 0)) Done);
    }
    ∷ []

posting_typed : faults posting ≡ []
posting_typed = refl

abbrev posted_back : List Label
posted_back =
    L.New 0 1 (name 0) ∷ L.Local 0 ∷ L.Local 0 ∷ L.Answer 1 0 (name 1) (int 4 ∷ []) ∷ L.Local 1 ∷ L.Local 1 ∷ L.Return 1 0 (int 5) ∷ []

-- the caller has its value before the post statements are executed
caller_goes_on : next posting posted_back 0 ≡ Some (A.Write (I.Value (int 5)))
caller_goes_on = refl

server_goes_on : next posting posted_back 1
    ≡ Some (A.Local (Then (Serve 1 None ((2, int 4) ∷ []) Done (Literal (int 5) 0) (Then (Write (Literal (int 4) 0)) Done)) Done) [])
server_goes_on = refl

-- and is over after them
server_is_over : next posting (posted_back ++ L.Local 1 ∷ L.Write 1 (I.Value (int 4)) ∷ L.Local 1 ∷ []) 1 ≡ Some A.Finished
server_is_over = refl

-- an own call executes them before its value is handed over
abbrev own_post : MethodTree
own_post = record {
  name = named 1;
  params = [];
  locals = [];
  outcome = Some K.Int;
  outcome_pos = 0;
  body = Done;
  value = num 1;
  post = Then (Write (num 2)) Done;
}

abbrev own_posting : ProgramTree
own_posting = record { name = named 0; vars = []; methods = own_post ∷ []; body = Then (Write (Call 1 NoArgs 0)) Done } ∷ []

own_posts_first : next own_posting (L.Local 0 ∷ []) 0 ≡ Some (A.Write (I.Value (int 2)))
own_posts_first = refl

own_value_last : next own_posting (L.Local 0 ∷ L.Write 0 (I.Value (int 2)) ∷ L.Local 0 ∷ []) 0 ≡ Some (A.Write (I.Value (int 1)))
own_value_last = refl

-- post statements are checked as the statements of their method
unknown_in_post : faults (class_with [] (record empty_method { post = Then (Write (Variable 7 9)) Done } ∷ []) Done ∷ []) ≡ (9, 6) ∷ []
unknown_in_post = refl

-- one operand is held before them, which is the value of the method
abbrev sum_of : ℕ → Expression
sum_of zero = Literal (V.Int (pos 1)) 5
sum_of (suc n) = Infix O.Add (num 1) (sum_of n) 0

value_is_held : faults (class_with [] (record empty_method { post = Then (Write (sum_of 63)) Done } ∷ []) Done ∷ []) ≡ (5, 12) ∷ []
value_is_held = refl

room_for_63 : faults (class_with [] (record empty_method { post = Then (Write (sum_of 62)) Done } ∷ []) Done ∷ []) ≡ []
room_for_63 = refl
