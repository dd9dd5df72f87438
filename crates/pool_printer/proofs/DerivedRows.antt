-- A worked example of a program without its positions.
use Rattle.std.proofs.Common.{◌≡◌, refl, ◌+◌, [], ◌∷◌, Some, None, true, pos}
use Rattle.run_types.specs.declared.types.Value.TheVariants as value
use Rattle.run_types.specs.declared.types.Op.TheVariants as op
use Rattle.run_types.specs.declared.types.Kind.TheVariants as kind
use Rattle.pool_syntax.specs.Terms.{Literal, Me, Variable, Create, Prefix, Infix, Call, Send, NoArgs, Arg, Assign, Write, WriteText, Do, Async, If, While, Answer, Select, Done, Then, NoAlts, Alt, ProgramTree}
use Rattle.pool_printer.specs.Renamed.{renamed}
use Rattle.pool_printer.proofs.DerivedParts.{named}

-- `class Main var x:Main method m(y:Int):Int begin m(x) result -1 end method x() local z:Bool begin end body x:=new Main;write "s";..`
written : ProgramTree
written = record {
  name = named 0 1;
  vars = record { name = record { 0 = 1 }; kind = kind.Class (record { 0 = 0 }); pos = 3; kind_pos = 5 } ∷ [];
  methods = record {
    name = named 2 7;
    params = record { name = record { 0 = 3 }; kind = kind.Int; pos = 9; kind_pos = 11 } ∷ [];
    locals = [];
    outcome = Some kind.Int;
    outcome_pos = 14;
    body = Then (Do (Call 2 (Arg (Variable 1 18) NoArgs) 16)) Done;
    value = Prefix op.Neg (Literal (value.Int (pos 1)) 22) 21;
    post = Done;
  } ∷ record {
    name = named 1 25;
    params = [];
    locals = record { name = record { 0 = 4 }; kind = kind.Bool; pos = 29; kind_pos = 31 } ∷ [];
    outcome = None;
    outcome_pos = 0;
    body = Done;
    value = Literal value.Nil 0;
    post = Done;
  } ∷ [];
  body = Then (Assign 1 35 (Create 0 38)) (Then (WriteText 5)
      (Then (If (Literal (value.Bool true) 44) (Then (Answer (named 2 48 ∷ [])) Done) (Then (Async (Me 51) 2 53 NoArgs) Done))
      (Then (Select (Alt (Infix op.Same (Variable 1 58) (Literal value.Nil 60) 59) (Some (named 2 63 ∷ [])) Done (Alt (Send (Variable 1 67) 2 NoArgs 69) None (Then (While (Variable 1 74) (Then (Write (Variable 1 77)) Done)) Done) NoAlts))) Done)));
} ∷ []

row : renamed (λ n. n + 10) written ≡ record {
  name = named 10 0;
  vars = record { name = record { 0 = 11 }; kind = kind.Class (record { 0 = 10 }); pos = 0; kind_pos = 0 } ∷ [];
  methods = record {
    name = named 12 0;
    params = record { name = record { 0 = 13 }; kind = kind.Int; pos = 0; kind_pos = 0 } ∷ [];
    locals = [];
    outcome = Some kind.Int;
    outcome_pos = 0;
    body = Then (Do (Call 12 (Arg (Variable 11 0) NoArgs) 0)) Done;
    value = Prefix op.Neg (Literal (value.Int (pos 1)) 0) 0;
    post = Done;
  } ∷ record {
    name = named 11 0;
    params = [];
    locals = record { name = record { 0 = 14 }; kind = kind.Bool; pos = 0; kind_pos = 0 } ∷ [];
    outcome = None;
    outcome_pos = 0;
    body = Done;
    value = Literal value.Nil 0;
    post = Done;
  } ∷ [];
  body = Then (Assign 11 0 (Create 10 0)) (Then (WriteText 15)
      (Then (If (Literal (value.Bool true) 0) (Then (Answer (named 12 0 ∷ [])) Done) (Then (Async (Me 0) 12 0 NoArgs) Done))
      (Then (Select (Alt (Infix op.Same (Variable 11 0) (Literal value.Nil 0) 0) (Some (named 12 0 ∷ [])) Done (Alt (Send (Variable 11 0) 12 NoArgs 0) None (Then (While (Variable 11 0) (Then (Write (Variable 11 0)) Done)) Done) NoAlts))) Done)));
} ∷ []
unfolding written
row = refl
