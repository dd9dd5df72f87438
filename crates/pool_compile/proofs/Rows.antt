-- Worked examples, computed: the code of programs, and its steps.
use Rattle.std.proofs.Common.{◌≡◌, refl, ℕ, zero, suc, pos, List, [], ◌∷◌, Option, Some, None, true, false}
use Rattle.std.specs.Prelude.{codes}
use Rattle.run_types.specs.declared.types.Value.TheVariants as V
use Rattle.run_types.specs.declared.types.Item.TheVariants as Item
use Rattle.run_types.specs.declared.types.Op.TheVariants as O
use Rattle.run_types.specs.declared.types.Kind.TheVariants as Kind
use Rattle.pool_syntax.specs.declared.tree.Named.{Named}
use Rattle.pool_syntax.specs.declared.tree.Var.{Var}
use Rattle.pool_syntax.specs.Terms.{Literal, Variable, Infix, Assign, Write, If, While, Select, Statements, Done, Then, NoAlts, Alt, ProgramTree}
use Rattle.code_semantics.specs.declared.unit.Instr.TheVariants as I
use Rattle.run_types.specs.declared.frames.CodeObject.{CodeObject}
use Rattle.code_semantics.specs.declared.unit.Unit.{Unit as Code}
use Rattle.code_semantics.specs.Kinds as K
use Rattle.code_semantics.specs.Kinds.{Kind as CodeKind, code_kind}
use Rattle.code_semantics.specs.Step.{code_stepped, code_gone_on, code_picked, code_made}
use Rattle.pool_compile.specs.Code.{name, body_instrs, method_instrs, code}

abbrev named : ℕ → Named
named n = record { name = name n; pos = 0 }

abbrev x : Var
x = record { name = name 1; kind = Kind.Int; pos = 0; kind_pos = 0 }

-- class Main var x : Int body x := 2 + 3; write x end
abbrev sum : ProgramTree
sum =
    record {
      name = named 0;
      vars = x ∷ [];
      methods = [];
      body = Then (Assign 1 0 (Infix O.Add (Literal (V.Int (pos 2)) 0) (Literal (V.Int (pos 3)) 0) 0)) (Then (Write (Variable 1 0)) Done);
    }
    ∷ []

sum_code : code sum
    ≡ record {
      name = name 0;
      vars = 1;
      methods = [];
      body = record { frame_words = 2; code = I.PushInt (pos 2) ∷ I.PushInt (pos 3) ∷ I.Oper O.Add ∷ I.StoreI 0 ∷ I.LoadI 0 ∷ I.Write ∷ I.Halt ∷ [] };
    }
    ∷ []
sum_code = refl

abbrev sum_unit : Code
sum_unit = record { names = codes "Main" ∷ codes "x" ∷ []; classes = code sum }

-- the kinds of an object, one after another, where each local step, write and pick of the first alternative is made
abbrev after : Code → CodeObject → CodeKind → CodeObject
after u y K.Local = code_stepped u 0 y
after u y (K.Write item) = code_gone_on u y
after u y (K.Select alts) = code_picked u y 1
after u y k = y

abbrev kinds : Code → ℕ → CodeObject → List CodeKind
kinds u zero y = []
kinds u (suc n) y = code_kind u y ∷ kinds u n (after u y (code_kind u y))

abbrev kinds_of : Code → ℕ → Option CodeObject → List CodeKind
kinds_of u n None = []
kinds_of u n (Some y) = kinds u n y

sum_kinds : kinds_of sum_unit 5 (code_made sum_unit (name 0)) ≡ K.Local ∷ K.Local ∷ K.Local ∷ K.Write (Item.Value (V.Int (pos 5))) ∷ K.Finished ∷ []
sum_kinds = refl

-- body while true do if false then fi; select when true then write 1 when false answer(m) then end od end
abbrev nested : Statements
nested =
    Then (While (Literal (V.Bool true) 0) (Then (If (Literal (V.Bool false) 0) Done Done)
    (Then (Select (Alt (Literal (V.Bool true) 0) None (Then (Write (Literal (V.Int (pos 1)) 0)) Done) (Alt (Literal (V.Bool false) 0) (Some (named 2 ∷ [])) Done NoAlts))) Done))) Done

nested_code : body_instrs (record { temps = []; vars = [] }) nested
    ≡ I.Loop ∷ I.PushBool true ∷ I.Branch 14 ∷ I.PushBool false ∷ I.Branch 6 ∷ I.Jump 6 ∷ I.PushBool true ∷ I.PushBool false
    ∷ I.Select (record { answer = None; at = 9 } ∷ record { answer = Some (name 2 ∷ []); at = 12 } ∷ []) ∷ I.PushInt (pos 1) ∷ I.Write ∷ I.Jump 13 ∷ I.Jump 13 ∷ I.Jump 0 ∷ I.Halt ∷ []
nested_code = refl

-- method f(n : Int) : Int begin result n + 1 post write n end
posting_code : method_instrs (record { temps = 1 ∷ []; vars = [] }) Done (Infix O.Add (Variable 1 0) (Literal (V.Int (pos 1)) 0) 0) (Then (Write (Variable 1 0)) Done)
    ≡ I.LoadT 0 ∷ I.PushInt (pos 1) ∷ I.Oper O.Add ∷ I.Post ∷ I.LoadT 0 ∷ I.Write ∷ I.Ret ∷ []
posting_code = refl

-- method g() begin post if true then else write 1 fi end: the places count from the start of the method
posting_places : method_instrs (record { temps = []; vars = [] }) Done (Literal V.Nil 0) (Then (If (Literal (V.Bool true) 0) Done (Then (Write (Literal (V.Int (pos 1)) 0)) Done)) Done)
    ≡ I.PushNil ∷ I.Post ∷ I.PushBool true ∷ I.Branch 5 ∷ I.Jump 7 ∷ I.PushInt (pos 1) ∷ I.Write ∷ I.Ret ∷ []
posting_places = refl
