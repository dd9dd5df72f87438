-- Worked examples of the canonical text.
use Rattle.std.proofs.Common.{◌≡◌, refl, ℕ, true, false, List, [], ◌∷◌, ◌++◌, Some, None, codes, pos}
use Rattle.std.specs.Fmt.{digits}
use Rattle.text_scan.specs.Text.{Text, lookup}
use Rattle.text_scan.specs.Keywords.{keywords, keyword_text}
use Rattle.pool_syntax.specs.Tokens.{signs}
use Rattle.text_scan.specs.declared.keywords.Keyword.{Keyword}
use Rattle.text_scan.specs.declared.keywords.Keyword.TheVariants as word
use Rattle.pool_syntax.specs.declared.token.Sign.{Sign}
use Rattle.pool_syntax.specs.declared.token.Sign.TheVariants as sign
use Rattle.run_types.specs.declared.types.Value.TheVariants as value
use Rattle.run_types.specs.declared.types.Op.{Op}
use Rattle.run_types.specs.declared.types.Op.TheVariants as op
use Rattle.run_types.specs.declared.types.Kind.TheVariants as kind
use Rattle.pool_syntax.specs.declared.tree.Named.{Named}
use Rattle.pool_syntax.specs.declared.tree.Var.{Var}
use Rattle.pool_syntax.specs.Terms.{Expression, Literal, Me, Variable, Create, Prefix, Infix, Call, Send, NoArgs, Arg, Statements, Assign, Write, WriteText, Do, Async, If, While, Answer, Select, Done, Then, NoAlts, Alt, ProgramTree}
use Rattle.pool_syntax.specs.Spelling.{sign_text}
use Rattle.pool_printer.specs.Canonical.{canonical}

abbrev named : ℕ → Named
named n = record { name = record { 0 = n }; pos = 0 }

abbrev number : ℕ → Expression
number n = Literal (value.Int (pos n)) 0

-- each word and each sign is spelled as the table of the words and the signs has it

keyword_is_its_text : (k : Keyword) → lookup keywords (keyword_text k) ≡ Some k
keyword_is_its_text word.Class = refl
keyword_is_its_text word.Var = refl
keyword_is_its_text word.Method = refl
keyword_is_its_text word.Local = refl
keyword_is_its_text word.Begin = refl
keyword_is_its_text word.Result = refl
keyword_is_its_text word.Post = refl
keyword_is_its_text word.End = refl
keyword_is_its_text word.Body = refl
keyword_is_its_text word.If = refl
keyword_is_its_text word.Then = refl
keyword_is_its_text word.Else = refl
keyword_is_its_text word.Fi = refl
keyword_is_its_text word.While = refl
keyword_is_its_text word.Do = refl
keyword_is_its_text word.Od = refl
keyword_is_its_text word.Answer = refl
keyword_is_its_text word.Select = refl
keyword_is_its_text word.When = refl
keyword_is_its_text word.Write = refl
keyword_is_its_text word.New = refl
keyword_is_its_text word.SelfWord = refl
keyword_is_its_text word.Nil = refl
keyword_is_its_text word.True = refl
keyword_is_its_text word.False = refl
keyword_is_its_text word.Not = refl
keyword_is_its_text word.And = refl
keyword_is_its_text word.Or = refl
keyword_is_its_text word.Int = refl
keyword_is_its_text word.Bool = refl

sign_is_its_text : (s : Sign) → lookup signs (sign_text s) ≡ Some s
sign_is_its_text sign.Becomes = refl
sign_is_its_text sign.Colon = refl
sign_is_its_text sign.Semicolon = refl
sign_is_its_text sign.Comma = refl
sign_is_its_text sign.LeftParen = refl
sign_is_its_text sign.RightParen = refl
sign_is_its_text sign.Bang = refl
sign_is_its_text sign.BangBang = refl
sign_is_its_text sign.Equal = refl
sign_is_its_text sign.Differs = refl
sign_is_its_text sign.Less = refl
sign_is_its_text sign.LessEq = refl
sign_is_its_text sign.More = refl
sign_is_its_text sign.MoreEq = refl
sign_is_its_text sign.Plus = refl
sign_is_its_text sign.Minus = refl
sign_is_its_text sign.Star = refl
sign_is_its_text sign.Slash = refl
sign_is_its_text sign.Percent = refl

-- `class Main var x,y:Int body x:=(1+2)*3;y:=(x) end`

abbrev table : List Text
table = codes "Main" ∷ codes "x" ∷ codes "y" ∷ codes "m" ∷ codes "hi; " ∷ []

abbrev declared : ℕ → Var
declared n = record { name = record { 0 = n }; kind = kind.Int; pos = 0; kind_pos = 0 }

abbrev of_body : List Var → Statements → ProgramTree
of_body vs ss = record { name = named 0; vars = vs; methods = []; body = ss } ∷ []

first_row :
    canonical table (of_body (declared 1 ∷ declared 2 ∷ [])
    (Then (Assign 1 0 (Infix op.Mul (Infix op.Add (number 1) (number 2) 0) (number 3) 0)) (Then (Assign 2 0 (Variable 1 0)) Done)))
    ≡ codes "class Main\nvar x : Int\nvar y : Int\nbody x := ( 1 + 2 ) * 3 ;\ny := x end\n"
unfolding digits
first_row = refl

-- the text of an expression that is assigned to y
abbrev shown : Expression → Text
shown e = canonical table (of_body [] (Then (Assign 2 0 e) Done))

abbrev shows : Expression → Text → Type 0
shows e text = shown e ≡ codes "class Main\nbody y := " ++ (text ++ codes " end\n")

-- each two levels of operators, the one as the left and as the right operand of the other

abbrev left : Op → Op → Expression
left inner outer = Infix outer (Infix inner (number 1) (number 2) 0) (number 3) 0

abbrev right : Op → Op → Expression
right outer inner = Infix outer (number 1) (Infix inner (number 2) (number 3) 0) 0

left_operands :
    shows (left op.Or op.Or) (codes "1 or 2 or 3")
    × shows (left op.Or op.And) (codes "( 1 or 2 ) and 3")
    × shows (left op.Or op.Less) (codes "( 1 or 2 ) < 3")
    × shows (left op.Or op.Sub) (codes "( 1 or 2 ) - 3")
    × shows (left op.Or op.Rem) (codes "( 1 or 2 ) % 3")
    × shows (left op.And op.Or) (codes "1 and 2 or 3")
    × shows (left op.And op.And) (codes "1 and 2 and 3")
    × shows (left op.And op.LessEq) (codes "( 1 and 2 ) <= 3")
    × shows (left op.And op.Add) (codes "( 1 and 2 ) + 3")
    × shows (left op.And op.Mul) (codes "( 1 and 2 ) * 3")
    × shows (left op.Same op.Or) (codes "1 == 2 or 3")
    × shows (left op.More op.And) (codes "1 > 2 and 3")
    × shows (left op.MoreEq op.Differs) (codes "( 1 >= 2 ) != 3")
    × shows (left op.Less op.Sub) (codes "( 1 < 2 ) - 3")
    × shows (left op.Less op.Div) (codes "( 1 < 2 ) / 3")
    × shows (left op.Sub op.Or) (codes "1 - 2 or 3")
    × shows (left op.Sub op.And) (codes "1 - 2 and 3")
    × shows (left op.Sub op.Less) (codes "1 - 2 < 3")
    × shows (left op.Sub op.Add) (codes "1 - 2 + 3")
    × shows (left op.Sub op.Mul) (codes "( 1 - 2 ) * 3")
    × shows (left op.Div op.Or) (codes "1 / 2 or 3")
    × shows (left op.Div op.And) (codes "1 / 2 and 3")
    × shows (left op.Div op.Same) (codes "1 / 2 == 3")
    × shows (left op.Div op.Sub) (codes "1 / 2 - 3")
    × shows (left op.Div op.Rem) (codes "1 / 2 % 3")
unfolding digits
left_operands = (refl, refl, refl, refl, refl, refl, refl, refl, refl, refl, refl, refl, refl, refl, refl, refl, refl, refl, refl, refl, refl, refl, refl, refl, refl)

right_operands :
    shows (right op.Or op.Or) (codes "1 or ( 2 or 3 )")
    × shows (right op.Or op.And) (codes "1 or 2 and 3")
    × shows (right op.Or op.Less) (codes "1 or 2 < 3")
    × shows (right op.Or op.Sub) (codes "1 or 2 - 3")
    × shows (right op.Or op.Rem) (codes "1 or 2 % 3")
    × shows (right op.And op.Or) (codes "1 and ( 2 or 3 )")
    × shows (right op.And op.And) (codes "1 and ( 2 and 3 )")
    × shows (right op.And op.LessEq) (codes "1 and 2 <= 3")
    × shows (right op.And op.Add) (codes "1 and 2 + 3")
    × shows (right op.And op.Mul) (codes "1 and 2 * 3")
    × shows (right op.Same op.Or) (codes "1 == ( 2 or 3 )")
    × shows (right op.More op.And) (codes "1 > ( 2 and 3 )")
    × shows (right op.MoreEq op.Differs) (codes "1 >= ( 2 != 3 )")
    × shows (right op.Less op.Sub) (codes "1 < 2 - 3")
    × shows (right op.Less op.Div) (codes "1 < 2 / 3")
    × shows (right op.Sub op.Or) (codes "1 - ( 2 or 3 )")
    × shows (right op.Sub op.And) (codes "1 - ( 2 and 3 )")
    × shows (right op.Sub op.Less) (codes "1 - ( 2 < 3 )")
    × shows (right op.Sub op.Add) (codes "1 - ( 2 + 3 )")
    × shows (right op.Sub op.Mul) (codes "1 - 2 * 3")
    × shows (right op.Div op.Or) (codes "1 / ( 2 or 3 )")
    × shows (right op.Div op.And) (codes "1 / ( 2 and 3 )")
    × shows (right op.Div op.Same) (codes "1 / ( 2 == 3 )")
    × shows (right op.Div op.Sub) (codes "1 / ( 2 - 3 )")
    × shows (right op.Div op.Rem) (codes "1 / ( 2 % 3 )")
unfolding digits
right_operands = (refl, refl, refl, refl, refl, refl, refl, refl, refl, refl, refl, refl, refl, refl, refl, refl, refl, refl, refl, refl, refl, refl, refl, refl, refl)

-- prefixes and sends
other_operands :
    shows (Prefix op.Neg (left op.Add op.Mul) 0) (codes "- ( ( 1 + 2 ) * 3 )")
    × shows (Prefix op.Not (Prefix op.Neg (number 7) 0) 0) (codes "not - 7")
    × shows (Infix op.Sub (number 1) (Prefix op.Neg (number 2) 0) 0) (codes "1 - - 2")
    × shows (Send (Prefix op.Neg (Variable 1 0) 0) 3 NoArgs 0) (codes "( - x ) ! m ( )")
    × shows (Prefix op.Neg (Send (Variable 1 0) 3 NoArgs 0) 0) (codes "- x ! m ( )")
    × shows (Send (Send (Me 0) 3 NoArgs 0) 3 (Arg (number 1) (Arg (right op.Or op.And) NoArgs)) 0) (codes "self ! m ( ) ! m ( 1 , 1 or 2 and 3 )")
    × shows (Send (Create 0 0) 3 (Arg (Literal value.Nil 0) NoArgs) 0) (codes "new Main ! m ( nil )")
    × shows (Call 3 (Arg (Literal (value.Bool true) 0) (Arg (Literal (value.Bool false) 0) NoArgs)) 0) (codes "m ( true , false )")
unfolding digits
other_operands = (refl, refl, refl, refl, refl, refl, refl, refl)

-- the other statements, and a method with and one without a result
other_statements :
    canonical table (record {
      name = named 0;
      vars = [];
      methods = record {
        name = named 3;
        params = declared 1 ∷ record { name = record { 0 = 2 }; kind = kind.Class (record { 0 = 0 }); pos = 0; kind_pos = 0 } ∷ [];
        locals = record { name = record { 0 = 0 }; kind = kind.Bool; pos = 0; kind_pos = 0 } ∷ declared 3 ∷ [];
        outcome = Some kind.Int;
        outcome_pos = 0;
        body = Then (WriteText 4) Done;
        value = number 5;
        post = Done;
      } ∷ record { name = named 1; params = []; locals = []; outcome = None; outcome_pos = 0; body = Done; value = Literal value.Nil 0; post = Done } ∷ [];
      body = Then (If (Variable 1 0) (Then (Write (number 0)) Done) Done)
          (Then (If (Variable 1 0) Done (Then (Do (Create 0 0)) Done))
          (Then (While (Variable 1 0) (Then (Answer (named 3 ∷ named 1 ∷ [])) Done))
          (Then (Async (Prefix op.Not (Me 0) 0) 3 0 (Arg (number 1) NoArgs))
          (Then (Select (Alt (Variable 1 0) (Some (named 3 ∷ [])) Done (Alt (Variable 2 0) None (Then (Do (Call 3 NoArgs 0)) (Then (Do (Call 1 NoArgs 0)) Done)) NoAlts))) Done))));
    } ∷ record { name = named 1; vars = []; methods = []; body = Done } ∷ [])
    ≡ codes "class Main\nmethod m ( x : Int , y : Main ) : Int local Main : Bool local m : Int begin write \"hi; \" result 5 end\nmethod x ( ) begin end\nbody if x then write 0 fi ;\nif x then else new Main fi ;\nwhile x do answer ( m , x ) od ;\n( not self ) !! m ( 1 ) ;\nselect when x answer ( m ) then when y then m ( ) ;\nx ( ) end end\nclass x\nbody end\n"
unfolding digits
other_statements = refl

-- post statements
post_statements :
    canonical table (record {
      name = named 0;
      vars = [];
      methods = record { name = named 3; params = []; locals = []; outcome = Some kind.Int; outcome_pos = 0; body = Done; value = number 1; post = Then (Write (number 2)) Done } ∷ [];
      body = Done;
    } ∷ [])
    ≡ codes "class Main\nmethod m ( ) : Int begin result 1 post write 2 end\nbody end\n"
unfolding digits
post_statements = refl
