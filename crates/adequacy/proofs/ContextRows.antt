-- Worked examples, computed: the own method 1 with the temp 2 is under way with `x := 2 + 3`, in the value that another method, served for the object 7, will return.
use Rattle.std.proofs.Common.{◌≡◌, refl, ℕ, pos, [], ◌∷◌, Some, None}
use Rattle.run_types.specs.declared.types.Value.{Value}
use Rattle.run_types.specs.declared.types.Value.TheVariants as V
use Rattle.run_types.specs.declared.types.Op.TheVariants as O
use Rattle.pool_syntax.specs.Terms.{Store, Expression, Literal, Variable, Prefix, Infix, Frame, Assign, Write, Serve, Statements, Done, Then}
use Rattle.pool_relation.specs.Reducible.{At, Binary, Set, Leave, AsExpression, AsStatements, fill_statements, statements_redex}
use Rattle.adequacy.specs.Contexts.{ExpressionContext, InExpression, InStatement, ServedValue, StatementsContext, Whole, Before, OwnBody, OwnPost, InRight, InAssign, around_expression, around_statements, after, expression_as_redex}

abbrev int : ℕ → Value
int n = V.Int (pos n)

abbrev num : ℕ → Expression
num n = Literal (int n) 0

abbrev rest : Statements
rest = Then (Write (num 9)) Done

-- 1 + the own method, as the value of the served method 3, before another statement
abbrev value : ExpressionContext
value = InExpression (InRight O.Add (int 1, 0) 0) (ServedValue 3 (Some 7) ((2, int 5) ∷ []) Done (Before rest Whole))

-- the own method has the temp 2 of value 0, then writes 9, and its value is the temp
abbrev body : Store → StatementsContext
body t = Before rest (OwnBody 1 t (Variable 2 0) Done value)

abbrev sum : ExpressionContext
sum = InStatement (InAssign 2 0) (body ((2, int 0) ∷ []))

term_is : around_expression sum (Infix O.Add (num 2) (num 3) 0)
    ≡ Then (Serve 3 (Some 7) ((2, int 5) ∷ []) Done
    (Infix O.Add (num 1) (Frame 1 ((2, int 0) ∷ []) (Then (Assign 2 0 (Infix O.Add (num 2) (num 3) 0)) rest) (Variable 2 0) Done) 0) Done) rest
term_is = refl

adds : statements_redex [] (around_expression sum (Infix O.Add (num 2) (num 3) 0)) ≡ At (Binary O.Add (int 2) (int 3)) ((2, int 0) ∷ [])
adds = refl

added : fill_statements (around_expression sum (Infix O.Add (num 2) (num 3) 0)) (AsExpression (num 5)) ≡ around_expression sum (num 5)
added = refl

sets : statements_redex [] (around_expression sum (num 5)) ≡ At (Set 2 (int 5)) ((2, int 0) ∷ [])
sets = refl

-- the temp of the own method is set, not that of the served one
set : fill_statements (around_expression sum (num 5)) (AsStatements Done) ≡ around_statements (body ((2, int 5) ∷ [])) Done
set = refl

same_set : after (Set 2 (int 5)) (body ((2, int 0) ∷ [])) ≡ body ((2, int 5) ∷ [])
same_set = refl

-- an expression with a redex inside is none by itself, and neither is a method whose post statements are to come
none_inside : expression_as_redex (Prefix O.Neg (Infix O.Add (num 2) (num 3) 0) 0) ≡ None
none_inside = refl

none_before_post : expression_as_redex (Frame 1 [] Done (num 5) rest) ≡ None
none_before_post = refl

-- such a method's redex is in its post statements; that of one that is over is its end, with its own temps
in_post : statements_redex [] (around_statements (OwnPost 1 ((2, int 0) ∷ []) (int 5, 0) value) (Then (Assign 2 0 (num 6)) Done))
    ≡ At (Set 2 (int 6)) ((2, int 0) ∷ [])
in_post = refl

ends : statements_redex [] (around_expression value (Frame 1 ((4, int 6) ∷ []) Done (num 5) Done)) ≡ At (Leave (int 5)) ((4, int 6) ∷ [])
ends = refl
