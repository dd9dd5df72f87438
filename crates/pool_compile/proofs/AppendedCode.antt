-- Code that is appended to other code.
use Rattle.std.proofs.Common.{◌≡◌, refl, sym, ap, ◌∙◌, ℕ, suc, ◌+◌, ◌<◌, ◌≤◌, List, [], ◌∷◌, ◌++◌, length, drop, get_or, Result, Ok, Err, append_assoc, append-nil, length-append, ◌^◌, arith, false, nat_eq}
use Rattle.std.specs.Prelude.{OnOk}
use Rattle.std.proofs.lemmas.List.{at_drop_more}
use Rattle.pool_syntax.specs.declared.tree.Expr.{Expr, Int, Bool, Nil, Me, Var, New, Unary', Binary', Call', Send'}
use Rattle.pool_syntax.specs.declared.tree.Stmt.{Stmt}
use Rattle.pool_syntax.specs.TreeOf.{expression_of, expression_row, expressions_of, statements_of}
use Rattle.pool_syntax.specs.Typing.{size}
use Rattle.code_semantics.specs.declared.unit.Instr.{Instr}
use Rattle.code_semantics.specs.declared.unit.Instr.TheVariants as I
use Rattle.pool_compile.specs.Code.{Numbering, expression_code, expressions_code, name, post_code, statements_code}

pub on_ok : {T E P Q : Type 0} (r : Result T E) → (P → Q) → OnOk r P → OnOk r Q
on_ok (Ok x) f p = f p
on_ok (Err e) f p = tt

-- code behind code
pub then : (c a b d e : List Instr) → d ≡ c ++ a → e ≡ d ++ b → e ≡ c ++ (a ++ b)
then c a b d e p q = q ∙ ap (λ x. x ++ b) p ∙ append_assoc c a b

some : (a b : List Instr) → 0 < length b → 0 < length (a ++ b)
some a b h = omega (arith, length-append a b)

-- an expression has an instruction
pub has_instruction : (g : Numbering) (e : Expr) → 0 < length (expression_code g (expression_of e))
has_instruction g (Int v p) = omega arith
has_instruction g (Bool b p) = omega arith
has_instruction g (Nil p) = omega arith
has_instruction g (Me p) = omega arith
has_instruction g (Var n p) = omega arith
has_instruction g (New c p) = omega arith
has_instruction g (Unary' op q e p) = some (expression_code g (expression_of e)) (I.Oper op ∷ []) (omega arith)
has_instruction g (Binary' op q l r s p) =
    some (expression_code g (expression_of l)) (expression_code g (expression_of s) ++ I.Oper op ∷ [])
    (some (expression_code g (expression_of s)) (I.Oper op ∷ []) (omega arith))
has_instruction g (Call' m shape es p) = some (expressions_code g (expression_row es)) (I.Call (name m.0) ∷ []) (omega arith)
has_instruction g (Send' q e m shape es p) =
    some (expression_code g (expression_of e)) (expressions_code g (expression_row es) ++ I.Send (name m.0) (size (expression_row es)) ∷ [])
    (some (expressions_code g (expression_row es)) (I.Send (name m.0) (size (expression_row es)) ∷ []) (omega arith))

pub no_more_than_instructions : (g : Numbering) (es : List Expr) → length es ≤ length (expressions_code g (expressions_of es))
no_more_than_instructions g [] = omega arith
no_more_than_instructions g (e ∷ es) =
    omega (arith, length-append (expression_code g (expression_of e)) (expressions_code g (expressions_of es)), has_instruction g e, no_more_than_instructions g es)

pub size_is : (es : List Expr) → size (expressions_of es) ≡ length es
size_is [] = refl
size_is (e ∷ es) = ap suc (size_is es)

-- what is left to put at a place of a list of parts
pub part_at : {A : Type 0} (all : List A → List Instr) (part : A → List Instr) (xs : List A) (i : ℕ) (x : A) → i < length xs → x ≡ get_or xs i x
    → ((y : A) (ys : List A) → all (y ∷ ys) ≡ part y ++ all ys)
    → all (drop i xs) ≡ part x ++ all (drop (i + 1) xs)
part_at all part xs i x within at unfolds =
    at_drop_more all xs i x within ∙ ap (λ y. all (y ∷ drop (i + 1) xs)) (sym at) ∙ unfolds x (drop (i + 1) xs)

-- the rest is put behind what is there: one part more
pub put_part : (base now new all part rest next : List Instr) → rest ≡ part ++ next → new ≡ now ++ part → now ++ rest ≡ base ++ all → new ++ next ≡ base ++ all
put_part base now new all part rest next e f h =
    ap (λ x. x ++ next) f ∙ append_assoc now part next ∙ ap (λ x. now ++ x) (sym e) ∙ h

-- there is no rest
pub put_all : {A : Type 0} (base now all rest : List A) → rest ≡ [] → now ++ rest ≡ base ++ all → now ≡ base ++ all
put_all base now all rest e h = sym (append-nil now) ∙ ap (λ x. now ++ x) (sym e) ∙ h

pub few : (c d : List Instr) (g : Numbering) (es fs gs : List Expr) → d ≡ c ++ expressions_code g (expressions_of fs) → fs ≡ es → gs ≡ es → length d < 2 ^ 32 → length gs < 2 ^ 32
few c d g es fs gs e f h short =
    omega (arith, ap length e, length-append c (expressions_code g (expressions_of fs)), no_more_than_instructions g fs, ap length f, ap length h)

-- what stands behind the value of a method, where there are post statements
pub put_post :
    (g : Numbering) (base c1 c2 new : List Instr) (qs : List Stmt) → nat_eq (length qs) 0 ≡ false → c1 ≡ base ++ I.Post ∷ []
    → c2 ≡ c1 ++ statements_code g (length c1) (statements_of qs) → new ≡ c2 ++ I.Ret ∷ []
    → new ≡ base ++ post_code g (length base) (statements_of qs)
put_post g base c1 c2 new [] some p1 p2 p3 = absurd (grind (arith, some))
put_post g base c1 c2 new (q ∷ qs) some p1 p2 p3 =
    let n : length c1 ≡ suc (length base) = ap length p1 ∙ omega (arith, length-append base (I.Post ∷ [])) in
    then base (I.Post ∷ []) (statements_code g (suc (length base)) (statements_of (q ∷ qs)) ++ I.Ret ∷ []) c1 new p1
    (then c1 (statements_code g (suc (length base)) (statements_of (q ∷ qs))) (I.Ret ∷ []) c2 new
    (p2 ∙ ap (λ k. c1 ++ statements_code g k (statements_of (q ∷ qs))) n) p3)
