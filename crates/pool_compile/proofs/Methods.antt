-- The methods of a class in its code, and the first frame of a method.
use Rattle.std.proofs.Common.{◌≡◌, refl, sym, ap, ◌∙◌, subst, ℕ, suc, ◌+◌, ◌==◌, List, [], ◌∷◌, ◌++◌, length, Option, Some, Bool, true, false, inl, arith, inr}
use Rattle.std.specs.Prelude.{slice_get, map, if◌then◌else◌}
use Rattle.run_types.specs.declared.types.Value.{Value}
use Rattle.pool_syntax.specs.Terms.{Statements, Expression, MethodTree, ClassTree, ProgramTree, Done, Then}
use Rattle.pool_syntax.specs.Classes.{class_of, named_method}
use Rattle.pool_relation.specs.Reducible.{is_done}
use Rattle.pool_relation.specs.Action.{temps_of}
use Rattle.code_semantics.specs.declared.unit.Instr.{Instr}
use Rattle.code_semantics.specs.declared.unit.Instr.TheVariants as I
use Rattle.run_types.specs.declared.types.Serves.{Serves}
use Rattle.code_semantics.specs.declared.unit.ClassCode.{ClassCode}
use Rattle.code_semantics.specs.Frames as F
use Rattle.code_semantics.specs.Frames.{code_of}
use Rattle.code_semantics.specs.Step.{Numbered, method_from, method_named, begun}
use Rattle.pool_compile.specs.Code.{Numbering, name, names_of, method_code_of, class_code, method_instrs, statements_code, expression_code, post_code}
use Rattle.pool_compile.specs.StandsFor.{Head, keys, frame_of, fresh, IsOf, InMethod, Under, UnderStatements, as_value, Behind}
use Rattle.run_types.proofs.Laws.{first, second}
use Rattle.pool_compile.specs.TextPrograms.{is_text, are_text_statements, is_text_method, are_text_methods, is_text_program}
use Rattle.pool_compile.proofs.CodeAtStart.{Has, front, back, has_all, coded, coded_statements}
use Rattle.pool_compile.proofs.Stores.{temps_keys, temps_values}

-- the class that a name finds
text_by : (q : Bool) (k : ClassTree) (ks : ProgramTree) (tree : ClassTree) → is_text_program (k ∷ ks) ≡ true
    → (class : Option ClassTree) → (class ≡ Some tree → (are_text_statements tree.body ≡ true) × (are_text_methods tree.methods ≡ true))
    → (if q then Some k else class) ≡ Some tree → (are_text_statements tree.body ≡ true) × (are_text_methods tree.methods ≡ true)
text_by true k ks tree t class more h =
    let e : k ≡ tree = grind (arith, h) in
    subst (λ c. (are_text_statements c.body ≡ true) × (are_text_methods c.methods ≡ true)) e (grind (arith, t), grind (arith, t))
text_by false k ks tree t class more h = more h

pub class_text : (p : ProgramTree) (c : ℕ) (tree : ClassTree) → is_text_program p ≡ true → class_of p c ≡ Some tree
    → (are_text_statements tree.body ≡ true) × (are_text_methods tree.methods ≡ true)
class_text [] c tree t h = absurd (grind (arith, h))
class_text (k ∷ ks) c tree t h =
    text_by (k.name.name.0 == c) k ks tree t (class_of ks c) (λ q. class_text ks c tree (grind (arith, t)) q) h

method_text_by : (q : Bool) (m : MethodTree) (ms : List MethodTree) (mt : MethodTree) → are_text_methods (m ∷ ms) ≡ true
    → (rest : Option MethodTree) → (rest ≡ Some mt → is_text_method mt ≡ true) → (if q then Some m else rest) ≡ Some mt → is_text_method mt ≡ true
method_text_by true m ms mt t rest more h = let e : m ≡ mt = grind (arith, h) in subst (λ x. is_text_method x ≡ true) e (grind (arith, t))
method_text_by false m ms mt t rest more h = more h

pub method_text : (ms : List MethodTree) (m : ℕ) (mt : MethodTree) → are_text_methods ms ≡ true → named_method ms m ≡ Some mt → is_text_method mt ≡ true
method_text [] m mt t h = absurd (grind (arith, h))
method_text (x ∷ ms) m mt t h =
    method_text_by (x.name.name.0 == m) x ms mt t (named_method ms m) (λ q. method_text ms m mt (grind (arith, t)) q) h

-- the method that a name finds has that name
name_by : (q : Bool) (x : MethodTree) (m : ℕ) (mt : MethodTree) → (x.name.name.0 == m) ≡ q → (rest : Option MethodTree)
    → (rest ≡ Some mt → mt.name.name.0 ≡ m) → (if q then Some x else rest) ≡ Some mt → mt.name.name.0 ≡ m
name_by true x m mt e rest more h =
    let f : x ≡ mt = grind (arith, h) in
    subst (λ y. y.name.name.0 ≡ m) f (let i : x.name.name.0 ≡ m = grind (arith, e) in i)
name_by false x m mt e rest more h = more h

pub name_is : (ms : List MethodTree) (m : ℕ) (mt : MethodTree) → named_method ms m ≡ Some mt → mt.name.name.0 ≡ m
name_is [] m mt h = absurd (grind (arith, h))
name_is (x ∷ ms) m mt h = name_by (x.name.name.0 == m) x m mt refl (named_method ms m) (name_is ms m mt) h

-- the code of the method that a name finds
abbrev pub FoundCode : List ℕ → List MethodTree → ℕ → ℕ → MethodTree → Type 0
FoundCode vars ms n m mt =
    (j : ℕ) × (method_from n (map (method_code_of vars) ms) (name m) ≡ Some (record { place = n + j; code = method_code_of vars mt }))
    × (slice_get (map (method_code_of vars) ms) j ≡ Some (method_code_of vars mt))

code_by : (vars : List ℕ) (q : Bool) (x : MethodTree) (ms : List MethodTree) (n m : ℕ) (mt : MethodTree) → (x.name.name.0 == m) ≡ q
    → (named_method ms m ≡ Some mt → FoundCode vars ms (suc n) m mt) → (if q then Some x else named_method ms m) ≡ Some mt
    → FoundCode vars (x ∷ ms) n m mt
code_by vars true x ms n m mt e more h =
    let f : x ≡ mt = grind (arith, h) in
    let z : n ≡ n + 0 = omega arith in
    (0, rw e (λ i. Some (record { place = z i; code = method_code_of vars (f i) })), ap (λ y. Some (method_code_of vars y)) f)
code_by vars false x ms n m mt e more h =
    let c = more h in
    let z : suc n + c.0 ≡ n + suc c.0 = omega arith in
    (suc c.0, rw e (c.1 ∙ (λ i. Some (record { place = z i; code = method_code_of vars mt }))), c.2)

pub code_found : (vars : List ℕ) (ms : List MethodTree) (n m : ℕ) (mt : MethodTree) → named_method ms m ≡ Some mt → FoundCode vars ms n m mt
code_found vars [] n m mt h = absurd (grind (arith, h))
code_found vars (x ∷ ms) n m mt h = code_by vars (x.name.name.0 == m) x ms n m mt refl (λ q. code_found vars ms (suc n) m mt q) h

-- what stands behind a method's value stands for its post statements
post_starts : (k : Option ClassCode) (c : List Instr) (g : Numbering) (at : ℕ) (qs : Statements) → are_text_statements qs ≡ true → Has c at (post_code g at qs)
    → Behind c (is_done qs) (UnderStatements k c g qs) at
post_starts k c g at Done t h = inl (refl, h.0)
post_starts k c g at (Then s qs) t h =
    let later = statements_code g (suc at) (Then s qs) in
    let r = back c (suc at) later (I.Ret ∷ []) h.1 in
    inr (refl, h.0, (suc at + length later, r.0, λ b. coded_statements k c g (Then s qs) (suc at) t (front c (suc at) later (I.Ret ∷ []) h.1) b (suc at + length later) refl))

-- the code of a method stands for it, at its start, whomever it serves
method_starts : (k : Option ClassCode) (c : List Instr) (g : Numbering) (caller : Option ℕ) (ss : Statements) (e : Expression) (qs : Statements)
    → are_text_statements ss ≡ true → is_text e ≡ true → are_text_statements qs ≡ true
    → c ≡ method_instrs g ss e qs
    → InMethod c caller (UnderStatements k c g ss []) (is_done ss) (Under k c g e []) (as_value e) (UnderStatements k c g qs) (is_done qs) (fresh 0 [])
method_starts k c g caller ss e qs t u v same =
    let first = statements_code g 0 ss in
    let value = expression_code g e in
    let end = 0 + length first + length value in
    let h = subst (λ l. Has l 0 (method_instrs g ss e qs)) (sym same) (has_all (method_instrs g ss e qs)) in
    let b = back c 0 first (value ++ post_code g end qs) h in
    let r = back c (0 + length first) value (post_code g end qs) b in
    inl (
      end,
      post_starts k c g end qs v r,
      inl (
        0 + length first,
        coded_statements k c g ss 0 t (front c 0 first (value ++ post_code g end qs) h) [] (0 + length first) refl,
        coded k c g e (0 + length first) u (front c (0 + length first) value (post_code g end qs) b) [] end refl,
      ),
    )

-- what a method of the class is in its code, and how it begins
pub record Begins (tree : ClassTree) (m : ℕ) (mt : MethodTree) (args : List Value) (w : Serves) : Type 0 where
  pub i : Numbered
  pub is : method_named (Some (class_code tree)) (name m) ≡ Some i
  pub counts : i.code.params ≡ length mt.params
  pub head : Head
  pub serves : head.serves ≡ w
  pub of : IsOf (Some (class_code tree)) head mt.name.name.0
  pub frame : begun i args w ≡ frame_of head (temps_of mt args) (fresh 0 [])
  pub names : keys (temps_of mt args) ≡ names_of (mt.params ++ mt.locals)
  pub way : (caller : Option ℕ) → InMethod (code_of (Some (class_code tree)) head.method) caller
      (UnderStatements (Some (class_code tree)) (code_of (Some (class_code tree)) head.method) (record { temps = names_of (mt.params ++ mt.locals); vars = names_of tree.vars }) mt.body [])
      (is_done mt.body)
      (Under (Some (class_code tree)) (code_of (Some (class_code tree)) head.method) (record { temps = names_of (mt.params ++ mt.locals); vars = names_of tree.vars }) mt.value [])
      (as_value mt.value)
      (UnderStatements (Some (class_code tree)) (code_of (Some (class_code tree)) head.method) (record { temps = names_of (mt.params ++ mt.locals); vars = names_of tree.vars }) mt.post)
      (is_done mt.post)
      (fresh 0 [])

pub begins : (tree : ClassTree) (m : ℕ) (mt : MethodTree) (args : List Value) (w : Serves) → are_text_methods tree.methods ≡ true
    → named_method tree.methods m ≡ Some mt → Begins tree m mt args w
begins tree m mt args w t h =
    let vars = names_of tree.vars in
    let c = code_found vars tree.methods 0 m mt h in
    let i : Numbered = record { place = 0 + c.0; code = method_code_of vars mt } in
    let k = Some (class_code tree) in
    let head : Head = record { method = Some (0 + c.0); serves = w } in
    let z : 0 + c.0 ≡ c.0 = omega arith in
    let text = method_text tree.methods m mt t h in
    let code : code_of k head.method ≡ method_instrs (record { temps = names_of (mt.params ++ mt.locals); vars = vars }) mt.body mt.value mt.post =
    ap (λ j. code_of k (Some j)) z ∙ ap (λ o. F.method_code o) c.2 in
    record {
      i = i;
      is = c.1;
      counts = refl;
      head = head;
      serves = refl;
      of = (i, ap (λ n. method_named k (name n)) (name_is tree.methods m mt h) ∙ c.1, refl);
      frame = λ j. record { method = Some (0 + c.0); at = 0; temps = sym (temps_values mt.params mt.locals args) j; operands = []; serves = w };
      names = temps_keys mt args;
      way = λ caller. method_starts k (code_of k head.method) (record { temps = names_of (mt.params ++ mt.locals); vars = vars }) caller mt.body mt.value mt.post (first (are_text_statements mt.body) (is_text mt.value) (first _ (are_text_statements mt.post) text)) (second (are_text_statements mt.body) (is_text mt.value) (first _ (are_text_statements mt.post) text)) (second _ (are_text_statements mt.post) text) code;
    }
