-- Parts without class faults fit the counts of a proper unit.
use Rattle.code_semantics.specs.declared.unit.ClassCode.{ClassCode}
use Rattle.std.proofs.Common.{◌≡◌, refl, ap, ◌∙◌, subst, ℕ, suc, ◌+◌, ◌==◌, List, [], ◌∷◌, ◌++◌, length, Option, Some, None, Bool, true, false, arith}
use Rattle.std.specs.Prelude.{nat_le, not, ◌&&◌}
use Rattle.pool_syntax.specs.declared.tree.Var.{Var}
use Rattle.pool_syntax.specs.Terms as T
use Rattle.pool_syntax.specs.Terms.{Expression, Expressions, Statement, Statements, Alternatives, MethodTree, ClassTree}
use Rattle.pool_syntax.specs.Classes.{named_method}
use Rattle.pool_syntax.specs.Typing.{FaultAt, Scope, size, limit_faults, fault_if, own_method, methods_of_class, method_faults, expression_faults, arguments_faults, statement_faults, statements_faults, alternatives_faults, answer_faults}
use Rattle.pool_syntax.specs.Typing.{is_broken_name, needs}
use Rattle.run_types.specs.Sorts.{BoolSort}
use Rattle.run_types.specs.Values.{is_prefix}
use Rattle.pool_relation.specs.Typed.{has_room}
use Rattle.pool_syntax.specs.SourceParts.{is_source, are_source, is_source_statement, are_source_statements, are_source_alternatives}
use Rattle.code_semantics.specs.ReachedPlaces as P
use Rattle.code_semantics.specs.Step.{method_named}
use Rattle.pool_compile.specs.Code.{name, names_of, class_code}
use Rattle.pool_compile.proofs.Methods.{code_found}
use Rattle.pool_compile.proofs.Heights.{is_counted, are_counted, is_counted_statement, are_counted_statements, are_counted_guards, are_counted_works}

pub nil_left : (a b : List FaultAt) → a ++ b ≡ [] → a ≡ []
nil_left [] b h = refl
nil_left (x ∷ a) b h = absurd (grind (arith, h))

pub nil_right : (a b : List FaultAt) → a ++ b ≡ [] → b ≡ []
nil_right [] b h = h
nil_right (x ∷ a) b h = absurd (grind (arith, h))

pub no_fault : (b : Bool) (at n : ℕ) → fault_if b at n ≡ [] → b ≡ false
no_fault true at n h = absurd (grind (arith, h))
no_fault false at n h = refl

room_of : (h at : ℕ) (rest : List FaultAt) → limit_faults h at ++ rest ≡ [] → has_room h ≡ true
room_of h at rest f = ap not (no_fault (nat_le 64 h) at 12 (nil_left (limit_faults h at) rest f))

room_alone : (h at : ℕ) → limit_faults h at ≡ [] → has_room h ≡ true
room_alone h at f = ap not (no_fault (nat_le 64 h) at 12 f)

pub three : (a b d : Bool) → (a && b && d) ≡ true → (a ≡ true) × (b ≡ true) × (d ≡ true)
three true true true h = (refl, refl, refl)
three true true false h = absurd (grind (arith, h))
three true false d h = absurd (grind (arith, h))
three false b d h = absurd (grind (arith, h))

pub two : (a b : Bool) → (a && b) ≡ true → (a ≡ true) × (b ≡ true)
two true true h = (refl, refl)
two true false h = absurd (grind (arith, h))
two false b h = absurd (grind (arith, h))

module _ (kt : ClassTree) where
  abbrev k : Option ClassCode
  k = Some (class_code kt)

  count_by : (m : ℕ) (o : Option MethodTree) (n at : ℕ) → named_method kt.methods m ≡ o → method_faults o n at ≡ [] → P.params_of (method_named k (name m)) ≡ n
  count_by m None n at e f = absurd (grind (arith, f))
  count_by m (Some mt) n at e f =
      let c = code_found (names_of kt.vars) kt.methods 0 m mt e in
      let q : not (length mt.params == n) ≡ false = no_fault (not (length mt.params == n)) at 8 f in
      let i : length mt.params ≡ n = grind (arith, q) in
      ap P.params_of c.1 ∙ i

  counts : (g : Scope) → g.own ≡ Some kt → (m n at : ℕ) → method_faults (own_method g m) n at ≡ [] → P.params_of (method_named k (name m)) ≡ n
  counts g own m n at f =
      count_by m (named_method kt.methods m) n at refl (subst (λ o. method_faults (named_method (methods_of_class o) m) n at ≡ []) own f)

  mutual
    pub counted : (g : Scope) → g.own ≡ Some kt → (h : ℕ) (e : Expression) → is_source e ≡ true → expression_faults g h e ≡ [] → is_counted k h e ≡ true
    counted g own h (T.Literal v p) w f = room_of h p _ f
    counted g own h (T.Me p) w f = room_alone h p f
    counted g own h (T.Variable x p) w f = room_of h p _ f
    counted g own h (T.Create c p) w f = room_of h p _ f
    counted g own h (T.Prefix op e p) w f =
        let r = nil_right (limit_faults h p) _ f in
        let ws = two (is_prefix op) (is_source e) w in
        rw (room_of h p _ f, ws.0) (counted g own h e ws.1 (nil_left (expression_faults g h e) _ r))
    counted g own h (T.Infix op l n p) w f =
        let r = nil_right (limit_faults h p) _ f in
        let s = nil_right (expression_faults g h l) _ r in
        let ws = three (not (is_prefix op)) (is_source l) (is_source n) w in
        let j : h + 1 ≡ suc h = omega arith in
        rw (room_of h p _ f, ws.0, counted g own h l ws.1 (nil_left (expression_faults g h l) _ r))
        (subst (λ q. is_counted k q n ≡ true) j (counted g own (h + 1) n ws.2 (nil_left (expression_faults g (h + 1) n) _ s)))
    counted g own h (T.Call m es p) w f =
        let r = nil_right (limit_faults h p) _ f in
        let c = counts g own m (size es) p (nil_left (method_faults (own_method g m) (size es) p) _ r) in
        let i : (size es == P.params_of (method_named k (name m))) ≡ true = grind (arith, c) in
        rw (room_of h p _ f, i) (counted_all g own h _ es w (nil_right (method_faults (own_method g m) (size es) p) _ r))
    counted g own h (T.Send e m es p) w f =
        let r = nil_right (limit_faults h p) _ f in
        let s = nil_right (expression_faults g h e) _ r in
        let j : h + 1 ≡ suc h = omega arith in
        let ws = two (is_source e) (are_source es) w in
        rw (room_of h p _ f, counted g own h e ws.0 (nil_left (expression_faults g h e) _ r))
        (subst (λ q. are_counted k q es ≡ true) j (counted_all g own (h + 1) _ es ws.1 (nil_right _ (arguments_faults g (h + 1) _ es) s)))
    counted g own h (T.Frame m v ss e qs) w f = absurd (grind (arith, w))
    counted g own h (T.Wait b m) w f = absurd (grind (arith, w))

    pub counted_all : (g : Scope) → g.own ≡ Some kt → (h : ℕ) (vs : List Var) (es : Expressions) → are_source es ≡ true → arguments_faults g h vs es ≡ []
        → are_counted k h es ≡ true
    counted_all g own h vs T.NoArgs w f = refl
    counted_all g own h [] (T.Arg e es) w f =
        let r = nil_right (expression_faults g h e) _ f in
        let j : h + 1 ≡ suc h = omega arith in
        let ws = two (is_source e) (are_source es) w in
        rw (counted g own h e ws.0 (nil_left (expression_faults g h e) _ f))
        (subst (λ q. are_counted k q es ≡ true) j (counted_all g own (h + 1) [] es ws.1 (nil_right _ (arguments_faults g (h + 1) [] es) r)))
    counted_all g own h (v ∷ vs) (T.Arg e es) w f =
        let r = nil_right (expression_faults g h e) _ f in
        let j : h + 1 ≡ suc h = omega arith in
        let ws = two (is_source e) (are_source es) w in
        rw (counted g own h e ws.0 (nil_left (expression_faults g h e) _ f))
        (subst (λ q. are_counted k q es ≡ true) j (counted_all g own (h + 1) vs es ws.1 (nil_right _ (arguments_faults g (h + 1) vs es) r)))

  mutual
    pub counted_statement : (g : Scope) → g.own ≡ Some kt → (st : Statement) → is_source_statement st ≡ true → statement_faults g st ≡ []
        → is_counted_statement k g.held st ≡ true
    counted_statement g own (T.Assign x p e) w f =
        counted g own g.held e w (nil_left (expression_faults g g.held e) _ (nil_right (fault_if (is_broken_name g x) p 6) _ f))
    counted_statement g own (T.Write e) w f = counted g own g.held e w (nil_left (expression_faults g g.held e) _ f)
    counted_statement g own (T.WriteText n) w f = refl
    counted_statement g own (T.Do e) w f = counted g own g.held e w f
    counted_statement g own (T.Async e m p es) w f =
        let ws = two (is_source e) (are_source es) w in
        rw (counted g own g.held e ws.0 (nil_left (expression_faults g g.held e) _ f))
        (subst (λ q. are_counted k q es ≡ true) (let j : g.held + 1 ≡ suc g.held = omega arith in j)
        (counted_all g own (g.held + 1) _ es ws.1 (nil_right _ (arguments_faults g (g.held + 1) _ es) (nil_right (expression_faults g g.held e) _ f))))
    counted_statement g own (T.If e these those) w f =
        let ws = three (is_source e) (are_source_statements these) (are_source_statements those) w in
        let r = nil_right (needs g BoolSort e) _ (nil_right (expression_faults g g.held e) _ f) in
        rw (counted g own g.held e ws.0 (nil_left (expression_faults g g.held e) _ f), counted_statements g own these ws.1 (nil_left (statements_faults g these) _ r))
        (counted_statements g own those ws.2 (nil_right (statements_faults g these) _ r))
    counted_statement g own (T.While e ss) w f =
        let ws = two (is_source e) (are_source_statements ss) w in
        rw (counted g own g.held e ws.0 (nil_left (expression_faults g g.held e) _ f))
        (counted_statements g own ss ws.1 (nil_right (needs g BoolSort e) _ (nil_right (expression_faults g g.held e) _ f)))
    counted_statement g own (T.Answer ns) w f = refl
    counted_statement g own (T.Select alts) w f =
        let a = counted_alternatives g own g.held alts w f in rw (a.0) a.1
    counted_statement g own (T.Serve m c v ss e qs) w f = absurd (grind (arith, w))

    pub counted_statements : (g : Scope) → g.own ≡ Some kt → (ss : Statements) → are_source_statements ss ≡ true → statements_faults g ss ≡ []
        → are_counted_statements k g.held ss ≡ true
    counted_statements g own T.Done w f = refl
    counted_statements g own (T.Then st ss) w f =
        let ws = two (is_source_statement st) (are_source_statements ss) w in
        rw (counted_statement g own st ws.0 (nil_left (statement_faults g st) _ f)) (counted_statements g own ss ws.1 (nil_right (statement_faults g st) _ f))

    pub counted_alternatives : (g : Scope) → g.own ≡ Some kt → (i : ℕ) (alts : Alternatives) → are_source_alternatives alts ≡ true
        → alternatives_faults g i alts ≡ [] → (are_counted_guards k i alts ≡ true) × (are_counted_works k g.held alts ≡ true)
    counted_alternatives g own i T.NoAlts w f = (refl, refl)
    counted_alternatives g own i (T.Alt e ns ss alts) w f =
        let ws = three (is_source e) (are_source_statements ss) (are_source_alternatives alts) w in
        let r = nil_right (answer_faults g ns) _ (nil_right (needs g BoolSort e) _ (nil_right (expression_faults g i e) _ f)) in
        let j : i + 1 ≡ suc i = omega arith in
        let a = counted_alternatives g own (i + 1) alts ws.2 (nil_right (statements_faults g ss) _ r) in (
          rw (counted g own i e ws.0 (nil_left (expression_faults g i e) _ f)) (subst (λ q. are_counted_guards k q alts ≡ true) j a.0),
          rw (counted_statements g own ss ws.1 (nil_left (statements_faults g ss) _ r)) a.1,
        )
