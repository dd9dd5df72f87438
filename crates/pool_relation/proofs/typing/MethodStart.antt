-- Typing of bodies and methods when they begin in an object.
use Rattle.std.proofs.Common.{◌≡◌, refl, sym, ap, subst, IsTrue, ℕ, List, [], ◌∷◌, ◌++◌, length, Option, Some, None, is_none, Bool, true, false, ◌==◌, arith}
use Rattle.run_types.specs.declared.types.Value.{Value}
use Rattle.pool_syntax.specs.declared.tree.Var.{Var}
use Rattle.pool_syntax.specs.Terms.{Store, Frame, Serve, MethodTree, ClassTree, ProgramTree}
use Rattle.pool_syntax.specs.Classes.{class_of, named_method}
use Rattle.pool_syntax.specs.Typing.{Scope, sort_of, class_scope, faults, own_method, temps_of_method, inside, behind_value}
use Rattle.pool_relation.specs.Reducible.{is_value, is_done}
use Rattle.pool_relation.specs.Action.{bind, nil_store, temps_of, with_count, method_in, method_of}
use Rattle.pool_relation.specs.Typed.{is_store_of, has_room}
use Rattle.pool_syntax.specs.Written.{is_written}
use Rattle.pool_syntax.specs.SourceParts.{is_value_for}
use Rattle.run_types.proofs.Laws.{equal, equals, both}
use Rattle.pool_relation.proofs.typing.TypedTerm.{Nothing, Methods, past, gives, TypedExpression, TypedStatement, TypedStatements}
use Rattle.pool_relation.proofs.typing.Weakening.{nothing_below, expression_weaker, statements_weaker}
use Rattle.pool_relation.proofs.typing.AddedObjects.{Grows, grown, expression_grown, statements_grown, sort_grown}
use Rattle.pool_relation.proofs.typing.DeclaredStores.{AllKnown, fits_var}
use Rattle.pool_relation.proofs.typing.CheckedProgram.{class_checked}
use Rattle.pool_relation.proofs.redex.TypedRedex.{Spot, spot, at, FitValues}

-- where the term of an object of the class c stands, among objects of these classes
abbrev pub running_scope : ProgramTree → ℕ → (ℕ → Option ℕ) → Scope
running_scope p c f = record { program = p; class = c; own = class_of p c; temps = []; object_class = f; under_way = true; held = 0 }

none_grows : (f : ℕ → Option ℕ) → Grows (λ n. None) f
none_grows f = record { kept = λ n c e. absurd (grind (arith, e)) }

same_scope : (p : ProgramTree) (c : ℕ) (k : ClassTree) (f : ℕ → Option ℕ) (vs ws : List Var) (h : ℕ) → class_of p c ≡ Some k
    → k.name.name.0 ≡ c → vs ≡ ws
    → grown (at (class_scope p k) (spot vs h)) f ≡ at (running_scope p c f) (spot ws h)
same_scope p c k f vs ws h e n s = λ i. record { program = p; class = n i; own = sym e i; temps = s i; object_class = f; under_way = true; held = h }

pub body_begun : (p : ProgramTree) (c : ℕ) (k : ClassTree) (f : ℕ → Option ℕ) → faults p ≡ [] → IsTrue (is_written p)
    → class_of p c ≡ Some k → TypedStatements Nothing (running_scope p c f) k.body
body_begun p c k f h w e =
    let a = class_checked p c k h w e in
    let b = statements_grown Nothing (class_scope p k) f k.body (none_grows f) a.0.body in
    subst (λ (g : Scope). TypedStatements Nothing g k.body) (same_scope p c k f [] [] 0 e a.1 refl) b

-- a method that an object of the class c has, as its own calls and its served calls run it
pub record Begins (p : ProgramTree) (c : ℕ) (f : ℕ → Option ℕ) (m : ℕ) (t : MethodTree) : Type 0 where
  pub is : own_method (running_scope p c f) m ≡ Some t
  pub named : t.name.name.0 ≡ m
  pub params : AllKnown p t.params
  pub body : TypedStatements Nothing (inside (running_scope p c f) m) t.body
  pub value : TypedExpression Nothing (inside (running_scope p c f) m) 0 t.value
  pub gives_it : IsTrue (gives p (own_method (running_scope p c f) m) (sort_of (inside (running_scope p c f) m) t.value))
  pub valued : IsTrue (is_value_for t.outcome t.value)
  pub post : TypedStatements Nothing (behind_value (inside (running_scope p c f) m)) t.post

counted_method : (n : ℕ) (o : Option MethodTree) (t : MethodTree) → with_count n o ≡ Some t → (o ≡ Some t) × (length t.params ≡ n)
counted_method n None t h = absurd (grind (arith, h))
counted_method n (Some m) t h = by (length m.params == n) refl
  where
    by : (b : Bool) → (length m.params == n) ≡ b → (Some m ≡ Some t) × (length t.params ≡ n)
    by true e = let s : Some m ≡ Some t = rw e at h in let i : m ≡ t = cc in (s, rw (← i) (equal _ _ e))
    by false e = absurd (grind (arith, rw e at h))

in_class : (o : Option ClassTree) (m n : ℕ) (t : MethodTree) → method_in o m n ≡ Some t
    → (k : ClassTree) × (o ≡ Some k) × (named_method k.methods m ≡ Some t) × (length t.params ≡ n)
in_class None m n t h = absurd (grind (arith, h))
in_class (Some k) m n t h = let a = counted_method n (named_method k.methods m) t h in (k, refl, a.0, a.1)

pub method_begins : (p : ProgramTree) (c : ℕ) (f : ℕ → Option ℕ) (m n : ℕ) (t : MethodTree) → faults p ≡ []
    → IsTrue (is_written p) → method_of p c m n ≡ Some t
    → Begins p c f m t × (length t.params ≡ n)
method_begins p c f m n t h w e =
    let a = in_class (class_of p c) m n t e in
    let k = class_checked p c a.0 h w a.1 in
    let r = k.0.methods m t a.2 in
    let own : own_method (running_scope p c f) m ≡ Some t = rw a.1 a.2 in
    let ts = t.params ++ t.locals in
    let same = λ (h : ℕ). same_scope p c a.0 f ts (temps_of_method (own_method (running_scope p c f) m)) h a.1 k.1 (ap temps_of_method (sym own)) in
    let s = same 0 in
    let b = statements_grown Nothing (at (class_scope p a.0) (spot ts 0)) f t.body (none_grows f) r.0.body in
    let v = expression_grown Nothing (at (class_scope p a.0) (spot ts 0)) f 0 t.value (none_grows f) r.0.value in
    let q = sort_grown Nothing (at (class_scope p a.0) (spot ts 0)) f 0 t.value (none_grows f) r.0.value in
    let w = statements_grown Nothing (at (class_scope p a.0) (spot ts 1)) f t.post (none_grows f) r.0.post in
    let z : IsTrue (gives p (Some t) (sort_of (grown (at (class_scope p a.0) (spot ts 0)) f) t.value)) = rw q r.0.gives_it in (
      record {
        is = own;
        named = r.1;
        params = r.0.params;
        body = subst (λ (g : Scope). TypedStatements Nothing g t.body) s b;
        value = subst (λ (g : Scope). TypedExpression Nothing g g.held t.value) s v;
        gives_it = subst (λ (o : Option MethodTree). IsTrue (gives p o (sort_of (inside (running_scope p c f) m) t.value))) (sym own) (subst (λ (g : Scope). IsTrue (gives p (Some t) (sort_of g t.value))) s z);
        valued = r.0.valued;
        post = subst (λ (g : Scope). TypedStatements Nothing g t.post) (same 1) w;
      },
      a.3,
    )

nil_fits : (g : Scope) (vs : List Var) → IsTrue (is_store_of g vs (nil_store vs))
nil_fits g [] = refl
nil_fits g (v ∷ vs) = both _ _ (both _ _ (equals v.name.0) refl) (nil_fits g vs)

pub new_store_fits : (g : Scope) (vs : List Var) → IsTrue (is_store_of g vs (nil_store vs))
new_store_fits = nil_fits

bound_fits : (g : Scope) (vs : List Var) (args : List Value) → AllKnown g.program vs → FitValues g vs args
    → length vs ≡ length args → IsTrue (is_store_of g vs (bind vs args))
bound_fits g [] args k d e = refl
bound_fits g (v ∷ vs) [] k d e = absurd (grind (arith, e))
bound_fits g (v ∷ vs) (x ∷ xs) k d e = both _ _ (both _ _ (equals v.name.0) (fits_var g x v k.0 d.0 d.1)) (bound_fits g vs xs k.1 d.2 (grind (arith, e)))

joined_fits : (g : Scope) (vs ws : List Var) (s t : Store) → IsTrue (is_store_of g vs s) → IsTrue (is_store_of g ws t)
    → IsTrue (is_store_of g (vs ++ ws) (s ++ t))
joined_fits g [] ws [] t a b = b
joined_fits g (v ∷ vs) ws (x ∷ s) t a b = let c : IsTrue (is_store_of g vs s) = grind (arith, a) in let d = joined_fits g vs ws s t c b in grind (arith, a, d)
joined_fits g [] ws (x ∷ s) t a b = absurd (grind (arith, a))
joined_fits g (v ∷ vs) ws [] t a b = absurd (grind (arith, a))

temps_fit : (p : ProgramTree) (c : ℕ) (f : ℕ → Option ℕ) (m : ℕ) (t : MethodTree) (ts : Spot) (args : List Value)
    → Begins p c f m t → length t.params ≡ length args
    → FitValues (at (running_scope p c f) ts) t.params args
    → IsTrue (is_store_of (at (running_scope p c f) ts) (temps_of_method (own_method (running_scope p c f) m)) (temps_of t args))
temps_fit p c f m t ts args b e d =
    let g = at (running_scope p c f) ts in
    rw b.is (joined_fits g t.params t.locals (bind t.params args) (nil_store t.locals) (bound_fits g t.params args b.params d e) (nil_fits g t.locals))

-- an own call becomes the method under way
pub call_begun : (p : ProgramTree) (c : ℕ) (f : ℕ → Option ℕ) (ts : Spot) (h m : ℕ) (t : MethodTree) (args : List Value)
    → Begins p c f m t → length t.params ≡ length args
    → FitValues (at (running_scope p c f) ts) t.params args → IsTrue (has_room h)
    → TypedExpression Methods (at (running_scope p c f) ts) h (Frame t.name.name.0 (temps_of t args) t.body t.value t.post)
call_begun p c f ts h m t args b e d r =
    let i = inside (running_scope p c f) m in
    let whole : TypedExpression Methods (at (running_scope p c f) ts) h (Frame m (temps_of t args) t.body t.value t.post) = (
      refl,
      r,
      temps_fit p c f m t ts args b e d,
      statements_weaker Nothing Methods i t.body (nothing_below Methods) b.body,
      expression_weaker Nothing (past (is_done t.body) Methods) i 0 t.value (nothing_below _) b.value,
      b.gives_it,
      rw b.is b.valued,
      statements_weaker Nothing (past (is_done t.body) (past (is_value t.value) Methods)) (behind_value i) t.post (nothing_below _) b.post,
    ) in
    subst (λ (n : ℕ). TypedExpression Methods (at (running_scope p c f) ts) h (Frame n (temps_of t args) t.body t.value t.post)) (sym b.named) whole

-- and a served one
pub serve_begun : (p : ProgramTree) (c : ℕ) (f : ℕ → Option ℕ) (ts : Spot) (m : ℕ) (t : MethodTree) (caller : Option ℕ) (args : List Value)
    → Begins p c f m t → length t.params ≡ length args
    → FitValues (at (running_scope p c f) ts) t.params args
    → TypedStatement Methods (at (running_scope p c f) ts) (Serve t.name.name.0 caller (temps_of t args) t.body t.value t.post)
serve_begun p c f ts m t caller args b e d =
    let i = inside (running_scope p c f) m in
    let whole : TypedStatement Methods (at (running_scope p c f) ts) (Serve m caller (temps_of t args) t.body t.value t.post) = (
      refl,
      temps_fit p c f m t ts args b e d,
      statements_weaker Nothing Methods i t.body (nothing_below Methods) b.body,
      expression_weaker Nothing (past (is_done t.body) Methods) i 0 t.value (nothing_below _) b.value,
      b.gives_it,
      rw b.is b.valued,
      statements_weaker Nothing (past (is_done t.body) (past (is_value t.value) (past (is_none caller) Methods))) (behind_value i) t.post (nothing_below _) b.post,
    ) in
    subst (λ (n : ℕ). TypedStatement Methods (at (running_scope p c f) ts) (Serve n caller (temps_of t args) t.body t.value t.post)) (sym b.named) whole
