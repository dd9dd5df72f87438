-- The search for the redex: its results, and parts without a redex.
use Rattle.std.proofs.Common.{◌≡◌, refl, sym, ap, ◌∙◌, ℕ, List, [], ◌∷◌, Option, Some, None, Bool, true, false, ◌⊎◌, inl, inr, arith}
use Rattle.run_types.specs.declared.types.Value.{Value}
use Rattle.run_types.specs.declared.types.Item.TheVariants as I
use Rattle.pool_syntax.specs.Terms.{Store, Expression, Literal, Me, Variable, Create, Prefix, Infix, Call, Send, Frame, Wait, Expressions, NoArgs, Arg, Statement, Assign, Write, WriteText, Do, Async, If, While, Answer, Select, Serve, Statements, Done, Then, Alternatives, NoAlts, Alt}
use Rattle.pool_relation.specs.Reducible.{Choice, Reducible, Found, Evaluated, At, and_then, Unary, Binary, Invoke, SynchronousSend, Leave, Set, Print, Drop, Post, Branch, Choose, Finish, in_post, left_served, is_over, is_value, are_values, guards_are_values, is_done, expression_redex, expressions_redex, statement_redex, statements_redex}
use Rattle.pool_relation.specs.Reducible.{guards_redex}

pub at_is_no_value : {A : Type 0} (r : Reducible) (t : Store) (v : A) → ¬ (At r t ≡ Evaluated v)
at_is_no_value r t v h = grind arith

-- a search goes on behind a value, or ends at a redex
pub split : {A B : Type 0} (f : Found A) (next : A → Found B) (r : Reducible) (u : Store) → and_then f next ≡ At r u
    → (f ≡ At r u) ⊎ ((a : A) × (f ≡ Evaluated a) × (next a ≡ At r u))
split (Evaluated a) next r u h = inr (a, refl, h)
split (At s t) next r u h = inl (grind arith)

-- it ends behind a value, at this redex
pub split_last : {A B : Type 0} (f : Found A) (k : A → Reducible) (t : Store) (r : Reducible) (u : Store)
    → and_then {B = B} f (λ a. At (k a) t) ≡ At r u
    → (f ≡ At r u) ⊎ ((a : A) × (f ≡ Evaluated a) × (k a ≡ r) × (t ≡ u))
split_last (Evaluated a) k t r u h = inr (a, refl, cc, cc)
split_last (At s v) k t r u h = inl (cc)

-- it ends before the value that it would give
pub split_more : {A B : Type 0} (f : Found A) (k : A → B) (r : Reducible) (u : Store)
    → and_then f (λ a. Evaluated (k a)) ≡ At r u → f ≡ At r u
split_more (Evaluated a) k r u h = absurd (at_is_no_value r u (k a) (sym h))
split_more (At s v) k r u h = cc

-- a search that gave a value passed one
pub passed : {A B : Type 0} (f : Found A) (next : A → Found B) (b : B) → and_then f next ≡ Evaluated b
    → (a : A) × (f ≡ Evaluated a) × (next a ≡ Evaluated b)
passed (Evaluated a) next b h = (a, refl, h)
passed (At s t) next b h = absurd (at_is_no_value s t b h)

-- what goes on only to a redex gives no value
never : {A B : Type 0} (f : Found A) (next : A → Found B) (v : B) → ((a : A) → ¬ (next a ≡ Evaluated v))
    → ¬ (and_then f next ≡ Evaluated v)
never (Evaluated a) next v h e = h a e
never (At r t) next v h e = at_is_no_value r t v e

never_twice : {A B C : Type 0} (f : Found A) (g : Found B) (r : A → B → Reducible) (t : Store) (v : C)
    → ¬ (and_then f (λ a. and_then g (λ b. At (r a b) t)) ≡ Evaluated v)
never_twice f g r t v = never f (λ a. and_then g (λ b. At (r a b) t)) v (λ a. never g (λ b. At (r a b) t) v (λ b. at_is_no_value (r a b) t v))

never_thrice : {A B C D : Type 0} (f : Found A) (g : Found B) (h : Found C) (r : B → Reducible) (t : Store) (v : D)
    → ¬ (and_then f (λ a. and_then g (λ b. and_then h (λ c. At (r b) t))) ≡ Evaluated v)
never_thrice f g h r t v = never f (λ a. and_then g (λ b. and_then h (λ c. At (r b) t))) v (λ a. never_twice g h (λ b c. r b) t v)

-- an expression without redex is a literal
pub literal_is : (t : Store) (e : Expression) (v : Value) → expression_redex t e ≡ Evaluated v → (p : ℕ) × (e ≡ Literal v p)
literal_is t (Literal w p) v h = (p, grind arith)
literal_is t (Me p) v h = absurd (at_is_no_value _ _ v h)
literal_is t (Variable x p) v h = absurd (at_is_no_value _ _ v h)
literal_is t (Create c p) v h = absurd (at_is_no_value _ _ v h)
literal_is t (Prefix op e p) v h = absurd (never (expression_redex t e) (λ a. At (Unary op a) t) v (λ a. at_is_no_value _ _ v) h)
literal_is t (Infix op l r p) v h = absurd (never_twice (expression_redex t l) (expression_redex t r) (Binary op) t v h)
literal_is t (Call m es p) v h = absurd (never (expressions_redex t es) (λ a. At (Invoke m a) t) v (λ a. at_is_no_value _ _ v) h)
literal_is t (Send e m es p) v h = absurd (never_twice (expression_redex t e) (expressions_redex t es) (λ a. SynchronousSend a m) t v h)
literal_is t (Frame m u ss e qs) v h = absurd (never_thrice (statements_redex u ss) (expression_redex u e) (in_post None (statements_redex u qs)) Leave u v h)
literal_is t (Wait b m) v h = absurd (at_is_no_value _ _ v h)

-- an expression with a redex is no value
pub not_value : (t : Store) (e : Expression) (r : Reducible) (u : Store) → expression_redex t e ≡ At r u → is_value e ≡ false
not_value t (Literal w p) r u h = absurd (at_is_no_value r u w (sym h))
not_value t _ r u h = refl

pub value_found : (t : Store) (e : Expression) → is_value e ≡ true → (v : Value) × (expression_redex t e ≡ Evaluated v)
value_found t (Literal v p) h = (v, refl)
value_found t _ h = absurd (grind arith)

values_found : (t : Store) (es : Expressions) → are_values es ≡ true → (vs : List Value) × (expressions_redex t es ≡ Evaluated vs)
values_found t NoArgs h = ([], refl)
values_found t (Arg e es) h =
    let v = value_found t e (grind arith) in
    let vs = values_found t es (grind arith) in
    (v.0 ∷ vs.0, rw (v.1, vs.1))

guards_found : (t : Store) (alts : Alternatives) → guards_are_values alts ≡ true
    → (cs : List Choice) × (guards_redex t alts ≡ Evaluated cs)
guards_found t NoAlts h = ([], refl)
guards_found t (Alt e names ss alts) h =
    let v = value_found t e (grind arith) in
    let cs = guards_found t alts (grind arith) in
    (record { guard = v.0; answer = names; work = ss } ∷ cs.0, rw (v.1, cs.1))

pub not_values : (t : Store) (es : Expressions) (r : Reducible) (u : Store) → expressions_redex t es ≡ At r u → are_values es ≡ false
not_values t es r u h = by (are_values es) refl
  where
    by : (b : Bool) → are_values es ≡ b → are_values es ≡ false
    by false e = e
    by true e = let f = values_found t es e in absurd (at_is_no_value r u f.0 (sym h ∙ f.1))

pub not_guards : (t : Store) (alts : Alternatives) (r : Reducible) (u : Store) → guards_redex t alts ≡ At r u
    → guards_are_values alts ≡ false
not_guards t alts r u h = by (guards_are_values alts) refl
  where
    by : (b : Bool) → guards_are_values alts ≡ b → guards_are_values alts ≡ false
    by false e = e
    by true e = let f = guards_found t alts e in absurd (at_is_no_value r u f.0 (sym h ∙ f.1))

-- a statement has a redex
statement_at : (t : Store) (s : Statement) (v : Unit {0}) → ¬ (statement_redex t s ≡ Evaluated v)
statement_at t (Assign x p e) v h = never (expression_redex t e) (λ a. At (Set x a) t) v (λ a. at_is_no_value _ _ v) h
statement_at t (Write e) v h = never (expression_redex t e) (λ a. At (Print (I.Value a)) t) v (λ a. at_is_no_value _ _ v) h
statement_at t (WriteText s) v h = at_is_no_value _ _ v h
statement_at t (Do e) v h = never (expression_redex t e) (λ a. At (Drop a) t) v (λ a. at_is_no_value _ _ v) h
statement_at t (Async e m p es) v h = never_twice (expression_redex t e) (expressions_redex t es) (λ a. Post a m) t v h
statement_at t (If e these those) v h = never (expression_redex t e) (λ a. At (Branch a these those) t) v (λ a. at_is_no_value _ _ v) h
statement_at t (While e ss) v h = at_is_no_value _ _ v h
statement_at t (Answer names) v h = at_is_no_value _ _ v h
statement_at t (Select alts) v h = never (guards_redex t alts) (λ a. At (Choose a) t) v (λ a. at_is_no_value _ _ v) h
statement_at t (Serve m k u ss e qs) v h = never_thrice (statements_redex u ss) (expression_redex u e) (in_post k (statements_redex u qs)) (λ a. Finish k a (left_served k m u ss e qs)) u v h

pub done_is : (t : Store) (ss : Statements) (v : Unit {0}) → statements_redex t ss ≡ Evaluated v → ss ≡ Done
done_is t Done v h = refl
done_is t (Then s ss) v h = absurd (statement_at t s v h)

pub not_done : (t : Store) (ss : Statements) (r : Reducible) (u : Store) → statements_redex t ss ≡ At r u → is_done ss ≡ false
not_done t Done r u h = absurd (at_is_no_value r u _ (sym h))
not_done t (Then s ss) r u h = refl

-- where the search in a method for the caller, or for no one, ends: in its statements, in its value, in its post statements, or behind them
pub data InMethod (c : Option ℕ) (t : Store) (ss : Statements) (e : Expression) (qs : Statements) (end : Value → Reducible) (r : Reducible) (u : Store) : Type 0 where
  InBody : statements_redex t ss ≡ At r u → is_done ss ≡ false → InMethod c t ss e qs end r u
  InValue : ss ≡ Done → expression_redex t e ≡ At r u → is_value e ≡ false → InMethod c t ss e qs end r u
  InPost : ss ≡ Done → (v : Value) → expression_redex t e ≡ Evaluated v → is_value e ≡ true → c ≡ None → statements_redex t qs ≡ At r u → is_over c qs ≡ false
      → InMethod c t ss e qs end r u
  AtEnd : ss ≡ Done → (v : Value) → expression_redex t e ≡ Evaluated v → is_value e ≡ true → is_over c qs ≡ true → end v ≡ r → t ≡ u
      → InMethod c t ss e qs end r u

pub in_method : {B : Type 0} (c : Option ℕ) (t : Store) (ss : Statements) (e : Expression) (qs : Statements) (end : Value → Reducible) (r : Reducible) (u : Store)
    → and_then {B = B} (statements_redex t ss) (λ done. and_then (expression_redex t e) (λ v. and_then (in_post c (statements_redex t qs)) (λ over. At (end v) t))) ≡ At r u
    → InMethod c t ss e qs end r u
in_method {B} c t ss e qs end r u q = by (split (statements_redex t ss) _ r u q)
  where
    end_or_post : (c' : Option ℕ) → c ≡ c' → ss ≡ Done → (v : Value) → expression_redex t e ≡ Evaluated v
        → and_then {B = B} (in_post c' (statements_redex t qs)) (λ over. At (end v) t) ≡ At r u → InMethod c t ss e qs end r u
    end_or_post None n d v k p = last (split_last (statements_redex t qs) (λ over. end v) t r u p)
      where
        last : (statements_redex t qs ≡ At r u) ⊎ ((o : Unit {0}) × (statements_redex t qs ≡ Evaluated o) × (end v ≡ r) × (t ≡ u)) → InMethod c t ss e qs end r u
        last (inl i) = InPost d v k (ap is_value (literal_is t e v k).1) n i (rw (n, not_done t qs r u i) refl)
        last (inr i) = AtEnd d v k (ap is_value (literal_is t e v k).1) (rw (n, done_is t qs i.0 i.1) refl) i.2 i.3
    end_or_post (Some o) n d v k p = AtEnd d v k (ap is_value (literal_is t e v k).1) (rw n refl) (cc) (cc)

    behind : (d : Unit {0}) → statements_redex t ss ≡ Evaluated d
        → (expression_redex t e ≡ At r u) ⊎ ((v : Value) × (expression_redex t e ≡ Evaluated v) × (and_then {B = B} (in_post c (statements_redex t qs)) (λ over. At (end v) t) ≡ At r u))
        → InMethod c t ss e qs end r u
    behind d i (inl k) = InValue (done_is t ss d i) k (not_value t e r u k)
    behind d i (inr k) = end_or_post c refl (done_is t ss d i) k.0 k.1 k.2

    by : (statements_redex t ss ≡ At r u) ⊎ ((d : Unit {0}) × (statements_redex t ss ≡ Evaluated d) × (and_then {B = B} (expression_redex t e) (λ v. and_then (in_post c (statements_redex t qs)) (λ over. At (end v) t)) ≡ At r u))
        → InMethod c t ss e qs end r u
    by (inl k) = InBody k (not_done t ss r u k)
    by (inr k) = behind k.0 k.1 (split (expression_redex t e) _ r u k.2)

-- arguments without redex are literals of these values
pub arguments_are : (t : Store) (es : Expressions) (vs : List Value) → expressions_redex t es ≡ Evaluated vs → are_values es ≡ true
arguments_are t NoArgs vs h = refl
arguments_are t (Arg e es) vs h =
    let a = passed (expression_redex t e) _ vs h in
    let b = passed (expressions_redex t es) _ vs a.2 in
    let f : is_value e ≡ true = ap is_value (literal_is t e a.0 a.1).1 in
    let g : are_values es ≡ true = arguments_are t es b.0 b.1 in
    rw (f, g) refl

pub guards_are : (t : Store) (alts : Alternatives) (cs : List Choice) → guards_redex t alts ≡ Evaluated cs → guards_are_values alts ≡ true
guards_are t NoAlts cs h = refl
guards_are t (Alt e names ss alts) cs h =
    let a = passed (expression_redex t e) _ cs h in
    let b = passed (guards_redex t alts) _ cs a.2 in
    let f : is_value e ≡ true = ap is_value (literal_is t e a.0 a.1).1 in
    let g : guards_are_values alts ≡ true = guards_are t alts b.0 b.1 in
    rw (f, g) refl
