-- In a typed configuration the lines of an object's term are one for each of its methods under way.
use Rattle.std.proofs.Common.{◌≡◌, refl, sym, ap, ap₂, subst, ◌∙◌, IsTrue, ℕ, ◌+◌, List, [], ◌∷◌, ◌++◌, Bool, true, false, not, ◌&&◌, if◌then◌else◌, Option, Some, None, is_none, codes, append-nil, append_assoc, arith}
use Rattle.text_scan.specs.Text.{Text}
use Rattle.run_types.specs.Table.{text_at}
use Rattle.run_types.proofs.Laws.{first, second}
use Rattle.pool_syntax.specs.Terms.{Store, Expression, Literal, Me, Variable, Create, Prefix, Infix, Call, Send, Frame, Wait, Expressions, NoArgs, Arg, Statement, Assign, Write, WriteText, Do, Async, If, While, Answer, Select, Serve, Statements, Done, Then, Alternatives, NoAlts, Alt}
use Rattle.pool_syntax.specs.SourceParts.{is_prefix, is_source, are_source, is_source_statement, are_source_statements, are_source_alternatives}
use Rattle.pool_syntax.specs.Typing.{Scope, behind_value, inside, own_method, temps_of_method}
use Rattle.pool_relation.specs.Reducible.{is_done, is_value}
use Rattle.pool_relation.specs.Typed.{are_sound, are_sound_alternatives, are_sound_statements, has_room, is_sound, is_sound_statement, is_store_of, is_value_of}
use Rattle.pool_relation.specs.UnderWay.{Activity, Own, Serving, in_expression, in_expressions, in_guards, in_statement, in_statements}
use Rattle.record_writer.specs.RecordText.{joined, led, object_text}
use Rattle.term_text.specs.Levels.{arguments_lines, bindings, expression_lines, guards_lines, own_line, served_line, statement_lines, statements_lines}
use Rattle.term_text.specs.Marked.{method_text}
use Rattle.term_text.specs.Words.{word}
use Rattle.watch_laws.specs.MethodLines.{HasLineOfEach, method_words}

-- the parts of a line, with what follows
regrouped : (h b w m l : Text) → (h ++ (b ++ (w ++ (m ++ 10 ∷ [])))) ++ l ≡ h ++ ((b ++ (w ++ m)) ++ 10 ∷ l)
regrouped h b w m l =
    append_assoc h (b ++ (w ++ (m ++ 10 ∷ []))) l
    ∙ ap (λ t. h ++ t)
    (append_assoc b (w ++ (m ++ 10 ∷ [])) l
    ∙ ap (λ t. b ++ t) (append_assoc w (m ++ 10 ∷ []) l ∙ ap (λ t. w ++ t) (append_assoc m (10 ∷ []) l))
    ∙ ap (λ t. b ++ t) (sym (append_assoc w m (10 ∷ l)))
    ∙ sym (append_assoc b (w ++ m) (10 ∷ l)))

further : (j r m s : Text) → (j ++ (r ++ 10 ∷ m)) ++ s ≡ j ++ (r ++ 10 ∷ (m ++ s))
further j r m s = append_assoc j (r ++ 10 ∷ m) s ∙ ap (λ t. j ++ t) (append_assoc r (10 ∷ m) s)

record Lined (names : List Text) (o : ℕ) (xs : List Activity) (t : Text) : Type 0 where
  pub is : HasLineOfEach names o xs t

record Idle (xs : List Activity) (t : Text) : Type 0 where
  pub none : xs ≡ []
  pub empty : t ≡ []

idle : Idle [] []
idle = record { none = refl; empty = refl }

idle_both : {xs ys : List Activity} {t s : Text} → Idle xs t → Idle ys s → Idle (xs ++ ys) (t ++ s)
idle_both h k = record { none = ap₂ (λ x y. x ++ y) h.none k.none; empty = ap₂ (λ x y. x ++ y) h.empty k.empty }

module _ (names : List Text) (o : ℕ) where
  -- nothing is under way in a part of a program
  mutual
    expression_idle : (e : Expression) → IsTrue (is_source e) → Idle (in_expression e) (expression_lines names o e)
    expression_idle (Literal v p) i = idle
    expression_idle (Me p) i = idle
    expression_idle (Variable x p) i = idle
    expression_idle (Create c p) i = idle
    expression_idle (Prefix op e p) i = expression_idle e (second (is_prefix op) (is_source e) i)
    expression_idle (Infix op l r p) i =
        let k = first (not (is_prefix op) && is_source l) (is_source r) i in
        idle_both (expression_idle l (second (not (is_prefix op)) (is_source l) k)) (expression_idle r (second (not (is_prefix op) && is_source l) (is_source r) i))
    expression_idle (Call m es p) i = arguments_idle es i
    expression_idle (Send e m es p) i = idle_both (expression_idle e (first (is_source e) (are_source es) i)) (arguments_idle es (second (is_source e) (are_source es) i))
    expression_idle (Frame m t ss e qs) i = absurd (grind (arith, i))
    expression_idle (Wait b m) i = idle

    arguments_idle : (es : Expressions) → IsTrue (are_source es) → Idle (in_expressions es) (arguments_lines names o es)
    arguments_idle NoArgs i = idle
    arguments_idle (Arg e es) i = idle_both (expression_idle e (first (is_source e) (are_source es) i)) (arguments_idle es (second (is_source e) (are_source es) i))

  guards_idle : (alts : Alternatives) → IsTrue (are_source_alternatives alts) → Idle (in_guards alts) (guards_lines names o alts)
  guards_idle NoAlts i = idle
  guards_idle (Alt e ns ss alts) i =
      let k = first (is_source e && are_source_statements ss) (are_source_alternatives alts) i in
      idle_both (expression_idle e (first (is_source e) (are_source_statements ss) k)) (guards_idle alts (second (is_source e && are_source_statements ss) (are_source_alternatives alts) i))

  statement_idle : (s : Statement) → IsTrue (is_source_statement s) → Idle (in_statement s) (statement_lines names o s)
  statement_idle (Assign x p e) i = expression_idle e i
  statement_idle (Write e) i = expression_idle e i
  statement_idle (WriteText s) i = idle
  statement_idle (Do e) i = expression_idle e i
  statement_idle (Async e m p es) i = idle_both (expression_idle e (first (is_source e) (are_source es) i)) (arguments_idle es (second (is_source e) (are_source es) i))
  statement_idle (If e these those) i =
      expression_idle e (first (is_source e) (are_source_statements these) (first (is_source e && are_source_statements these) (are_source_statements those) i))
  statement_idle (While e ss) i = idle
  statement_idle (Answer ns) i = idle
  statement_idle (Select alts) i = guards_idle alts i
  statement_idle (Serve m k t ss e qs) i = absurd (grind (arith, i))

  statements_idle : (ss : Statements) → IsTrue (are_source_statements ss) → Idle (in_statements ss) (statements_lines names o ss)
  statements_idle Done i = idle
  statements_idle (Then s ss) i =
      let a = statement_idle s (first (is_source_statement s) (are_source_statements ss) i) in
      let b = statements_idle ss (second (is_source_statement s) (are_source_statements ss) i) in
      record { none = ap₂ (λ x y. x ++ y) a.none b.none; empty = a.empty }

  -- lines that are appended
  each_both : (xs ys : List Activity) (t s : Text) → HasLineOfEach names o xs t → HasLineOfEach names o ys s → HasLineOfEach names o (xs ++ ys) (t ++ s)
  each_both [] ys t s h k = subst (λ (x : Text). HasLineOfEach names o ys (x ++ s)) (sym h) k
  each_both (a ∷ xs) ys t s (rest, more, e, h) k =
      (rest, more ++ s, ap (λ x. x ++ s) e ∙ further (joined (method_words names o a)) rest more s, each_both xs ys more s h k)

  lined_both : {xs ys : List Activity} {t s : Text} → Lined names o xs t → Lined names o ys s → Lined names o (xs ++ ys) (t ++ s)
  lined_both {xs = xs} {ys = ys} {t = t} {s = s} h k = record { is = each_both xs ys t s h.is k.is }

  nothing : Lined names o [] []
  nothing = record { is = refl }

  lined_idle : {xs : List Activity} {t : Text} → Idle xs t → Lined names o xs t
  lined_idle {t = t} h = record { is = subst (λ (xs : List Activity). HasLineOfEach names o xs t) (sym h.none) h.empty }

  -- a value and an end have no method under way
  value_lined : (e : Expression) → is_value e ≡ true → Lined names o (in_expression e) (expression_lines names o e)
  value_lined (Literal v p) i = nothing
  value_lined (Me p) i = nothing
  value_lined (Variable x p) i = nothing
  value_lined (Create c p) i = nothing
  value_lined (Prefix op e p) i = absurd (grind (arith, i))
  value_lined (Infix op l r p) i = absurd (grind (arith, i))
  value_lined (Call m es p) i = absurd (grind (arith, i))
  value_lined (Send e m es p) i = absurd (grind (arith, i))
  value_lined (Frame m t ss e qs) i = absurd (grind (arith, i))
  value_lined (Wait b m) i = nothing

  done_lined : (ss : Statements) → is_done ss ≡ true → Lined names o (in_statements ss) (statements_lines names o ss)
  done_lined Done i = nothing
  done_lined (Then s ss) i = absurd (grind (arith, i))

  -- an expression and what comes after it: the expression is a value, or what comes after it is as in a program
  followed : (b p q r : Bool) (e : Expression) {xs : List Activity} {t : Text} → (b ≡ true → is_value e ≡ true) → (IsTrue p → Lined names o xs t)
      → (IsTrue q → Lined names o (in_expression e) (expression_lines names o e)) → (IsTrue r → Idle xs t) → IsTrue (if b then p else q && r)
      → Lined names o (in_expression e ++ xs) (expression_lines names o e ++ t)
  followed true p q r e is f g h i = lined_both (value_lined e (is refl)) (f i)
  followed false p q r e is f g h i = lined_both (g (first q r i)) (lined_idle (h (second q r i)))

  -- a method under way: its statements are done, or what comes after them is as in a program
  body_lined : (d b p q r s t u : Bool) (ss : Statements) (e : Expression) (qs : Statements) → (d ≡ true → is_done ss ≡ true) → (b ≡ true → is_value e ≡ true)
      → (IsTrue p → Lined names o (in_statements qs) (statements_lines names o qs)) → (IsTrue q → Lined names o (in_expression e) (expression_lines names o e))
      → (IsTrue r → Idle (in_statements qs) (statements_lines names o qs)) → (IsTrue s → Lined names o (in_statements ss) (statements_lines names o ss))
      → (IsTrue t → Idle (in_expression e) (expression_lines names o e)) → (IsTrue u → Idle (in_statements qs) (statements_lines names o qs))
      → IsTrue (if d then (if b then p else q && r) else s && t && u)
      → Lined names o (in_statements ss ++ (in_expression e ++ in_statements qs)) (statements_lines names o ss ++ (expression_lines names o e ++ statements_lines names o qs))
  body_lined true b p q r s t u ss e qs done value f g h k m n i = lined_both (done_lined ss (done refl)) (followed b p q r e value f g h i)
  body_lined false b p q r s t u ss e qs done value f g h k m n i =
      let two = first (s && t) u i in
      lined_both (k (first s t two)) (lined_both (lined_idle (m (second s t two))) (lined_idle (n (second (s && t) u i))))

  -- the line of a method under way, before the lines of those in it
  own_lined : (m : ℕ) (w : Store) (ss : Statements) (e : Expression) (qs : Statements) (xs : List Activity) (t : Text) → Lined names o xs t → Lined names o (Own m ∷ xs) (own_line names o m w ss e qs ++ t)
  own_lined m w ss e qs xs t h =
      let vars = bindings names w in
      let colon = word (codes ":") in
      let body = method_text names None ss e qs in
      record { is = (vars ++ (colon ++ body), t, ap (λ x. codes "own" ++ x) (regrouped (led (object_text o ∷ text_at names m ∷ [])) vars colon body t), h.is) }

  served_lined : (k : Option ℕ) (m : ℕ) (w : Store) (ss : Statements) (e : Expression) (qs : Statements) (xs : List Activity) (t : Text) → Lined names o xs t
      → Lined names o (Serving m k ∷ xs) (served_line names o k m w ss e qs ++ t)
  served_lined (Some k) m w ss e qs xs t h =
      let vars = bindings names w in
      let colon = word (codes ":") in
      let body = method_text names (Some k) ss e qs in
      record { is = (vars ++ (colon ++ body), t, ap (λ x. codes "serve" ++ x) (regrouped (led (object_text o ∷ text_at names m ∷ object_text k ∷ [])) vars colon body t), h.is) }
  served_lined None m w ss e qs xs t h =
      let vars = bindings names w in
      let colon = word (codes ":") in
      let body = method_text names None ss e qs in
      record { is = (vars ++ (colon ++ body), t, ap (λ x. codes "take" ++ x) (regrouped (led (object_text o ∷ text_at names m ∷ [])) vars colon body t), h.is) }

  mutual
    expression_lined : (g : Scope) (h : ℕ) (e : Expression) → IsTrue (is_sound g h e) → Lined names o (in_expression e) (expression_lines names o e)
    expression_lined g h (Literal v p) i = nothing
    expression_lined g h (Me p) i = nothing
    expression_lined g h (Variable x p) i = nothing
    expression_lined g h (Create c p) i = nothing
    expression_lined g h (Prefix op e p) i = expression_lined g h e (second (is_prefix op) (is_sound g h e) i)
    expression_lined g h (Infix op l r p) i =
        followed (is_value l) (is_sound g (h + 1) r) (is_sound g h l) (is_source r) l (λ z. z) (λ z. expression_lined g (h + 1) r z) (λ z. expression_lined g h l z) (λ z. expression_idle r z)
        (second (not (is_prefix op)) (if is_value l then is_sound g (h + 1) r else is_sound g h l && is_source r) i)
    expression_lined g h (Call m es p) i = arguments_lined g h es i
    expression_lined g h (Send e m es p) i =
        followed (is_value e) (are_sound g (h + 1) es) (is_sound g h e) (are_source es) e (λ z. z) (λ z. arguments_lined g (h + 1) es z) (λ z. expression_lined g h e z) (λ z. arguments_idle es z) i
    expression_lined g h (Frame m t ss e qs) i =
        own_lined m t ss e qs _ _
        (body_lined (is_done ss) (is_value e) (are_sound_statements (behind_value (inside g m)) qs) (is_sound (inside g m) 0 e) (are_source_statements qs) (are_sound_statements (inside g m) ss) (is_source e) (are_source_statements qs)
        ss e qs (λ z. z) (λ z. z) (λ z. statements_lined (behind_value (inside g m)) qs z) (λ z. expression_lined (inside g m) 0 e z) (λ z. statements_idle qs z) (λ z. statements_lined (inside g m) ss z) (λ z. expression_idle e z) (λ z. statements_idle qs z)
        (second (has_room h && is_store_of g (temps_of_method (own_method g m)) t && is_value_of (own_method g m) e)
        (if is_done ss
        then (if is_value e then are_sound_statements (behind_value (inside g m)) qs else is_sound (inside g m) 0 e && are_source_statements qs)
        else are_sound_statements (inside g m) ss && is_source e && are_source_statements qs) i))
    expression_lined g h (Wait b m) i = nothing

    arguments_lined : (g : Scope) (h : ℕ) (es : Expressions) → IsTrue (are_sound g h es) → Lined names o (in_expressions es) (arguments_lines names o es)
    arguments_lined g h NoArgs i = nothing
    arguments_lined g h (Arg e es) i =
        followed (is_value e) (are_sound g (h + 1) es) (is_sound g h e) (are_source es) e (λ z. z) (λ z. arguments_lined g (h + 1) es z) (λ z. expression_lined g h e z) (λ z. arguments_idle es z) i

    statement_lined : (g : Scope) (s : Statement) → IsTrue (is_sound_statement g s) → Lined names o (in_statement s) (statement_lines names o s)
    statement_lined g (Assign x p e) i = expression_lined g g.held e i
    statement_lined g (Write e) i = expression_lined g g.held e i
    statement_lined g (WriteText s) i = nothing
    statement_lined g (Do e) i = expression_lined g g.held e i
    statement_lined g (Async e m p es) i =
        followed (is_value e) (are_sound g (g.held + 1) es) (is_sound g g.held e) (are_source es) e (λ z. z) (λ z. arguments_lined g (g.held + 1) es z) (λ z. expression_lined g g.held e z) (λ z. arguments_idle es z) i
    statement_lined g (If e these those) i =
        expression_lined g g.held e (first (is_sound g g.held e) (are_source_statements these) (first (is_sound g g.held e && are_source_statements these) (are_source_statements those) i))
    statement_lined g (While e ss) i = nothing
    statement_lined g (Answer ns) i = nothing
    statement_lined g (Select alts) i = guards_lined g g.held alts i
    statement_lined g (Serve m k t ss e qs) i =
        served_lined k m t ss e qs _ _
        (body_lined (is_done ss) (is_none k && is_value e) (are_sound_statements (behind_value (inside g m)) qs) (is_sound (inside g m) 0 e) (are_source_statements qs) (are_sound_statements (inside g m) ss) (is_source e) (are_source_statements qs)
        ss e qs (λ z. z) (λ z. second (is_none k) (is_value e) z) (λ z. statements_lined (behind_value (inside g m)) qs z) (λ z. expression_lined (inside g m) 0 e z) (λ z. statements_idle qs z) (λ z. statements_lined (inside g m) ss z) (λ z. expression_idle e z) (λ z. statements_idle qs z)
        (second (is_store_of g (temps_of_method (own_method g m)) t && is_value_of (own_method g m) e)
        (if is_done ss
        then (if is_none k && is_value e then are_sound_statements (behind_value (inside g m)) qs else is_sound (inside g m) 0 e && are_source_statements qs)
        else are_sound_statements (inside g m) ss && is_source e && are_source_statements qs) i))

    statements_lined : (g : Scope) (ss : Statements) → IsTrue (are_sound_statements g ss) → Lined names o (in_statements ss) (statements_lines names o ss)
    statements_lined g Done i = nothing
    statements_lined g (Then s ss) i =
        let h = statement_lined g s (first (is_sound_statement g s) (are_source_statements ss) i) in
        let rest = statements_idle ss (second (is_sound_statement g s) (are_source_statements ss) i) in
        subst (λ (xs : List Activity). Lined names o xs (statement_lines names o s)) (sym (append-nil (in_statement s)) ∙ ap (λ xs. in_statement s ++ xs) (sym rest.none)) h

    guards_lined : (g : Scope) (h : ℕ) (alts : Alternatives) → IsTrue (are_sound_alternatives g h alts) → Lined names o (in_guards alts) (guards_lines names o alts)
    guards_lined g h NoAlts i = nothing
    guards_lined g h (Alt e ns ss alts) i =
        followed (is_value e) (are_sound_alternatives g (h + 1) alts) (is_sound g h e) (are_source_alternatives alts) e (λ z. z) (λ z. guards_lined g (h + 1) alts z) (λ z. expression_lined g h e z) (λ z. guards_idle alts z)
        (second (are_source_statements ss) (if is_value e then are_sound_alternatives g (h + 1) alts else is_sound g h e && are_source_alternatives alts) i)

  pub has_line_of_each : (g : Scope) (ss : Statements) → IsTrue (are_sound_statements g ss) → HasLineOfEach names o (in_statements ss) (statements_lines names o ss)
  has_line_of_each g ss i = (statements_lined g ss i).is
