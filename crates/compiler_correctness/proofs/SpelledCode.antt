-- The code of a spelled program is spelled: its names, strings and integers are those of the program.
use Rattle.std.proofs.Common.{◌≡◌, inl, inr, refl, sym, ap, ◌∙◌, subst, ℕ, ℤ, pos, negsuc, zero, suc, ◌+◌, ◌<◌, ◌≤◌, List, [], ◌∷◌, ◌++◌, length, Option, Some, None, Bool, true, false, ◌&&◌, arith}
use Rattle.std.specs.Prelude.{slice_get, map, not, if◌then◌else◌, nat_le, is_none, bytes_eq}
use Rattle.std.proofs.lemmas.Bool.Decides.{nat_tests}
use Rattle.run_types.specs.declared.types.Value.{Value}
use Rattle.run_types.specs.declared.types.Value.TheVariants as V
use Rattle.text_scan.specs.Text.{Text, every, is_inner, is_word, is_listed, lookup}
use Rattle.text_scan.specs.Keywords.{keywords, is_name_text, is_string_text, text_passes, is_name, is_string_number}
use Rattle.run_types.specs.Values.{is_in_range}
use Rattle.pool_syntax.specs.Terms as T
use Rattle.pool_syntax.specs.Terms.{Expression, Expressions, Statement, Statements, Alternatives, MethodTree, ProgramTree}
use Rattle.pool_syntax.specs.Spelled.{is_literal, are_answer_names, is_spelled_expression, are_spelled_expressions, is_spelled_statement, are_spelled_statements, are_spelled_alternatives, are_spelled_methods, is_spelled}
use Rattle.pool_syntax.specs.Typing.{contains, size}
use Rattle.code_semantics.specs.declared.unit.Instr.{Instr}
use Rattle.code_semantics.specs.declared.unit.Instr.TheVariants as I
use Rattle.code_semantics.specs.declared.unit.MethodCode.{MethodCode}
use Rattle.code_semantics.specs.declared.unit.ClassCode.{ClassCode}
use Rattle.code_semantics.specs.declared.unit.Unit.{Unit as Code}
use Rattle.code_semantics.specs.Frames.{code_of, method_code}
use Rattle.pool_compile.specs.Code.{Numbering, name, push, load, store, number_of, names_of, post_code, expression_code, expressions_code, guards_code, statement_code, statements_code, alternatives_code, alternatives_at, method_code_of, class_code, code}
use Rattle.run_types.proofs.Laws.{first, second}
use Rattle.mesh_semantics.specs.Act.{id}
use Rattle.run_types.specs.Table.{text_or_none}
use Rattle.record_parser.specs.Fields as F
use Rattle.mesh_of_code.specs.MadeValues.{HasInstr}
use Rattle.run_record.specs.Readable.{IsNamed, IsString}
use Rattle.compiler_correctness.specs.SpelledUnit.{IsSpelledUnit, SendsNames}

-- texts of names and of strings

lookup_none : {A : Type 0} (rows : List (Text × A)) (w : Text) → is_listed rows w ≡ false → is_none (lookup rows w) ≡ true
lookup_none [] w h = refl
lookup_none (row ∷ rows) w h = by (bytes_eq row.0 w) refl (lookup_none rows w)
  where
    by : (b : Bool) → bytes_eq row.0 w ≡ b → (is_listed rows w ≡ false → is_none (lookup rows w) ≡ true) → is_none (lookup (row ∷ rows) w) ≡ true
    by true e more = absurd (let z : true ≡ false = rw e at h in cc)
    by false e more = rw (e, lookup) (more (rw e at h))

not_listed : (b : Bool) → not b ≡ true → b ≡ false
not_listed true h = absurd (cc)
not_listed false h = refl

both_true : (a b : Bool) → a ≡ true → b ≡ true → (a && b) ≡ true
both_true true true h k = refl
both_true true false h k = k
both_true false b h k = h

name_reads : (w : Text) → is_name_text w ≡ true → F.is_name w ≡ true
name_reads w h =
    let a = first (is_word w && not (is_listed keywords w)) (nat_le (length w) 64) h in
    let l = second (is_word w && not (is_listed keywords w)) (nat_le (length w) 64) h in
    both_true (is_word w && nat_le (length w) 64) (is_none (lookup keywords w))
    (both_true (is_word w) (nat_le (length w) 64) (first (is_word w) (not (is_listed keywords w)) a) l)
    (lookup_none keywords w (not_listed (is_listed keywords w) (second (is_word w) (not (is_listed keywords w)) a)))

some_below : (names : List Text) (n : ℕ) (w : Text) → slice_get names n ≡ Some w → n < length names
some_below [] n w h = absurd (cc)
some_below (x ∷ names) zero w h = omega arith
some_below (x ∷ names) (suc n) w h = let t = some_below names n w h in omega (arith, t)

pub named_reads : (names : List Text) (n : ℕ) → is_name names n ≡ true → IsNamed names (id n)
named_reads names n h = by (slice_get names n) refl h
  where
    by : (o : Option Text) → slice_get names n ≡ o → text_passes is_name_text o ≡ true → IsNamed names (id n)
    by None e p = absurd (let z : false ≡ true = p in cc)
    by (Some w) e p = (some_below names n w e, ap (λ (o : Option Text). F.is_name (text_or_none o)) e ∙ name_reads w p)

pub string_reads : (names : List Text) (n : ℕ) → is_string_number names n ≡ true → IsString names (id n)
string_reads names n h = by (slice_get names n) refl h
  where
    by : (o : Option Text) → slice_get names n ≡ o → text_passes is_string_text o ≡ true → IsString names (id n)
    by None e p = absurd (let z : false ≡ true = p in cc)
    by (Some w) e p =
        let s : nat_le (length w) 256 ≡ true = second (every is_inner w) (nat_le (length w) 256) p in
        let l : length w ≤ 256 = grind (arith, nat_tests, s) in (
          some_below names n w e,
          subst (λ (o : Option Text). length (text_or_none o) ≤ 256) (sym e) l,
          ap (λ (o : Option Text). every is_inner (text_or_none o)) e ∙ first (every is_inner w) (nat_le (length w) 256) p,
        )

literal_reads : (z : ℤ) → is_literal (V.Int z) ≡ true → is_in_range z ≡ true
literal_reads (pos n) h = grind (arith, nat_tests, h)
literal_reads (negsuc n) h = absurd (let z : false ≡ true = h in cc)

module _ (names : List Text) where
  -- what an instruction names or pushes is spelled
  abbrev Says : Instr → Type 0
  Says (I.PushInt z) = is_in_range z ≡ true
  Says (I.New c) = IsNamed names c
  Says (I.Send m n) = IsNamed names m
  Says (I.Async m n) = IsNamed names m
  Says (I.WriteText s) = IsString names s
  Says _ = Unit {0}

  abbrev AllSay : List Instr → Type 0
  AllSay [] = Unit {0}
  AllSay (i ∷ is) = Says i × AllSay is

  say_append : (a b : List Instr) → AllSay a → AllSay b → AllSay (a ++ b)
  say_append [] b x y = y
  say_append (i ∷ a) b x y = (x.0, say_append a b x.1 y)

  say_at : (l : List Instr) (j : ℕ) (i : Instr) → AllSay l → slice_get l j ≡ Some i → Says i
  say_at [] j i x e = absurd (cc)
  say_at (d ∷ l) zero i x e = let f : d ≡ i = grind (arith, e) in subst Says f x.0
  say_at (d ∷ l) (suc j) i x e = say_at l j i x.1 e

  load_says : (g : Numbering) (x : ℕ) → Says (load g x)
  load_says g x = by (contains g.temps x)
    where
      by : (b : Bool) → Says (if b then I.LoadT (number_of g.temps x) else I.LoadI (number_of g.vars x))
      by true = tt
      by false = tt

  store_says : (g : Numbering) (x : ℕ) → Says (store g x)
  store_says g x = by (contains g.temps x)
    where
      by : (b : Bool) → Says (if b then I.StoreT (number_of g.temps x) else I.StoreI (number_of g.vars x))
      by true = tt
      by false = tt

  push_says : (v : Value) → is_literal v ≡ true → Says (push v)
  push_says (V.Int z) h = literal_reads z h
  push_says (V.Bool b) h = tt
  push_says (V.Ref n) h = tt
  push_says V.Nil h = tt

  mutual
    expression_says : (g : Numbering) (e : Expression) → is_spelled_expression names e ≡ true → AllSay (expression_code g e)
    expression_says g (T.Literal v p) h = (push_says v h, tt)
    expression_says g (T.Me p) h = (tt, tt)
    expression_says g (T.Variable x p) h = (load_says g x, tt)
    expression_says g (T.Create c p) h = (named_reads names c h, tt)
    expression_says g (T.Prefix op e p) h = say_append (expression_code g e) (I.Oper op ∷ []) (expression_says g e h) (tt, tt)
    expression_says g (T.Infix op l r p) h =
        say_append (expression_code g l) (expression_code g r ++ I.Oper op ∷ []) (expression_says g l (first (is_spelled_expression names l) (is_spelled_expression names r) h))
        (say_append (expression_code g r) (I.Oper op ∷ []) (expression_says g r (second (is_spelled_expression names l) (is_spelled_expression names r) h)) (tt, tt))
    expression_says g (T.Call m es p) h =
        say_append (expressions_code g es) (I.Call (name m) ∷ []) (expressions_say g es (second (is_name names m) (are_spelled_expressions names es) h)) (tt, tt)
    expression_says g (T.Send e m es p) h =
        let a = first (is_spelled_expression names e && is_name names m) (are_spelled_expressions names es) h in
        say_append (expression_code g e) (expressions_code g es ++ I.Send (name m) (size es) ∷ []) (expression_says g e (first (is_spelled_expression names e) (is_name names m) a))
        (say_append (expressions_code g es) (I.Send (name m) (size es) ∷ []) (expressions_say g es (second (is_spelled_expression names e && is_name names m) (are_spelled_expressions names es) h))
        (named_reads names m (second (is_spelled_expression names e) (is_name names m) a), tt))
    expression_says g (T.Frame m t ss e qs) h = tt
    expression_says g (T.Wait b m) h = tt

    expressions_say : (g : Numbering) (es : Expressions) → are_spelled_expressions names es ≡ true → AllSay (expressions_code g es)
    expressions_say g T.NoArgs h = tt
    expressions_say g (T.Arg e es) h =
        say_append (expression_code g e) (expressions_code g es) (expression_says g e (first (is_spelled_expression names e) (are_spelled_expressions names es) h))
        (expressions_say g es (second (is_spelled_expression names e) (are_spelled_expressions names es) h))

  -- the parts of an alternative
  record Parts (e : Expression) (ss : Statements) (alts : Alternatives) : Type 0 where
    guard : is_spelled_expression names e ≡ true
    work : are_spelled_statements names ss ≡ true
    rest : are_spelled_alternatives names alts ≡ true

  parts : (e : Expression) (ns : _) (ss : Statements) (alts : Alternatives) → are_spelled_alternatives names (T.Alt e ns ss alts) ≡ true → Parts e ss alts
  parts e ns ss alts h =
      let a = first (is_spelled_expression names e && are_answer_names names ns && are_spelled_statements names ss) (are_spelled_alternatives names alts) h in
      let b = first (is_spelled_expression names e && are_answer_names names ns) (are_spelled_statements names ss) a in
      record {
        guard = first (is_spelled_expression names e) (are_answer_names names ns) b;
        work = second (is_spelled_expression names e && are_answer_names names ns) (are_spelled_statements names ss) a;
        rest = second (is_spelled_expression names e && are_answer_names names ns && are_spelled_statements names ss) (are_spelled_alternatives names alts) h;
      }

  guards_say : (g : Numbering) (alts : Alternatives) → are_spelled_alternatives names alts ≡ true → AllSay (guards_code g alts)
  guards_say g T.NoAlts h = tt
  guards_say g (T.Alt e ns ss alts) h =
      let p = parts e ns ss alts h in
      say_append (expression_code g e) (guards_code g alts) (expression_says g e p.guard) (guards_say g alts p.rest)

  mutual
    statement_says : (g : Numbering) (at : ℕ) (s : Statement) → is_spelled_statement names s ≡ true → AllSay (statement_code g at s)
    statement_says g at (T.Assign x p e) h =
        say_append (expression_code g e) (store g x ∷ []) (expression_says g e (second (is_name names x) (is_spelled_expression names e) h)) (store_says g x, tt)
    statement_says g at (T.Write e) h = say_append (expression_code g e) (I.Write ∷ []) (expression_says g e h) (tt, tt)
    statement_says g at (T.WriteText s) h = (string_reads names s h, tt)
    statement_says g at (T.Do e) h = say_append (expression_code g e) (I.Pop ∷ []) (expression_says g e h) (tt, tt)
    statement_says g at (T.Async e m p es) h =
        let a = first (is_spelled_expression names e && is_name names m) (are_spelled_expressions names es) h in
        say_append (expression_code g e) (expressions_code g es ++ I.Async (name m) (size es) ∷ []) (expression_says g e (first (is_spelled_expression names e) (is_name names m) a))
        (say_append (expressions_code g es) (I.Async (name m) (size es) ∷ []) (expressions_say g es (second (is_spelled_expression names e && is_name names m) (are_spelled_expressions names es) h))
        (named_reads names m (second (is_spelled_expression names e) (is_name names m) a), tt))
    statement_says g at (T.If e these those) h =
        let a = first (is_spelled_expression names e && are_spelled_statements names these) (are_spelled_statements names those) h in
        let test = expression_says g e (first (is_spelled_expression names e) (are_spelled_statements names these) a) in
        let yes = suc (at + length (expression_code g e)) in
        let these_say = statements_say g yes these (second (is_spelled_expression names e) (are_spelled_statements names these) a) in
        let no = suc (yes + length (statements_code g yes these)) in
        let those_say = statements_say g no those (second (is_spelled_expression names e && are_spelled_statements names these) (are_spelled_statements names those) h) in
        say_append (expression_code g e) (I.Branch no ∷ (statements_code g yes these ++ I.Jump (no + length (statements_code g no those)) ∷ statements_code g no those)) test
        (tt, say_append (statements_code g yes these) (I.Jump (no + length (statements_code g no those)) ∷ statements_code g no those) these_say (tt, those_say))
    statement_says g at (T.While e ss) h =
        let test = expression_says g e (first (is_spelled_expression names e) (are_spelled_statements names ss) h) in
        let go = suc (suc at + length (expression_code g e)) in
        let turn = statements_say g go ss (second (is_spelled_expression names e) (are_spelled_statements names ss) h) in (
          tt,
          say_append (expression_code g e) (I.Branch (suc (go + length (statements_code g go ss))) ∷ (statements_code g go ss ++ I.Jump at ∷ [])) test
              (tt, say_append (statements_code g go ss) (I.Jump at ∷ []) turn (tt, tt)),
        )
    statement_says g at (T.Answer ns) h = (tt, tt)
    statement_says g at (T.Select alts) h =
        let go = suc (at + length (guards_code g alts)) in
        say_append (guards_code g alts) (I.Select (alternatives_at g go alts) ∷ alternatives_code g go (go + length (alternatives_code g go 0 alts)) alts) (guards_say g alts h)
        (tt, alternatives_say g go (go + length (alternatives_code g go 0 alts)) alts h)
    statement_says g at (T.Serve m k t ss e qs) h = tt

    statements_say : (g : Numbering) (at : ℕ) (ss : Statements) → are_spelled_statements names ss ≡ true → AllSay (statements_code g at ss)
    statements_say g at T.Done h = tt
    statements_say g at (T.Then s ss) h =
        say_append (statement_code g at s) (statements_code g (at + length (statement_code g at s)) ss)
        (statement_says g at s (first (is_spelled_statement names s) (are_spelled_statements names ss) h))
        (statements_say g (at + length (statement_code g at s)) ss (second (is_spelled_statement names s) (are_spelled_statements names ss) h))

    alternatives_say : (g : Numbering) (at end : ℕ) (alts : Alternatives) → are_spelled_alternatives names alts ≡ true → AllSay (alternatives_code g at end alts)
    alternatives_say g at end T.NoAlts h = tt
    alternatives_say g at end (T.Alt e ns ss alts) h =
        let p = parts e ns ss alts h in
        let next = suc (at + length (statements_code g at ss)) in
        say_append (statements_code g at ss) (I.Jump end ∷ alternatives_code g next end alts) (statements_say g at ss p.work) (tt, alternatives_say g next end alts p.rest)

  post_says : (g : Numbering) (at : ℕ) (qs : Statements) → are_spelled_statements names qs ≡ true → AllSay (post_code g at qs)
  post_says g at T.Done h = (tt, tt)
  post_says g at (T.Then s qs) h = (tt, say_append (statements_code g (suc at) (T.Then s qs)) (I.Ret ∷ []) (statements_say g (suc at) (T.Then s qs) h) (tt, tt))

  -- the codes of a class
  record ClassSays (k : ClassCode) : Type 0 where
    body : AllSay k.body.code
    methods : (i : ℕ) (m : MethodCode) → slice_get k.methods i ≡ Some m → AllSay m.code

  methods_say : (vars : List ℕ) (ms : List MethodTree) → are_spelled_methods names ms ≡ true → (i : ℕ) (m : MethodCode) → slice_get (map (method_code_of vars) ms) i ≡ Some m → AllSay m.code
  methods_say vars [] h i m e = absurd (cc)
  methods_say vars (x ∷ ms) h zero m e =
      let s1 = first _ (are_spelled_methods names ms) h in
      let s2 = first _ (are_spelled_statements names x.post) s1 in
      let s3 = first _ (is_spelled_expression names x.value) s2 in
      let g : Numbering = record { temps = names_of (x.params ++ x.locals); vars = vars } in
      let at = 0 + length (statements_code g 0 x.body) + length (expression_code g x.value) in
      let same : method_code_of vars x ≡ m = grind (arith, e) in
      subst (λ (z : MethodCode). AllSay z.code) same
      (say_append (statements_code g 0 x.body) (expression_code g x.value ++ post_code g at x.post) (statements_say g 0 x.body (second _ (are_spelled_statements names x.body) s3))
      (say_append (expression_code g x.value) (post_code g at x.post) (expression_says g x.value (second _ (is_spelled_expression names x.value) s2))
      (post_says g at x.post (second _ (are_spelled_statements names x.post) s1))))
  methods_say vars (x ∷ ms) h (suc i) m e = methods_say vars ms (second _ (are_spelled_methods names ms) h) i m e

  classes_say : (ks : ProgramTree) → is_spelled names ks ≡ true → (j : ℕ) (k : ClassCode) → slice_get (code ks) j ≡ Some k → ClassSays k
  classes_say [] h j k e = absurd (cc)
  classes_say (x ∷ ks) h zero k e =
      let s1 = first _ (is_spelled names ks) h in
      let s2 = first _ (are_spelled_statements names x.body) s1 in
      let g : Numbering = record { temps = []; vars = names_of x.vars } in
      let same : class_code x ≡ k = grind (arith, e) in
      subst ClassSays same (record {
        body = say_append (statements_code g 0 x.body) (I.Halt ∷ []) (statements_say g 0 x.body (second _ (are_spelled_statements names x.body) s1)) (tt, tt);
        methods = methods_say (names_of x.vars) x.methods (second _ (are_spelled_methods names x.methods) s2);
      })
  classes_say (x ∷ ks) h (suc j) k e = classes_say ks (second _ (is_spelled names ks) h) j k e

module _ (u : Code) (p : ProgramTree) (same : u.classes ≡ code p) (h : is_spelled u.names p ≡ true) where
  instr_says : (i : Instr) → HasInstr u i → Says u.names i
  instr_says i (j, k, m, at, e, f) = by m f
    where
      k_says : ClassSays u.names k
      k_says = classes_say u.names p h j k (ap (λ ks. slice_get ks j) (sym same) ∙ e)

      by : (m : Option ℕ) → slice_get (code_of (Some k) m) at ≡ Some i → Says u.names i
      by None g = say_at u.names k.body.code at i k_says.body g
      by (Some n) g = on (slice_get k.methods n) refl g
        where
          on : (z : Option MethodCode) → slice_get k.methods n ≡ z → slice_get (method_code z) at ≡ Some i → Says u.names i
          on None q r = absurd (cc)
          on (Some c) q r = say_at u.names c.code at i (k_says.methods n c q) r

  -- the code of a spelled program is spelled, and sends to names alone
  pub code_is_spelled : IsSpelledUnit u
  code_is_spelled = record { classes = λ n t. instr_says (I.New (id n)) t; strings = λ n t. instr_says (I.WriteText (id n)) t; numbers = λ z t. instr_says (I.PushInt z) t }

  pub code_sends_names : SendsNames u
  code_sends_names n a (inl t) = instr_says (I.Send (id n) a) t
  code_sends_names n a (inr t) = instr_says (I.Async (id n) a) t
