-- The grammar derives a statement from its tokens, up to positions and numbering.
use Rattle.std.proofs.Common.{◌≡◌, refl, sym, ap, ℕ, ◌+◌, List, [], ◌∷◌, ◌++◌, map, Option, Some, None, append_assoc, append-nil}
use Rattle.pool_syntax.specs.declared.token.Tok.{Tok}
use Rattle.pool_syntax.specs.declared.token.Tok.TheVariants as tok
use Rattle.text_scan.specs.declared.keywords.Keyword.TheVariants as word
use Rattle.pool_syntax.specs.declared.token.Sign.TheVariants as sign
use Rattle.pool_syntax.specs.declared.tree.Named.{Named}
use Rattle.pool_syntax.specs.Terms.{Expression, Literal, Me, Variable, Create, Prefix, Infix, Call, Send, Frame, Wait, Expressions, Statement, Assign, Write, WriteText, Do, Async, If, While, Answer, Select, Serve, Statements, Done, Then, Alternatives, NoAlts, Alt, append}
use Rattle.pool_grammar.specs.Rules.{names, more_names, list, stmts, more_stmts, stmt, invoke, alt, more_alts, OneAlternative}
use Rattle.pool_grammar.specs.Grammar.{rule, then_last, alt_last}
use Rattle.pool_grammar.specs.Derives.{Derives, nothing, token, inner, first, second}
use Rattle.pool_printer.specs.Canonical.{expression_tokens, call_tokens, led_by, names_tokens, answer_tokens, statement_tokens, statement_parts, statements_tokens, alternatives_tokens}
use Rattle.pool_printer.specs.Renamed.{renamed_name, renamed_answer, renamed_expression, renamed_statement, renamed_statements, renamed_alternatives}
use Rattle.pool_printer.proofs.DerivedForm.{IsInvocation, IsFilled, AnswerForm, HasAlternative, ExpressionForm, ArgumentsForm, StatementForm, StatementsForm, AlternativesForm}
use Rattle.pool_printer.proofs.DerivedParts.{Stands, split, Parsed, Ongoing, ended, derives_as, named}
use Rattle.pool_printer.proofs.DerivedExpressions.{expressed, destination, listed, each_argument}

-- lists that are longer by one

statements_end : (xs : Statements) → append xs Done ≡ xs
statements_end Done = refl
statements_end (Then x xs) = ap (Then x) (statements_end xs)

statements_next : (xs : Statements) (s : Statement) (ss : Statements) → append (then_last xs s) ss ≡ append xs (Then s ss)
statements_next Done s ss = refl
statements_next (Then x xs) s ss = ap (Then x) (statements_next xs s ss)

-- alternatives, and then more
abbrev alternatives_then : Alternatives → Alternatives → Alternatives
alternatives_then NoAlts alts = alts
alternatives_then (Alt g ns ss xs) alts = Alt g ns ss (alternatives_then xs alts)

alternatives_end : (xs : Alternatives) → alternatives_then xs NoAlts ≡ xs
alternatives_end NoAlts = refl
alternatives_end (Alt g ns ss xs) = ap (Alt g ns ss) (alternatives_end xs)

alternatives_next : (xs : Alternatives) (a : OneAlternative) (alts : Alternatives)
    → alternatives_then (alt_last xs a) alts ≡ alternatives_then xs (Alt a.0 a.1 a.2 alts)
alternatives_next NoAlts a alts = refl
alternatives_next (Alt g ns ss xs) a alts = ap (Alt g ns ss) (alternatives_next xs a alts)

-- names behind others
abbrev MoreNames : (ℕ → ℕ) → List Tok → ℕ → ℕ → List Named → Type 0
MoreNames f ts i k ns = Ongoing (λ xs. map (renamed_name f) ns ≡ map (renamed_name (λ n. n)) xs)
    (λ xs. (before : List Named) → Derives ts (more_names before) (rule (more_names before)) i k (before ++ xs))

-- names in parentheses
abbrev pub NamesListed : (ℕ → ℕ) → List Tok → ℕ → ℕ → List Named → Type 0
NamesListed f ts i k ns = Parsed ts list i k (λ xs. map (renamed_name f) ns ≡ map (renamed_name (λ n. n)) xs)

-- a statement
abbrev pub Stated : (ℕ → ℕ) → List Tok → ℕ → ℕ → Statement → Type 0
Stated f ts i k s = Parsed ts stmt i k (λ x. renamed_statement f s ≡ renamed_statement (λ n. n) x)

-- each statement is derived
abbrev pub EachStatement : (ℕ → ℕ) → List Tok → Statements → Type 0
EachStatement f ts Done = Unit {0}
EachStatement f ts (Then s ss) = ((i k : ℕ) → Stands f ts (statement_tokens s) i k → Stated f ts i k s) × EachStatement f ts ss

-- statements behind others
abbrev MoreStatements : (ℕ → ℕ) → List Tok → ℕ → ℕ → Statements → Type 0
MoreStatements f ts i k ss = Ongoing (λ xs. renamed_statements f ss ≡ renamed_statements (λ n. n) xs)
    (λ xs. (before : Statements) → Derives ts (more_stmts before) (rule (more_stmts before)) i k (append before xs))

-- statements from the first one on
abbrev pub AllStated : (ℕ → ℕ) → List Tok → ℕ → ℕ → Statements → Type 0
AllStated f ts i k ss = Parsed ts stmts i k (λ xs. renamed_statements f ss ≡ renamed_statements (λ n. n) xs)

-- each alternative is derived
abbrev EachAlternative : (ℕ → ℕ) → List Tok → Alternatives → Type 0
EachAlternative f ts NoAlts = Unit {0}
EachAlternative f ts (Alt e ns ss alts) = ExpressionForm e × AnswerForm ns × EachStatement f ts ss × EachAlternative f ts alts

-- an alternative in front of other tokens
record FrontAlternative (f : ℕ → ℕ) (ts rest : List Tok) (i k : ℕ) (e : Expression) (ns : Option (List Named)) (ss : Statements) : Type 0 where
  middle : ℕ
  found : OneAlternative
  derives : Derives ts alt (rule alt) i middle found
  same_guard : renamed_expression f e ≡ renamed_expression (λ n. n) found.0
  same_answer : renamed_answer f ns ≡ renamed_answer (λ n. n) found.1
  same_work : renamed_statements f ss ≡ renamed_statements (λ n. n) found.2
  back : Stands f ts rest middle k

-- alternatives behind others
abbrev MoreAlternatives : (ℕ → ℕ) → List Tok → ℕ → ℕ → Alternatives → Type 0
MoreAlternatives f ts i k alts = Ongoing (λ xs. renamed_alternatives f alts ≡ renamed_alternatives (λ n. n) xs)
    (λ xs. (before : Alternatives) → Derives ts (more_alts before) (rule (more_alts before)) i k (alternatives_then before xs))

module _ (f : ℕ → ℕ) (ts : List Tok) where
  more_named : (ns : List Named) (i k : ℕ) → Stands f ts (led_by (tok.Sign sign.Comma) (map (λ n. tok.Name n.name ∷ []) ns)) i k → MoreNames f ts i k ns
  unfolding rule
  more_named [] i k s = record { found = []; same = refl; goes_on = λ before. second (derives_as (sym (append-nil before)) (ended s)) }
  more_named (n ∷ ns) i k s =
      let b = more_named ns (i + 1 + 1) k s.1.1 in
      let m = named (f n.name.0) (i + 1) in
      record {
        found = m ∷ b.found;
        same = λ d. renamed_name f n ∷ b.same d;
        goes_on = λ before. derives_as (append_assoc before (m ∷ []) b.found)
            (first (token i (s.0, refl) (token m (s.1.0, refl) (inner _ (b.goes_on (before ++ m ∷ [])) nothing))));
      }

  -- a list of at least one name in parentheses
  pub names_listed : (ns : List Named) → IsFilled ns → (i k : ℕ) → Stands f ts (names_tokens ns) i k → NamesListed f ts i k ns
  unfolding rule
  names_listed [] w i k s = absurd w
  names_listed (n ∷ ns) w i k s =
      let c = split (led_by (tok.Sign sign.Comma) (map (λ n. tok.Name n.name ∷ []) ns)) (tok.Sign sign.RightParen ∷ []) s.1.1 in
      let b = more_named ns (i + 1 + 1) c.middle c.front in
      let m = named (f n.name.0) (i + 1) in
      record {
        found = m ∷ b.found;
        derives = token i (s.0, refl) (inner {q = names} (m ∷ b.found) (token m (s.1.0, refl) (inner _ (b.goes_on (m ∷ [])) nothing)) (token c.middle (c.back.0, refl) (ended c.back.1)));
        same = λ d. renamed_name f n ∷ b.same d;
      }

  -- statements

  more_stated : (ss : Statements) → EachStatement f ts ss → (i k : ℕ) → Stands f ts (led_by (tok.Sign sign.Semicolon) (statement_parts ss)) i k → MoreStatements f ts i k ss
  unfolding rule
  more_stated Done each i k s = record { found = Done; same = refl; goes_on = λ before. second (derives_as (sym (statements_end before)) (ended s)) }
  more_stated (Then t ss) each i k s =
      let c = split (statement_tokens t) (led_by (tok.Sign sign.Semicolon) (statement_parts ss)) s.1 in
      let a = each.0 (i + 1) c.middle c.front in
      let b = more_stated ss each.1 c.middle k c.back in
      record {
        found = Then a.found b.found;
        same = λ d. Then (a.same d) (b.same d);
        goes_on = λ before. derives_as (statements_next before a.found b.found)
            (first (token i (s.0, refl) (inner a.found a.derives (inner _ (b.goes_on (then_last before a.found)) nothing))));
      }

  all_stated : (ss : Statements) → EachStatement f ts ss → (i k : ℕ) → Stands f ts (statements_tokens ss) i k → AllStated f ts i k ss
  unfolding rule
  all_stated Done each i k s = record { found = Done; derives = second (ended s); same = refl }
  all_stated (Then t ss) each i k s =
      let c = split (statement_tokens t) (led_by (tok.Sign sign.Semicolon) (statement_parts ss)) s in
      let a = each.0 i c.middle c.front in
      let b = more_stated ss each.1 c.middle k c.back in
      record { found = Then a.found b.found; derives = first (inner a.found a.derives (inner _ (b.goes_on (Then a.found Done)) nothing)); same = λ d. Then (a.same d) (b.same d) }

  assigned : (x p : ℕ) (e : Expression) → ExpressionForm e → (i k : ℕ) → Stands f ts (statement_tokens (Assign x p e)) i k → Stated f ts i k (Assign x p e)
  unfolding rule
  assigned x p e w i k s =
      let a = expressed f ts e w (i + 1 + 1) k s.1.1 in
      record {
        found = Assign (f x) i a.found;
        derives = first (token (named (f x) i) (s.0, refl) (token (i + 1) (s.1.0, refl) (inner a.found a.derives nothing)));
        same = λ d. Assign (f x) 0 (a.same d);
      }

  written : (e : Expression) → ExpressionForm e → (i k : ℕ) → Stands f ts (statement_tokens (Write e)) i k → Stated f ts i k (Write e)
  unfolding rule
  written e w i k s =
      let a = expressed f ts e w (i + 1) k s.1 in
      record { found = Write a.found; derives = second (first (token i (s.0, refl) (inner a.found a.derives nothing))); same = λ d. Write (a.same d) }

  text_written : (n i k : ℕ) → Stands f ts (statement_tokens (WriteText n)) i k → Stated f ts i k (WriteText n)
  unfolding rule
  text_written n i k s = record { found = WriteText (f n); derives = second (second (first (token i (s.0, refl) (token (record { 0 = f n }) s.1.0 (ended s.1.1))))); same = refl }

  -- an `if` with its two lists
  conditional : (e : Expression) → ExpressionForm e → (these those : Statements) → EachStatement f ts these → EachStatement f ts those
      → (i k : ℕ) → Stands f ts (statement_tokens (If e these those)) i k → Stated f ts i k (If e these those)
  unfolding rule
  conditional e w these Done v u i k s =
      let c = split (expression_tokens 1 e) (tok.Word word.Then ∷ (statements_tokens these ++ tok.Word word.Fi ∷ [])) s.1 in
      let a = expressed f ts e w (i + 1) c.middle c.front in
      let d = split (statements_tokens these) (tok.Word word.Fi ∷ []) c.back.1 in
      let b = all_stated these v (c.middle + 1) d.middle d.front in
      record {
        found = If a.found b.found Done;
        derives = second (second (second (first (token i (s.0, refl) (inner a.found a.derives (token c.middle (c.back.0, refl) (inner b.found b.derives
            (second (token d.middle (d.back.0, refl) (ended d.back.1))))))))));
        same = λ d. If (a.same d) (b.same d) Done;
      }
  conditional e w these (Then t ss) v u i k s =
      let c = split (expression_tokens 1 e) (tok.Word word.Then ∷ (statements_tokens these ++ tok.Word word.Else ∷ (statements_tokens (Then t ss) ++ tok.Word word.Fi ∷ []))) s.1 in
      let a = expressed f ts e w (i + 1) c.middle c.front in
      let d = split (statements_tokens these) (tok.Word word.Else ∷ (statements_tokens (Then t ss) ++ tok.Word word.Fi ∷ [])) c.back.1 in
      let b = all_stated these v (c.middle + 1) d.middle d.front in
      let g = split (statements_tokens (Then t ss)) (tok.Word word.Fi ∷ []) d.back.1 in
      let h = all_stated (Then t ss) u (d.middle + 1) g.middle g.front in
      record {
        found = If a.found b.found h.found;
        derives = second (second (second (first (token i (s.0, refl) (inner a.found a.derives (token c.middle (c.back.0, refl) (inner b.found b.derives
            (first (token d.middle (d.back.0, refl) (inner h.found h.derives (token g.middle (g.back.0, refl) (ended g.back.1))))))))))));
        same = λ l. If (a.same l) (b.same l) (h.same l);
      }

  repeated : (e : Expression) → ExpressionForm e → (ss : Statements) → EachStatement f ts ss → (i k : ℕ)
      → Stands f ts (statement_tokens (While e ss)) i k → Stated f ts i k (While e ss)
  unfolding rule
  repeated e w ss v i k s =
      let c = split (expression_tokens 1 e) (tok.Word word.Do ∷ (statements_tokens ss ++ tok.Word word.Od ∷ [])) s.1 in
      let a = expressed f ts e w (i + 1) c.middle c.front in
      let d = split (statements_tokens ss) (tok.Word word.Od ∷ []) c.back.1 in
      let b = all_stated ss v (c.middle + 1) d.middle d.front in
      record {
        found = While a.found b.found;
        derives = second (second (second (second (first (token i (s.0, refl) (inner a.found a.derives (token c.middle (c.back.0, refl) (inner b.found b.derives
            (token d.middle (d.back.0, refl) (ended d.back.1))))))))));
        same = λ d. While (a.same d) (b.same d);
      }

  answered : (ns : List Named) → IsFilled ns → (i k : ℕ) → Stands f ts (statement_tokens (Answer ns)) i k → Stated f ts i k (Answer ns)
  unfolding rule
  answered ns w i k s =
      let a = names_listed ns w (i + 1) k s.1 in
      record { found = Answer a.found; derives = second (second (second (second (second (first (token i (s.0, refl) (inner a.found a.derives nothing))))))); same = λ d. Answer (a.same d) }

  sent_on : (e : Expression) (m p : ℕ) (es : Expressions) → ExpressionForm e → ArgumentsForm es → (i k : ℕ)
      → Stands f ts (statement_tokens (Async e m p es)) i k → Stated f ts i k (Async e m p es)
  unfolding rule
  sent_on e m p es w v i k s =
      let c = split (expression_tokens 7 e) (tok.Sign sign.BangBang ∷ call_tokens m es) s in
      let a = destination f ts e w i c.middle c.front in
      let b = listed f ts es (each_argument f ts es v) (c.middle + 1 + 1) k c.back.1.1 in
      record {
        found = Async a.found (f m) (c.middle + 1) b.found;
        derives = second (second (second (second (second (second (second (first
            (inner a.found a.derives (token c.middle (c.back.0, refl) (token (named (f m) (c.middle + 1)) (c.back.1.0, refl) (inner b.found b.derives nothing)))))))))));
        same = λ d. Async (a.same d) (f m) 0 (b.same d);
      }

  invoked : (e : Expression) → IsInvocation e → ExpressionForm e → (i k : ℕ) → Stands f ts (expression_tokens 1 e) i k → Stated f ts i k (Do e)
  unfolding rule
  invoked (Create c p) v w i k s = record {
    found = Do (Create (f c) (i + 1));
    derives = second (second (second (second (second (second (second (second (inner {q = invoke} (Create (f c) (i + 1))
        (second (first (token i (s.0, refl) (token (named (f c) (i + 1)) (s.1.0, refl) (ended s.1.1))))) nothing))))))));
    same = refl;
  }
  invoked (Call m es p) v w i k s =
      let a = listed f ts es (each_argument f ts es w) (i + 1) k s.1 in
      record {
        found = Do (Call (f m) a.found i);
        derives = second (second (second (second (second (second (second (second (inner {q = invoke} (Call (f m) a.found i)
            (first (token (named (f m) i) (s.0, refl) (inner a.found a.derives nothing))) nothing))))))));
        same = λ d. Do (Call (f m) (a.same d) 0);
      }
  invoked (Send e m es p) v w i k s =
      let c = split (expression_tokens 7 e) (tok.Sign sign.Bang ∷ call_tokens m es) s in
      let a = destination f ts e w.0 i c.middle c.front in
      let b = listed f ts es (each_argument f ts es w.1) (c.middle + 1 + 1) k c.back.1.1 in
      let x = Send a.found (f m) b.found (c.middle + 1) in
      record {
        found = Do x;
        derives = second (second (second (second (second (second (second (second (inner {q = invoke} x
            (second (second (inner a.found a.derives (token c.middle (c.back.0, refl) (token (named (f m) (c.middle + 1)) (c.back.1.0, refl) (inner b.found b.derives nothing))))))
            nothing))))))));
        same = λ d. Do (Send (a.same d) (f m) (b.same d) 0);
      }
  invoked (Literal x p) v w i k s = absurd v
  invoked (Me p) v w i k s = absurd v
  invoked (Variable x p) v w i k s = absurd v
  invoked (Prefix o e p) v w i k s = absurd v
  invoked (Infix o l r p) v w i k s = absurd v
  invoked (Frame m t ss e qs) v w i k s = absurd v
  invoked (Wait b m) v w i k s = absurd v

  -- alternatives

  front_alternative : (rest : List Tok) (e : Expression) → ExpressionForm e → (ns : Option (List Named)) → AnswerForm ns → (ss : Statements) → EachStatement f ts ss
      → (i k : ℕ) → Stands f ts (tok.Word word.When ∷ (expression_tokens 1 e ++ (answer_tokens ns ++ tok.Word word.Then ∷ (statements_tokens ss ++ rest)))) i k
      → FrontAlternative f ts rest i k e ns ss
  unfolding rule
  front_alternative rest e w None v ss u i k s =
      let c = split (expression_tokens 1 e) (tok.Word word.Then ∷ (statements_tokens ss ++ rest)) s.1 in
      let a = expressed f ts e w (i + 1) c.middle c.front in
      let d = split (statements_tokens ss) rest c.back.1 in
      let b = all_stated ss u (c.middle + 1) d.middle d.front in
      record {
        middle = d.middle;
        found = (a.found, None, b.found);
        derives = token i (s.0, refl) (inner a.found a.derives (second (token c.middle (c.back.0, refl) (inner b.found b.derives nothing))));
        same_guard = a.same;
        same_answer = refl;
        same_work = b.same;
        back = d.back;
      }
  front_alternative rest e w (Some ns) v ss u i k s =
      let c = split (expression_tokens 1 e) (answer_tokens (Some ns) ++ tok.Word word.Then ∷ (statements_tokens ss ++ rest)) s.1 in
      let a = expressed f ts e w (i + 1) c.middle c.front in
      let h = split (names_tokens ns) (tok.Word word.Then ∷ (statements_tokens ss ++ rest)) c.back.1 in
      let l = names_listed ns v (c.middle + 1) h.middle h.front in
      let d = split (statements_tokens ss) rest h.back.1 in
      let b = all_stated ss u (h.middle + 1) d.middle d.front in
      record {
        middle = d.middle;
        found = (a.found, Some l.found, b.found);
        derives = token i (s.0, refl) (inner a.found a.derives (first (token c.middle (c.back.0, refl) (inner l.found l.derives
            (token h.middle (h.back.0, refl) (inner b.found b.derives nothing))))));
        same_guard = a.same;
        same_answer = ap Some l.same;
        same_work = b.same;
        back = d.back;
      }

  more_chosen : (alts : Alternatives) → EachAlternative f ts alts → (i k : ℕ) → Stands f ts (alternatives_tokens alts) i k → MoreAlternatives f ts i k alts
  unfolding rule
  more_chosen NoAlts each i k s = record { found = NoAlts; same = refl; goes_on = λ before. second (derives_as (sym (alternatives_end before)) (ended s)) }
  more_chosen (Alt e ns ss alts) each i k s =
      let a = front_alternative (alternatives_tokens alts) e each.0 ns each.1 ss each.2 i k s in
      let b = more_chosen alts each.3 a.middle k a.back in
      record {
        found = Alt a.found.0 a.found.1 a.found.2 b.found;
        same = λ d. Alt (a.same_guard d) (a.same_answer d) (a.same_work d) (b.same d);
        goes_on = λ before. derives_as (alternatives_next before a.found b.found)
            (first (inner a.found a.derives (inner _ (b.goes_on (alt_last before a.found)) nothing)));
      }

  selected : (alts : Alternatives) → HasAlternative alts → EachAlternative f ts alts → (i k : ℕ) → Stands f ts (statement_tokens (Select alts)) i k → Stated f ts i k (Select alts)
  unfolding rule
  selected NoAlts w each i k s = absurd w
  selected (Alt e ns ss alts) w each i k s =
      let c = split (alternatives_tokens (Alt e ns ss alts)) (tok.Word word.End ∷ []) s.1 in
      let a = front_alternative (alternatives_tokens alts) e each.0 ns each.1 ss each.2 (i + 1) c.middle c.front in
      let b = more_chosen alts each.3 a.middle c.middle a.back in
      let all = Alt a.found.0 a.found.1 a.found.2 b.found in
      record {
        found = Select all;
        derives = second (second (second (second (second (second (first (token i (s.0, refl) (inner a.found a.derives (inner all (b.goes_on (alt_last NoAlts a.found))
            (token c.middle (c.back.0, refl) (ended c.back.1)))))))))));
        same = λ d. Select (Alt (a.same_guard d) (a.same_answer d) (a.same_work d) (b.same d));
      }

  mutual
    stated : (s : Statement) → StatementForm s → (i k : ℕ) → Stands f ts (statement_tokens s) i k → Stated f ts i k s
    stated (Assign x p e) w i k s = assigned x p e w i k s
    stated (Write e) w i k s = written e w i k s
    stated (WriteText n) w i k s = text_written n i k s
    stated (Do e) w i k s = invoked e w.0 w.1 i k s
    stated (Async e m p es) w i k s = sent_on e m p es w.0 w.1 i k s
    stated (If e these those) w i k s = conditional e w.0 these those (each_statement these w.1) (each_statement those w.2) i k s
    stated (While e ss) w i k s = repeated e w.0 ss (each_statement ss w.1) i k s
    stated (Answer ns) w i k s = answered ns w i k s
    stated (Select alts) w i k s = selected alts w.0 (each_alternative alts w.1) i k s
    stated (Serve m c t ss e qs) w i k s = absurd w

    each_statement : (ss : Statements) → StatementsForm ss → EachStatement f ts ss
    each_statement Done w = tt
    each_statement (Then s ss) w = (stated s w.0, each_statement ss w.1)

    each_alternative : (alts : Alternatives) → AlternativesForm alts → EachAlternative f ts alts
    each_alternative NoAlts w = tt
    each_alternative (Alt e ns ss alts) w = (w.0, w.1, each_statement ss w.2, each_alternative alts w.3)

  -- statements
  pub statements_derived : (ss : Statements) → StatementsForm ss → (i k : ℕ) → Stands f ts (statements_tokens ss) i k → AllStated f ts i k ss
  statements_derived ss w i k s = all_stated ss (each_statement ss w) i k s
