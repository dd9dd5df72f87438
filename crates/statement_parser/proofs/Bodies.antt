-- The parsing of statements with lists, of alternatives, and of lists of statements.
use Rattle.std.proofs.Common.{◌≡◌, ◌≢◌, ℕ, ◌+◌, inl, inr, ⊎_elim, false, IsTrue, List, Option, Some, None, slice_get, refl, arith}
use Rattle.pool_syntax.specs.declared.tree.Named.{Named}
use Rattle.text_scan.specs.declared.keywords.Keyword.{Keyword}
use Rattle.pool_syntax.specs.declared.token.Tok.{Tok}
use Rattle.pool_syntax.specs.declared.token.Tok.TheVariants as tok
use Rattle.text_scan.specs.declared.keywords.Keyword.TheVariants as kw
use Rattle.pool_syntax.specs.declared.token.Sign.TheVariants as sg
use Rattle.pool_syntax.specs.Terms.{Expression, Statement, If, While, Select, Statements, Done, Then, Alternatives, NoAlts}
use Rattle.pool_grammar.specs.Rules.{Phrase, Tree, stmt, stmts, more_stmts, alt, more_alts, list, word, phrase, Rule, tree, then, either, OneAlternative}
use Rattle.pool_grammar.specs.Grammar.{rule, expr, then_last, alt_last}
use Rattle.pool_grammar.specs.Derives.{Derives}
use Rattle.expression_parser.specs.Reads.{Outcome, read, refused, Reads, ReadsPhrase, begins_statement, strength}
use Rattle.expression_parser.proofs.Laws.{Clear, Misses, reads_tree, reads_first, reads_second, reads_inner, reads_refused, reads_last, put, put-id, clear_tree, clear_inner, clear_either, clear_word, clear_sign, misses_token, misses_inner, off, off_tree, clear_any, sign_read, word_read, word_missing}
use Rattle.expression_parser.proofs.Laws.{off_sign, off_word}
use Rattle.statement_parser.specs.Tails.{else_part, then_part}
use Rattle.statement_parser.proofs.Choices.{not_empty, clear_full}
use Rattle.statement_parser.proofs.SimpleStatements.{misses_stmt, behind_if, behind_while, behind_select}

module _ {ts : List Tok} where
  pub ends_value : {w : Keyword} {p : Phrase} {f : ℕ → Rule (Tree p)} → strength (tok.Word w) ≡ 0 → Clear ts p (then (word w) f) expr
  ends_value h = clear_word (λ u. omega arith)

  pub ends_statements : {w : Keyword} {p : Phrase} {f : ℕ → Rule (Tree p)} → strength (tok.Word w) ≡ 0 → begins_statement (tok.Word w) ≡ false → Clear ts p (then (word w) f) stmts
  ends_statements h k = clear_word (⊎_elim (λ u. cc) (⊎_elim (λ e. cc) (⊎_elim (λ u. omega arith) (λ e. cc))))

  -- conditionals

  pub after_these : {e : Expression} {these : Statements} → Clear ts stmt (else_part e these) stmts
  after_these = clear_either (ends_statements refl refl) (ends_statements refl refl)

  pub if_refused : {i u : ℕ} → slice_get ts i ≡ Some (tok.Word kw.If) → ReadsPhrase ts expr (i + 1) (refused u) → ReadsPhrase ts stmt i (refused u)
  if_refused h R = behind_if h (reads_refused R (λ z. ends_value refl))

  pub then_missing : {i m : ℕ} {e : Expression} → slice_get ts i ≡ Some (tok.Word kw.If) → ReadsPhrase ts expr (i + 1) (read e m) → slice_get ts m ≢ Some (tok.Word kw.Then) → ReadsPhrase ts stmt i (refused m)
  then_missing h R k = behind_if h (reads_inner R (λ z. ends_value refl) (word_missing k))

  pub these_refused : {i m u : ℕ} {e : Expression} → slice_get ts i ≡ Some (tok.Word kw.If) → ReadsPhrase ts expr (i + 1) (read e m) → slice_get ts m ≡ Some (tok.Word kw.Then) →
      ReadsPhrase ts stmts (m + 1) (refused u) → ReadsPhrase ts stmt i (refused u)
  these_refused h R k S = behind_if h (reads_inner R (λ z. ends_value refl) (word_read k (reads_refused S (λ z. after_these))))

  pub these_read : {i m n : ℕ} {e : Expression} {these : Statements} (o : Outcome Statement) → slice_get ts i ≡ Some (tok.Word kw.If) → ReadsPhrase ts expr (i + 1) (read e m) → slice_get ts m ≡ Some (tok.Word kw.Then) →
      ReadsPhrase ts stmts (m + 1) (read these n) → Reads ts stmt (else_part e these) n o → ReadsPhrase ts stmt i o
  these_read o h R k S T = behind_if h (reads_inner R (λ z. ends_value refl) (word_read k (reads_inner S (λ z. after_these) T)))

  pub else_refused : {n u : ℕ} {e : Expression} {these : Statements} → slice_get ts n ≡ Some (tok.Word kw.Else) → ReadsPhrase ts stmts (n + 1) (refused u) → Reads ts stmt (else_part e these) n (refused u)
  else_refused h R = reads_first (word_read h (reads_refused R (λ z. ends_statements refl refl))) (off_word (λ e. cc (e, h)))

  pub else_read : {n k : ℕ} {e : Expression} {these those : Statements} {o : Outcome Statement} → slice_get ts n ≡ Some (tok.Word kw.Else) → ReadsPhrase ts stmts (n + 1) (read those k) →
      Reads ts stmt (then (word kw.Fi) (λ y. tree (If e these those))) k o → Reads ts stmt (else_part e these) n o
  else_read h R S = reads_first (word_read h (reads_inner R (λ z. ends_statements refl refl) S)) (off_word (λ e. cc (e, h)))

  pub no_else : {n : ℕ} {e : Expression} {these : Statements} {o : Outcome Statement} → slice_get ts n ≢ Some (tok.Word kw.Else) →
      Reads ts stmt (then (word kw.Fi) (λ y. tree (If e these Done))) n o → Reads ts stmt (else_part e these) n o
  no_else h R = reads_second R (off_word h)

  -- repetitions

  pub while_refused : {i u : ℕ} → slice_get ts i ≡ Some (tok.Word kw.While) → ReadsPhrase ts expr (i + 1) (refused u) → ReadsPhrase ts stmt i (refused u)
  while_refused h R = behind_while h (reads_refused R (λ z. ends_value refl))

  pub do_missing : {i m : ℕ} {e : Expression} → slice_get ts i ≡ Some (tok.Word kw.While) → ReadsPhrase ts expr (i + 1) (read e m) → slice_get ts m ≢ Some (tok.Word kw.Do) → ReadsPhrase ts stmt i (refused m)
  do_missing h R k = behind_while h (reads_inner R (λ z. ends_value refl) (word_missing k))

  pub body_refused : {i m u : ℕ} {e : Expression} → slice_get ts i ≡ Some (tok.Word kw.While) → ReadsPhrase ts expr (i + 1) (read e m) → slice_get ts m ≡ Some (tok.Word kw.Do) →
      ReadsPhrase ts stmts (m + 1) (refused u) → ReadsPhrase ts stmt i (refused u)
  body_refused h R k S = behind_while h (reads_inner R (λ z. ends_value refl) (word_read k (reads_refused S (λ z. ends_statements refl refl))))

  pub body_read : {i m n : ℕ} {e : Expression} {ss : Statements} {o : Outcome Statement} → slice_get ts i ≡ Some (tok.Word kw.While) → ReadsPhrase ts expr (i + 1) (read e m) → slice_get ts m ≡ Some (tok.Word kw.Do) →
      ReadsPhrase ts stmts (m + 1) (read ss n) → Reads ts stmt (then (word kw.Od) (λ y. tree (While e ss))) n o → ReadsPhrase ts stmt i o
  body_read h R k S T = behind_while h (reads_inner R (λ z. ends_value refl) (word_read k (reads_inner S (λ z. ends_statements refl refl) T)))

  -- alternatives

  pub after_guard : {e : Expression} → Clear ts alt (either (then (word kw.Answer) (λ y. then (phrase list) (λ ns. then_part e (Some ns)))) (then_part e None)) expr
  after_guard = clear_either (ends_value refl) (ends_value refl)

  pub when_missing : {i : ℕ} → slice_get ts i ≢ Some (tok.Word kw.When) → ReadsPhrase ts alt i (refused i)
  unfolding rule
  when_missing h = word_missing h

  pub guard_refused : {i u : ℕ} → slice_get ts i ≡ Some (tok.Word kw.When) → ReadsPhrase ts expr (i + 1) (refused u) → ReadsPhrase ts alt i (refused u)
  unfolding rule
  guard_refused h R = word_read h (reads_refused R (λ z. after_guard))

  pub guard_read : {i m : ℕ} {e : Expression} (o : Outcome OneAlternative) → slice_get ts i ≡ Some (tok.Word kw.When) → ReadsPhrase ts expr (i + 1) (read e m) →
      Reads ts alt (either (then (word kw.Answer) (λ y. then (phrase list) (λ ns. then_part e (Some ns)))) (then_part e None)) m o → ReadsPhrase ts alt i o
  unfolding rule
  guard_read o h R S = word_read h (reads_inner R (λ z. after_guard) S)

  pub answers_refused : {m u : ℕ} {e : Expression} → slice_get ts m ≡ Some (tok.Word kw.Answer) → ReadsPhrase ts list (m + 1) (refused u) →
      Reads ts alt (either (then (word kw.Answer) (λ y. then (phrase list) (λ ns. then_part e (Some ns)))) (then_part e None)) m (refused u)
  answers_refused h R = reads_first (word_read h (reads_refused R (λ z. clear_any (λ t u. u)))) (off_word (λ e. cc (e, h)))

  pub answers_read : {m n : ℕ} {e : Expression} {ns : List Named} (o : Outcome OneAlternative) → slice_get ts m ≡ Some (tok.Word kw.Answer) → ReadsPhrase ts list (m + 1) (read ns n) → Reads ts alt (then_part e (Some ns)) n o →
      Reads ts alt (either (then (word kw.Answer) (λ y. then (phrase list) (λ ns. then_part e (Some ns)))) (then_part e None)) m o
  answers_read o h R S = reads_first (word_read h (reads_inner R (λ z. clear_any (λ t u. u)) S)) (off_word (λ e. cc (e, h)))

  pub no_answers : {m : ℕ} {e : Expression} (o : Outcome OneAlternative) → slice_get ts m ≢ Some (tok.Word kw.Answer) → Reads ts alt (then_part e None) m o →
      Reads ts alt (either (then (word kw.Answer) (λ y. then (phrase list) (λ ns. then_part e (Some ns)))) (then_part e None)) m o
  no_answers o h S = reads_second S (off_word h)

  pub work_read : {i : ℕ} {g : Expression} {ns : Option (List Named)} (o : Outcome Statements) → slice_get ts i ≡ Some (tok.Word kw.Then) → ReadsPhrase ts stmts (i + 1) o →
      Reads ts alt (then_part g ns) i (put (λ ss. let a : OneAlternative = (g, ns, ss) in a) o)
  work_read o h R = word_read h (reads_last {p = alt} {q = stmts} _ o (λ t u. u) R)

  -- lists of alternatives

  alt_full : (k : ℕ) (x : OneAlternative) → Derives ts alt (rule alt) k k x → ⊥
  unfolding rule
  alt_full k x d = not_empty tt d

  alt_after : Clear ts alt (rule alt) alt
  unfolding rule
  alt_after = clear_word (⊎_elim (λ u. cc) (⊎_elim (λ e. cc) (⊎_elim (λ u. omega arith) (λ e. cc))))

  pub after_alt : {before : Alternatives} → Clear ts (more_alts before) (rule (more_alts before)) alt
  unfolding rule
  after_alt = clear_either (clear_full alt_full alt_after) (clear_tree (λ t u. inr u))

  pub ends_alt : {f : ℕ → Rule Statement} → Clear ts stmt (then (word kw.End) f) alt
  ends_alt = clear_word (⊎_elim (λ u. cc) (⊎_elim (λ e. cc) (⊎_elim (λ u. omega arith) (λ e. cc))))

  pub ends_alts : {before : Alternatives} {f : ℕ → Rule Statement} → Clear ts stmt (then (word kw.End) f) (more_alts before)
  ends_alts = clear_word (⊎_elim (λ e. cc) (⊎_elim (λ u. cc) (⊎_elim (λ e. cc) (⊎_elim (λ u. omega arith) (λ e. cc)))))

  pub select_refused : {i u : ℕ} → slice_get ts i ≡ Some (tok.Word kw.Select) → ReadsPhrase ts alt (i + 1) (refused u) → ReadsPhrase ts stmt i (refused u)
  select_refused h R = behind_select h (reads_refused R (λ z. clear_inner after_alt (λ y. ends_alt)))

  pub select_refused_later : {i m u : ℕ} {a : OneAlternative} → slice_get ts i ≡ Some (tok.Word kw.Select) → ReadsPhrase ts alt (i + 1) (read a m) → ReadsPhrase ts (more_alts (alt_last NoAlts a)) m (refused u) →
      ReadsPhrase ts stmt i (refused u)
  select_refused_later h R S = behind_select h (reads_inner R (λ z. clear_inner after_alt (λ y. ends_alt)) (reads_refused S (λ z. ends_alts)))

  pub select_read : {i m n : ℕ} {a : OneAlternative} {all : Alternatives} {o : Outcome Statement} → slice_get ts i ≡ Some (tok.Word kw.Select) → ReadsPhrase ts alt (i + 1) (read a m) →
      ReadsPhrase ts (more_alts (alt_last NoAlts a)) m (read all n) → Reads ts stmt (then (word kw.End) (λ y. tree (Select all))) n o → ReadsPhrase ts stmt i o
  select_read h R S T = behind_select h (reads_inner R (λ z. clear_inner after_alt (λ y. ends_alt)) (reads_inner S (λ z. ends_alts) T))

  pub alt_read : {i m : ℕ} {before : Alternatives} (a : OneAlternative) (o : Outcome Alternatives) → slice_get ts i ≡ Some (tok.Word kw.When) → ReadsPhrase ts alt i (read a m) → ReadsPhrase ts (more_alts (alt_last before a)) m o →
      ReadsPhrase ts (more_alts before) i o
  unfolding rule
  alt_read {before = before} a o h R S = reads_first (reads_inner R (λ z. clear_inner after_alt (λ y. clear_tree (λ t u. inr u)))
      (rw put-id at (reads_last {p = more_alts before} {q = more_alts (alt_last before a)} (λ x. x) o (λ t u. u) S))) (off_tree _ h (inl refl))

  pub alt_refused : {i u : ℕ} {before : Alternatives} → slice_get ts i ≡ Some (tok.Word kw.When) → ReadsPhrase ts alt i (refused u) → ReadsPhrase ts (more_alts before) i (refused u)
  unfolding rule
  alt_refused h R = reads_first (reads_refused R (λ z. clear_inner after_alt (λ y. clear_tree (λ t u. inr u)))) (off_tree _ h (inl refl))

  misses_alt : {i : ℕ} → slice_get ts i ≢ Some (tok.Word kw.When) → Misses ts alt (rule alt) i
  unfolding rule
  misses_alt h = misses_token tt (λ y a. h a.0)

  pub alts_end : {i : ℕ} {before : Alternatives} → slice_get ts i ≢ Some (tok.Word kw.When) → ReadsPhrase ts (more_alts before) i (read before i)
  unfolding rule
  alts_end h = reads_second reads_tree (off (misses_inner (misses_alt h)))

  -- lists of statements

  pub after_stmt : {ss : Statements} → Clear ts (more_stmts ss) (rule (more_stmts ss)) stmt
  unfolding rule
  after_stmt = clear_either (clear_sign (⊎_elim (λ u. omega arith) (λ e. cc))) (clear_tree (λ t u. inr u))

  pub stmts_read : {i m : ℕ} {t : Tok} {s : Statement} (o : Outcome Statements) → slice_get ts i ≡ Some t → IsTrue (begins_statement t) →
      ReadsPhrase ts stmt i (read s m) → ReadsPhrase ts (more_stmts (Then s Done)) m o → ReadsPhrase ts stmts i o
  unfolding rule
  stmts_read {s = s} o h k R S = reads_first (reads_inner R (λ z. clear_inner after_stmt (λ y. clear_tree (λ t u. inr (inr u))))
      (rw put-id at (reads_last {p = stmts} {q = more_stmts (Then s Done)} (λ x. x) o (λ t u. inr u) S))) (off_tree _ h (inl k))

  pub stmts_refused : {i u : ℕ} {t : Tok} → slice_get ts i ≡ Some t → IsTrue (begins_statement t) → ReadsPhrase ts stmt i (refused u) → ReadsPhrase ts stmts i (refused u)
  unfolding rule
  stmts_refused h k R = reads_first (reads_refused R (λ z. clear_inner after_stmt (λ y. clear_tree (λ t u. inr (inr u))))) (off_tree _ h (inl k))

  pub stmts_empty : {i : ℕ} {t : Tok} → slice_get ts i ≡ Some t → begins_statement t ≡ false → ReadsPhrase ts stmts i (read Done i)
  unfolding rule
  stmts_empty h k = reads_second reads_tree (off (misses_inner (misses_stmt h k)))

  pub statement_read : {i m : ℕ} {s : Statement} {ss : Statements} (o : Outcome Statements) → slice_get ts i ≡ Some (tok.Sign sg.Semicolon) →
      ReadsPhrase ts stmt (i + 1) (read s m) → ReadsPhrase ts (more_stmts (then_last ss s)) m o → ReadsPhrase ts (more_stmts ss) i o
  unfolding rule
  statement_read {s = s} {ss = ss} o h R S = reads_first (sign_read h (reads_inner R (λ z. clear_inner after_stmt (λ y. clear_tree (λ t u. inr u)))
      (rw put-id at (reads_last {p = more_stmts ss} {q = more_stmts (then_last ss s)} (λ x. x) o (λ t u. u) S)))) (off_tree _ h (inl refl))

  pub statement_refused : {i u : ℕ} {ss : Statements} → slice_get ts i ≡ Some (tok.Sign sg.Semicolon) → ReadsPhrase ts stmt (i + 1) (refused u) → ReadsPhrase ts (more_stmts ss) i (refused u)
  unfolding rule
  statement_refused h R = reads_first (sign_read h (reads_refused R (λ z. clear_inner after_stmt (λ y. clear_tree (λ t u. inr u))))) (off_tree _ h (inl refl))

  pub statements_end : {i : ℕ} {ss : Statements} → slice_get ts i ≢ Some (tok.Sign sg.Semicolon) → ReadsPhrase ts (more_stmts ss) i (read ss i)
  unfolding rule
  statements_end h = reads_second reads_tree (off_sign h)
