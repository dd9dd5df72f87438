-- The first tokens distinguish the statements, and the parsing of those without lists.
use Rattle.std.proofs.Common.{◌≡◌, ◌≢◌, ℕ, ◌+◌, ◌≤◌, inl, inr, ⊎_elim, Bool, true, false, IsTrue, List, Some, slice_get, refl, subst, subst₂, arith}
use Rattle.run_types.specs.declared.types.NameId.{NameId}
use Rattle.pool_syntax.specs.declared.tree.Named.{Named}
use Rattle.text_scan.specs.declared.keywords.Keyword.{Keyword}
use Rattle.pool_syntax.specs.declared.token.Tok.{Tok}
use Rattle.pool_syntax.specs.declared.token.Tok.TheVariants as tok
use Rattle.text_scan.specs.declared.keywords.Keyword.TheVariants as kw
use Rattle.pool_syntax.specs.declared.token.Sign.TheVariants as sg
use Rattle.pool_syntax.specs.Terms.{Expression, Expressions, Variable, Statement, Assign, Write, WriteText, Do, Async, While, Answer, Select, NoAlts}
use Rattle.pool_grammar.specs.Rules.{postfix, primary, expression, args, invoke, stmt, stmts, alt, more_alts, list, word, sign, name, string, phrase, Rule, tree, then, either}
use Rattle.pool_grammar.specs.Grammar.{rule, expr, alt_last}
use Rattle.pool_grammar.specs.Derives.{IsToken, Derives, Begins, none, past_token, within, past, of_first, of_second}
use Rattle.expression_parser.specs.Reads.{GoesOn, Outcome, read, refused, Reads, ReadsPhrase, begins_statement}
use Rattle.expression_parser.proofs.Laws.{Clear, Misses, begins_at_least, front_of, Derives-tree, Derives-inner, Begins-tree, Begins-inner, reads_tree, reads_token, reads_first, reads_second, reads_inner, reads_refused, reads_last, reads_factored, reads_regrouped, put, clear_tree, clear_sign}
use Rattle.expression_parser.proofs.Laws.{misses_token, misses_either, misses_inner, off, invoke_postfix, invoke_begins, postfix_begins, clash, sign_read, sign_missing, word_read, name_missing, begins_primary, misses_postfix, misses_expr, variable_read, postfix_read, sends_end, not_invoke}
use Rattle.statement_parser.specs.Tails.{sending, else_part}
use Rattle.statement_parser.proofs.Choices.{reads_over, reads_under}

statement_covers_primary : (t : Tok) → begins_statement t ≡ false → begins_primary t ≡ false
statement_covers_primary (tok.Int z) h = h
statement_covers_primary (tok.Name n) h = h
statement_covers_primary (tok.Word kw.True) h = h
statement_covers_primary (tok.Word kw.False) h = h
statement_covers_primary (tok.Word kw.Nil) h = h
statement_covers_primary (tok.Word kw.SelfWord) h = h
statement_covers_primary (tok.Word kw.New) h = h
statement_covers_primary (tok.Sign sg.LeftParen) h = h
statement_covers_primary _ h = refl

-- the tokens that tell an alternative of the statements apart from a send
abbrev pub is_telling : Tok → Bool
is_telling (tok.Name n) = true
is_telling (tok.Word kw.Write) = true
is_telling (tok.Word kw.If) = true
is_telling (tok.Word kw.While) = true
is_telling (tok.Word kw.Answer) = true
is_telling (tok.Word kw.Select) = true
is_telling _ = false

pub word_tells_none : (w : Keyword) → w ≢ kw.Write → w ≢ kw.Answer → w ≢ kw.If → w ≢ kw.While → w ≢ kw.Select → is_telling (tok.Word w) ≡ false
word_tells_none kw.Write a b c d e = absurd (a refl)
word_tells_none kw.Answer a b c d e = absurd (b refl)
word_tells_none kw.If a b c d e = absurd (c refl)
word_tells_none kw.While a b c d e = absurd (d refl)
word_tells_none kw.Select a b c d e = absurd (e refl)
word_tells_none _ a b c d e = refl

pub other_tells_none : (t : Tok) → ((n : NameId) → t ≢ tok.Name n) → ((w : Keyword) → t ≢ tok.Word w) → is_telling t ≡ false
other_tells_none (tok.Name n) a b = absurd (a n refl)
other_tells_none (tok.Word w) a b = absurd (b w refl)
other_tells_none _ a b = refl

-- what goes on with an invocation goes on with a statement
pub invoke_within : (t : Tok) → GoesOn invoke t → GoesOn stmt t
invoke_within t g = ⊎_elim (λ u. inl (omega arith)) inr g

-- a rule without its first alternative
abbrev pub behind_first : {A : Type 0} → Rule A → Rule A
behind_first (tree x) = tree x
behind_first (then part f) = then part f
behind_first (either r s) = s

module _ {ts : List Tok} where
  -- invocations are read as postfixes

  invoke_refused : {i u : ℕ} → ReadsPhrase ts (expression postfix) i (refused u) → ReadsPhrase ts invoke i (refused u)
  invoke_refused {i = i} {u = u} Q = record {
    sound = λ x j e. cc;
    only = λ x j d h. let e : refused u ≡ read x j = Q.only x j (invoke_postfix ts i j x d) (λ t k g. h t k (inl g)) in cc;
    begun = postfix_begins ts i u Q.begun;
    ends = λ b. Q.ends (invoke_begins ts i (u + 1) b);
  }

  invoke_read : {i m : ℕ} {x : Expression} → ReadsPhrase ts (expression postfix) i (read x m) → Derives ts invoke (rule invoke) i m x → ReadsPhrase ts invoke i (read x m)
  invoke_read {i = i} {m = m} {x = x} Q v = record {
    sound = λ y j e. let a : x ≡ y = cc in let b : m ≡ j = cc in subst₂ (λ (n : ℕ) (z : Expression). Derives ts invoke (rule invoke) i n z) b a v;
    only = λ y j d h. Q.only y j (invoke_postfix ts i j y d) (λ t k g. h t k (inl g));
    begun = postfix_begins ts i m Q.begun;
    ends = λ b. Q.ends (invoke_begins ts i (m + 1) b);
  }

  invoke_none : {i m : ℕ} {x : Expression} → ReadsPhrase ts (expression postfix) i (read x m) → (Derives ts invoke (rule invoke) i m x → ⊥) → ReadsPhrase ts invoke i (refused m)
  invoke_none {i = i} {m = m} {x = x} Q v = record {
    sound = λ y j e. cc;
    only = λ y j d h. let e : read x m ≡ read y j = Q.only y j (invoke_postfix ts i j y d) (λ t k g. h t k (inl g)) in
        let a : y ≡ x = cc in let b : j ≡ m = cc in absurd (v (subst₂ (λ (n : ℕ) (z : Expression). Derives ts invoke (rule invoke) i n z) b a d));
    begun = postfix_begins ts i m Q.begun;
    ends = λ b. Q.ends (invoke_begins ts i (m + 1) b);
  }

  -- where a double exclamation mark follows, what is read is no statement of its own
  not_alone : {i m : ℕ} {x : Expression} → ReadsPhrase ts (expression postfix) i (read x m) → slice_get ts m ≡ Some (tok.Sign sg.BangBang) →
      Reads ts stmt (then (phrase invoke) (λ e. tree (Do e))) i (refused m)
  not_alone {i = i} {m = m} {x = x} Q h = record {
    sound = λ y j e. cc;
    only = λ y j d stop. let a = Derives-inner d in let b = Derives-tree a.3 in
        let e : read x m ≡ read a.1 a.0 = Q.only a.1 a.0 (invoke_postfix ts i a.0 a.1 a.2) (λ t k g. stop t (rw b.0 at k) (inl (omega arith))) in
        let c : m ≡ j = let f : m ≡ a.0 = cc in omega arith in absurd (stop _ (rw c at h) (inr refl));
    begun = within (postfix_begins ts i m Q.begun);
    ends = λ b. ⊎_elim (λ c. Q.ends (invoke_begins ts i (m + 1) c))
        (λ a. let e : a.0 ≡ m + 1 = Begins-tree a.3 in Q.ends (front_of (m + 1) (invoke_postfix ts i a.0 a.1 a.2) (let l : i ≤ m = begins_at_least Q.begun in omega arith) (omega arith)))
        (Begins-inner b);
  }

  -- statements that begin with a postfix

  pub after_destination : {f : ℕ → Rule Statement} → Clear ts stmt (then (sign sg.BangBang) f) (expression postfix)
  after_destination = clear_sign (λ u. omega arith)

  pub sending_refused : {i u : ℕ} → ReadsPhrase ts (expression postfix) i (refused u) → Reads ts stmt sending i (refused u)
  sending_refused {i = i} {u = u} Q = reads_over (reads_refused Q (λ z. after_destination)) (reads_refused (invoke_refused Q) (λ z. clear_tree invoke_within)) (within (postfix_begins ts i u Q.begun))

  pub sending_alone : {i m : ℕ} {x : Expression} → ReadsPhrase ts (expression postfix) i (read x m) → slice_get ts m ≢ Some (tok.Sign sg.BangBang) → Derives ts invoke (rule invoke) i m x →
      Reads ts stmt sending i (read (Do x) m)
  sending_alone {i = i} {m = m} {x = x} Q h v = reads_over (reads_inner Q (λ z. after_destination) (sign_missing h)) (reads_last Do (read x m) invoke_within (invoke_read Q v)) (within (postfix_begins ts i m Q.begun))

  pub sending_none : {i m : ℕ} {x : Expression} → ReadsPhrase ts (expression postfix) i (read x m) → slice_get ts m ≢ Some (tok.Sign sg.BangBang) → (Derives ts invoke (rule invoke) i m x → ⊥) →
      Reads ts stmt sending i (refused m)
  sending_none {i = i} {m = m} Q h v = reads_over (reads_inner Q (λ z. after_destination) (sign_missing h)) (reads_refused (invoke_none Q v) (λ z. clear_tree invoke_within)) (within (postfix_begins ts i m Q.begun))

  sending_on : {i m : ℕ} {to : Expression} {o : Outcome Statement} → ReadsPhrase ts (expression postfix) i (read to m) → slice_get ts m ≡ Some (tok.Sign sg.BangBang) →
      Reads ts stmt (then name (λ n. then (phrase args) (λ es. tree (Async to n.name.0 n.pos es)))) (m + 1) o → Reads ts stmt sending i o
  sending_on {m = m} {to = to} Q h R = reads_under (reads_inner Q (λ z. after_destination) (sign_read h R)) (not_alone Q h) (past to (Q.sound to m refl) none)

  pub sending_missing : {i m : ℕ} {to : Expression} → ReadsPhrase ts (expression postfix) i (read to m) → slice_get ts m ≡ Some (tok.Sign sg.BangBang) → ((n : NameId) → slice_get ts (m + 1) ≢ Some (tok.Name n)) →
      Reads ts stmt sending i (refused (m + 1))
  sending_missing Q h k = sending_on Q h (name_missing k)

  pub sending_read : {i m : ℕ} {to : Expression} (n : Named) (o : Outcome Expressions) → ReadsPhrase ts (expression postfix) i (read to m) → slice_get ts m ≡ Some (tok.Sign sg.BangBang) → IsToken ts name (m + 1) n →
      ReadsPhrase ts args (m + 2) o → Reads ts stmt sending i (put (λ es. Async to n.name.0 n.pos es) o)
  sending_read {m = m} n o Q h k R = sending_on Q h (reads_token tt n k (reads_last _ o (λ t u. absurd u) (let e : m + 2 ≡ m + 1 + 1 = omega arith in subst (λ (v : ℕ). ReadsPhrase ts args v o) e R)))

  -- where no statement begins

  misses_invoke : {i : ℕ} {t : Tok} → slice_get ts i ≡ Some t → begins_primary t ≡ false → Misses ts invoke (rule invoke) i
  unfolding rule
  misses_invoke h k = misses_either (misses_token tt (λ y a. clash begins_primary h a.0 k refl)) (misses_either (misses_token tt (λ y a. clash begins_primary h a.0 k refl)) (misses_inner (misses_postfix h k)))

  pub misses_sending : {i : ℕ} {t : Tok} → slice_get ts i ≡ Some t → begins_primary t ≡ false → Misses ts stmt sending i
  misses_sending h k = misses_either (misses_inner (misses_postfix h k)) (misses_inner (misses_invoke h k))

  pub misses_stmt : {i : ℕ} {t : Tok} → slice_get ts i ≡ Some t → begins_statement t ≡ false → Misses ts stmt (rule stmt) i
  unfolding rule
  misses_stmt {t = t} h k = misses_either (misses_token tt (λ y a. clash begins_statement h a.0 k refl)) (misses_either (misses_token tt (λ y a. clash begins_statement h a.0 k refl)) (misses_either (misses_token tt (λ y a. clash begins_statement h a.0 k refl)) (misses_either (misses_token tt (λ y a. clash begins_statement h a.0 k refl)) (misses_either (misses_token tt (λ y a. clash begins_statement h a.0 k refl)) (misses_either (misses_token tt (λ y a. clash begins_statement h a.0 k refl)) (misses_either (misses_token tt (λ y a. clash begins_statement h a.0 k refl)) (misses_sending h (statement_covers_primary t k))))))))

  -- the same, where no token that begins a statement stands

  unbegun_primary : {i : ℕ} → ((t : Tok) → slice_get ts i ≡ Some t → IsTrue (begins_statement t) → ⊥) → Misses ts (expression primary) (rule (expression primary)) i
  unfolding rule
  unbegun_primary n = misses_either (misses_token tt (λ y a. n (tok.Int y.0) a.0 refl)) (misses_either (misses_token tt (λ y a. n (tok.Word kw.True) a.0 refl)) (misses_either (misses_token tt (λ y a. n (tok.Word kw.False) a.0 refl)) (misses_either (misses_token tt (λ y a. n (tok.Word kw.Nil) a.0 refl)) (misses_either (misses_token tt (λ y a. n (tok.Word kw.SelfWord) a.0 refl)) (misses_either (misses_token tt (λ y a. n (tok.Name y.name) a.0 refl)) (misses_either (misses_token tt (λ y a. n (tok.Name y.name) a.0 refl)) (misses_either (misses_token tt (λ y a. n (tok.Word kw.New) a.0 refl)) (misses_token tt (λ y a. n (tok.Sign sg.LeftParen) a.0 refl)))))))))

  unbegun_postfix : {i : ℕ} → ((t : Tok) → slice_get ts i ≡ Some t → IsTrue (begins_statement t) → ⊥) → Misses ts (expression postfix) (rule (expression postfix)) i
  unfolding rule
  unbegun_postfix n = misses_inner (unbegun_primary n)

  unbegun_invoke : {i : ℕ} → ((t : Tok) → slice_get ts i ≡ Some t → IsTrue (begins_statement t) → ⊥) → Misses ts invoke (rule invoke) i
  unfolding rule
  unbegun_invoke n = misses_either (misses_token tt (λ y a. n (tok.Name y.name) a.0 refl)) (misses_either (misses_token tt (λ y a. n (tok.Word kw.New) a.0 refl)) (misses_inner (unbegun_postfix n)))

  pub misses_unbegun : {i : ℕ} → ((t : Tok) → slice_get ts i ≡ Some t → IsTrue (begins_statement t) → ⊥) → Misses ts stmt (rule stmt) i
  unfolding rule
  misses_unbegun n = misses_either (misses_token tt (λ y a. n (tok.Name y.name) a.0 refl)) (misses_either (misses_token tt (λ y a. n (tok.Word kw.Write) a.0 refl)) (misses_either (misses_token tt (λ y a. n (tok.Word kw.Write) a.0 refl)) (misses_either (misses_token tt (λ y a. n (tok.Word kw.If) a.0 refl)) (misses_either (misses_token tt (λ y a. n (tok.Word kw.While) a.0 refl)) (misses_either (misses_token tt (λ y a. n (tok.Word kw.Answer) a.0 refl)) (misses_either (misses_token tt (λ y a. n (tok.Word kw.Select) a.0 refl)) (misses_either (misses_inner (unbegun_postfix n)) (misses_inner (unbegun_invoke n)))))))))

  -- sends, which no other token tells

  pub other_read : {i : ℕ} {t : Tok} (o : Outcome Statement) → slice_get ts i ≡ Some t → is_telling t ≡ false → Reads ts stmt sending i o → ReadsPhrase ts stmt i o
  unfolding rule
  other_read o h k R = reads_second (reads_second (reads_second (reads_second (reads_second (reads_second (reads_second (R) (off (misses_token tt (λ y a. clash is_telling h a.0 k refl)))) (off (misses_token tt (λ y a. clash is_telling h a.0 k refl)))) (off (misses_token tt (λ y a. clash is_telling h a.0 k refl)))) (off (misses_token tt (λ y a. clash is_telling h a.0 k refl)))) (off (misses_token tt (λ y a. clash is_telling h a.0 k refl)))) (off (misses_token tt (λ y a. clash is_telling h a.0 k refl)))) (off (misses_token tt (λ y a. clash is_telling h a.0 k refl)))

  -- assignments

  begins_named : {i : ℕ} {n : NameId} → slice_get ts i ≡ Some (tok.Name n) → Begins ts stmt sending i (i + 1)
  unfolding rule
  begins_named {i = i} {n = n} h = of_second (within (of_first (past_token (let v : Named = record { name = n; pos = i } in v) (h, refl) none)))

  pub named_read : {i : ℕ} {n : NameId} (o : Outcome Statement) → slice_get ts i ≡ Some (tok.Name n) → slice_get ts (i + 1) ≢ Some (tok.Sign sg.Becomes) → Reads ts stmt sending i o → ReadsPhrase ts stmt i o
  unfolding rule
  named_read {i = i} {n = n} o h k R = reads_over (reads_token tt (let v : Named = record { name = n; pos = i } in v) (h, refl) (sign_missing k)) (reads_second (reads_second (reads_second (reads_second (reads_second (reads_second (R) (off (misses_token tt (λ y a. cc (a.0, h))))) (off (misses_token tt (λ y a. cc (a.0, h))))) (off (misses_token tt (λ y a. cc (a.0, h))))) (off (misses_token tt (λ y a. cc (a.0, h))))) (off (misses_token tt (λ y a. cc (a.0, h))))) (off (misses_token tt (λ y a. cc (a.0, h))))) (of_second (of_second (of_second (of_second (of_second (of_second (begins_named h)))))))

  -- an assignment is no other statement
  pub assigned_rest : {i : ℕ} (n : Named) → IsToken ts name i n → slice_get ts (i + 1) ≡ Some (tok.Sign sg.Becomes) →
      Reads ts stmt (behind_first (rule stmt)) i (refused (i + 1))
  unfolding rule
  assigned_rest {i = i} n h' k =
      let h = h'.0 in
      let V : ReadsPhrase ts (expression primary) i (read (Variable n.name.0 i) (i + 1)) = variable_read h (λ e. cc (e, k)) in
      let S : Reads ts stmt sending i (refused (i + 1)) = sending_none (postfix_read (read _ _) V (sends_end (λ e. cc (e, k)))) (λ e. cc (e, k)) (not_invoke (λ m e f. cc (f, k)) (λ e. cc (e, h)) V) in
      reads_second (reads_second (reads_second (reads_second (reads_second (reads_second (S) (off (misses_token tt (λ y a. cc (a.0, h))))) (off (misses_token tt (λ y a. cc (a.0, h))))) (off (misses_token tt (λ y a. cc (a.0, h))))) (off (misses_token tt (λ y a. cc (a.0, h))))) (off (misses_token tt (λ y a. cc (a.0, h))))) (off (misses_token tt (λ y a. cc (a.0, h))))

  assigned : {i : ℕ} (n : Named) {o : Outcome Statement} → IsToken ts name i n → slice_get ts (i + 1) ≡ Some (tok.Sign sg.Becomes) →
      Reads ts stmt (then (phrase expr) (λ e. tree (Assign n.name.0 n.pos e))) (i + 1 + 1) o → ReadsPhrase ts stmt i o
  unfolding rule
  assigned {i = i} n h k R = reads_under (reads_token tt n h (sign_read k R)) (assigned_rest n h k) (past_token n h none)

  pub assign_read : {i : ℕ} (n : Named) (o : Outcome Expression) → IsToken ts name i n → slice_get ts (i + 1) ≡ Some (tok.Sign sg.Becomes) →
      ReadsPhrase ts expr (i + 2) o → ReadsPhrase ts stmt i (put (λ e. Assign n.name.0 n.pos e) o)
  assign_read {i = i} n o h k R = assigned n h k (reads_last {q = expr} _ o (λ t u. inl u) (let e : i + 2 ≡ i + 1 + 1 = omega arith in subst (λ (v : ℕ). ReadsPhrase ts expr v o) e R))

  -- writes

  written : {i : ℕ} {o : Outcome Statement} → slice_get ts i ≡ Some (tok.Word kw.Write) →
      Reads ts stmt (either (then (phrase expr) (λ e. tree (Write e))) (then string (λ s. tree (WriteText s.0)))) (i + 1) o → ReadsPhrase ts stmt i o
  unfolding rule
  written {i = i} h R = reads_second (reads_regrouped (reads_first (reads_factored (word_read h R)) (off (misses_either (misses_token tt (λ y a. cc (a.0, h))) (misses_either (misses_token tt (λ y a. cc (a.0, h))) (misses_either (misses_token tt (λ y a. cc (a.0, h))) (misses_either (misses_token tt (λ y a. cc (a.0, h))) (misses_sending h refl)))))))) (off (misses_token tt (λ y a. cc (a.0, h))))

  pub text_read : {i : ℕ} {s : NameId} → slice_get ts i ≡ Some (tok.Word kw.Write) → slice_get ts (i + 1) ≡ Some (tok.Str s) → ReadsPhrase ts stmt i (read (WriteText s.0) (i + 2))
  text_read {i = i} {s = s} h k = written h (let e : i + 1 + 1 ≡ i + 2 = omega arith in
      subst (λ (v : ℕ). Reads ts stmt (either (then (phrase expr) (λ e. tree (Write e))) (then string (λ s. tree (WriteText s.0)))) (i + 1) (read (WriteText s.0) v)) e
      (reads_second (reads_token tt s k reads_tree) (off (misses_inner (misses_expr k refl refl)))))

  pub write_read : {i : ℕ} (o : Outcome Expression) → slice_get ts i ≡ Some (tok.Word kw.Write) → ((s : NameId) → slice_get ts (i + 1) ≢ Some (tok.Str s)) → ReadsPhrase ts expr (i + 1) o →
      ReadsPhrase ts stmt i (put Write o)
  write_read o h k R = written h (reads_first (reads_last {q = expr} Write o (λ t u. inl u) R) (off (misses_token tt (λ y a. k y a))))

  -- the others, behind their first word

  pub answer_read : {i : ℕ} (o : Outcome (List Named)) → slice_get ts i ≡ Some (tok.Word kw.Answer) → ReadsPhrase ts list (i + 1) o → ReadsPhrase ts stmt i (put Answer o)
  unfolding rule
  answer_read {i = i} o h R = reads_second (reads_second (reads_second (reads_second (reads_second (reads_first (word_read h (reads_last Answer o (λ t u. absurd u) R)) (off (misses_either (misses_token tt (λ y a. cc (a.0, h))) (misses_sending h refl)))) (off (misses_token tt (λ y a. cc (a.0, h))))) (off (misses_token tt (λ y a. cc (a.0, h))))) (off (misses_token tt (λ y a. cc (a.0, h))))) (off (misses_token tt (λ y a. cc (a.0, h))))) (off (misses_token tt (λ y a. cc (a.0, h))))

  pub behind_if : {i : ℕ} {o : Outcome Statement} → slice_get ts i ≡ Some (tok.Word kw.If) →
      Reads ts stmt (then (phrase expr) (λ e. then (word kw.Then) (λ y. then (phrase stmts) (λ these. else_part e these)))) (i + 1) o → ReadsPhrase ts stmt i o
  unfolding rule
  behind_if {i = i} h R = reads_second (reads_second (reads_second (reads_first (word_read h R) (off (misses_either (misses_token tt (λ y a. cc (a.0, h))) (misses_either (misses_token tt (λ y a. cc (a.0, h))) (misses_either (misses_token tt (λ y a. cc (a.0, h))) (misses_sending h refl)))))) (off (misses_token tt (λ y a. cc (a.0, h))))) (off (misses_token tt (λ y a. cc (a.0, h))))) (off (misses_token tt (λ y a. cc (a.0, h))))

  pub behind_while : {i : ℕ} {o : Outcome Statement} → slice_get ts i ≡ Some (tok.Word kw.While) →
      Reads ts stmt (then (phrase expr) (λ e. then (word kw.Do) (λ y. then (phrase stmts) (λ ss. then (word kw.Od) (λ z. tree (While e ss)))))) (i + 1) o → ReadsPhrase ts stmt i o
  unfolding rule
  behind_while {i = i} h R = reads_second (reads_second (reads_second (reads_second (reads_first (word_read h R) (off (misses_either (misses_token tt (λ y a. cc (a.0, h))) (misses_either (misses_token tt (λ y a. cc (a.0, h))) (misses_sending h refl))))) (off (misses_token tt (λ y a. cc (a.0, h))))) (off (misses_token tt (λ y a. cc (a.0, h))))) (off (misses_token tt (λ y a. cc (a.0, h))))) (off (misses_token tt (λ y a. cc (a.0, h))))

  pub behind_select : {i : ℕ} {o : Outcome Statement} → slice_get ts i ≡ Some (tok.Word kw.Select) →
      Reads ts stmt (then (phrase alt) (λ a. then (phrase (more_alts (alt_last NoAlts a))) (λ all. then (word kw.End) (λ y. tree (Select all))))) (i + 1) o → ReadsPhrase ts stmt i o
  unfolding rule
  behind_select {i = i} h R = reads_second (reads_second (reads_second (reads_second (reads_second (reads_second (reads_first (word_read h R) (off (misses_sending h refl))) (off (misses_token tt (λ y a. cc (a.0, h))))) (off (misses_token tt (λ y a. cc (a.0, h))))) (off (misses_token tt (λ y a. cc (a.0, h))))) (off (misses_token tt (λ y a. cc (a.0, h))))) (off (misses_token tt (λ y a. cc (a.0, h))))) (off (misses_token tt (λ y a. cc (a.0, h))))
