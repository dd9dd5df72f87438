-- The parsing of names, answer lists and declared types.
use Rattle.std.proofs.Common.{◌≡◌, ◌≢◌, ℕ, ◌+◌, List, [], ◌∷◌, ◌++◌, Some, None, slice_get, refl, subst, arith}
use Rattle.run_types.specs.declared.types.NameId.{NameId}
use Rattle.pool_syntax.specs.declared.tree.Named.{Named}
use Rattle.run_types.specs.declared.types.Kind.{Kind}
use Rattle.run_types.specs.declared.types.Kind.TheVariants as kinds
use Rattle.pool_syntax.specs.declared.token.Tok.{Tok}
use Rattle.pool_syntax.specs.declared.token.Tok.TheVariants as tok
use Rattle.text_scan.specs.declared.keywords.Keyword.TheVariants as kw
use Rattle.pool_syntax.specs.declared.token.Sign.TheVariants as sg
use Rattle.pool_grammar.specs.Rules as r
use Rattle.pool_grammar.specs.Rules.{names, more_names, list, Phrase, Tree, sign, name, phrase, Rule, tree, then}
use Rattle.pool_grammar.specs.Grammar.{rule}
use Rattle.pool_grammar.specs.Derives.{IsToken}
use Rattle.expression_parser.specs.Reads.{Outcome, read, refused, Reads, ReadsPhrase}
use Rattle.expression_parser.proofs.ClearRules.{Clear}
use Rattle.expression_parser.specs.Literals.{kind_of}
use Rattle.expression_parser.proofs.RuleComposition.{reads_tree, reads_token, reads_first, reads_second, reads_inner, reads_refused, reads_last, reads_nothing, put-id, clear_sign, misses_token, misses_either, off, off_tree}
use Rattle.expression_parser.proofs.SingleTokens.{sign_read, sign_missing, name_missing, off_sign}

module _ {ts : List Tok} where
  -- kinds

  pub kind_read : (t : Tok) {i : ℕ} {k : Kind} → slice_get ts i ≡ Some t → kind_of t ≡ Some k → ReadsPhrase ts r.kind i (read (k, i) (i + 1))
  unfolding rule
  kind_read (tok.Word kw.Int) {i = i} {k = k} h e = let s : kinds.Int ≡ k = cc in
      subst (λ (v : Kind). ReadsPhrase ts r.kind i (read (v, i) (i + 1))) s (reads_first (reads_token tt i (h, refl) reads_tree) (off (misses_either (misses_token tt (λ y a. cc (a.0, h))) (misses_token tt (λ y a. cc (a.0, h))))))
  kind_read (tok.Word kw.Bool) {i = i} {k = k} h e = let s : kinds.Bool ≡ k = cc in
      subst (λ (v : Kind). ReadsPhrase ts r.kind i (read (v, i) (i + 1))) s (reads_second (reads_first (reads_token tt i (h, refl) reads_tree) (off (misses_token tt (λ y a. cc (a.0, h))))) (off (misses_token tt (λ y a. cc (a.0, h)))))
  kind_read (tok.Name n) {i = i} {k = k} h e = let s : kinds.Class n ≡ k = cc in
      subst (λ (v : Kind). ReadsPhrase ts r.kind i (read (v, i) (i + 1))) s (reads_second (reads_second (reads_token tt (let v : Named = record { name = n; pos = i } in v) (h, refl) reads_tree) (off (misses_token tt (λ y a. cc (a.0, h))))) (off (misses_token tt (λ y a. cc (a.0, h)))))
  kind_read _ h e = cc

  pub kind_refused : {t : Tok} {i : ℕ} → slice_get ts i ≡ Some t → kind_of t ≡ None → ReadsPhrase ts r.kind i (refused i)
  unfolding rule
  kind_refused {t = t} h e = reads_nothing (misses_either
      (misses_token tt (λ y a. let s : t ≡ tok.Word kw.Int = cc (a.0, h) in let n : kind_of (tok.Word kw.Int) ≡ None = rw s at e in cc))
      (misses_either (misses_token tt (λ y a. let s : t ≡ tok.Word kw.Bool = cc (a.0, h) in let n : kind_of (tok.Word kw.Bool) ≡ None = rw s at e in cc))
      (misses_token tt (λ y a. let s : t ≡ tok.Name y.name = cc (a.0, h) in let n : kind_of (tok.Name y.name) ≡ None = rw s at e in cc))))

  -- names

  pub names_read : {i : ℕ} (n : Named) (o : Outcome (List Named)) → IsToken ts name i n → ReadsPhrase ts (more_names (n ∷ [])) (i + 1) o → ReadsPhrase ts names i o
  unfolding rule
  names_read n o h R = reads_token tt n h (rw put-id at (reads_last {p = names} {q = more_names (n ∷ [])} (λ x. x) o (λ t u. u) R))

  pub names_missing : {i : ℕ} → ((n : NameId) → slice_get ts i ≢ Some (tok.Name n)) → ReadsPhrase ts names i (refused i)
  unfolding rule
  names_missing h = name_missing h

  pub more_read : {i : ℕ} (ns : List Named) (n : Named) (o : Outcome (List Named)) → slice_get ts i ≡ Some (tok.Sign sg.Comma) → IsToken ts name (i + 1) n →
      ReadsPhrase ts (more_names (ns ++ n ∷ [])) (i + 2) o → ReadsPhrase ts (more_names ns) i o
  unfolding rule
  more_read {i = i} ns n o h k R = reads_first (sign_read h (reads_token tt n k
      (let e : i + 2 ≡ i + 1 + 1 = omega arith in subst (λ (v : ℕ). Reads ts (more_names ns) (then (phrase (more_names (ns ++ n ∷ []))) (λ all. tree all)) v o) e
      (rw put-id at (reads_last {p = more_names ns} {q = more_names (ns ++ n ∷ [])} (λ x. x) o (λ t u. u) R)))))
      (off_tree _ h refl)

  pub more_missing : {i : ℕ} (ns : List Named) → slice_get ts i ≡ Some (tok.Sign sg.Comma) → ((n : NameId) → slice_get ts (i + 1) ≢ Some (tok.Name n)) → ReadsPhrase ts (more_names ns) i (refused (i + 1))
  unfolding rule
  more_missing ns h k = reads_first (sign_read h (name_missing k)) (off_tree _ h refl)

  pub names_end : {i : ℕ} (ns : List Named) → slice_get ts i ≢ Some (tok.Sign sg.Comma) → ReadsPhrase ts (more_names ns) i (read ns i)
  unfolding rule
  names_end ns h = reads_second reads_tree (off_sign h)

  -- answer lists

  ends_names : {p : Phrase} {f : ℕ → Rule (Tree p)} → Clear ts p (then (sign sg.RightParen) f) names
  ends_names = clear_sign (λ e. cc)

  pub list_missing : {i : ℕ} → slice_get ts i ≢ Some (tok.Sign sg.LeftParen) → ReadsPhrase ts list i (refused i)
  unfolding rule
  list_missing h = sign_missing h

  pub list_refused : {i u : ℕ} → slice_get ts i ≡ Some (tok.Sign sg.LeftParen) → ReadsPhrase ts names (i + 1) (refused u) → ReadsPhrase ts list i (refused u)
  unfolding rule
  list_refused h R = sign_read h (reads_refused R (λ z. ends_names))

  pub list_read : {i m : ℕ} {ns : List Named} {o : Outcome (List Named)} → slice_get ts i ≡ Some (tok.Sign sg.LeftParen) → ReadsPhrase ts names (i + 1) (read ns m) →
      Reads ts list (then (sign sg.RightParen) (λ y. tree ns)) m o → ReadsPhrase ts list i o
  unfolding rule
  list_read h R S = sign_read h (reads_inner R (λ z. ends_names) S)
