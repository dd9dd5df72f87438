-- An invocation is a postfix expression, and begins as one does.
use Rattle.std.proofs.Common.{◌≡◌, ℕ, zero, suc, ◌+◌, ◌≤◌, ⊎_elim, List, arith, subst, subst₂}
use Rattle.pool_syntax.specs.declared.token.Tok.{Tok}
use Rattle.pool_syntax.specs.declared.token.Sign.TheVariants as sg
use Rattle.pool_syntax.specs.declared.tree.Named.{Named}
use Rattle.pool_syntax.specs.Terms.{Expression, Expressions, Send}
use Rattle.pool_grammar.specs.Rules.{Phrase, Tree, expression, postfix, more_sends, args, invoke, sign, name, Rule, tree, then, phrase}
use Rattle.pool_grammar.specs.Grammar.{rule}
use Rattle.pool_grammar.specs.Derives.{IsToken, Derives, nothing, token, inner, first, second, Begins, none, within, past, past_token, of_first, of_second}
use Rattle.expression_parser.proofs.RuleComposition.{Derives-tree, Derives-token, Derives-inner, Derives-either, Begins-tree, Begins-token, Begins-inner, Begins-either, at_least}

module _ (ts : List Tok) where
  -- one more send at the end; n bounds the length
  sends_append : (n : ℕ) (to e : Expression) (i k j : ℕ) (y : ℕ) (m : Named) (es : Expressions) → k ≤ i + n →
      Derives ts (more_sends to) (rule (more_sends to)) i k e →
      IsToken ts (sign sg.Bang) k y → IsToken ts name (k + 1) m → Derives ts args (rule args) (k + 1 + 1) j es →
      Derives ts (more_sends to) (rule (more_sends to)) i j (Send e m.name.0 es m.pos)
  unfolding rule
  sends_append zero to e i k j y m es l d a b c = ⊎_elim
      (λ d'. let u = Derives-token tt d' in absurd (let v : i + 1 ≤ k = at_least u.2 in omega arith))
      (λ d'. let g = Derives-tree d' in rw (g.0, ← g.1) (first (token y a (token m b (inner es c (inner _ (second nothing) nothing))))))
      (Derives-either d)
  sends_append (suc n) to e i k j y m es l d a b c = ⊎_elim
      (λ d'. let u = Derives-token tt d' in let v = Derives-token tt u.2 in let w = Derives-inner v.2 in let x = Derives-inner w.3 in
      let g = Derives-tree x.3 in let far : i + 1 + 1 ≤ w.0 = at_least w.2 in
      first (token u.0 u.1 (token v.0 v.1 (inner w.1 w.2
      (inner _ (sends_append n (Send to v.0.name.0 w.1 v.0.pos) e w.0 k j y m es (omega arith) (rw (g.0, g.1) at x.2) a b c) nothing)))))
      (λ d'. let g = Derives-tree d' in rw (g.0, ← g.1) (first (token y a (token m b (inner es c (inner _ (second nothing) nothing))))))
      (Derives-either d)

  moved : (p : Phrase) (r : Rule (Tree p)) (i k j : ℕ) (z x : Tree p) → k ≡ j → z ≡ x → Derives ts p r i k z → Derives ts p r i j x
  moved p r i k j z x e f d = subst₂ (λ (n : ℕ) (v : Tree p). Derives ts p r i n v) e f d

  -- an invocation is a postfix
  pub invoke_postfix : (i j : ℕ) (x : Expression) → Derives ts invoke (rule invoke) i j x → Derives ts (expression postfix) (rule (expression postfix)) i j x
  unfolding rule
  invoke_postfix i j x d = ⊎_elim
      (λ d'. let u = Derives-token tt d' in let w = Derives-inner u.2 in let g = Derives-tree w.3 in
      moved (expression postfix) _ _ _ _ _ _ g.0 g.1 (inner _ (second (second (second (second (second (second (first (token u.0 u.1 (inner w.1 w.2 nothing))))))))) (inner _ (second nothing) nothing)))
      (λ e. ⊎_elim
      (λ d'. let u = Derives-token tt d' in let v = Derives-token tt u.2 in let g = Derives-tree v.2 in
      moved (expression postfix) _ _ _ _ _ _ g.0 g.1 (inner _ (second (second (second (second (second (second (second (first (token u.0 u.1 (token v.0 v.1 nothing)))))))))) (inner _ (second nothing) nothing)))
      (λ d'. let q = Derives-inner d' in let u = Derives-token tt q.3 in let v = Derives-token tt u.2 in let w = Derives-inner v.2 in let g = Derives-tree w.3 in
      let r = Derives-inner q.2 in let s = Derives-inner r.3 in let z = Derives-tree s.3 in
      moved (expression postfix) _ _ _ _ _ _ g.0 g.1 (inner _ r.2 (inner _ (sends_append (q.0) r.1 q.1 r.0 q.0 w.0 u.0 v.0 w.1 (omega arith) (rw (z.0, z.1) at s.2) u.1 v.1 w.2) nothing)))
      (Derives-either e))
      (Derives-either d)

  none_at : {p : Phrase} {r : Rule (Tree p)} {i u : ℕ} → i ≡ u → Begins ts p r i u
  none_at {p = p} {r = r} {i = i} g = subst (λ (n : ℕ). Begins ts p r i n) g none

  -- what begins the sends behind some sends begins all of them
  sends_begin : (n : ℕ) (to e : Expression) (i k u : ℕ) → k ≤ i + n → Derives ts (more_sends to) (rule (more_sends to)) i k e →
      Begins ts (more_sends e) (rule (more_sends e)) k u → Begins ts (more_sends to) (rule (more_sends to)) i u
  unfolding rule
  sends_begin zero to e i k u l d b = ⊎_elim
      (λ d'. let x = Derives-token tt d' in absurd (let v : i + 1 ≤ k = at_least x.2 in omega arith))
      (λ d'. let g = Derives-tree d' in rw (g.0, g.1) b)
      (Derives-either d)
  sends_begin (suc n) to e i k u l d b = ⊎_elim
      (λ d'. let s = Derives-token tt d' in let v = Derives-token tt s.2 in let w = Derives-inner v.2 in let x = Derives-inner w.3 in
      let g = Derives-tree x.3 in let far : i + 1 + 1 ≤ w.0 = at_least w.2 in
      of_first (past_token s.0 s.1 (past_token v.0 v.1 (past w.1 w.2
      (within (sends_begin n (Send to v.0.name.0 w.1 v.0.pos) e w.0 k u (omega arith) (rw (g.0, g.1) at x.2) b))))))
      (λ d'. let g = Derives-tree d' in rw (g.0, g.1) b)
      (Derives-either d)

  -- a last send begins as one that others may follow
  send_begins : (e : Expression) (k u : ℕ) →
      Begins ts invoke (then (sign sg.Bang) (λ y. then name (λ n. then (phrase args) (λ es. tree (Send e n.name.0 es n.pos))))) k u →
      Begins ts (more_sends e) (rule (more_sends e)) k u
  unfolding rule
  send_begins e k u b = of_first (⊎_elim (λ g. rw (← g) none) (λ s. past_token s.0 s.1
      (⊎_elim (λ g. rw (← g) none) (λ v. past_token v.0 v.1
      (⊎_elim within (λ w. let g : w.0 ≡ u = Begins-tree w.3 in past w.1 w.2 (rw (← g) none)) (Begins-inner v.2))) (Begins-token tt s.2))) (Begins-token tt b))

  -- what begins an invocation begins a postfix
  pub invoke_begins : (i u : ℕ) → Begins ts invoke (rule invoke) i u → Begins ts (expression postfix) (rule (expression postfix)) i u
  unfolding rule
  invoke_begins i u b = ⊎_elim
      (λ b'. within (of_second (of_second (of_second (of_second (of_second (of_second (of_first
      (⊎_elim (λ g. none_at g) (λ s. past_token s.0 s.1 (⊎_elim within (λ w. let g : w.0 ≡ u = Begins-tree w.3 in past w.1 w.2 (none_at g)) (Begins-inner s.2))) (Begins-token tt b'))))))))))
      (λ c. ⊎_elim
      (λ b'. within (of_second (of_second (of_second (of_second (of_second (of_second (of_second (of_first
      (⊎_elim (λ g. none_at g) (λ s. past_token s.0 s.1 (⊎_elim (λ g. none_at g) (λ v. let g : _ ≡ u = Begins-tree v.2 in past_token v.0 v.1 (none_at g)) (Begins-token tt s.2))) (Begins-token tt b')))))))))))
      (λ b'. ⊎_elim (λ p. p)
      (λ q. let r = Derives-inner q.2 in let s = Derives-inner r.3 in let z = Derives-tree s.3 in
      past r.1 r.2 (within (sends_begin q.0 r.1 q.1 r.0 q.0 u (omega arith) (moved (more_sends r.1) _ _ _ _ _ _ z.0 z.1 s.2) (send_begins q.1 q.0 u q.3))))
      (Begins-inner b'))
      (Begins-either c))
      (Begins-either b)

  -- what begins a postfix begins an invocation
  pub postfix_begins : (i u : ℕ) → Begins ts (expression postfix) (rule (expression postfix)) i u → Begins ts invoke (rule invoke) i u
  unfolding rule
  postfix_begins i u b = of_second (of_second (within b))
