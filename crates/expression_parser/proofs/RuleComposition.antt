-- The answers for the parts of a rule compose to the answer for the rule.
use Rattle.std.proofs.Common.{◌≡◌, ℕ, ℤ, ◌+◌, ◌<◌, ◌≤◌, ◌⊎◌, inl, inr, ⊎_elim, List, Some, length, slice_get, refl, sym, ap, ap₂, subst, subst₂, ◌∙◌, arith, le_refl, eq-or-lt_of_le}
use native.Mathlib.Decide.{dec_le}
use Rattle.std.proofs.lemmas.Option.{slice_get_within}
use Rattle.pool_syntax.specs.declared.token.Tok.{Tok}
use Rattle.pool_syntax.specs.declared.token.Tok.TheVariants as tok
use Rattle.text_scan.specs.declared.keywords.Keyword.{Keyword}
use Rattle.pool_syntax.specs.declared.token.Sign.{Sign}
use Rattle.run_types.specs.declared.types.NameId.{NameId}
use Rattle.pool_syntax.specs.declared.tree.Named.{Named}
use Rattle.pool_grammar.specs.Rules.{Phrase, Tree, Part, word, sign, name, integer, string, end, operator, phrase, SemanticValue, Rule, tree, then, either}
use Rattle.run_types.specs.declared.types.Op.{Op}
use Rattle.pool_grammar.specs.Grammar.{rule, operator_of}
use Rattle.pool_grammar.specs.Derives.{IsToken, Derives, nothing, token, inner, first, second, Begins, none, past_token, within, past, of_first, of_second}
use Rattle.pool_grammar.proofs.Laws.{IsTerminal}
use Rattle.expression_parser.specs.Reads.{GoesOn, Stops, Outcome, read, refused, edge, Reads}
use Rattle.expression_parser.proofs.ClearRules.{Clear, Off, Misses, Within}

le_or_ge : (k m : ℕ) → (k ≤ m) ⊎ (m ≤ k)
le_or_ge k m = elim (dec_le k m) [ yes l ↦ inl l | no l ↦ inr (omega arith) ]

-- a derivation goes forward
pub at_least : {ts : List Tok} {p : Phrase} {r : Rule (Tree p)} {i j : ℕ} {x : Tree p} → Derives ts p r i j x → i ≤ j
at_least (nothing {i = i}) = le_refl i
at_least (token y h d) = let a : _ ≤ _ = at_least d in omega arith
at_least (inner y c d) = let a : _ ≤ _ = at_least c in let b : _ ≤ _ = at_least d in omega arith
at_least (first d) = at_least d
at_least (second d) = at_least d

pub begins_at_least : {ts : List Tok} {p : Phrase} {r : Rule (Tree p)} {i j : ℕ} → Begins ts p r i j → i ≤ j
begins_at_least (none {i = i}) = le_refl i
begins_at_least (past_token y h b) = let a : _ ≤ _ = begins_at_least b in omega arith
begins_at_least (within b) = begins_at_least b
begins_at_least (past y d b) = let a : _ ≤ _ = at_least d in let c : _ ≤ _ = begins_at_least b in omega arith
begins_at_least (of_first b) = begins_at_least b
begins_at_least (of_second b) = begins_at_least b

-- what a rule derives begins it too
pub begun_of : {ts : List Tok} {p : Phrase} {r : Rule (Tree p)} {i j : ℕ} {x : Tree p} → Derives ts p r i j x → Begins ts p r i j
begun_of nothing = none
begun_of (token y h d) = past_token y h (begun_of d)
begun_of (inner y c d) = past y c (begun_of d)
begun_of (first d) = of_first (begun_of d)
begun_of (second d) = of_second (begun_of d)

-- every front of what a rule derives begins it
pub front_of : {ts : List Tok} {p : Phrase} {r : Rule (Tree p)} {i j : ℕ} {x : Tree p} (k : ℕ) → Derives ts p r i j x → i ≤ k → k ≤ j → Begins ts p r i k
front_of {i = i} k nothing a b = let e : i ≡ k = omega arith in rw (← e) none
front_of k (token y h d) a b = ⊎_elim (λ e. rw (← e) none) (λ l. past_token y h (front_of k d (omega arith) b)) (eq-or-lt_of_le a)
front_of k (inner {m = m} y c d) a b = ⊎_elim (λ l. within (front_of k c a l)) (λ l. past y c (front_of k d l b)) (le_or_ge k m)
front_of k (first d) a b = of_first (front_of k d a b)
front_of k (second d) a b = of_second (front_of k d a b)

-- what begins with more tokens begins with fewer
pub shorter : {ts : List Tok} {p : Phrase} {r : Rule (Tree p)} {i j : ℕ} (k : ℕ) → Begins ts p r i j → i ≤ k → k ≤ j → Begins ts p r i k
shorter {i = i} k none a b = let e : i ≡ k = omega arith in rw (← e) none
shorter k (past_token y h d) a b = ⊎_elim (λ e. rw (← e) none) (λ l. past_token y h (shorter k d (omega arith) b)) (eq-or-lt_of_le a)
shorter k (within d) a b = within (shorter k d a b)
shorter k (past {m = m} y c d) a b = ⊎_elim (λ l. within (front_of k c a l)) (λ l. past y c (shorter k d l b)) (le_or_ge k m)
shorter k (of_first d) a b = of_first (shorter k d a b)
shorter k (of_second d) a b = of_second (shorter k d a b)

-- what a derivation of each form of rule is made of

pub Derives-tree : {ts : List Tok} {p : Phrase} {x y : Tree p} {i j : ℕ} → Derives ts p (tree x) i j y → (i ≡ j) × (x ≡ y)
Derives-tree nothing = (refl, refl)

pub Derives-token : {ts : List Tok} {p : Phrase} {part : Part} {f : SemanticValue part → Rule (Tree p)} {i j : ℕ} {x : Tree p} →
    IsTerminal part → Derives ts p (then part f) i j x → (y : SemanticValue part) × IsToken ts part i y × Derives ts p (f y) (i + 1) j x
Derives-token t (token y h d) = (y, h, d)
Derives-token t (inner y c d) = absurd t

pub Derives-inner : {ts : List Tok} {p q : Phrase} {f : Tree q → Rule (Tree p)} {i j : ℕ} {x : Tree p} →
    Derives ts p (then (phrase q) f) i j x → (m : ℕ) × (y : Tree q) × Derives ts q (rule q) i m y × Derives ts p (f y) m j x
Derives-inner (token y h d) = absurd h
Derives-inner (inner {m = m} y c d) = (m, y, c, d)

pub Derives-either : {ts : List Tok} {p : Phrase} {r s : Rule (Tree p)} {i j : ℕ} {x : Tree p} →
    Derives ts p (either r s) i j x → Derives ts p r i j x ⊎ Derives ts p s i j x
Derives-either (first d) = inl d
Derives-either (second d) = inr d

pub Begins-tree : {ts : List Tok} {p : Phrase} {x : Tree p} {i j : ℕ} → Begins ts p (tree x) i j → i ≡ j
Begins-tree none = refl

pub Begins-token : {ts : List Tok} {p : Phrase} {part : Part} {f : SemanticValue part → Rule (Tree p)} {i j : ℕ} →
    IsTerminal part → Begins ts p (then part f) i j → (i ≡ j) ⊎ ((y : SemanticValue part) × IsToken ts part i y × Begins ts p (f y) (i + 1) j)
Begins-token t none = inl refl
Begins-token t (past_token y h d) = inr (y, h, d)
Begins-token t (within d) = absurd t
Begins-token t (past y c d) = absurd t

pub Begins-inner : {ts : List Tok} {p q : Phrase} {f : Tree q → Rule (Tree p)} {i j : ℕ} →
    Begins ts p (then (phrase q) f) i j → Begins ts q (rule q) i j ⊎ ((m : ℕ) × (y : Tree q) × Derives ts q (rule q) i m y × Begins ts p (f y) m j)
Begins-inner none = inl none
Begins-inner (past_token y h d) = absurd h
Begins-inner (within d) = inl d
Begins-inner (past {m = m} y c d) = inr (m, y, c, d)

pub Begins-either : {ts : List Tok} {p : Phrase} {r s : Rule (Tree p)} {i j : ℕ} →
    Begins ts p (either r s) i j → Begins ts p r i j ⊎ Begins ts p s i j
Begins-either none = inl none
Begins-either (of_first d) = inl d
Begins-either (of_second d) = inr d

-- a token that is there has a number below the length
token_within : (ts : List Tok) (i : ℕ) (part : Part) (y : SemanticValue part) → IsToken ts part i y → i < length ts
token_within ts i (word k) y h = slice_get_within ts i _ h.0
token_within ts i (sign s) y h = slice_get_within ts i _ h.0
token_within ts i name y h = slice_get_within ts i _ h.0
token_within ts i integer y h = slice_get_within ts i _ h.0
token_within ts i string y h = slice_get_within ts i _ h
token_within ts i end y h = slice_get_within ts i _ h.0
token_within ts i (operator level) y h = slice_get_within ts i _ h.1
token_within ts i (phrase p) y h = absurd h

derives_within : {ts : List Tok} {p : Phrase} {r : Rule (Tree p)} {i j : ℕ} {x : Tree p} → Derives ts p r i j x → i ≤ length ts → j ≤ length ts
derives_within nothing l = l
derives_within {ts = ts} (token {part = part} {i = i} y h d) l = let m : i < length ts = token_within ts i part y h in derives_within d (omega arith)
derives_within (inner y c d) l = derives_within d (derives_within c l)
derives_within (first d) l = derives_within d l
derives_within (second d) l = derives_within d l

pub begins_within : {ts : List Tok} {p : Phrase} {r : Rule (Tree p)} {i j : ℕ} → Begins ts p r i j → i ≤ length ts → j ≤ length ts
begins_within none l = l
begins_within {ts = ts} (past_token {part = part} {i = i} y h b) l = let m : i < length ts = token_within ts i part y h in begins_within b (omega arith)
begins_within (within b) l = begins_within b l
begins_within (past y d b) l = begins_within b (derives_within d l)
begins_within (of_first b) l = begins_within b l
begins_within (of_second b) l = begins_within b l

-- a token gives one thing
pub token_one : (ts : List Tok) (i : ℕ) (part : Part) (y z : SemanticValue part) → IsToken ts part i y → IsToken ts part i z → y ≡ z
token_one ts i (word k) y z a b = a.1 ∙ sym b.1
token_one ts i (sign s) y z a b = a.1 ∙ sym b.1
token_one ts i name y z a b = let e : y.name ≡ z.name = cc (a.0, b.0) in ap₂ (λ (m : NameId) (n : ℕ). let v : Named = record { name = m; pos = n } in v) e (a.1 ∙ sym b.1)
token_one ts i integer y z a b = let e : y.0 ≡ z.0 = cc (a.0, b.0) in ap₂ (λ (m : ℤ) (n : ℕ). let v : ℤ × ℕ = (m, n) in v) e (a.1 ∙ sym b.1)
token_one ts i string y z a b = cc (a, b)
token_one ts i end y z a b = a.1 ∙ sym b.1
token_one ts i (operator level) y z a b = let s : a.0 ≡ b.0 = cc (a.1, b.1) in let e : y.0 ≡ z.0 = cc (a.2, b.2, ap (operator_of level) s) in ap₂ (λ (m : Op) (n : ℕ). let v : Op × ℕ = (m, n) in v) e (a.3 ∙ sym b.3)
token_one ts i (phrase q) y z a b = absurd a

-- how a parser reads each form of rule

module _ {ts : List Tok} {p : Phrase} {i : ℕ} where
  pub reads_tree : {x : Tree p} → Reads ts p (tree x) i (read x i)
  reads_tree {x = x} = record {
    sound = λ y j e. let a : x ≡ y = cc in let b : i ≡ j = cc in rw (← a, ← b) nothing;
    only = λ y j d s. let e : (i ≡ j) × (x ≡ y) = Derives-tree d in ap₂ read e.1 e.0;
    begun = none;
    ends = λ b. let e : i ≡ i + 1 = Begins-tree b in omega arith;
  }

  pub reads_token : {part : Part} {f : SemanticValue part → Rule (Tree p)} {o : Outcome (Tree p)} → IsTerminal part → (y : SemanticValue part) → IsToken ts part i y →
      Reads ts p (f y) (i + 1) o → Reads ts p (then part f) i o
  reads_token {part = part} {f = f} {o = o} t y h R = record {
    sound = λ x j e. token y h (R.sound x j e);
    only = λ x j d s. let a = Derives-token t d in R.only x j (subst (λ (z : SemanticValue part). Derives ts p (f z) (i + 1) j x) (token_one ts i part a.0 y a.1 h) a.2) s;
    begun = past_token y h R.begun;
    ends = λ b. ⊎_elim (λ e. let l : i + 1 ≤ edge o = begins_at_least R.begun in omega arith)
        (λ a. R.ends (subst (λ (z : SemanticValue part). Begins ts p (f z) (i + 1) (edge o + 1)) (token_one ts i part a.0 y a.1 h) a.2)) (Begins-token t b);
  }

  pub reads_missing : {part : Part} {f : SemanticValue part → Rule (Tree p)} → IsTerminal part → ((y : SemanticValue part) → IsToken ts part i y → ⊥) →
      Reads ts p (then part f) i (refused i)
  reads_missing t no_token = record {
    sound = λ x j e. cc;
    only = λ x j d s. let a = Derives-token t d in absurd (no_token a.0 a.1);
    begun = none;
    ends = λ b. ⊎_elim (λ e. let f : i ≡ i + 1 = e in omega arith) (λ a. no_token a.0 a.1) (Begins-token t b);
  }

  pub reads_first : {r s : Rule (Tree p)} {o : Outcome (Tree p)} → Reads ts p r i o → Off ts p s i → Reads ts p (either r s) i o
  reads_first {o = o} R off = record {
    sound = λ x j e. first (R.sound x j e);
    only = λ x j d s. ⊎_elim (λ a. R.only x j a s) (λ a. absurd (⊎_elim (λ e. off.empty x (rw (← e) at a) (rw (← e) at s)) (λ l. off.begun (front_of (i + 1) a (omega arith) (omega arith))) (eq-or-lt_of_le (at_least a)))) (Derives-either d);
    begun = of_first R.begun;
    ends = λ b. let l : i ≤ edge o = begins_at_least R.begun in ⊎_elim R.ends (λ a. off.begun (shorter (i + 1) a (omega arith) (omega arith))) (Begins-either b);
  }

  pub reads_second : {r s : Rule (Tree p)} {o : Outcome (Tree p)} → Reads ts p s i o → Off ts p r i → Reads ts p (either r s) i o
  reads_second {o = o} R off = record {
    sound = λ x j e. second (R.sound x j e);
    only = λ x j d s. ⊎_elim (λ a. absurd (⊎_elim (λ e. off.empty x (rw (← e) at a) (rw (← e) at s)) (λ l. off.begun (front_of (i + 1) a (omega arith) (omega arith))) (eq-or-lt_of_le (at_least a)))) (λ a. R.only x j a s) (Derives-either d);
    begun = of_second R.begun;
    ends = λ b. let l : i ≤ edge o = begins_at_least R.begun in ⊎_elim (λ a. off.begun (shorter (i + 1) a (omega arith) (omega arith))) R.ends (Begins-either b);
  }

  -- where the phrase q could end with another tree or at another place, what follows does not begin
  ending : {q : Phrase} {f : Tree q → Rule (Tree p)} {oq : Outcome (Tree q)} → Reads ts q (rule q) i oq → ((z : Tree q) → Clear ts p (f z) q) →
      {n j : ℕ} {z : Tree q} {x : Tree p} → Derives ts q (rule q) i n z → Derives ts p (f z) n j x → Stops ts p j → oq ≡ read z n
  ending Q clear {n = n} {j = j} {z = z} {x = x} c e s =
      Q.only z n c (⊎_elim (λ h. (clear z).empty n x (rw (← h) at e) (rw (← h) at s)) (λ l. (clear z).begun n (front_of (n + 1) e (omega arith) (omega arith))) (eq-or-lt_of_le (at_least e)))

  going : {q : Phrase} {f : Tree q → Rule (Tree p)} {oq : Outcome (Tree q)} → Reads ts q (rule q) i oq → ((z : Tree q) → Clear ts p (f z) q) →
      {n j : ℕ} {z : Tree q} → Derives ts q (rule q) i n z → Begins ts p (f z) n j → n < j → oq ≡ read z n
  going Q clear {n = n} {j = j} {z = z} c b l = Q.only z n c ((clear z).begun n (shorter (n + 1) b (omega arith) (omega arith)))

  pub reads_inner : {q : Phrase} {f : Tree q → Rule (Tree p)} {m : ℕ} {y : Tree q} {o : Outcome (Tree p)} →
      Reads ts q (rule q) i (read y m) → ((z : Tree q) → Clear ts p (f z) q) → Reads ts p (f y) m o → Reads ts p (then (phrase q) f) i o
  reads_inner {q = q} {f = f} {m = m} {y = y} {o = o} Q clear R =
      let l : i ≤ m = at_least (Q.sound y m refl) in
      let k : m ≤ edge o = begins_at_least R.begun in
      record {
        sound = λ x j e. inner y (Q.sound y m refl) (R.sound x j e);
        only = λ x j d s. let a = Derives-inner d in
            let e : read y m ≡ read a.1 a.0 = ending Q clear a.2 a.3 s in
            let same : a.1 ≡ y = cc in let place : a.0 ≡ m = cc in
            R.only x j (subst₂ (λ (z : Tree q) (n : ℕ). Derives ts p (f z) n j x) same place a.3) s;
        begun = past y (Q.sound y m refl) R.begun;
        ends = λ b. ⊎_elim (λ c. Q.ends (shorter (m + 1) c (omega arith) (omega arith)))
            (λ a. ⊎_elim (λ h. Q.ends (shorter (m + 1) (front_of (edge o + 1) a.2 (omega arith) (omega arith)) (omega arith) (omega arith)))
            (λ h. let e : read y m ≡ read a.1 a.0 = going Q clear a.2 a.3 h in
            let same : a.1 ≡ y = cc in let place : a.0 ≡ m = cc in
            R.ends (subst₂ (λ (z : Tree q) (n : ℕ). Begins ts p (f z) n (edge o + 1)) same place a.3))
            (eq-or-lt_of_le (begins_at_least a.3)))
            (Begins-inner b);
      }

  pub reads_refused : {q : Phrase} {f : Tree q → Rule (Tree p)} {u : ℕ} →
      Reads ts q (rule q) i (refused u) → ((z : Tree q) → Clear ts p (f z) q) → Reads ts p (then (phrase q) f) i (refused u)
  reads_refused {q = q} {f = f} {u = u} Q clear = record {
    sound = λ x j e. cc;
    only = λ x j d s. let a = Derives-inner d in
        let e : refused u ≡ read a.1 a.0 = ending Q clear a.2 a.3 s in cc;
    begun = within Q.begun;
    ends = λ b. ⊎_elim (λ c. Q.ends c)
        (λ a. ⊎_elim (λ h. Q.ends (front_of (u + 1) a.2 (let l : i ≤ a.0 = at_least a.2 in omega arith) (omega arith)))
        (λ h. let e : refused u ≡ read a.1 a.0 = going Q clear a.2 a.3 h in cc)
        (eq-or-lt_of_le (begins_at_least a.3)))
        (Begins-inner b);
  }

-- what stands behind a phrase

module _ {ts : List Tok} {p q : Phrase} where
  pub clear_tree : {x : Tree p} → Within q p → Clear ts p (tree x) q
  clear_tree w = record {
    begun = λ k b t h g. let e : k ≡ k + 1 = Begins-tree b in omega arith;
    empty = λ k x d s t h g. s t h (w t g);
  }

  pub clear_token : {part : Part} {f : SemanticValue part → Rule (Tree p)} → IsTerminal part → ((k : ℕ) (y : SemanticValue part) → IsToken ts part k y → Stops ts q k) → Clear ts p (then part f) q
  clear_token t stops = record {
    begun = λ k b. ⊎_elim (λ e. absurd (let g : k ≡ k + 1 = e in omega arith)) (λ a. stops k a.0 a.1) (Begins-token t b);
    empty = λ k x d s. let a = Derives-token t d in absurd (let l : k + 1 ≤ k = at_least a.2 in omega arith);
  }

  pub clear_sign : {s : Sign} {f : ℕ → Rule (Tree p)} → (GoesOn q (tok.Sign s) → ⊥) → Clear ts p (then (sign s) f) q
  clear_sign {s = s} w = clear_token tt (λ k y a t h g. w (let e : t ≡ tok.Sign s = cc (a.0, h) in rw e at g))

  pub clear_word : {w : Keyword} {f : ℕ → Rule (Tree p)} → (GoesOn q (tok.Word w) → ⊥) → Clear ts p (then (word w) f) q
  clear_word {w = w} u = clear_token tt (λ k y a t h g. u (let e : t ≡ tok.Word w = cc (a.0, h) in rw e at g))

  pub clear_either : {r s : Rule (Tree p)} → Clear ts p r q → Clear ts p s q → Clear ts p (either r s) q
  clear_either a b = record {
    begun = λ k d. ⊎_elim (a.begun k) (b.begun k) (Begins-either d);
    empty = λ k x d. ⊎_elim (a.empty k x) (b.empty k x) (Derives-either d);
  }

  pub clear_inner : {c : Phrase} {f : Tree c → Rule (Tree p)} → Clear ts c (rule c) q → ((y : Tree c) → Clear ts p (f y) q) → Clear ts p (then (phrase c) f) q
  clear_inner {c = c} {f = f} a b = record {
    begun = λ k d. ⊎_elim (a.begun k) (λ e.
        ⊎_elim (λ h. a.begun k (front_of (k + 1) e.2 (omega arith) (omega arith)))
        (λ h. (b e.1).begun k (let same : e.0 ≡ k = let l : k ≤ e.0 = at_least e.2 in omega arith in subst (λ (n : ℕ). Begins ts p (f e.1) n (k + 1)) same e.3))
        (eq-or-lt_of_le (begins_at_least e.3))) (Begins-inner d);
    empty = λ k x d. let e = Derives-inner d in
        (b e.1).empty k x (let same : e.0 ≡ k = let l : k ≤ e.0 = at_least e.2 in let n : e.0 ≤ k = at_least e.3 in omega arith in subst (λ (n : ℕ). Derives ts p (f e.1) n k x) same e.3);
  }

-- alternatives that are not taken

module _ {ts : List Tok} {p : Phrase} {i : ℕ} where
  pub misses_token : {part : Part} {f : SemanticValue part → Rule (Tree p)} → IsTerminal part → ((y : SemanticValue part) → IsToken ts part i y → ⊥) → Misses ts p (then part f) i
  misses_token t no_token = record {
    begun = λ b. ⊎_elim (λ e. let g : i ≡ i + 1 = e in omega arith) (λ a. no_token a.0 a.1) (Begins-token t b);
    empty = λ x d. let a = Derives-token t d in no_token a.0 a.1;
  }

  pub misses_either : {r s : Rule (Tree p)} → Misses ts p r i → Misses ts p s i → Misses ts p (either r s) i
  misses_either a b = record {
    begun = λ d. ⊎_elim a.begun b.begun (Begins-either d);
    empty = λ x d. ⊎_elim (a.empty x) (b.empty x) (Derives-either d);
  }

  pub misses_inner : {q : Phrase} {f : Tree q → Rule (Tree p)} → Misses ts q (rule q) i → Misses ts p (then (phrase q) f) i
  misses_inner {q = q} {f = f} a = record {
    begun = λ b. ⊎_elim a.begun (λ e.
        ⊎_elim (λ h. a.empty e.1 (rw (← h) at e.2)) (λ h. a.begun (front_of (i + 1) e.2 (omega arith) (omega arith)))
        (eq-or-lt_of_le (at_least e.2))) (Begins-inner b);
    empty = λ x d. let e = Derives-inner d in
        a.empty e.1 (let same : e.0 ≡ i = let l : i ≤ e.0 = at_least e.2 in let n : e.0 ≤ i = at_least e.3 in omega arith in rw same at e.2);
  }

  -- no alternative begins here
  pub reads_nothing : {r : Rule (Tree p)} → Misses ts p r i → Reads ts p r i (refused i)
  reads_nothing a = record {
    sound = λ x j e. cc;
    only = λ x j d s. absurd (⊎_elim (λ e. a.empty x (rw (← e) at d)) (λ l. a.begun (front_of (i + 1) d (omega arith) (omega arith))) (eq-or-lt_of_le (at_least d)));
    begun = none;
    ends = a.begun;
  }

  pub off : {r : Rule (Tree p)} → Misses ts p r i → Off ts p r i
  off a = record { begun = a.begun; empty = λ x d s. a.empty x d }

  pub off_tree : {x : Tree p} (t : Tok) → slice_get ts i ≡ Some t → GoesOn p t → Off ts p (tree x) i
  off_tree t h g = record {
    begun = λ b. let e : i ≡ i + 1 = Begins-tree b in omega arith;
    empty = λ x d s. s t h g;
  }

  pub off_either : {r s : Rule (Tree p)} → Off ts p r i → Off ts p s i → Off ts p (either r s) i
  off_either a b = record {
    begun = λ d. ⊎_elim a.begun b.begun (Begins-either d);
    empty = λ x d. ⊎_elim (a.empty x) (b.empty x) (Derives-either d);
  }

-- a phrase at the end of a rule

abbrev pub put : {A B : Type 0} → (A → B) → Outcome A → Outcome B
put g (read x j) = read (g x) j
put g (refused u) = refused u

pub put-id : {A : Type 0} (o : Outcome A) → put (λ x. x) o ≡ o
put-id (read x j) = refl
put-id (refused u) = refl

pub reads_last : {ts : List Tok} {p q : Phrase} {i : ℕ} (g : Tree q → Tree p) (o : Outcome (Tree q)) → Within q p → Reads ts q (rule q) i o →
    Reads ts p (then (phrase q) (λ e. tree (g e))) i (put g o)
reads_last g (read x j) w R = reads_inner R (λ z. clear_tree w) reads_tree
reads_last g (refused u) w R = reads_refused R (λ z. clear_tree w)

-- two right sides that derive and begin the same

record Same (ts : List Tok) (p : Phrase) (r s : Rule (Tree p)) : Type 0 where
  to : {i j : ℕ} {x : Tree p} → Derives ts p r i j x → Derives ts p s i j x
  back : {i j : ℕ} {x : Tree p} → Derives ts p s i j x → Derives ts p r i j x
  begun_to : {i j : ℕ} → Begins ts p r i j → Begins ts p s i j
  begun_back : {i j : ℕ} → Begins ts p s i j → Begins ts p r i j

module _ {ts : List Tok} {p : Phrase} where
  reads_same : {r s : Rule (Tree p)} {i : ℕ} {o : Outcome (Tree p)} → Same ts p r s → Reads ts p r i o → Reads ts p s i o
  reads_same e R = record {
    sound = λ x j h. e.to (R.sound x j h);
    only = λ x j d. R.only x j (e.back d);
    begun = e.begun_to R.begun;
    ends = λ b. R.ends (e.begun_back b);
  }

  -- a common first part
  factored_to : {part : Part} {f g : SemanticValue part → Rule (Tree p)} {i j : ℕ} {x : Tree p} → Derives ts p (then part (λ y. either (f y) (g y))) i j x → Derives ts p (either (then part f) (then part g)) i j x
  factored_to (token y h d) = ⊎_elim (λ a. first (token y h a)) (λ b. second (token y h b)) (Derives-either d)
  factored_to (inner y c d) = ⊎_elim (λ a. first (inner y c a)) (λ b. second (inner y c b)) (Derives-either d)

  factored_first : {part : Part} {f g : SemanticValue part → Rule (Tree p)} {i j : ℕ} {x : Tree p} → Derives ts p (then part f) i j x → Derives ts p (then part (λ y. either (f y) (g y))) i j x
  factored_first (token y h d) = token y h (first d)
  factored_first (inner y c d) = inner y c (first d)

  factored_second : {part : Part} {f g : SemanticValue part → Rule (Tree p)} {i j : ℕ} {x : Tree p} → Derives ts p (then part g) i j x → Derives ts p (then part (λ y. either (f y) (g y))) i j x
  factored_second (token y h d) = token y h (second d)
  factored_second (inner y c d) = inner y c (second d)

  factored_begun : {part : Part} {f g : SemanticValue part → Rule (Tree p)} {i j : ℕ} → Begins ts p (then part (λ y. either (f y) (g y))) i j → Begins ts p (either (then part f) (then part g)) i j
  factored_begun none = none
  factored_begun (past_token y h d) = ⊎_elim (λ a. of_first (past_token y h a)) (λ b. of_second (past_token y h b)) (Begins-either d)
  factored_begun (within d) = of_first (within d)
  factored_begun (past y c d) = ⊎_elim (λ a. of_first (past y c a)) (λ b. of_second (past y c b)) (Begins-either d)

  begun_first : {part : Part} {f g : SemanticValue part → Rule (Tree p)} {i j : ℕ} → Begins ts p (then part f) i j → Begins ts p (then part (λ y. either (f y) (g y))) i j
  begun_first none = none
  begun_first (past_token y h d) = past_token y h (of_first d)
  begun_first (within d) = within d
  begun_first (past y c d) = past y c (of_first d)

  begun_second : {part : Part} {f g : SemanticValue part → Rule (Tree p)} {i j : ℕ} → Begins ts p (then part g) i j → Begins ts p (then part (λ y. either (f y) (g y))) i j
  begun_second none = none
  begun_second (past_token y h d) = past_token y h (of_second d)
  begun_second (within d) = within d
  begun_second (past y c d) = past y c (of_second d)

  pub reads_factored : {part : Part} {f g : SemanticValue part → Rule (Tree p)} {i : ℕ} {o : Outcome (Tree p)} → Reads ts p (then part (λ y. either (f y) (g y))) i o → Reads ts p (either (then part f) (then part g)) i o
  reads_factored R = reads_same (record {
    to = factored_to;
    back = λ d. ⊎_elim factored_first factored_second (Derives-either d);
    begun_to = factored_begun;
    begun_back = λ b. ⊎_elim begun_first begun_second (Begins-either b);
  }) R

  -- the order of grouping of alternatives
  regrouped : {a b c : Rule (Tree p)} → Same ts p (either (either a b) c) (either a (either b c))
  regrouped = record {
    to = λ d. ⊎_elim (λ e. ⊎_elim first (λ f. second (first f)) (Derives-either e)) (λ f. second (second f)) (Derives-either d);
    back = λ d. ⊎_elim (λ f. first (first f)) (λ e. ⊎_elim (λ f. first (second f)) second (Derives-either e)) (Derives-either d);
    begun_to = λ d. ⊎_elim (λ e. ⊎_elim of_first (λ f. of_second (of_first f)) (Begins-either e)) (λ f. of_second (of_second f)) (Begins-either d);
    begun_back = λ d. ⊎_elim (λ f. of_first (of_first f)) (λ e. ⊎_elim (λ f. of_first (of_second f)) of_second (Begins-either e)) (Begins-either d);
  }

  pub reads_regrouped : {a b c : Rule (Tree p)} {i : ℕ} {o : Outcome (Tree p)} → Reads ts p (either (either a b) c) i o → Reads ts p (either a (either b c)) i o
  reads_regrouped R = reads_same regrouped R
