-- Alternatives that begin alike, and phrases that are not empty.
use Rattle.std.proofs.Common.{◌≡◌, ℕ, ◌+◌, ◌≤◌, ⊎_elim, List, arith, subst, sym, eq-or-lt_of_le}
use native.Mathlib.Decide.{dec_le}
use Rattle.pool_syntax.specs.declared.token.Tok.{Tok}
use Rattle.pool_grammar.specs.Rules.{Phrase, Tree, Part, phrase, SemanticValue, Rule, then, either}
use Rattle.pool_grammar.specs.Grammar.{rule}
use Rattle.pool_grammar.specs.Derives.{Derives, first, second, Begins, of_first, of_second}
use Rattle.pool_grammar.proofs.Laws.{IsTerminal}
use Rattle.expression_parser.specs.Reads.{Outcome, read, refused, edge, Reads}
use Rattle.expression_parser.proofs.Laws.{Clear, at_least, begins_at_least, front_of, shorter, Derives-token, Derives-inner, Derives-either, Begins-inner, Begins-either}

module _ {ts : List Tok} {p : Phrase} {i : ℕ} where
  -- what begins the rule ends no later than the outcome
  pub reach : {s : Rule (Tree p)} {o : Outcome (Tree p)} (u : ℕ) → Reads ts p s i o → Begins ts p s i u → u ≤ edge o
  reach {o = o} u S b = elim (dec_le u (edge o)) [
    | yes l ↦ l
    | no l ↦ let k : i ≤ edge o = begins_at_least S.begun in absurd (S.ends (shorter (edge o + 1) b (omega arith) (omega arith)))
  ]

  -- the second alternative, where the first is refused, and no later
  pub reads_over : {r s : Rule (Tree p)} {u : ℕ} {o : Outcome (Tree p)} → Reads ts p r i (refused u) → Reads ts p s i o → Begins ts p s i u → Reads ts p (either r s) i o
  reads_over {u = u} {o = o} R S b = record {
    sound = λ x j e. second (S.sound x j e);
    only = λ x j d h. ⊎_elim (λ a. let e : refused u ≡ read x j = R.only x j a h in cc) (λ a. S.only x j a h) (Derives-either d);
    begun = of_second S.begun;
    ends = λ d. let l : u ≤ edge o = reach u S b in let k : i ≤ u = begins_at_least R.begun in
        ⊎_elim (λ a. R.ends (shorter (u + 1) a (omega arith) (omega arith))) S.ends (Begins-either d);
  }

  -- the first alternative, where the second is refused, and no later
  pub reads_under : {r s : Rule (Tree p)} {u : ℕ} {o : Outcome (Tree p)} → Reads ts p r i o → Reads ts p s i (refused u) → Begins ts p r i u → Reads ts p (either r s) i o
  reads_under {u = u} {o = o} R S b = record {
    sound = λ x j e. first (R.sound x j e);
    only = λ x j d h. ⊎_elim (λ a. R.only x j a h) (λ a. let e : refused u ≡ read x j = S.only x j a h in cc) (Derives-either d);
    begun = of_first R.begun;
    ends = λ d. let l : u ≤ edge o = reach u R b in let k : i ≤ u = begins_at_least S.begun in
        ⊎_elim R.ends (λ a. S.ends (shorter (u + 1) a (omega arith) (omega arith))) (Begins-either d);
  }

-- a rule that begins with a token derives no empty list
pub not_empty : {ts : List Tok} {p : Phrase} {part : Part} {f : SemanticValue part → Rule (Tree p)} {k : ℕ} {x : Tree p} → IsTerminal part → Derives ts p (then part f) k k x → ⊥
not_empty {k = k} t d = let a = Derives-token t d in let l : k + 1 ≤ k = at_least a.2 in omega arith

-- a phrase that is not empty decides alone what may stand before it
pub clear_full : {ts : List Tok} {p q c : Phrase} {f : Tree c → Rule (Tree p)} → ((k : ℕ) (x : Tree c) → Derives ts c (rule c) k k x → ⊥) → Clear ts c (rule c) q → Clear ts p (then (phrase c) f) q
clear_full {ts = ts} {c = c} n a = record {
  begun = λ k d. ⊎_elim (a.begun k) (λ e.
      ⊎_elim (λ h. absurd (n k e.1 (subst (λ (m : ℕ). Derives ts c (rule c) k m e.1) (sym h) e.2)))
      (λ h. a.begun k (front_of (k + 1) e.2 (omega arith) (omega arith)))
      (eq-or-lt_of_le (at_least e.2))) (Begins-inner d);
  empty = λ k x d. let e = Derives-inner d in let l : k ≤ e.0 = at_least e.2 in let m : e.0 ≤ k = at_least e.3 in let same : e.0 ≡ k = omega arith in
      absurd (n k e.1 (subst (λ (m : ℕ). Derives ts c (rule c) k m e.1) same e.2));
}
