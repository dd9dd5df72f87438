-- A search that follows steps without choice to their ends finds every stuck configuration, and a faulty one if there
-- is one.
use Rattle.std.proofs.Common.{◌≡◌, ◌≢◌, ◌≤◌, ◌⊎◌, inl, inr, refl, sym, ap, ◌∙◌, subst, ℕ, zero, suc, List, [], ◌∷◌, length, Option, Some, None, Bool, true, false, ◌&&◌, arith}
use Rattle.run_types.proofs.Laws.{first, second}
use Rattle.run_types.specs.declared.types.Label.{Label}
use Rattle.run_types.specs.declared.types.Label.TheVariants as L
use Rattle.pool_syntax.specs.Terms.{ProgramTree}
use Rattle.run_types.specs.Partial.{◌>>=◌}
use Rattle.pool_relation.specs.Configuration.{Configuration}
use Rattle.pool_relation.specs.Transition.{transition, run}
use Rattle.reachability.specs.Search.{IsAtEnd, after, names_next, in_order, IsIn}
use Rattle.search_laws.proofs.RenamedRun.{makes_none}

-- a label that makes no object leaves the next name
pub stays : (n : ℕ) (l : Label) → makes_none l ≡ true → after n l ≡ n
stays n (L.New o m k) t = absurd (cc)
stays n (L.Local o) t = refl
stays n (L.Answer b o m args) t = refl
stays n (L.Return b o v) t = refl
stays n (L.Send o b m args) t = refl
stays n (L.Take b s m args) t = refl
stays n (L.Write o item) t = refl
stays n (L.Pick o i) t = refl
stays n (L.Fault o e) t = refl

pub both_hold : (a b : Bool) → a ≡ true → b ≡ true → (a && b) ≡ true
both_hold true b e h = h
both_hold false b e h = absurd (cc)

-- a run's first step
pub record First (p : ProgramTree) (c d : Configuration) (l : Label) (ls : List Label) : Type 0 where
  pub next : Configuration
  pub step : transition p c l ≡ Some next
  pub rest : run p next ls ≡ Some d

pub first_of : (p : ProgramTree) (c d : Configuration) (l : Label) (ls : List Label) → run p c (l ∷ ls) ≡ Some d → First p c d l ls
first_of p c d l ls r = by (transition p c l) refl r
  where
    by : (t : Option Configuration) → transition p c l ≡ t → (t >>= λ e. run p e ls) ≡ Some d → First p c d l ls
    by None i s = absurd (cc)
    by (Some e) i s = record { next = e; step = i; rest = s }

pub joined_step : (p : ProgramTree) (c e d : Configuration) (l : Label) (ls : List Label) → transition p c l ≡ Some e → run p e ls ≡ Some d → run p c (l ∷ ls) ≡ Some d
joined_step p c e d l ls i r = ap (λ t. t >>= λ x. run p x ls) i ∙ r

-- Alone c k: k is possible, and whatever else happens first, it stays so, and the order does not matter
module _ (p : ProgramTree) (Alone : Configuration → Label → Type 0)
    (same : (c : Configuration) (k : Label) → Alone c k → (l : Label) → (l ≡ k) ⊎ (l ≢ k))
    (none_made : (c : Configuration) (k : Label) → Alone c k → makes_none k ≡ true)
    (commutes : (c d e : Configuration) (k l : Label) → Alone c k → transition p c k ≡ Some e → transition p c l ≡ Some d → l ≢ k
    → Alone d k × ((x : Configuration) × (transition p d k ≡ Some x) × (transition p e l ≡ Some x))) where
  -- a run to where no label is possible, without a step that was made before it
  pub record Without (n most : ℕ) (e d : Configuration) : Type 0 where
    pub labels : List Label
    pub shorter : length labels ≤ most
    pub orders : in_order n labels ≡ true
    pub leads : run p e labels ≡ Some d

  without : (n : ℕ) (c d e : Configuration) (k : Label) (ls : List Label) → Alone c k → transition p c k ≡ Some e → in_order n ls ≡ true → run p c ls ≡ Some d → IsAtEnd p d
      → Without n (length ls) e d
  without n c d e k [] a i o r ended = absurd (let is : c ≡ d = cc in let none : transition p c k ≡ None = subst (λ x. transition p x k ≡ None) (sym is) (ended k) in let z : Some e ≡ None = sym i ∙ none in cc)
  without n c d e k (l ∷ ls) a i o r ended = by (first_of p c d l ls r) (same c k a l) (λ c' e' a' i' r'. without (after n l) c' d e' k ls a' i' (second (names_next n l) (in_order (after n l) ls) o) r' ended)
    where
      by : First p c d l ls → (l ≡ k) ⊎ (l ≢ k)
          → ((c' e' : Configuration) → Alone c' k → transition p c' k ≡ Some e' → run p c' ls ≡ Some d → Without (after n l) (length ls) e' d)
          → Without n (length (l ∷ ls)) e d
      by f (inl q) rest =
          let made : Some f.next ≡ Some e = sym f.step ∙ ap (transition p c) q ∙ i in
          let is : f.next ≡ e = cc in
          let still : after n l ≡ n = ap (after n) q ∙ stays n k (none_made c k a) in
          record {
            labels = ls;
            shorter = omega arith;
            orders = ap (λ m. in_order m ls) (sym still) ∙ second (names_next n l) (in_order (after n l) ls) o;
            leads = subst (λ x. run p x ls ≡ Some d) is f.rest;
          }
      by f (inr q) rest =
          let both = commutes c f.next e k l a i f.step q in
          let w = rest f.next both.1.0 both.0 both.1.1 f.rest in
          let few = w.shorter in
          record {
            labels = l ∷ w.labels;
            shorter = omega arith;
            orders = both_hold _ _ (first (names_next n l) (in_order (after n l) ls) o) w.orders;
            leads = joined_step p e both.1.0 d l w.labels both.1.2 w.leads;
          }

  -- steps that need no choice, one after another
  pub data Settles : Configuration → Configuration → Type 0 where
    Settled : {c : Configuration} → Settles c c
    Goes : {c e f : Configuration} {k : Label} → Alone c k → transition p c k ≡ Some e → Settles e f → Settles c f

  pub without_all : (n : ℕ) (c d f : Configuration) (ls : List Label) → Settles c f → in_order n ls ≡ true → run p c ls ≡ Some d → IsAtEnd p d → Without n (length ls) f d
  without_all n c d f ls Settled o r ended = record { labels = ls; shorter = omega arith; orders = o; leads = r }
  without_all n c d f ls (Goes {e = e} {k = k} a i s) o r ended =
      let w = without n c d e k ls a i o r ended in
      let v = without_all n e d f w.labels s w.orders w.leads ended in
      let one = w.shorter in
      let two = v.shorter in
      record { labels = v.labels; shorter = omega arith; orders = v.orders; leads = v.leads }

  -- each step leads, by steps that need no choice, into the list
  abbrev pub IsClosedAfter : List (ℕ × Configuration) → Type 0
  IsClosedAfter es = (n : ℕ) (c d : Configuration) (l : Label) → IsIn n c es → names_next n l ≡ true → transition p c l ≡ Some d
      → (f : Configuration) × Settles d f × IsIn (after n l) f es

  pub ends_are_in : (es : List (ℕ × Configuration)) → IsClosedAfter es → (most n : ℕ) (c d : Configuration) (ls : List Label) → length ls ≤ most → IsIn n c es
      → in_order n ls ≡ true → run p c ls ≡ Some d → IsAtEnd p d → (m : ℕ) × IsIn m d es
  ends_are_in es closed most n c d [] few i o r ended = let is : c ≡ d = cc in (n, subst (λ (x : Configuration). IsIn n x es) is i)
  ends_are_in es closed zero n c d (l ∷ ls) few i o r ended = absurd (omega arith)
  ends_are_in es closed (suc most) n c d (l ∷ ls) few i o r ended =
      let f = first_of p c d l ls r in
      let s = closed n c f.next l i (first (names_next n l) (in_order (after n l) ls) o) f.step in
      let w = without_all (after n l) f.next d s.0 ls s.1 (second (names_next n l) (in_order (after n l) ls) o) f.rest ended in
      let short = w.shorter in
      ends_are_in es closed most (after n l) s.0 d w.labels (omega arith) s.2 w.orders w.leads ended
