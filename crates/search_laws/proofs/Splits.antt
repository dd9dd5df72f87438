-- Runs in parts: before and behind the first label of a set.
use Rattle.std.proofs.Common.{◌≡◌, ◌⊎◌, inl, inr, refl, sym, ap, ◌∙◌, ℕ, suc, List, [], ◌∷◌, ◌++◌, length, Some, Bool, true, false, not}
use Rattle.run_types.proofs.Laws.{first, second}
use Rattle.run_types.specs.declared.types.Label.{Label}
use Rattle.run_types.specs.declared.types.Label.TheVariants as L
use Rattle.pool_syntax.specs.Terms.{ProgramTree}
use Rattle.pool_relation.specs.Configuration.{Configuration}
use Rattle.pool_relation.specs.Transition.{transition, run}
use Rattle.pool_relation.proofs.Laws.{joined as joined_run}
use Rattle.reachability.specs.Search.{after, names_next, in_order}
use Rattle.search_laws.specs.Stubborn.{are_others, makes_one}
use Rattle.search_laws.proofs.ReducedSearch.{both_hold, first_of, joined_step}

-- a label that makes no object does not change the next name
pub same_next : (n : ℕ) (l : Label) → makes_one l ≡ false → (after n l ≡ n) × (names_next n l ≡ true)
same_next n (L.New o m k) t = absurd (cc)
same_next n (L.Local o) t = (refl, refl)
same_next n (L.Answer b o m args) t = (refl, refl)
same_next n (L.Return b o v) t = (refl, refl)
same_next n (L.Send o b m args) t = (refl, refl)
same_next n (L.Take b s m args) t = (refl, refl)
same_next n (L.Write o item) t = (refl, refl)
same_next n (L.Pick o i) t = (refl, refl)
same_next n (L.Fault o e) t = (refl, refl)

-- the first of the labels that is in the set, with those before and behind it
pub record Split (chosen : Label → Bool) (ls : List Label) : Type 0 where
  pub before : List Label
  pub one : Label
  pub behind : List Label
  pub is : ls ≡ before ++ one ∷ behind
  pub others : are_others chosen before ≡ true
  pub is_chosen : chosen one ≡ true

pub split : (chosen : Label → Bool) (ls : List Label) → (are_others chosen ls ≡ true) ⊎ Split chosen ls
split chosen [] = inl refl
split chosen (l ∷ ls) = by (chosen l) refl (split chosen ls)
  where
    by : (b : Bool) → chosen l ≡ b → (are_others chosen ls ≡ true) ⊎ Split chosen ls → (are_others chosen (l ∷ ls) ≡ true) ⊎ Split chosen (l ∷ ls)
    by true e rest = inr (record { before = []; one = l; behind = ls; is = refl; others = refl; is_chosen = e })
    by false e (inl h) = inl (both_hold (not (chosen l)) (are_others chosen ls) (ap not e) h)
    by false e (inr s) =
        inr (record {
          before = l ∷ s.before;
          one = s.one;
          behind = s.behind;
          is = ap (λ (x : List Label). l ∷ x) s.is;
          others = both_hold (not (chosen l)) (are_others chosen s.before) (ap not e) s.others;
          is_chosen = s.is_chosen;
        })

-- the parts of a run before and behind one of its labels
pub record Around (p : ProgramTree) (n : ℕ) (c d : Configuration) (before : List Label) (one : Label) (behind : List Label) : Type 0 where
  pub here : Configuration
  pub there : Configuration
  pub leads : run p c before ≡ Some here
  pub step : transition p here one ≡ Some there
  pub goes_on : run p there behind ≡ Some d
  pub orders : in_order n before ≡ true
  pub all : in_order n (before ++ behind) ≡ true

pub around : (p : ProgramTree) (n : ℕ) (c d : Configuration) (before : List Label) (one : Label) (behind : List Label) → makes_one one ≡ false → in_order n (before ++ one ∷ behind) ≡ true
    → run p c (before ++ one ∷ behind) ≡ Some d → Around p n c d before one behind
around p n c d [] one behind none o r =
    let f = first_of p c d one behind r in
    let next = same_next n one none in
    record { here = c; there = f.next; leads = refl; step = f.step; goes_on = f.rest; orders = refl; all = ap (λ m. in_order m behind) (sym next.0) ∙ second (names_next n one) (in_order (after n one) behind) o }
around p n c d (l ∷ ls) one behind none o r =
    let f = first_of p c d l (ls ++ one ∷ behind) r in
    let named = first (names_next n l) (in_order (after n l) (ls ++ one ∷ behind)) o in
    let t = around p (after n l) f.next d ls one behind none (second (names_next n l) (in_order (after n l) (ls ++ one ∷ behind)) o) f.rest in
    record {
      here = t.here;
      there = t.there;
      leads = joined_step p c f.next t.here l ls f.step t.leads;
      step = t.step;
      goes_on = t.goes_on;
      orders = both_hold (names_next n l) (in_order (after n l) ls) named t.orders;
      all = both_hold (names_next n l) (in_order (after n l) (ls ++ behind)) named t.all;
    }

pub joined : (p : ProgramTree) (c d e : Configuration) (ls ks : List Label) → run p c ls ≡ Some d → run p d ks ≡ Some e → run p c (ls ++ ks) ≡ Some e
joined p c d e ls ks r s = joined_run p c d ls ks r ∙ s

pub longer : (ls ks : List Label) (l : Label) → length (ls ++ l ∷ ks) ≡ suc (length (ls ++ ks))
longer [] ks l = refl
longer (k ∷ ls) ks l = ap suc (longer ls ks l)
