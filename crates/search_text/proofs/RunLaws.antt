-- A run of labels from the start, some labels at a time.
use Rattle.std.proofs.Common.{◌≡◌, ◌∙◌, ◌<◌, ◌+◌, ◌-◌, ℕ, suc, List, [], ◌++◌, replicate, Some, None, refl, sym, ap, arith}
use Rattle.run_types.specs.declared.types.Label.{Label}
use Rattle.pool_syntax.specs.Terms.{ProgramTree}
use Rattle.run_types.specs.Partial.{◌>>=◌}
use Rattle.pool_relation.specs.Configuration.{Configuration}
use Rattle.pool_relation.specs.Transition.{run, start, transition}
use Rattle.pool_relation.proofs.Laws.{joined, none_joined}
use Rattle.pool_search.specs.SearchTargets.{LeadsTo}

-- some of the labels were made, and these are left
pub record IsUnderWay (p : ProgramTree) (ls rest : List Label) (c : Configuration) : Type 0 where
  pub first : Configuration
  pub starts : start p 0 ≡ Some first
  pub left : run p first ls ≡ run p c rest

-- one label of so many, and those that are left
pub one_of_them : (p : ProgramTree) (c : Configuration) (l : Label) (n at : ℕ) → at < n → run p c (replicate (n - at) l) ≡ (transition p c l >>= λ d. run p d (replicate (n - (at + 1)) l))
one_of_them p c l n at inside = ap (λ m. run p c (replicate m l)) (let e : n - at ≡ suc (n - (at + 1)) = omega arith in e)

module _ (p : ProgramTree) (ls : List Label) where
  pub begun : (c : Configuration) (rest : List Label) → start p 0 ≡ Some c → rest ≡ ls → IsUnderWay p ls rest c
  begun c rest s is = record { first = c; starts = s; left = ap (run p c) (sym is) }

  pub more_made : (rest ms after : List Label) (c d : Configuration) → rest ≡ ms ++ after → run p c ms ≡ Some d → IsUnderWay p ls rest c → IsUnderWay p ls after d
  more_made rest ms after c d is made h = record { first = h.first; starts = h.starts; left = h.left ∙ ap (run p c) is ∙ joined p c d ms after made }

  pub is_possible : (P : Configuration → Type 0) (rest ms after : List Label) (c : Configuration) → LeadsTo p ls P → rest ≡ ms ++ after → IsUnderWay p ls rest c → run p c ms ≡ None → ⊥
  is_possible P rest ms after c leads is h none =
      let firsts : Some leads.first ≡ Some h.first = sym leads.starts ∙ h.starts in
      let first : leads.first ≡ h.first = cc in
      let ends : Some leads.last ≡ None = sym leads.leads ∙ ap (λ (e : Configuration). run p e ls) first ∙ h.left ∙ ap (run p c) is ∙ none_joined p c ms after none in
      cc

  pub led : (c : Configuration) (rest : List Label) → rest ≡ [] → IsUnderWay p ls rest c → LeadsTo p ls (λ d. d ≡ c)
  led c rest none h = record {
    first = h.first;
    last = c;
    starts = h.starts;
    leads = h.left ∙ ap (run p c) none;
    holds = refl;
  }

  -- they lead to one configuration alone
  pub one_last : (P Q : Configuration → Type 0) (a : LeadsTo p ls P) (b : LeadsTo p ls Q) → a.last ≡ b.last
  one_last P Q a b =
      let firsts : Some a.first ≡ Some b.first = sym a.starts ∙ b.starts in
      let first : a.first ≡ b.first = cc in
      let lasts : Some a.last ≡ Some b.last = sym a.leads ∙ ap (λ (c : Configuration). run p c ls) first ∙ b.leads in
      cc
