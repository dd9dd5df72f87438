-- The rows of a report call the same objects as the objects of the configuration.
use Rattle.std.proofs.Common.{◌≡◌, ◌∙◌, ◌==◌, ℕ, Bool, true, false, cond, List, [], ◌∷◌, Option, refl, sym, ap, arith}
use Rattle.std.specs.Ordering.{nat_cmp}
use Rattle.std.specs.FinMap.Entries.{find}
use Rattle.mesh_semantics.specs.Delay.{Delay}
use Rattle.mesh_semantics.specs.Language.{Language}
use Rattle.run_types.specs.Partial.{◌>>=◌}
use Rattle.mesh_semantics.specs.Standing as T
use Rattle.mesh_semantics.specs.Cycles as Cycles
use Rattle.mesh_semantics.specs.Standing.{standing}
use Rattle.mesh_semantics.specs.Cycles.{Closes, IsCycle}
use Rattle.run_types.proofs.Laws.{equal}
use Rattle.wait_report.specs.Report.{called}
use Rattle.wait_report.specs.Report as W
use Rattle.run_loop.specs.Reports.{row_in, standing_word}
use Rattle.run_loop.specs.ReportRows.{rows_in}
use Rattle.run_loop.proofs.RowLaws.{find_here, find_later}

called_word : (s : T.Standing) → called (standing_word s) ≡ Cycles.called_in s
called_word T.Ready = refl
called_word T.Finished = refl
called_word (T.Faulted e) = refl
called_word (T.Calls b m) = refl
called_word (T.Creates k node) = refl
called_word T.Due = refl
called_word T.Awaits = refl

module _ {S : Type 0} (g : Language S) (d : Delay) where
  abbrev calls_from : ℕ → Option S → Option ℕ
  calls_from o z = z >>= λ x. Cycles.called_in (standing g d o x)

  pub called_same : (es : List (ℕ × S)) (o : ℕ) → W.called_in (rows_in g d es) o ≡ calls_from o (find nat_cmp o es)
  called_same [] o = refl
  called_same (e ∷ es) o = by (e.0 == o) refl (called_same es o)
    where
      by : (b : Bool) → (e.0 == o) ≡ b → W.called_in (rows_in g d es) o ≡ calls_from o (find nat_cmp o es) → W.called_in (rows_in g d (e ∷ es)) o ≡ calls_from o (find nat_cmp o (e ∷ es))
      by true i rest =
          let same : e.0 ≡ o = equal e.0 o i in
          ap (λ (b : Bool). cond b (called (row_in g d e).standing) (W.called_in (rows_in g d es) o)) i
          ∙ called_word (standing g d e.0 e.1) ∙ ap (calls_from e.0) (sym (find_here e.0 e.1 es)) ∙ ap (λ (k : ℕ). calls_from k (find nat_cmp k (e ∷ es))) same
      by false i rest =
          ap (λ (b : Bool). cond b (called (row_in g d e).standing) (W.called_in (rows_in g d es) o)) i
          ∙ rest ∙ ap (calls_from o) (sym (find_later o e es (λ q. let z : true ≡ false = sym (itself o) ∙ ap (λ (k : ℕ). k == o) q ∙ i in cc)))
        where
          itself : (k : ℕ) → (k == k) ≡ true
          itself k = grind arith

-- a cycle of the same calls
module _ (f g : ℕ → Option ℕ) (same : (o : ℕ) → f o ≡ g o) where
  closes_as : (first : ℕ) (ns : List ℕ) → Closes f first ns → Closes g first ns
  closes_as first [] h = h
  closes_as first (o ∷ []) h = sym (same o) ∙ h
  closes_as first (o ∷ b ∷ ns) h = (sym (same o) ∙ h.0, h.1, closes_as first (b ∷ ns) h.2)

  pub cycle_as : (ns : List ℕ) → IsCycle f ns → IsCycle g ns
  cycle_as [] h = h
  cycle_as (o ∷ ns) h = (h.0, closes_as o (o ∷ ns) h.1)
