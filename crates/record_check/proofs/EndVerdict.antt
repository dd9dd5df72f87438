-- The verdict on a record with only possible labels follows from the objects that can still move.
use Rattle.std.proofs.Common.{◌≡◌, sym, subst, ◌∙◌, ℕ, ◌<◌, List, Some, None, true, false}
use Rattle.pool_syntax.specs.Terms.{ProgramTree}
use Rattle.run_types.specs.declared.types.Label.{Label}
use Rattle.run_types.specs.declared.types.Line.{Line}
use Rattle.pool_relation.specs.Configuration.{Configuration}
use Rattle.pool_relation.specs.Progress.{agent, HasOwnTransition}
use Rattle.pool_relation.specs.Transition.{transition}
use Rattle.mesh_semantics.specs.Record.{ends_quiet}
use Rattle.record_check.specs.RecordJudgement.{LeadsTo, IsRunOf, StillMoves}

pub not_quiet : (p : ProgramTree) (ls : List Line) (d : Configuration) → ends_quiet ls ≡ false → LeadsTo p ls d → IsRunOf p ls
not_quiet p ls d e t = record { last = d; run_to = t; rests = λ h. absurd (let z : false ≡ true = sym e ∙ h in cc) }

pub at_rest : (p : ProgramTree) (ls : List Line) (d : Configuration) → ((lab : Label) → transition p d lab ≡ None) → LeadsTo p ls d → IsRunOf p ls
at_rest p ls d r t = record { last = d; run_to = t; rests = λ h. r }

pub still_moves : (p : ProgramTree) (ls : List Line) (d : Configuration) (o : ℕ) → ends_quiet ls ≡ true → HasOwnTransition p d o → ((lab : Label) → agent lab < o → transition p d lab ≡ None) → LeadsTo p ls d
    → StillMoves p ls o
still_moves p ls d o quiet can least t = record { last = d; run_to = t; quiet = quiet; can = can; least = λ q h m. none q h m.0 m.1 m.2 m.3 }
  where
    none : (q : ℕ) → q < o → (lab : Label) → agent lab ≡ q → (e : Configuration) → transition p d lab ≡ Some e → ⊥
    none q h lab i e k = let z : None ≡ Some e = sym (least lab (subst (λ (n : ℕ). n < o) (sym i) h)) ∙ k in cc
