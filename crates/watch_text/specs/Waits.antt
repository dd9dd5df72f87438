-- The report on the configuration that a record leads to: the status of each object, in the words of `why`.
use Rattle.std.specs.Prelude.{◌≡◌, ℕ, List, [], ◌∷◌, ◌++◌, Option, Some, None}
use Rattle.text_scan.specs.Text.{Text}
use Rattle.run_types.specs.declared.types.Line.{Line}
use Rattle.run_types.specs.declared.types.Standing.{Standing}
use Rattle.run_types.specs.declared.types.Standing.TheVariants as Z
use Rattle.run_types.specs.declared.verdicts.Verdict.{Verdict}
use Rattle.pool_syntax.specs.Terms.{ProgramTree}
use Rattle.pool_relation.specs.Action as A
use Rattle.pool_relation.specs.Action.{Action, Object, action}
use Rattle.pool_relation.specs.Configuration.{Configuration}
use Rattle.pool_relation.specs.Progress.{HasOwnTransition}
use Rattle.pool_relation.specs.Transition.{run, start}
use Rattle.mesh_semantics.specs.Record.{labels}
use Rattle.record_check.specs.RecordJudgement.{Judged, root}
use Rattle.record_check.specs.VerdictText.{verdict_text}
use Rattle.wait_report.specs.declared.rows.ObjectRow.{ObjectRow}
use Rattle.wait_report.specs.Report.{report_text}

-- the object is at a call of the method m of b, or in one
abbrev pub IsCalling : Action → ℕ → ℕ → Type 0
IsCalling (A.Send b m args) q n = (b ≡ q) × (m ≡ n)
IsCalling (A.Waits b m) q n = (b ≡ q) × (m ≡ n)
IsCalling _ q n = ⊥

-- the object is at an answer or a select
abbrev pub IsServing : Action → Type 0
IsServing (A.Answer names) = Unit {0}
IsServing (A.Select choices) = Unit {0}
IsServing _ = ⊥

-- The status of the object x of this name. It is ready if it can make a transition of its own; it awaits if it is at an
-- answer or select that can accept nothing. Delays have no part in it.
abbrev pub Stands : ProgramTree → Configuration → ℕ → Object → Standing → Type 0
Stands p c o x Z.Ready = HasOwnTransition p c o
Stands p c o x Z.Finished = (x.fault ≡ None) × (action p o x ≡ A.Finished)
Stands p c o x (Z.Faulted e) = x.fault ≡ Some e
Stands p c o x (Z.Calls b m) = (x.fault ≡ None) × IsCalling (action p o x) b m.0
Stands p c o x Z.Awaits = (x.fault ≡ None) × IsServing (action p o x) × (HasOwnTransition p c o → ⊥)
Stands p c o x (Z.Creates k n) = ⊥
Stands p c o x Z.Due = ⊥

-- a row for each of the objects, in their order
abbrev pub AreRows : ProgramTree → Configuration → List (ℕ × Object) → List ObjectRow → Type 0
AreRows p c [] [] = Unit {0}
AreRows p c (e ∷ es) (r ∷ rs) = (r.name ≡ e.0) × (r.class.0 ≡ e.1.class) × Stands p c e.0 e.1 r.standing × AreRows p c es rs
AreRows p c _ _ = ⊥

-- if each line is possible, a row for each object of the last configuration and a line for each cycle of calls; and the
-- verdict
abbrev pub IsReport : ProgramTree → List Text → Option Configuration → Text → Verdict → Type 0
IsReport p names None text v = text ≡ verdict_text names v
IsReport p names (Some d) text v = (rows : List ObjectRow) × AreRows p d d.objects rows × (text ≡ report_text names rows ++ verdict_text names v)

-- The verdict is that of `check`. The text is the report on the configuration that the lines lead to, and the verdict.
pub record IsWaits (p : ProgramTree) (names : List Text) (ls : List Line) (text : Text) (verdict : Verdict) : Type 0 where
  pub judged : Judged p ls verdict
  pub from : Configuration
  pub starts : start p (root ls) ≡ Some from
  pub report : IsReport p names (run p from (labels ls)) text verdict
