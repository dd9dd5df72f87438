-- The report after the last line, and after an impossible line.
use Rattle.std.proofs.Common.{◌≡◌, List, Option, Some, None, sym, subst}
use Rattle.std.specs.Prelude.{IfOk, Result, Ok, Err}
use Rattle.text_scan.specs.Text.{Text}
use Rattle.run_types.specs.declared.types.Line.{Line}
use Rattle.run_types.specs.declared.verdicts.Verdict.{Verdict}
use Rattle.pool_syntax.specs.Terms.{ProgramTree}
use Rattle.pool_relation.specs.Configuration.{Configuration}
use Rattle.pool_relation.specs.Transition.{run, start}
use Rattle.mesh_semantics.specs.Record.{labels}
use Rattle.record_check.specs.RecordJudgement.{Judged, LeadsTo, root}
use Rattle.watch_text.specs.Waits.{IsReport, IsWaits}

-- what follows from two facts of a value
pub both_ok : {A E : Type 0} {P Q R : A → Type 0} (r : Result A E) → ((x : A) → P x → Q x → R x) → IfOk r P → IfOk r Q → IfOk r R
both_ok (Ok x) f h k = f x h k
both_ok (Err e) f h k = h

module _ (names : List Text) (p : ProgramTree) (from to : Configuration) (ls : List Line) where
  -- the lines lead to this configuration
  pub reports_end : (text : Text) (v : Verdict) → start p (root ls) ≡ Some from → run p from (labels ls) ≡ Some to → (LeadsTo p ls to → Judged p ls v) → IsReport p names (Some to) text v → IsWaits p names ls text v
  reports_end text v begins leads judged report = record {
    judged = judged (record { from = from; starts = begins; leads = leads });
    from = from;
    starts = begins;
    report = subst (λ (o : Option Configuration). IsReport p names o text v) (sym leads) report;
  }

  -- the lines lead to none
  pub reports_stop : (text : Text) (v : Verdict) → start p (root ls) ≡ Some from → run p from (labels ls) ≡ None → Judged p ls v → IsReport p names None text v → IsWaits p names ls text v
  reports_stop text v begins stops judged report = record {
    judged = judged;
    from = from;
    starts = begins;
    report = subst (λ (o : Option Configuration). IsReport p names o text v) (sym stops) report;
  }
