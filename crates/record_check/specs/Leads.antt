-- What the checker has found after the labels of a record, in terms of the transition relation.
use Rattle.std.specs.Prelude.{◌≡◌, List, false}
use Rattle.pool_syntax.specs.Terms.{ProgramTree}
use Rattle.run_types.specs.declared.types.Label.{Label}
use Rattle.run_types.specs.declared.types.Line.{Line}
use Rattle.pool_relation.specs.Configuration.{Configuration}
use Rattle.pool_relation.specs.Progress.{agent}
use Rattle.pool_semantics.specs.PlainOf.{configuration_of, program_tree, is_spent}
use Rattle.pool_semantics.specs.Shown.{Shows}
use Rattle.record_check.specs.declared.labels.Followed.{Followed}
use Rattle.record_check.specs.declared.labels.Followed.TheVariants as F
use Rattle.record_check.specs.RecordJudgement.{LeadsTo, StopsAt}

-- either a line with an impossible transition, or the stepper has
-- the configuration after all labels and did not run out of memory
abbrev pub Leads : ProgramTree → List Line → Followed → Type 0
Leads p ls (F.Stopped s) = (d : Configuration) × (lab : Label) × StopsAt p ls s.number d lab × Shows p d (agent lab) s.redex
Leads p ls (F.Led plain) = LeadsTo p ls (configuration_of plain) × (program_tree plain ≡ p) × (is_spent plain ≡ false)
