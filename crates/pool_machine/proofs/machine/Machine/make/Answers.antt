use Rattle.std.proofs.Common.{sym, subst}
use Rattle.std.specs.Prelude.{IfOk}
use Rattle.run_types.specs.declared.types.Placement.{Placement}
use Rattle.code_semantics.specs.Suits.{Suits}
use Rattle.pool_machine.specs.Answers.{IsStart}
use Rattle.pool_machine.proofs.machine.Machine.make.Goals as goal

pub on_table-requires : goal.on_table-requires
on_table-requires c = record {
  suits = subst (λ (p : Placement). Suits p c.args.unit.now) (sym c.in-Ok.ensures.ok.0) c.requires.suits;
  proper = c.requires.proper;
}

pub returns-in-Ok : goal.returns-in-Ok
returns-in-Ok c = subst (λ (p : Placement). IfOk c.on_table.result (λ m. IsStart c.args.unit.now p c.args.lossy m)) c.in-Ok.ensures.ok.0 c.on_table.ensures
