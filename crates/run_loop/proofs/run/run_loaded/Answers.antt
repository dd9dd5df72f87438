use Rattle.std.proofs.Common.{◌≡◌, ◌∙◌, Bool, [], refl, sym, ap, subst}
use Rattle.run_types.specs.declared.types.Placement.{Placement}
use Rattle.code_semantics.specs.declared.unit.Unit.{Unit as Code}
use Rattle.code_semantics.specs.Suits.{Suits}
use Rattle.pool_machine.specs.MachineOf.{MachineOf}
use Rattle.pool_machine.specs.Answers.{IsStart}
use Rattle.pool_machine.specs.SentPackets.{nothing_sent}
use Rattle.mesh_of_code.specs.Coded.{coded}
use Rattle.mesh_semantics.specs.Record.{start}
use Rattle.mesh_of_code.proofs.Laws.{start_there}
use Rattle.run_loop.specs.FinishedRun as R
use Rattle.run_loop.specs.RunOutput.{IsLoaded, IsTableOf}
use Rattle.run_loop.proofs.DriveLaws.{from_start, has_run, made_of}
use Rattle.run_loop.proofs.FinishedRuns.{was_halted}
use Rattle.run_loop.proofs.run.run_loaded.Goals as goal

-- a machine of a table is a machine of the placement that the table represents
of_table : {u : Code} {p l : Placement} {wired : Bool} {m : MachineOf} → p ≡ l → IsStart u p wired m → IsStart u l wired m
of_table {u} {p} {l} {wired} {m} same s = subst (λ (x : Placement). IsStart u x wired m) same s

pub on_table-requires-clause-proper : goal.on_table-requires-clause-proper
on_table-requires-clause-proper g c = c.requires.proper

pub on_table-requires-clause-suits : goal.on_table-requires-clause-suits
on_table-requires-clause-suits g c = subst (λ (l : Placement). Suits l c.args.loaded.now.unit) (sym c.of-table.ensures) c.requires.suits

pub drive-requires-clause-loaded : goal.drive-requires-clause-loaded
drive-requires-clause-loaded g c =
    let s = of_table c.of-table.ensures c.in-Ok-on_table.ensures in
    subst (λ (u : Code). IsLoaded u c.in-Ok-on_table.machine.placement c.args.loaded.now.schedule) (sym s.unit)
    (subst (λ (l : Placement). IsLoaded c.args.loaded.now.unit l c.args.loaded.now.schedule) (sym s.placement) c.requires)

pub drive-requires-clause-table : goal.drive-requires-clause-table
drive-requires-clause-table g c = ap (λ (u : Code). u.names) (sym (of_table c.of-table.ensures c.in-Ok-on_table.ensures).unit)

pub drive-requires-clause-fresh : goal.drive-requires-clause-fresh
drive-requires-clause-fresh g c = (of_table c.of-table.ensures c.in-Ok-on_table.ensures).done

pub drive-requires-clause-unmoved : goal.drive-requires-clause-unmoved
drive-requires-clause-unmoved g c = (of_table c.of-table.ensures c.in-Ok-on_table.ensures).moves

pub drive-requires-clause-still : goal.drive-requires-clause-still
drive-requires-clause-still g c = (of_table c.of-table.ensures c.in-Ok-on_table.ensures).transitions

pub drive-requires-clause-begun : goal.drive-requires-clause-begun
drive-requires-clause-begun g c =
    let u = c.args.loaded.now.unit in
    let l = c.args.loaded.now.placement in
    let s = made_of u l c.lossy-lossy.result c.args.loaded.now.schedule c.in-Ok-on_table.machine c.lossy-lossy.ensures (of_table c.of-table.ensures c.in-Ok-on_table.ensures) in
    let first = start_there u c.requires.proper l in
    record {
      config = first.0;
      starts = ap (λ (v : Code). start (coded v) c.in-Ok-on_table.machine.placement) s.unit ∙ ap (λ (k : Placement). start (coded u) k) s.placement ∙ first.1;
      stands = s.stands first.0 first.1;
    }

pub drive-requires-clause-wired : goal.drive-requires-clause-wired
drive-requires-clause-wired g c = (of_table c.of-table.ensures c.in-Ok-on_table.ensures).lossy ∙ c.lossy-lossy.ensures

pub drive-requires-clause-posts : goal.drive-requires-clause-posts
drive-requires-clause-posts g c = subst (λ (l : Placement). IsTableOf l c.in-Ok.asks []) (sym (of_table c.of-table.ensures c.in-Ok-on_table.ensures).placement) c.in-Ok.ensures

pub returns-in-Ok-drive : goal.returns-in-Ok-drive
returns-in-Ok-drive g c =
    let u = c.args.loaded.now.unit in
    let l = c.args.loaded.now.placement in
    let plan = c.args.loaded.now.schedule in
    let d = nothing_sent plan.lossy in
    let s = made_of u l c.lossy-lossy.result plan c.in-Ok-on_table.machine c.lossy-lossy.ensures (of_table c.of-table.ensures c.in-Ok-on_table.ensures) in
    let first = start_there u c.requires.proper l in
    let drives = from_start c.args.show u l plan first.0 d c.in-Ok-on_table.machine _ _ _ s.unit s.placement (c.in-Ok-drive.ensures first.0 d (s.stands first.0 first.1)) in
    R.driven _ first.0 refl first.1 (has_run c.args.show u l plan first.0 d _ _ c.in-Ok-drive.last drives)

pub returns-in-Ok-on_table : goal.returns-in-Ok-on_table
returns-in-Ok-on_table g c =
    let u = c.args.loaded.now.unit in
    let l = c.args.loaded.now.placement in
    let plan = c.args.loaded.now.schedule in
    let d = nothing_sent plan.lossy in
    let s = made_of u l c.lossy-lossy.result plan c.in-Ok-on_table.machine c.lossy-lossy.ensures (of_table c.of-table.ensures c.in-Ok-on_table.ensures) in
    let first = start_there u c.requires.proper l in
    let drives = from_start c.args.show u l plan first.0 d c.in-Ok-on_table.machine _ _ _ s.unit s.placement (c.in-Err-drive.ensures first.0 d (s.stands first.0 first.1)) in
    was_halted c.args.loaded.now c.args.show _ _ first.0 _ first.1 drives

pub returns-in-Err : goal.returns-in-Err
returns-in-Err g c = R.lacks refl (refl, refl)

pub returns : goal.returns
returns g c = R.lacks refl (refl, refl)
