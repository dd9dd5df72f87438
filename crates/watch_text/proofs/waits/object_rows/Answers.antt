use Rattle.std.proofs.Common.{List, false, refl, sym, ap, subst, ◌∙◌}
use Rattle.std.proofs.Math.Logic.{∥∥₁_map}
use Rattle.std.proofs.result.Match.{if_ok_then}
use Rattle.pool_syntax.specs.TreeOf.{program_of}
use Rattle.pool_semantics.specs.declared.plain.state.State.{State}
use Rattle.pool_semantics.specs.PlainOf.{configuration_of, program_tree}
use Rattle.pool_semantics.specs.Sound.{Sound}
use Rattle.pool_semantics.proofs.Laws.{sound_now}
use Rattle.stepper_objects.specs.ObjectStates.{things}
use Rattle.wait_report.specs.declared.rows.ObjectRow.{ObjectRow}
use Rattle.wait_report.specs.Calls.{names_of, Rising}
use Rattle.watch_text.specs.ObjectRows.{rows_of}
use Rattle.watch_text.specs.Waits.{AreRows}
use Rattle.watch_text.proofs.ObjectStandings.{are_rows, names_rise}
use Rattle.watch_text.proofs.waits.object_rows.Goals as goal

pub returns-clause-rows : goal.returns-clause-rows
returns-clause-rows c =
    let plain = c.args.plain.now in
    let p = program_tree plain in
    let d = configuration_of plain in
    let movers = c.in_ok-movers.movers in
    let sound : Sound p d = sound_now false p d (∥∥₁_map (c.state-state.ensures.sound c.requires) (λ s _. s)) refl in
    let same = ap (λ (s : State). rows_of movers (program_of s.program.now) (things s.objects.entries)) c.state-state.ensures.state in
    if_ok_then c.rows_of.result _ _
    (λ rows e. subst (AreRows p d d.objects) (sym (e ∙ same)) (are_rows p d sound movers c.in_ok-movers.ensures.all c.in_ok-movers.ensures.only))
    c.rows_of.ensures

pub returns-clause-rising : goal.returns-clause-rising
returns-clause-rising c =
    let plain = c.args.plain.now in
    let p = program_tree plain in
    let d = configuration_of plain in
    let movers = c.in_ok-movers.movers in
    let sound : Sound p d = sound_now false p d (∥∥₁_map (c.state-state.ensures.sound c.requires) (λ s _. s)) refl in
    let same = ap (λ (s : State). rows_of movers (program_of s.program.now) (things s.objects.entries)) c.state-state.ensures.state in
    if_ok_then c.rows_of.result _ _
    (λ rows e. subst (λ (rs : List ObjectRow). Rising (names_of rs)) (sym (e ∙ same)) (names_rise movers p d.objects sound.typed.in_order.0))
    c.rows_of.ensures
