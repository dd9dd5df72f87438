use Rattle.std.proofs.Common.{◌∙◌, ◌++◌, take, ap, subst, sym}
use Rattle.text_scan.specs.Text.{Text}
use Rattle.pool_syntax.specs.TreeOf.{program_of}
use Rattle.command_shell.specs.Writing.{Wrote, WroteFront, writing}
use Rattle.explore_driver.specs.FollowSteps.{PieceEnds}
use Rattle.explore_driver.proofs.FollowLaws.{piece_cut, piece_made}
use Rattle.explore_driver.proofs.follow.follow_piece.Goals as goal

pub returns-in-Ok-write_all_of : goal.returns-in-Ok-write_all_of
returns-in-Ok-write_all_of g c fills s read =
    let h = c.in-Ok.ensures fills s read in
    let p = program_of c.args.program.now.program.now in
    let w = writing g.K.Sink.written g.K.Sink.faults c.args.out.now c.write_all_of.new.sink in
    let text = c.deref.ensures.value ∙ h.1 ∙ ap (λ (t : Text). t ++ h.0) c.new-text.ensures.items in
    let wrote = subst (λ (t : Text). Wrote w t) text (c.in-Ok-write_all_of.ensures.whole, c.in-Ok-write_all_of.ensures.no_fault) in
    subst (λ r. PieceEnds fills p c.args.names.now s (take c.args.taken c.args.room.now) w c.read.new.self r) (sym c.end_by.ensures) (piece_made fills p c.args.names.now s (take c.args.taken c.args.room.now) w c.read.new.self c.in-Ok.stop h.0 h.2 h.3 wrote)

pub returns : goal.returns
returns g c fills s read =
    let h = c.in-Ok.ensures fills s read in
    let p = program_of c.args.program.now.program.now in
    let w = writing g.K.Sink.written g.K.Sink.faults c.args.out.now c.write_all_of.new.sink in
    let text = c.deref.ensures.value ∙ h.1 ∙ ap (λ (t : Text). t ++ h.0) c.new-text.ensures.items in
    let front = subst (λ (t : Text). WroteFront w t) text (record { front = c.in-Err-write_all_of.ensures.front; rose = c.in-Err-write_all_of.ensures.failed }) in
    piece_cut fills p c.args.names.now s (take c.args.taken c.args.room.now) w c.read.new.self c.in-Ok.stop h.0 h.2 front
