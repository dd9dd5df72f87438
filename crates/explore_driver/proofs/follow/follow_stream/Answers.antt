use Rattle.std.proofs.Common.{◌∙◌, [], ap, refl, sym}
use Rattle.pool_syntax.specs.TreeOf.{program_of}
use Rattle.pool_outside.specs.Reading.{Told}
use Rattle.pool_outside.proofs.Laws.{append_nothing}
use Rattle.stream_check.proofs.Laws.{read_is_followed}
use Rattle.explore_driver.specs.FollowSteps.{so_far}
use Rattle.explore_driver.proofs.FollowLaws.{given_none, none_read, stream_since}
use Rattle.explore_driver.proofs.follow.follow_stream.Goals as goal

pub returns-in-Ok-clause-ends : goal.returns-in-Ok-clause-ends
returns-in-Ok-clause-ends g c =
    let h = c.in-Ok.ensures in
    let name = c.args.name.now in
    stream_since c.args.judge.now.fills (program_of c.args.program.now.program.now) c.args.names.now name _ _ c.follow_open.result (g.F.Files.told c.args.files.now) (g.F.Files.opens c.args.files.now) (g.F.Files.faults c.args.files.now)
    h.same_texts h.no_fault (c.follow_open.ensures.ends name (h.entered.0 ∙ ap (λ (f : Told). f name) (sym h.same_texts)))

pub returns-in-Err-clause-ends : goal.returns-in-Err-clause-ends
returns-in-Err-clause-ends g c =
    let h = c.in-Err.ensures in (
      [],
      so_far c.args.names.now [],
      refl,
      read_is_followed c.args.judge.now.fills (program_of c.args.program.now.program.now) c.args.names.now [] c.args.judge.now c.requires.fresh,
      record { front = none_read (g.F.Files.told c.args.files.now c.args.name.now); given = given_none _ h.none_given },
      h.failed.0,
      (append_nothing (g.K.Sink.written c.args.out.now), refl),
    )
