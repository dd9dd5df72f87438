-- These bytes were read, the judge goes on, and the text for them was written.
use Rattle.std.proofs.Common.{◌≡◌, true, length}
use Rattle.pool_syntax.specs.TreeOf.{program_of}
use Rattle.command_shell.specs.Writing.{writing}
use Rattle.explore_driver.proofs.FollowLaws.{ReadSoFar}
use Rattle.explore_driver.proofs.follow.follow_open.Given as goal

abbrev pub invariant-loop-reads : goal.invariant-loop-reads
invariant-loop-reads g l =
    let files = g.F.Files in
    record {
      followed : ReadSoFar l.fn.judge.fills (program_of l.program.program.now) l.names l.judge (files.rest l.fn.files) (files.rest l.files) (files.given l.files) l._reads (writing g.K.Sink.written g.K.Sink.faults l.fn.out l.out);
      live : files.live l.files ≡ true;
      room : length l.piece.items ≡ 65536;
      opens : files.opens l.files ≡ files.opens l.fn.files;
      faults : files.faults l.files ≡ files.faults l.fn.files;
      told : files.told l.files ≡ files.told l.fn.files;
    }
