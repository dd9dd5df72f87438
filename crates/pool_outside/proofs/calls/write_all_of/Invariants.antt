-- The bytes written so far are the prefix of the piece up to `at`.
use Rattle.std.proofs.Common.{length, ◌-◌, ◌≡◌, ◌≤◌, ◌++◌, take, option_map}
use Rattle.pool_outside.proofs.calls.write_all_of.Given as goal

abbrev pub invariant-loop-at : goal.invariant-loop-at
invariant-loop-at g l =
    let written = g.K.Sink.written in
    record {
      within : l.at ≤ length l.piece;
      so_far : written l.sink ≡ option_map (λ w. w ++ take l.at l.piece) (written l.fn.sink);
      faults : g.K.Sink.faults l.sink ≡ g.K.Sink.faults l.fn.sink;
    }

abbrev pub decreases-loop-at : goal.decreases-loop-at
decreases-loop-at g l = length l.piece - l.at
