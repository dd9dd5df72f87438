use Rattle.std.proofs.Common.{◌≡◌, drop}
use Rattle.record_parser.specs.Fields.{point_from}
use Rattle.record_parser.proofs.spelled.point.Given as goal

-- no byte so far is a point
abbrev pub invariant-loop-place : goal.invariant-loop-place
invariant-loop-place l = point_from l.place (drop l.place l.word) ≡ point_from 0 l.word
