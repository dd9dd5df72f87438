use Rattle.std.proofs.Common.{◌≡◌, ◌-◌, ◌≤◌, length, Some}
use Rattle.std.specs.Prelude.{◌++◌, option_map}
use Rattle.record_parser.specs.Fields.{values_within}
use Rattle.record_parser.specs.TextParts.{parts_left}
use Rattle.run_types.specs.Partial.{◌>>=◌}
use Rattle.record_parser.proofs.shown.args_in.Given as goal

-- the values so far and those that are left are all
abbrev pub invariant-loop-left : goal.invariant-loop-left
invariant-loop-left l =
    record {
      few : length l.args ≤ 8;
      values : (values_within (8 - length l.args) (parts_left 32 (option_map (λ t. t.now) l.left)) >>= λ vs. Some (l.args ++ vs)) ≡ values_within 8 (parts_left 32 (option_map (λ t. t.now) l.rest));
    }

abbrev pub decreases-loop-left : goal.decreases-loop-left
decreases-loop-left l = length (parts_left 32 (option_map (λ t. t.now) l.left))
