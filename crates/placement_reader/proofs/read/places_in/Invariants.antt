use Rattle.std.proofs.Common.{◌≡◌, ◌-◌, ◌++◌, map}
use Rattle.std.specs.List.{range_with_len}
use Rattle.placement_reader.specs.Forms.{place_or_same, spot_in}
use Rattle.placement_reader.specs.Placements.{places_of}
use Rattle.placement_reader.proofs.read.places_in.Given as goal

-- the places so far and those that are left are all
abbrev pub invariant-loop-class : goal.invariant-loop-class
invariant-loop-class l =
    l.places ++ map (λ c. place_or_same (spot_in c l.forms)) (range_with_len l.class (l.count - l.class)) ≡ places_of l.count l.forms
