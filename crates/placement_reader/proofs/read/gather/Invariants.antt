use Rattle.std.proofs.Common.{◌≡◌, ◌+◌, ◌-◌, ◌≤◌, [], length, drop}
use Rattle.text_scan.specs.Lines.{lines}
use Rattle.text_scan.specs.ContentLines.{kept_from}
use Rattle.placement_reader.specs.ReaderFacts.{AreWellFormed}
use Rattle.placement_reader.specs.Placements.{first_fault, forms_of}
use Rattle.placement_reader.proofs.read.gather.Given as goal

-- what the lines that are left give after these forms is what all give
abbrev pub invariant-loop-found : goal.invariant-loop-found
invariant-loop-found l =
    let all = kept_from l.line (lines (drop l.from l.bytes)) in
    let left = kept_from l.number (lines (drop l.at l.bytes)) in
    record {
      within : l.at ≤ length l.bytes;
      few : l.number ≤ l.at + 1;
      fine : AreWellFormed l.nodes l.forms.items;
      fault : first_fault l.unit l.width l.nodes [] all ≡ first_fault l.unit l.width l.nodes l.forms.items left;
      forms : forms_of l.unit [] all ≡ forms_of l.unit l.forms.items left;
    }

abbrev pub decreases-loop-found : goal.decreases-loop-found
decreases-loop-found l = length l.bytes - l.at
