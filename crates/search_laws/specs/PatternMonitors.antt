-- The monitor of a pattern: its state is what is left of the pattern after the items that were written.
use Rattle.patterns.specs.Patterns.{Pattern, after_item}
use Rattle.search_laws.specs.Monitors.{Monitor}

abbrev pub left_of : Pattern → Monitor Pattern
left_of r = record { first = r; next = after_item }
