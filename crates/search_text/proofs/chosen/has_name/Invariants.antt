use Rattle.std.proofs.Common.{◌≡◌, drop}
use Rattle.search_text.specs.ChosenRows.{has_name}
use Rattle.search_text.proofs.chosen.has_name.Given as goal

-- the names that are left tell what all tell
abbrev pub invariant-loop-one : goal.invariant-loop-one
invariant-loop-one l = has_name (drop l.one-index l.names) l.name ≡ has_name l.names l.name
