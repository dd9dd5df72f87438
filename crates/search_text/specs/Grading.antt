-- Grading: which outcomes are allowed, given the outputs that a program may write.
use Rattle.std.specs.Prelude.{List, [], ◌∷◌, ◌&&◌, ◌||◌, Bool, true, false, bytes_eq, map}
use Rattle.text_scan.specs.Text.{Text}
use Rattle.record_writer.specs.RecordText.{item_text, joined}
use Rattle.pool_search.specs.declared.outcomes.EndKind.{EndKind}
use Rattle.pool_search.specs.declared.outcomes.EndKind.TheVariants as K
use Rattle.pool_search.specs.declared.outcomes.Outcome.{Outcome}

-- no object has met a run-time error or is in a call
abbrev pub ends_well : EndKind → Bool
ends_well K.Fault = false
ends_well K.Stuck = false
ends_well K.Left = true
ends_well K.Done = true

-- the items as in the line of an outcome, with one space between them
abbrev pub output_text : List Text → Outcome → Text
output_text names o = joined (map (item_text names) o.items.items)

abbrev pub is_one_of : Text → List Text → Bool
is_one_of w [] = false
is_one_of w (x ∷ xs) = bytes_eq w x || is_one_of w xs

-- the run ended well, and wrote one of these outputs
abbrev pub is_allowed : List Text → List Text → Outcome → Bool
is_allowed allowed names o = ends_well o.kind && is_one_of (output_text names o) allowed
