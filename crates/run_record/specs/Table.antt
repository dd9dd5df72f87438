-- The invariant of a table by node and slot: it has the number of the latest post of each of its objects.
use Rattle.std.specs.Prelude.{◌≡◌, ℕ, ◌+◌, ◌*◌, ◌/◌, ◌%◌, ◌<◌, List, get_or, Some, Bool, true, false}
use Rattle.run_types.specs.declared.types.Line.{Line}
use Rattle.run_types.specs.declared.types.Line.TheVariants as R
use Rattle.run_types.specs.Asks.{asker, latest_post, is_post_of}
use Rattle.run_record.specs.declared.asks.Asks.{Asks}

-- the object is in one of the table's nodes and slots
abbrev pub InTable : Asks → ℕ → Type 0
InTable a o = (o / 65536 < a.nodes) × (o % 65536 < a.objects)

abbrev pub place_of : Asks → ℕ → ℕ
place_of a o = o / 65536 * a.objects + o % 65536

-- the table has the posts of these lines, the latest line first
abbrev pub HasLast : Asks → List Line → Type 0
HasLast a earlier = (o : ℕ) → InTable a o → get_or a.last.items (place_of a o) 0 ≡ latest_post o earlier

-- whether the line posts a request of the object
abbrev pub posts_at : ℕ → Line → Bool
posts_at o (R.Event n e what) = is_post_of o what
posts_at o (R.End end) = false

-- the objects whose requests the line answers or posts are in the table
abbrev pub AreInTable : Asks → Line → Type 0
AreInTable a l = ((o : ℕ) → asker l ≡ Some o → InTable a o) × ((o : ℕ) → posts_at o l ≡ true → InTable a o)
