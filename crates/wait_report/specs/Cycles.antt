-- The cycles of calls, by indices of objects.
use Rattle.std.specs.Prelude.{◌≡◌, ◌≢◌, ℕ, ◌<◌, List, [], ◌∷◌, length, get_or, map, Option, Some, None, Bool, true, false, ◌==◌, nat_lt, if◌then◌else◌}
use Rattle.text_scan.specs.Text.{Text}
use Rattle.mesh_semantics.specs.Standing.{chase}
use Rattle.wait_report.specs.Report.{cycle_line}

-- the index that comes after this one
abbrev pub jump : List (Option ℕ) → ℕ → Option ℕ
jump next k = get_or next k None

-- each index that comes after one is within the list
abbrev pub AreWithin : List (Option ℕ) → Type 0
AreWithin next = (k j : ℕ) → jump next k ≡ Some j → j < length next

-- the line of a cycle of these indices, if there is one
abbrev pub cycle_at : List ℕ → Option (List ℕ) → Text
cycle_at numbers None = []
cycle_at numbers (Some ns) = cycle_line (map (λ k. get_or numbers k 0) ns)

-- each index from which a cycle is reported is marked
abbrev pub AreStarts : List (Option ℕ) → List Bool → Type 0
AreStarts next starts = (i : ℕ) → i < length next → chase (jump next) (length next) i i ≢ None → get_or starts i false ≡ true

-- the least of a number and other numbers
abbrev pub least_of : ℕ → List ℕ → ℕ
least_of l [] = l
least_of l (x ∷ xs) = least_of (if nat_lt x l then x else l) xs

-- the least index of the path, from the first `at` on
abbrev pub least_from : ℕ → List ℕ → Option ℕ
least_from at [] = None
least_from at (x ∷ xs) = if x == at then Some (least_of x xs) else least_from at xs

-- The index after a seen index is seen. Each seen index from which a cycle is reported is marked.
pub record IsMarked (next : List (Option ℕ)) (seen starts : List Bool) : Type 0 where
  pub seen_many : length seen ≡ length next
  pub starts_many : length starts ≡ length next
  pub closed : (k j : ℕ) → get_or seen k false ≡ true → jump next k ≡ Some j → get_or seen j false ≡ true
  pub starts_at : (i : ℕ) (ns : List ℕ) → get_or seen i false ≡ true → chase (jump next) (length next) i i ≡ Some ns → get_or starts i false ≡ true
