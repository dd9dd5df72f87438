-- Tables of lists as the links of a mesh: how a value goes last on a link, and the number of packets that leave a
-- node.
use Rattle.std.specs.Prelude.{ℕ, List, [], ◌∷◌, ◌++◌, ◌==◌, length, sum_by, if◌then◌else◌}
use Rattle.std.specs.declared.cmp.Ordering.{Ordering}
use Rattle.std.specs.FinMap.{put}
use Rattle.run_types.specs.Tables.{Pair, list_at}

-- appends a value to the list under a key
abbrev pub push_list : {K X : Type 0} → (K → K → Ordering) → K → X → List (K × List X) → List (K × List X)
push_list R k x es = put R k (list_at R k es ++ x ∷ []) es

-- the number of packets on the links that leave the node n
abbrev pub leaving : {X : Type 0} → List (Pair × List X) → ℕ → ℕ
leaving links n = sum_by (λ e. if e.0.0 == n then length e.1 else 0) links
