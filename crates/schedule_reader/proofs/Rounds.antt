-- The turns and moves of a round, a node at a time.
use Rattle.std.proofs.Common.{◌≡◌, ℕ, Bool, true, false, List, [], ◌∷◌, ◌++◌, refl, ap, cond, filter, flat_map}
use Rattle.run_types.specs.declared.types.Event.{Event}
use Rattle.run_types.specs.declared.types.LinkId.{LinkId}
use Rattle.schedule_reader.specs.Entries.{has_link}
use Rattle.schedule_reader.specs.Events.{moves_to, round_on}

-- what a round asks of a link, if it is one
abbrev pub move_of : Bool → Bool → ℕ → ℕ → List Event
move_of lossy true a b = round_on lossy a b
move_of lossy false a b = []

-- the same of a node and of more, where there is a link to it
abbrev chosen : Bool → ℕ → ℕ → List ℕ → Bool → List Event
chosen lossy a b bs t = flat_map (round_on lossy a) (cond t (b ∷ bs) bs)

pub move_step : (w : ℕ) (cuts : List LinkId) (lossy : Bool) (a b : ℕ) (bs : List ℕ)
    → moves_to w cuts lossy a (b ∷ bs) ≡ move_of lossy (has_link w cuts a b) a b ++ moves_to w cuts lossy a bs
move_step w cuts lossy a b bs = by (has_link w cuts a b) refl where
  by : (t : Bool) → has_link w cuts a b ≡ t → moves_to w cuts lossy a (b ∷ bs) ≡ move_of lossy t a b ++ moves_to w cuts lossy a bs
  by true e = ap (chosen lossy a b (filter (has_link w cuts a) bs)) e
  by false e = ap (chosen lossy a b (filter (has_link w cuts a) bs)) e
