-- Lines of a record whose class, method or string, if they name one, is in a table with `count` names. No line names two.
use Rattle.std.specs.Prelude.{◌≡◌, ◌⊎◌, ℕ, ◌<◌, List, [], ◌∷◌}
use Rattle.run_types.specs.declared.types.Item.{Item}
use Rattle.run_types.specs.declared.types.Item.TheVariants as I
use Rattle.run_types.specs.declared.types.Label.{Label}
use Rattle.run_types.specs.declared.types.Label.TheVariants as L
use Rattle.run_types.specs.declared.types.What.{What}
use Rattle.run_types.specs.declared.types.What.TheVariants as W
use Rattle.run_types.specs.declared.types.Line.{Line}

abbrev pub IsKnownItem : ℕ → Item → Type 0
IsKnownItem count (I.Value v) = Unit {0}
IsKnownItem count (I.Text s) = s.0 < count

abbrev pub IsKnownLabel : ℕ → Label → Type 0
IsKnownLabel count (L.Local o) = Unit {0}
IsKnownLabel count (L.New o n c) = c.0 < count
IsKnownLabel count (L.Answer b o m args) = m.0 < count
IsKnownLabel count (L.Return b o v) = Unit {0}
IsKnownLabel count (L.Send o b m args) = m.0 < count
IsKnownLabel count (L.Take b s m args) = m.0 < count
IsKnownLabel count (L.Write o item) = IsKnownItem count item
IsKnownLabel count (L.Pick o i) = Unit {0}
IsKnownLabel count (L.Fault o e) = Unit {0}

-- the class, method or string that the line names, if any, is in the table
abbrev pub IsKnownIn : ℕ → What → Type 0
IsKnownIn count (W.Step label times) = IsKnownLabel count label
IsKnownIn count (W.PostCreate o c goal) = c.0 < count
IsKnownIn count (W.PostCall o b m args) = m.0 < count
IsKnownIn count (W.Arrive o r m) = m.0 < count
IsKnownIn count (W.Created o name) = Unit {0}
IsKnownIn count (W.Result o v) = Unit {0}
IsKnownIn count W.Pass = Unit {0}
IsKnownIn count W.Idle = Unit {0}
IsKnownIn count (W.Frame k) = Unit {0}
IsKnownIn count (W.Lost k) = Unit {0}
IsKnownIn count (W.Stale k) = Unit {0}
IsKnownIn count (W.Acked k) = Unit {0}
IsKnownIn count (W.Late k) = Unit {0}

-- the line is one of these
abbrev pub HasLine : Line → List Line → Type 0
HasLine z [] = ⊥
HasLine z (y ∷ ys) = (y ≡ z) ⊎ HasLine z ys
