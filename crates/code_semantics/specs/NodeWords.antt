-- The number of memory words that the nodes of a placement take.
use Rattle.std.specs.Prelude.{ℕ, ◌+◌, ◌*◌, List, [], ◌∷◌, if◌then◌else◌, nat_le}
use Rattle.run_types.specs.declared.types.Placement.{Placement}
use Rattle.code_semantics.specs.declared.unit.ClassCode.{ClassCode}

-- the number of nodes of the mesh
abbrev pub nodes : Placement → ℕ
nodes l = l.width * l.height

-- the greatest number of variables of a class
abbrev pub most_vars : List ClassCode → ℕ
most_vars [] = 0
most_vars (k ∷ ks) = if nat_le k.vars (most_vars ks) then most_vars ks else k.vars

-- the words that the nodes take: a variable 1, a frame 96, a message 24
abbrev pub words : Placement → ℕ → ℕ
words l vars = nodes l * (l.objects * vars + l.frames * 96 + l.cells * 24)
