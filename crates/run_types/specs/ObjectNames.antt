-- The parts of an object's name: its node is the name div 65536, and its slot is the name mod 65536.
use Rattle.std.specs.Prelude.{ℕ, ◌/◌, ◌%◌}

-- the node of a name
abbrev pub node_of : ℕ → ℕ
node_of name = name / 65536

-- the slot of a name
abbrev pub slot_of : ℕ → ℕ
slot_of name = name % 65536
