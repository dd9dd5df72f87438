-- The limits on the declarations and operands of a program.
use Rattle.std.specs.Prelude.{ℕ}

-- the largest number of classes of a program
abbrev pub most_classes : ℕ
most_classes = 256

-- the largest number of methods of a class
abbrev pub most_methods : ℕ
most_methods = 64

-- the largest number of variables of a class
abbrev pub most_variables : ℕ
most_variables = 64

-- the largest number of parameters of a method
abbrev pub most_params : ℕ
most_params = 8

-- the largest number of parameters and locals of a method together
abbrev pub most_locals : ℕ
most_locals = 32

-- one more than the largest number of operands that are held when an expression begins
abbrev pub most_operands : ℕ
most_operands = 64
