-- The numbers of the class faults, from 1: of two faults at one token, the one with the smaller number is reported.
use Rattle.std.specs.Prelude.{ℕ}

abbrev pub class_twice : ℕ
class_twice = 1

abbrev pub unknown_class : ℕ
unknown_class = 2

abbrev pub variable_twice : ℕ
variable_twice = 3

abbrev pub method_twice : ℕ
method_twice = 4

abbrev pub local_twice : ℕ
local_twice = 5

abbrev pub unknown_variable : ℕ
unknown_variable = 6

abbrev pub unknown_method : ℕ
unknown_method = 7

abbrev pub argument_count : ℕ
argument_count = 8

abbrev pub type_differs : ℕ
type_differs = 9

abbrev pub no_result : ℕ
no_result = 10

abbrev pub answer_name : ℕ
answer_name = 11

abbrev pub limit : ℕ
limit = 12
