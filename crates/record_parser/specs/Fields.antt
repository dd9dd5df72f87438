-- The parts of a text between separators, and the numbers, names and values that a part spells.
use Rattle.std.specs.Prelude.{ℕ, zero, suc, ◌+◌, ◌-◌, ◌*◌, ℤ, pos, negsuc, List, [], ◌∷◌, length, Option, Some, None, Bool, true, false, ◌&&◌, ◌||◌, is_none, nat_eq, nat_le, nat_lt, bytes_eq, codes}
use Rattle.std.specs.Prelude.{decimal, slice_index, slice_range, neg_ℤ}
use Rattle.run_types.specs.Partial.{◌>>=◌, only_if}
use Rattle.text_scan.specs.Text.{Text, every, is_digit, is_inner, is_letter, is_word, lookup}
use Rattle.text_scan.specs.Keywords.{keywords}
use Rattle.run_types.specs.declared.types.Value.{Value}
use Rattle.run_types.specs.declared.types.Value.TheVariants as V
use Rattle.run_types.specs.declared.types.Error.{Error}
use Rattle.run_types.specs.declared.types.Error.TheVariants as error
use Rattle.text_scan.specs.Lines.{at_front, decimal_of}
use Rattle.text_scan.specs.declared.spans.Decimal.{Decimal}
use Rattle.text_scan.specs.declared.spans.Decimal.TheVariants.{NotDigits, TooLarge, Value as Spelled}

-- the parts before, between and after the separators, including empty parts
abbrev pub parts : ℕ → Text → List Text
parts s [] = [] ∷ []
parts s (b ∷ bs) = elim (nat_eq b s) [ true ↦ [] ∷ parts s bs | false ↦ at_front b (parts s bs) ]

abbrev pub fields : Text → List Text
fields s = parts 32 s

abbrev pub spelled_below : ℕ → Text → Decimal → Option ℕ
spelled_below limit w NotDigits = None
spelled_below limit w TooLarge = None
spelled_below limit w (Spelled n) = only_if (nat_lt n limit && bytes_eq (decimal n) w) (Some n)

-- the number below a limit whose decimal text is the word, without leading zeros
abbrev pub number_of : ℕ → Text → Option ℕ
number_of limit w = spelled_below limit w (decimal_of w)

abbrev pub count_of : Text → Option ℕ
count_of w = number_of 4294967296 w

-- a count that is not 0
abbrev pub positive_of : Text → Option ℕ
positive_of w = count_of w >>= λ n. only_if (nat_lt 0 n) (Some n)

-- the index of the first point, if the first byte has the index `at`
abbrev pub point_from : ℕ → Text → Option ℕ
point_from at [] = None
point_from at (b ∷ bs) = elim (nat_eq b 46) [ true ↦ Some at | false ↦ point_from (at + 1) bs ]

abbrev pub halves_of : Text → ℕ → Option ℕ
halves_of w at =
    number_of 65536 (slice_range w 0 at) >>= λ node. number_of 65536 (slice_range w (at + 1) (length w)) >>= λ slot. Some (node * 65536 + slot)

-- the object with the name `node.slot`, both below 65536
abbrev pub object_of : Text → Option ℕ
object_of w = point_from 0 w >>= halves_of w

abbrev pub begins_with : ℕ → Text → Bool
begins_with c [] = false
begins_with c (b ∷ bs) = nat_eq b c

abbrev pub negative_of : Text → Option ℤ
negative_of w = elim (bytes_eq w (codes "9223372036854775808")) [
  | true ↦ Some (negsuc 9223372036854775807)
  | false ↦ number_of 9223372036854775808 w >>= λ n. only_if (nat_lt 0 n) (Some (neg_ℤ (pos n)))
]

-- an integer from -2 ^ 63 to 2 ^ 63 - 1, without leading zeros, and no `-0`
abbrev pub integer_of : Text → Option ℤ
integer_of w = elim (begins_with 45 w) [
  | true ↦ negative_of (slice_range w 1 (length w))
  | false ↦ number_of 9223372036854775808 w >>= λ n. Some (pos n)
]

abbrev pub name_or_integer : Text → Option ℕ → Option Value
name_or_integer w None = integer_of w >>= λ z. Some (V.Int z)
name_or_integer w (Some o) = Some (V.Ref o)

abbrev pub value_of : Text → Option Value
value_of w = elim (bytes_eq w (codes "true")) [
  | true ↦ Some (V.Bool true)
  | false ↦ elim (bytes_eq w (codes "false")) [
    | true ↦ Some (V.Bool false)
    | false ↦ elim (bytes_eq w (codes "nil")) [ true ↦ Some V.Nil | false ↦ name_or_integer w (object_of w) ]
  ]
]

-- the values of at most n words
abbrev pub values_within : ℕ → List Text → Option (List Value)
values_within n [] = Some []
values_within zero (w ∷ ws) = None
values_within (suc n) (w ∷ ws) = value_of w >>= λ v. values_within n ws >>= λ vs. Some (v ∷ vs)

-- whether a word is a name of a class or a method: no keyword, and at most 64 bytes
abbrev pub is_name : Text → Bool
is_name w = (is_word w && nat_le (length w) 64) && is_none (lookup keywords w)

abbrev pub name_of_word : Text → Option Text
name_of_word w = only_if (is_name w) (Some w)

-- the text between the quotes of a string, of at most 256 bytes
abbrev pub string_of : Text → Option Text
string_of w =
    only_if
    ((nat_le 2 (length w) && nat_le (length w) 258)
    && ((nat_eq (slice_index w 0) 34 && nat_eq (slice_index w (length w - 1)) 34) && every is_inner (slice_range w 1 (length w - 1))))
    (Some (slice_range w 1 (length w - 1)))

abbrev pub error_of : Text → Option Error
error_of w = elim (bytes_eq w (codes "NilDestination")) [
  | true ↦ Some error.NilDestination
  | false ↦ elim (bytes_eq w (codes "NilOperand")) [
    | true ↦ Some error.NilOperand
    | false ↦ elim (bytes_eq w (codes "Overflow")) [
      | true ↦ Some error.Overflow
      | false ↦ elim (bytes_eq w (codes "ZeroDivisor")) [
        | true ↦ Some error.ZeroDivisor
        | false ↦ only_if (bytes_eq w (codes "NoOpenGuard")) (Some error.NoOpenGuard)
      ]
    ]
  ]
]
