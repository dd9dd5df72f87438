-- Bytes as hexadecimal digits, two for each byte: `0` to `9`, and `a` to `f`.
use Rattle.std.specs.Prelude.{ℕ, ◌+◌, ◌-◌, ◌*◌, ◌/◌, ◌%◌, List, [], ◌∷◌, length, Option, Some, None, ◌&&◌, if◌then◌else◌, nat_le, nat_lt}
use Rattle.run_types.specs.Partial.{◌>>=◌}
use Rattle.text_scan.specs.Text.{Text}

-- the digit of a number below 16
abbrev pub digit : ℕ → ℕ
digit n = if nat_lt n 10 then 48 + n else 87 + n

abbrev pub digits_of_bytes : List ℕ → Text
digits_of_bytes [] = []
digits_of_bytes (b ∷ bs) = digit (b / 16) ∷ digit (b % 16) ∷ digits_of_bytes bs

-- the number that a digit spells
abbrev pub digit_of : ℕ → Option ℕ
digit_of b = if nat_le 48 b && nat_le b 57 then Some (b - 48) else (if nat_le 97 b && nat_le b 102 then Some (b - 87) else None)

-- the byte of two digits
abbrev pub byte_of : ℕ → ℕ → Option ℕ
byte_of a b = digit_of a >>= λ high. digit_of b >>= λ low. Some (high * 16 + low)

-- the bytes of pairs of digits
abbrev pub bytes_of_digits : Text → Option (List ℕ)
bytes_of_digits [] = Some []
bytes_of_digits (a ∷ []) = None
bytes_of_digits (a ∷ b ∷ rest) = byte_of a b >>= λ byte. bytes_of_digits rest >>= λ bytes. Some (byte ∷ bytes)

-- the bytes of a frame; there are at most 104
abbrev pub frame_bytes : Text → Option (List ℕ)
frame_bytes w = if nat_lt 208 (length w) then None else bytes_of_digits w
