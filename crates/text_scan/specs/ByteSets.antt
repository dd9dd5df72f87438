-- The sets of bytes of the scanner: spaces, digits, letters, bytes of names and strings, and their complements.
use Rattle.std.specs.Prelude.{ℕ, Bool, ◌||◌, not, nat_eq}
use Rattle.text_scan.specs.Text.{is_space, is_digit, is_letter, is_inner}
use Rattle.text_scan.specs.Lines.{is_blank}
use Rattle.text_scan.specs.declared.scan.ByteSet.{ByteSet}
use Rattle.text_scan.specs.declared.scan.ByteSet.TheVariants.{Space, Digit, Letter, NameByte, Inner, NotLineFeed, Blank, NotBlank}

-- whether the byte is in the set
abbrev pub is_in : ByteSet → ℕ → Bool
is_in Space b = is_space b
is_in Digit b = is_digit b
is_in Letter b = is_letter b
is_in NameByte b = is_letter b || is_digit b
is_in Inner b = is_inner b
is_in NotLineFeed b = not (nat_eq b 10)
is_in Blank b = is_blank b
is_in NotBlank b = not (is_blank b)
