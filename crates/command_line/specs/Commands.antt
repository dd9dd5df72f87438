-- The commands, and the arguments of the command line that are each of them.
use Rattle.std.specs.Prelude.{ℕ, List, [], ◌∷◌, ◌&&◌, nat_le, Option, Some, None, option_map, Bool, false, not, if◌then◌else◌, bytes_eq, codes, nat_eq, map, string_bytes, String}
use Rattle.text_scan.specs.Text.{Text}
use Rattle.text_scan.specs.Lines.{decimal_of}
use Rattle.text_scan.specs.declared.spans.Decimal.{Decimal}
use Rattle.text_scan.specs.declared.spans.Decimal.TheVariants as Number
use Rattle.command_line.specs.declared.command.Show.{Show}
use Rattle.command_line.specs.declared.command.Show.TheVariants as Sh
use Rattle.command_line.specs.declared.command.Ask.{Ask}
use Rattle.command_line.specs.declared.command.Ask.TheVariants as As

-- the names of a program, a placement and a schedule
pub record FileNames : Type 0 where
  pub program : Text
  pub placement : Text
  pub schedule : Text

-- A command: a run of three inputs with an output; an output of the program of this name; the ring of k cells; the
-- record of this name in the second form; the check of a record against a program; or the run of an object code file,
-- a placement and a schedule.
pub data Request : Type 0 where
  of_run : (show : Show) (names : FileNames) → Request
  of_program : (ask : Ask) (name : Text) → Request
  of_ring : (k : ℕ) → Request
  of_convert : (record_name : Text) → Request
  of_check : (name record_name : Text) → Request
  of_load : (unit_name placement_name schedule_name : Text) → Request

-- whether an argument begins with `-`
abbrev pub is_option : Text → Bool
is_option [] = false
is_option (b ∷ bs) = nat_eq b 45

-- the output of a command with three inputs
abbrev pub show_of : Text → Option Show
show_of w =
    if bytes_eq w (codes "record") then Some Sh.Record
    else (if bytes_eq w (codes "run") then Some Sh.Writes
    else (if bytes_eq w (codes "why") then Some Sh.Report else None))

-- the output that a command makes of a program
abbrev pub ask_of : Text → Option Ask
ask_of w =
    if bytes_eq w (codes "print") then Some As.Canonical
    else (if bytes_eq w (codes "code") then Some As.Listing
    else (if bytes_eq w (codes "build") then Some As.File else None))

-- from 2 to 1000 cells
abbrev pub ring_size : Decimal → Option ℕ
ring_size Number.NotDigits = None
ring_size Number.TooLarge = None
ring_size (Number.Value k) = if nat_le 2 k && nat_le k 1000 then Some k else None

abbrev pub other_of : Text → Text → Option Request
other_of c w =
    if bytes_eq c (codes "ring") then option_map of_ring (ring_size (decimal_of w))
    else (if bytes_eq c (codes "convert") then Some (of_convert w) else None)

abbrev pub program_or_other : Option Ask → Text → Text → Option Request
program_or_other (Some ask) c name = Some (of_program ask name)
program_or_other None c w = other_of c w

abbrev pub check_of : Text → Text → Text → Option Request
check_of c p r = if bytes_eq c (codes "check") then Some (of_check p r) else None

abbrev pub load_of : Text → Text → Text → Text → Option Request
load_of c u l s = if bytes_eq c (codes "load") then Some (of_load u l s) else None

abbrev pub run_or_load : Option Show → Text → Text → Text → Text → Option Request
run_or_load (Some show) c p l s = Some (of_run show (record { program = p; placement = l; schedule = s }))
run_or_load None c u l s = load_of c u l s

-- The command of the arguments. It has three inputs, or one program, or is `ring` with a number, `convert` with a
-- record, or `check` with a program and a record. No argument begins with `-`.
abbrev pub request_of : List Text → Option Request
request_of (c ∷ p ∷ l ∷ s ∷ []) =
    if not (is_option p) && (not (is_option l) && not (is_option s))
    then run_or_load (show_of c) c p l s
    else None
request_of (c ∷ p ∷ r ∷ []) = if not (is_option p) && not (is_option r) then check_of c p r else None
request_of (c ∷ p ∷ []) = if not (is_option p) then program_or_other (ask_of c) c p else None
request_of _ = None

-- the arguments as texts
abbrev pub texts_of : {A : Type 0} → List (String A) → List Text
texts_of words = map string_bytes words
