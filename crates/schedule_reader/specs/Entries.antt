-- The entries of the lines of a schedule, and the fault of a line.
use Rattle.std.specs.Prelude.{ℕ, ◌*◌, List, [], ◌∷◌, Option, Some, None, Bool, true, false, not, ◌&&◌, if◌then◌else◌, nat_le, nat_lt, bytes_eq, codes}
use Rattle.std.specs.Option.{option_or}
use Rattle.run_types.specs.Partial.{◌>>=◌, only_if, unless}
use Rattle.text_scan.specs.Text.{Text}
use Rattle.run_types.specs.declared.types.LinkId.{LinkId}
use Rattle.run_types.specs.declared.types.WireAct.{WireAct}
use Rattle.run_types.specs.declared.types.WireAct.TheVariants as A
use Rattle.run_types.specs.Paths.{are_neighbours, is_cut}
use Rattle.text_scan.specs.ContentLines.{Kept, number_of}
use Rattle.schedule_reader.specs.declared.entry.Entry.{Entry}
use Rattle.schedule_reader.specs.declared.entry.Entry.TheVariants as E
use Rattle.schedule_reader.specs.declared.fault.ScheduleFault.{ScheduleFault}
use Rattle.schedule_reader.specs.declared.fault.ScheduleFault.TheVariants as F

-- `turn N` and `round C`
abbrev pub entry_of_two : Text → Text → Option Entry
entry_of_two w a = elim (bytes_eq w (codes "turn")) [
  | true ↦ number_of a >>= λ k. Some (E.Turn k 1)
  | false ↦ only_if (bytes_eq w (codes "round")) (number_of a >>= λ c. Some (E.Round c))
]

-- `turn N C` and `link A B`
abbrev pub entry_of_three : Text → Text → Text → Option Entry
entry_of_three w a b = elim (bytes_eq w (codes "turn")) [
  | true ↦ number_of a >>= λ k. number_of b >>= λ c. Some (E.Turn k c)
  | false ↦ only_if (bytes_eq w (codes "link")) (number_of a >>= λ f. number_of b >>= λ t. Some (E.Link f t 1))
]

-- `link A B C`
abbrev pub entry_of_four : Text → Text → Text → Text → Option Entry
entry_of_four w a b c =
    only_if (bytes_eq w (codes "link")) (number_of a >>= λ f. number_of b >>= λ t. number_of c >>= λ n. Some (E.Link f t n))

-- the entry of a line in every schedule
abbrev pub plain_entry_of : List Text → Option Entry
plain_entry_of [] = None
plain_entry_of (w ∷ []) = None
plain_entry_of (w ∷ a ∷ []) = entry_of_two w a
plain_entry_of (w ∷ a ∷ b ∷ []) = entry_of_three w a b
plain_entry_of (w ∷ a ∷ b ∷ c ∷ []) = entry_of_four w a b c
plain_entry_of (w ∷ a ∷ b ∷ c ∷ d ∷ more) = None

-- a wire event that a line may repeat: a frame is sent, or an acknowledgement comes back
abbrev pub counted_act : Text → Option WireAct
counted_act w = if bytes_eq w (codes "send") then Some A.Send else (if bytes_eq w (codes "ack") then Some A.Ack else None)

-- an event on the first data frame
abbrev pub frame_act : Text → Option WireAct
frame_act w =
    if bytes_eq w (codes "lose") then Some A.Lose else (if bytes_eq w (codes "twice") then Some A.Twice else (if bytes_eq w (codes "late") then Some A.Late else None))

-- an event on the first acknowledgement
abbrev pub ack_act : Text → Option WireAct
ack_act w =
    if bytes_eq w (codes "lose") then Some A.LoseAck else (if bytes_eq w (codes "twice") then Some A.TwiceAck else (if bytes_eq w (codes "late") then Some A.LateAck else None))

-- a wire event from A to B, with its count
abbrev pub wire : Option WireAct → Text → Text → Option ℕ → Option Entry
wire act a b count = act >>= λ w. number_of a >>= λ f. number_of b >>= λ t. count >>= λ c. Some (E.Wire w f t c)

-- `send A B`, `ack A B`, `lose A B`, `twice A B` and `late A B`
abbrev pub wire_of_three : Text → Text → Text → Option Entry
wire_of_three w a b = wire (option_or (counted_act w) (frame_act w)) a b (Some 1)

-- `lose ack A B`, `twice ack A B` and `late ack A B`, and `send A B C` and `ack A B C`
abbrev pub wire_of_four : Text → Text → Text → Text → Option Entry
wire_of_four w a b c = if bytes_eq a (codes "ack") then wire (ack_act w) b c (Some 1) else wire (counted_act w) a b (number_of c)

-- the other entries of lines, if links are wires
abbrev pub wire_entry_of : List Text → Option Entry
wire_entry_of [] = None
wire_entry_of (w ∷ []) = None
wire_entry_of (w ∷ a ∷ []) = None
wire_entry_of (w ∷ a ∷ b ∷ []) = wire_of_three w a b
wire_entry_of (w ∷ a ∷ b ∷ c ∷ []) = wire_of_four w a b c
wire_entry_of (w ∷ a ∷ b ∷ c ∷ d ∷ more) = None

-- the entry of a line, in a schedule that is lossy or is not
abbrev pub entry_of : Bool → List Text → Option Entry
entry_of lossy ws = option_or (plain_entry_of ws) (only_if lossy (wire_entry_of ws))

-- `quantum Q`
abbrev pub quantum_of : List Text → Option ℕ
quantum_of [] = None
quantum_of (w ∷ []) = None
quantum_of (w ∷ a ∷ []) = only_if (bytes_eq w (codes "quantum")) (number_of a)
quantum_of (w ∷ a ∷ b ∷ more) = None

-- `wires lossy`
abbrev pub is_lossy : List Text → Bool
is_lossy [] = false
is_lossy (w ∷ []) = false
is_lossy (w ∷ a ∷ []) = bytes_eq w (codes "wires") && bytes_eq a (codes "lossy")
is_lossy (w ∷ a ∷ b ∷ more) = false

-- whether a link leads from a to b in a mesh of this width with these cut links
abbrev pub has_link : ℕ → List LinkId → ℕ → ℕ → Bool
has_link w cuts a b = are_neighbours w a b && not (is_cut cuts a b)

abbrev pub is_count : ℕ → Bool
is_count c = nat_le 1 c && nat_le c 2000000

-- the first fault of c events on a link
abbrev pub link_fault : ℕ → ℕ → List LinkId → ℕ → ℕ → ℕ → ℕ → Option ScheduleFault
link_fault w h cuts line a b c =
    unless (nat_lt a (w * h) && nat_lt b (w * h)) (F.NoSuchNode line)
    (unless (has_link w cuts a b) (F.NoSuchLink line) (unless (is_count c) (F.OutOfRange line) None))

-- the first fault of an entry on this line, in a mesh of w times h nodes with these cut links
abbrev pub fault_of : ℕ → ℕ → List LinkId → ℕ → Entry → Option ScheduleFault
fault_of w h cuts line (E.Turn k c) = unless (nat_lt k (w * h)) (F.NoSuchNode line) (unless (is_count c) (F.OutOfRange line) None)
fault_of w h cuts line (E.Link a b c) = link_fault w h cuts line a b c
fault_of w h cuts line (E.Round c) = unless (is_count c) (F.OutOfRange line) None
fault_of w h cuts line (E.Wire act a b c) = link_fault w h cuts line a b c

abbrev pub fault_or_bad : ℕ → ℕ → List LinkId → ℕ → Option Entry → Option ScheduleFault
fault_or_bad w h cuts line None = Some (F.BadLine line)
fault_or_bad w h cuts line (Some e) = fault_of w h cuts line e

-- the fault of a line
abbrev pub line_fault : ℕ → ℕ → List LinkId → Bool → Kept → Option ScheduleFault
line_fault w h cuts lossy k = fault_or_bad w h cuts k.line (entry_of lossy k.words)
