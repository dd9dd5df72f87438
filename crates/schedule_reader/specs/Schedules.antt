-- The schedule that a text represents, or its first fault.
use Rattle.std.specs.Prelude.{ℕ, ◌+◌, List, [], ◌∷◌, length, Option, Some, None, Result, Ok, Err, Bool, true, false, ◌&&◌, if◌then◌else◌, nat_le}
use Rattle.std.specs.Option.{option_or}
use Rattle.text_scan.specs.Text.{Text}
use Rattle.run_types.specs.declared.types.Event.{Event}
use Rattle.run_types.specs.declared.types.LinkId.{LinkId}
use Rattle.text_scan.specs.Lines.{lines}
use Rattle.text_scan.specs.ContentLines.{Kept, kept}
use Rattle.schedule_reader.specs.declared.entry.Entry.{Entry}
use Rattle.schedule_reader.specs.declared.fault.ScheduleFault.{ScheduleFault}
use Rattle.schedule_reader.specs.declared.fault.ScheduleFault.TheVariants as F
use Rattle.schedule_reader.specs.Entries.{entry_of, is_lossy, line_fault, quantum_of}
use Rattle.schedule_reader.specs.Events.{events_of, total}

-- a quantum, whether links are lossy wires, and the events
pub record Plan : Type 0 where
  pub quantum : ℕ
  pub lossy : Bool
  pub events : List Event

-- the fault of the first line that has one
abbrev pub first_fault : ℕ → ℕ → List LinkId → Bool → List Kept → Option ScheduleFault
first_fault w h cuts lossy [] = None
first_fault w h cuts lossy (k ∷ ks) = option_or (line_fault w h cuts lossy k) (first_fault w h cuts lossy ks)

abbrev pub with_entry : Option Entry → List Entry → List Entry
with_entry None es = es
with_entry (Some e) es = e ∷ es

abbrev pub entries_of : Bool → List Kept → List Entry
entries_of lossy [] = []
entries_of lossy (k ∷ ks) = with_entry (entry_of lossy k.words) (entries_of lossy ks)

-- at most 2,000,000 events
abbrev pub planned : ℕ → ℕ → List LinkId → Bool → ℕ → List Entry → Result Plan ScheduleFault
planned w h cuts lossy q es = elim (nat_le (total w h cuts lossy es) 2000000) [
  | true ↦ Ok (record { quantum = q; lossy = lossy; events = events_of w h cuts lossy es })
  | false ↦ Err (F.TooManyEvents (total w h cuts lossy es))
]

abbrev pub planned_or_fault : ℕ → ℕ → List LinkId → Bool → ℕ → Option ScheduleFault → List Entry → Result Plan ScheduleFault
planned_or_fault w h cuts lossy q None es = planned w h cuts lossy q es
planned_or_fault w h cuts lossy q (Some f) es = Err f

-- the fault of the first content line; the quantum is from 1 to 10000
abbrev pub quantum_fault : ℕ → Option ℕ → Option ScheduleFault
quantum_fault line None = Some (F.BadLine line)
quantum_fault line (Some q) = elim (nat_le 1 q && nat_le q 10000) [ true ↦ None | false ↦ Some (F.OutOfRange line) ]

-- whether the first of the lines after the quantum is `wires lossy`
abbrev pub begins_lossy : List Kept → Bool
begins_lossy [] = false
begins_lossy (k ∷ ks) = is_lossy k.words

-- the lines after the quantum, without such a line
abbrev pub without_wires : List Kept → List Kept
without_wires [] = []
without_wires (k ∷ ks) = if is_lossy k.words then ks else k ∷ ks

-- the schedule of the quantum of a line, and of the lines of events
abbrev pub with_lines : ℕ → ℕ → List LinkId → Bool → ℕ → ℕ → List Kept → Result Plan ScheduleFault
with_lines w h cuts lossy line q ks =
    planned_or_fault w h cuts lossy q (option_or (quantum_fault line (Some q)) (first_fault w h cuts lossy ks)) (entries_of lossy ks)

-- the schedule of the quantum line and the lines after it
abbrev pub with_quantum : ℕ → ℕ → List LinkId → ℕ → Option ℕ → List Kept → Result Plan ScheduleFault
with_quantum w h cuts line None ks = Err (F.BadLine line)
with_quantum w h cuts line (Some q) ks = with_lines w h cuts (begins_lossy ks) line q (without_wires ks)

-- the schedule of the content lines of a text with this number of lines
abbrev pub schedule_of_lines : ℕ → ℕ → List LinkId → ℕ → List Kept → Result Plan ScheduleFault
schedule_of_lines w h cuts count [] = Err (F.BadLine (count + 1))
schedule_of_lines w h cuts count (k ∷ ks) = with_quantum w h cuts k.line (quantum_of k.words) ks

-- the schedule of a text, in a mesh of w times h nodes with these cut links
abbrev pub schedule_of : ℕ → ℕ → List LinkId → Text → Result Plan ScheduleFault
schedule_of w h cuts s = schedule_of_lines w h cuts (length (lines s)) (kept s)

abbrev pub fault_in : Result Plan ScheduleFault → Option ScheduleFault
fault_in (Ok plan) = None
fault_in (Err f) = Some f
