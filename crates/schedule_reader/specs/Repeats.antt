-- The run item and the count of an entry.
use Rattle.std.specs.Prelude.{◌≡◌, ℕ, List, Bool, Some, None}
use Rattle.text_scan.specs.Text.{Text}
use Rattle.run_types.specs.declared.types.LinkId.{LinkId}
use Rattle.run_types.specs.declared.types.Event.TheVariants as V
use Rattle.schedule_reader.specs.declared.entry.Entry.{Entry}
use Rattle.schedule_reader.specs.declared.entry.Entry.TheVariants as E
use Rattle.schedule_reader.specs.declared.event_runs.Repeat.{Repeat}
use Rattle.schedule_reader.specs.declared.event_runs.RunItem.{RunItem}
use Rattle.schedule_reader.specs.declared.event_runs.RunItem.TheVariants as P
use Rattle.schedule_reader.specs.Entries.{entry_of, fault_of}
use Rattle.schedule_reader.specs.Events.{count_of}

abbrev pub part_of : Entry → RunItem
part_of (E.Turn k c) = P.One (V.Turn k)
part_of (E.Link a b c) = P.One (V.Link a b)
part_of (E.Round c) = P.Round
part_of (E.Wire act a b c) = P.One (V.Wire act a b)

abbrev pub counted_of : Entry → Repeat
counted_of e = record { count = count_of e; part = part_of e }

-- The words are an entry without fault, and this is its run item with its count.
pub record IsCountedLine (w h : ℕ) (cuts : List LinkId) (lossy : Bool) (line : ℕ) (ws : List Text) (c : Repeat) : Type 0 where
  pub entry : Entry
  pub entry_is : entry_of lossy ws ≡ Some entry
  pub faultless : fault_of w h cuts line entry ≡ None
  pub counted_is : c ≡ counted_of entry
