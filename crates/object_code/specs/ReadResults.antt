-- The result of a reading function agrees with the reader that defines the format, unless it is out of memory.
use Rattle.std.specs.Prelude.{◌≡◌, ℕ, List, [], Result, Ok, Err, Option, None}
use Rattle.text_scan.specs.Text.{Text}
use Rattle.object_code.specs.declared.code_fault.Unread.{Unread}
use Rattle.object_code.specs.declared.code_fault.Unread.TheVariants as U
use Rattle.object_code.specs.declared.code_fault.CodeFault.{CodeFault}
use Rattle.object_code.specs.declared.code_fault.CodeFault.TheVariants as C
use Rattle.code_semantics.specs.declared.file.UnitFile.{UnitFile}
use Rattle.object_code.specs.Read.{Read, Got, Stop}
use Rattle.object_code.specs.Decode.{first_twice, read_file, Decoded, BadBytes, NameTwice}

abbrev pub Stops : {A : Type 0} → Unread → Read A → Type 0
Stops U.Memory r = Unit {0}
Stops (U.BadByte left) r = r ≡ Stop left

abbrev pub Gives : {X A : Type 0} → (X → Read A) → Result X Unread → Read A → Type 0
Gives view (Ok x) r = r ≡ view x
Gives view (Err e) r = Stops e r

-- The table has these texts, unless one equals an earlier one; `again` is the place of the first that does.
pub record IsTable (texts names : List Text) (again : Option ℕ) : Type 0 where
  pub first : again ≡ first_twice 0 [] texts
  pub whole : again ≡ None → names ≡ texts

abbrev pub with_names : List Text → UnitFile → UnitFile
with_names texts f = record f { unit = record f.unit { names = texts } }

-- The bytes begin with this file, but for the names after a duplicate one, and `rest` is left.
abbrev pub IsFront : Text → UnitFile → Option ℕ → Text → Type 0
IsFront bytes f again rest = (texts : List Text) × (read_file bytes ≡ Got (with_names texts f) rest) × IsTable texts f.unit.names again

abbrev pub ReportsDecodeFault : CodeFault → Decoded → Type 0
ReportsDecodeFault C.Memory d = Unit {0}
ReportsDecodeFault (C.BadBytes at) d = d ≡ BadBytes at
ReportsDecodeFault (C.NameTwice place) d = d ≡ NameTwice place
