-- Units whose names and strings are in their table.
use Rattle.std.specs.Prelude.{◌<◌, List, Option, Some, None, length}
use Rattle.std.specs.List.{All}
use Rattle.text_scan.specs.Text.{Text}
use Rattle.run_types.specs.declared.types.NameId.{NameId}
use Rattle.code_semantics.specs.declared.unit.Instr.{Instr}
use Rattle.code_semantics.specs.declared.unit.Instr.TheVariants as I
use Rattle.code_semantics.specs.declared.unit.AltCode.{AltCode}
use Rattle.code_semantics.specs.declared.unit.MethodCode.{MethodCode}
use Rattle.code_semantics.specs.declared.unit.ClassCode.{ClassCode}
use Rattle.code_semantics.specs.declared.unit.Unit.{Unit as Code}

module _ (names : List Text) where
  -- a name or string of the table
  abbrev pub IsKnown : NameId → Type 0
  IsKnown n = n.0 < length names

  abbrev pub AnswerIsKnown : Option (List NameId) → Type 0
  AnswerIsKnown None = Unit {0}
  AnswerIsKnown (Some ns) = All IsKnown ns

  abbrev pub AlternativeIsKnown : AltCode → Type 0
  AlternativeIsKnown a = AnswerIsKnown a.answer

  -- the names and strings of an instruction are in the table
  abbrev pub InstrIsKnown : Instr → Type 0
  InstrIsKnown (I.Call m) = IsKnown m
  InstrIsKnown (I.New c) = IsKnown c
  InstrIsKnown (I.Send m n) = IsKnown m
  InstrIsKnown (I.Async m n) = IsKnown m
  InstrIsKnown (I.WriteText s) = IsKnown s
  InstrIsKnown (I.Answer ns) = All IsKnown ns
  InstrIsKnown (I.Select alts) = All AlternativeIsKnown alts
  InstrIsKnown _ = Unit {0}

  abbrev pub MethodIsKnown : MethodCode → Type 0
  MethodIsKnown m = IsKnown m.name × All InstrIsKnown m.code

  abbrev pub ClassIsKnown : ClassCode → Type 0
  ClassIsKnown k = IsKnown k.name × (All MethodIsKnown k.methods × All InstrIsKnown k.body.code)

-- every name and string of the unit is in its table
abbrev pub IsKnownUnit : Code → Type 0
IsKnownUnit u = All (ClassIsKnown u.names) u.classes
