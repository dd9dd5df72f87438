-- Which texts are verified object code files, and which fault any other text has.
use Rattle.std.specs.Prelude.{◌≡◌, ◌⊎◌, length}
use Rattle.text_scan.specs.Text.{Text}
use Rattle.code_semantics.specs.declared.file.UnitFile.{UnitFile}
use Rattle.object_code.specs.Decode.{Says, BadBytes, NameTwice, decode}
use Rattle.code_typing.specs.Faults.{IsBadCode, IsBadHeading}
use Rattle.code_typing.specs.Verified.{IsVerified}
use Rattle.command_inputs.specs.declared.fault.UnitFault.{UnitFault}
use Rattle.command_inputs.specs.declared.fault.UnitFault.TheVariants as U

-- the text decodes to this file, which is verified
pub record IsVerifiedFile (s : Text) (f : UnitFile) : Type 0 where
  pub said : decode s ≡ Says f
  pub verified : IsVerified f

-- The text is not a verified file because of this fault. It is the first bad byte, or the first duplicate name.
-- Or it is the first heading that breaks a rule; a file without classes has a bad heading 0.
-- Or it is the first code that is not well sorted, if no heading breaks a rule.
abbrev pub IsUnitFault : Text → UnitFault → Type 0
IsUnitFault s (U.BadBytes at) = decode s ≡ BadBytes at
IsUnitFault s (U.NameTwice place) = decode s ≡ NameTwice place
IsUnitFault s (U.Header j) = (f : UnitFile) × (decode s ≡ Says f) × (((length f.unit.classes ≡ 0) × (j ≡ 0)) ⊎ IsBadHeading f j)
IsUnitFault s (U.Code j i) = (f : UnitFile) × (decode s ≡ Says f) × IsBadCode f j i
IsUnitFault s U.Memory = ⊥
