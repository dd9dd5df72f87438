-- The unit of a verified file, and the faults of files in terms of the decoder and the verifier.
use Rattle.std.specs.Prelude.{◌≡◌}
use Rattle.text_scan.specs.Text.{Text}
use Rattle.object_code.specs.declared.code_fault.CodeFault.{CodeFault}
use Rattle.object_code.specs.declared.code_fault.CodeFault.TheVariants as Bytes
use Rattle.code_semantics.specs.declared.file.UnitFile.{UnitFile}
use Rattle.code_semantics.specs.declared.unit.Unit.{Unit as Code}
use Rattle.code_semantics.specs.Proper.{IsProper}
use Rattle.code_semantics.specs.Shaped.{IsShaped, IsWritable}
use Rattle.code_verifier.specs.declared.fault.VerifyFault.{VerifyFault}
use Rattle.code_verifier.specs.declared.fault.VerifyFault.TheVariants as Verifying
use Rattle.command_inputs.specs.declared.fault.UnitFault.{UnitFault}
use Rattle.command_inputs.specs.declared.fault.UnitFault.TheVariants as U
use Rattle.pool_driver.specs.UnitFiles.{IsVerifiedFile}

-- the unit of a verified file, of which a run can be made and written;
-- the unit is proper, and the numbers of the file have the widths of the format
pub record IsUnitOfFile (s : Text) (u : Code) : Type 0 where
  pub file : UnitFile
  pub is_file : IsVerifiedFile s file
  pub is_unit : u ≡ file.unit
  pub shaped : IsShaped file
  pub proper : IsProper u
  pub writable : IsWritable file

-- the faults of the decoder and of the verifier as unit faults

abbrev pub fault_of_bytes : CodeFault → UnitFault
fault_of_bytes (Bytes.BadBytes at) = U.BadBytes at
fault_of_bytes (Bytes.NameTwice place) = U.NameTwice place
fault_of_bytes Bytes.Memory = U.Memory

abbrev pub fault_of_code : VerifyFault → UnitFault
fault_of_code (Verifying.Header j) = U.Header j
fault_of_code (Verifying.Code j i) = U.Code j i
fault_of_code Verifying.Memory = U.Memory
