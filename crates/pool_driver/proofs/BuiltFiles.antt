-- The bytes of a program's file decode to this file, which is verified.
use Rattle.std.proofs.Common.{◌≡◌, refl, sym, subst, true, List}
use Rattle.text_scan.specs.Text.{Text}
use Rattle.pool_syntax.specs.Terms.{ProgramTree}
use Rattle.pool_syntax.specs.Spelled.{is_spelled}
use Rattle.code_semantics.specs.declared.file.UnitFile.{UnitFile}
use Rattle.object_code.specs.FileBytes.{file_bytes}
use Rattle.code_semantics.specs.Shaped.{IsShaped, IsShort}
use Rattle.code_typing.specs.Verdict.{Good, verdict}
use Rattle.code_typing.proofs.Laws.{good_is_verified}
use Rattle.compiler_correctness.proofs.Laws.{code_is_spelled, parsed_distinct}
use Rattle.pool_driver.specs.UnitFiles.{IsVerifiedFile}
use Rattle.pool_driver.proofs.WritableFiles.{verified_writable}
use Rattle.compiler_correctness.specs.DeclaredKinds.{file_of}
use Rattle.compiler_correctness.proofs.Laws.{read_back}
use Rattle.pool_driver.specs.Inputs.{unit_of}
use Rattle.command_inputs.specs.Programs.{IsParsed}
use Rattle.pool_driver.proofs.TextLaws.{parsed_bytes}

program_is_built : (source : Text) (names : List Text) (p : ProgramTree) → IsParsed source names p → is_spelled names p ≡ true → IsShaped (file_of names p) → IsShort (file_of names p)
    → verdict (file_of names p) ≡ Good → IsVerifiedFile (file_bytes (file_of names p)) (file_of names p)
program_is_built source names p parsed spelled shaped short good =
    let f = file_of names p in
    let verified = good_is_verified f good in
    let writable = verified_writable f shaped verified short (code_is_spelled (unit_of names p) p refl spelled).numbers (parsed_bytes source names p parsed) in
    record { said = read_back f writable (parsed_distinct source names p parsed); verified = verified }

pub file_is_built : (source : Text) (names : List Text) (p : ProgramTree) (f : UnitFile) → IsParsed source names p → is_spelled names p ≡ true → f ≡ file_of names p → IsShaped f → IsShort f
    → verdict f ≡ Good → IsVerifiedFile (file_bytes f) (file_of names p)
file_is_built source names p f parsed spelled same shaped short good =
    subst (λ (g : UnitFile). IsShaped g → IsShort g → verdict g ≡ Good → IsVerifiedFile (file_bytes g) (file_of names p)) (sym same)
    (program_is_built source names p parsed spelled) shaped short good
