-- The answer of the verifier agrees with the verdict on the file, unless it is out of memory.
use Rattle.std.specs.Prelude.{◌≡◌, Option, Some, None, Result, Ok, Err}
use Rattle.code_typing.specs.Verdict.{Verdict, Header, Code, good_unless}
use Rattle.code_verifier.specs.declared.fault.VerifyFault.{VerifyFault}
use Rattle.code_verifier.specs.declared.fault.VerifyFault.TheVariants as F

-- the fault that the answer reports, if any; nothing is known if it is out of memory
abbrev pub told : Result (Unit {0}) VerifyFault → Option (Option Verdict)
told (Ok u) = Some None
told (Err (F.Header j)) = Some (Some (Header j))
told (Err (F.Code j i)) = Some (Some (Code j i))
told (Err F.Memory) = None

-- the answer agrees with v, which is a fault or none, or it is out of memory
abbrev pub Judged : Result (Unit {0}) VerifyFault → Option Verdict → Type 0
Judged r v = (o : Option Verdict) → told r ≡ Some o → v ≡ o

-- the answer reports the verdict, or it is out of memory
abbrev pub IsAnswer : Result (Unit {0}) VerifyFault → Verdict → Type 0
IsAnswer r v = (o : Option Verdict) → told r ≡ Some o → v ≡ good_unless o
