use Rattle.std.proofs.Common.{ap, ◌++◌, length, take}
use Rattle.object_code.specs.Decode.{decoded}
use Rattle.object_code.proofs.AcceptedPrefix.{begins_file}
use Rattle.object_code.proofs.PrefixStability.{bad_byte_stays}
use Rattle.object_code.proofs.theorems.the_bad_byte_is_the_first.Goals as goal

pub returns-clause-begins : goal.returns-clause-begins
returns-clause-begins c = λ bytes at h. let r = begins_file bytes at h in (r.0, r.1, ap (decoded (length (take at bytes ++ r.0))) r.2)

pub returns-clause-stays : goal.returns-clause-stays
returns-clause-stays c = λ bytes at h lt more. bad_byte_stays bytes at lt h more
