-- A worked program meets the conditions of the theorems.
use Rattle.std.proofs.Common.{◌≡◌, refl, Some, IsTrue}
use Rattle.pool_relation.specs.Configuration.{Configuration}
use Rattle.pool_relation.specs.Transition.{start}
use Rattle.pool_syntax.specs.Written.{is_written}
use Rattle.pool_relation.specs.Typed.{Typed}
use Rattle.pool_relation.proofs.Rows.{program}
use Rattle.pool_relation.proofs.Start.{start_typed}

written : IsTrue (is_written program)
written = refl

program_starts_typed : (c : Configuration) → start program 0 ≡ Some c → Typed program c
program_starts_typed c e = start_typed program refl written 0 c e
