use Rattle.std.proofs.Common.{◌≡◌, ap, ◌∙◌, refl, suc, ◌+◌, ◌<◌, ◌∷◌, length, arith}
use Rattle.object_code.specs.Read.{Stop}
use Rattle.object_code.proofs.ReadLoops.{no_instr}
use Rattle.object_code.proofs.file_reader.take_from_loop.Goals as goal

pub returns-in_default : goal.returns-in_default
returns-in_default c =
    let none : 0 < c.args.byte → 24 < c.args.byte = λ p. omega (arith, p) in
    let size : suc (length c.args.rest.now) ≡ length c.args.rest.now + 1 = omega arith in
    no_instr c.args.byte c.args.rest.now (c.args.byte ∷ c.args.rest.now) refl none ∙ ap Stop size
