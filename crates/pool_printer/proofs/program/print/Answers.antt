use Rattle.std.proofs.Common.{refl, ap, ◌∙◌, map}
use Rattle.pool_syntax.specs.TreeOf.{class_tree, program_of}
use Rattle.pool_printer.specs.Canonical.{canonical, program_tokens}
use Rattle.pool_printer.specs.Known.{are_known}
use Rattle.pool_printer.proofs.SequentialOutput.{put_front, puts_append, puts_same}
use Rattle.pool_printer.proofs.SpelledKnown.{spelled_known}
use Rattle.pool_printer.proofs.program.print.Goals as goal

pub classes-requires : goal.classes-requires
classes-requires g c =
    ap (λ ks. are_known c.args.names.now (program_tokens (map class_tree ks))) c.items.ensures ∙ spelled_known c.args.names.now (program_of c.args.program.now) c.requires.spelled

pub returns-then-progress-clause-front : goal.returns-then-progress-clause-front
returns-then-progress-clause-front g c =
    put_front _ _ _
    (puts_same _ _ _ _ (ap (λ ks. canonical c.args.names.now (map class_tree ks)) c.items.ensures) (puts_append _ _ _ _ _ c.classes.ensures.text c.put.ensures.text))
    refl c.if-progress.true
