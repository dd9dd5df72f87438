use Rattle.std.proofs.Common.{◌≡◌, drop}
use Rattle.label_list.specs.Parts.{labels_in}
use Rattle.pool_syntax.specs.TreeOf.{program_of}
use Rattle.pool_semantics.specs.PlainOf.{configuration_of, program_tree}
use Rattle.search_text.proofs.RunLaws.{IsUnderWay}
use Rattle.search_text.proofs.shown.replay.Given as goal

abbrev pub invariant-loop-part : goal.invariant-loop-part
invariant-loop-part l =
    (program_tree l.plain ≡ program_of l.program.program.now) × IsUnderWay (program_of l.program.program.now) l.labels (labels_in (drop l.part-index l.part-items)) (configuration_of l.plain)
