use Rattle.std.proofs.Common.{◌∙◌, ◌++◌, List, ap, subst, sym}
use Rattle.mesh_semantics.specs.Record.{EndsOnce}
use Rattle.text_scan.specs.Text.{Text}
use Rattle.run_types.specs.declared.types.Line.{Line}
use Rattle.pool_syntax.specs.TreeOf.{program_of}
use Rattle.stream_check.specs.Filled.{IsFilled}
use Rattle.record_writer.specs.RecordText.{record_text}
use Rattle.explore_driver.proofs.OutputLaws.{ends_once}
use Rattle.explore_driver.proofs.outputs.filled.Goals as goal

pub fill_record-requires : goal.fill_record-requires
fill_record-requires c = subst EndsOnce (sym c.items.ensures) (ends_once c.args.read.now.names 0 c.args.read.now.lines c.requires)

pub returns : goal.returns
returns c =
    let made = c.in_ok-filled.filled in
    let names = c.args.read.now.names in
    let p = program_of c.args.program.now.program.now in
    let is = subst (λ (ls : List Line). IsFilled p ls made.lines made.verdict) c.items.ensures c.in_ok-filled.ensures in (
      made.lines,
      is,
      c.in_ok-push_lines.ensures ∙ ap (λ (t : Text). t ++ record_text names c.items-2.result.now) c.new-text.ensures.items ∙ ap (record_text names) c.items-2.ensures,
      λ few. c.a_filled_record_is_a_record.ensures p names c.args.read.now.lines made.lines made.verdict c.requires is few,
    )
