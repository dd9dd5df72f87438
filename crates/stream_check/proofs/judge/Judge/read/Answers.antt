use Rattle.std.proofs.Common.{◌∙◌, ◌++◌, Option, None, Some, refl, subst}
use Rattle.pool_syntax.specs.TreeOf.{program_of}
use Rattle.record_parser.specs.Fields.{fields}
use Rattle.record_parser.specs.Lines.{line_of}
use Rattle.stream_check.specs.declared.judge.Judge.{Judge}
use Rattle.stream_check.specs.declared.judge.Stop.{Stop}
use Rattle.stream_check.specs.Progress.{IsJudgedBy}
use Rattle.stream_check.specs.Stream.{stream_lines}
use Rattle.stream_check.proofs.LineFeeds.{cut_at, cut_none, first_no_feed}
use Rattle.stream_check.proofs.WholeLines.{by_mode, ends_reading, judged_by_mode, reads_on, stops_reading}
use Rattle.stream_check.proofs.judge.Judge.read.Goals as goal

pub returns-in_default : goal.returns-in_default
returns-in_default c =
    let l = c.lines in
    let rest = l.rest.now in
    let cut = c.cut-next.result in
    let parted = c.cut-next.ensures.parts in
    let i : Judge = record { fills = l.self.fills; lines = l.self.lines; tail = c.extend_from_slice.new.self } in
    λ fills s h. ends_reading fills (program_of c.args.program.now.program.now) c.args.names.now s c.args.piece.now rest c.args.text.now.items l.text.items l.self (l.invariant.reading fills s h) cut.first.now
    (first_no_feed rest cut parted) i (cut_none rest cut parted c.in_default.is) refl refl c.in_ok-extend_from_slice.ensures.items

pub returns-in-Ok-Some : goal.returns-in-Ok-Some
returns-in-Ok-Some c =
    let p = program_of c.args.program.now.program.now in
    let names = c.args.names.now in
    let l = c.lines in
    let rest = l.rest.now in
    let cut = c.cut-next.result in
    let parted = c.cut-next.ensures.parts in
    let line = c.deref.result.now in
    let after = c.judge_line.new.self in
    λ fills s h.
    let r = l.invariant.reading fills s h in
    let ls = stream_lines names (s ++ r.done) in
    let told = c.in-Ok-Some.ensures.judged ls (by_mode fills p ls l.self.fills l.self.lines r.read.mode r.read.lines) in
    stops_reading fills p names s c.args.piece.now rest c.args.text.now.items l.text.items l.self r cut.first.now (first_no_feed rest cut parted) c.in-Some.left.now line told.0 c.judge_line.new.text.items after
    c.in-Ok-Some.stop (cut_at rest cut c.in-Some.left parted c.in-Some.is) (c.deref.ensures.value ∙ c.in_ok-extend_from_slice.ensures.items) told.1
    (judged_by_mode fills p names ls l.self.lines.last (line_of (fields line)) l.self.fills (Some c.in-Ok-Some.stop) told.0 after r.read.mode (subst (λ (o : Option Stop). IsJudgedBy l.self.fills p names ls l.self.lines.last (line_of (fields line)) o told.0 after) c.in-Ok-Some.field-0-is told.2))

pub lines-preserved : goal.lines-preserved
lines-preserved c =
    let p = program_of c.args.program.now.program.now in
    let names = c.args.names.now in
    let l = c.lines in
    let rest = l.rest.now in
    let cut = c.cut-next.result in
    let parted = c.cut-next.ensures.parts in
    let line = c.deref.result.now in
    let i : Judge = record { fills = l.self.fills; lines = c.judge_line.new.self; tail = c.clear.new.self } in
    record {
      fresh = c.in-Ok-None.ensures.fresh;
      reading = λ fills s h.
          let r = l.invariant.reading fills s h in
          let ls = stream_lines names (s ++ r.done) in
          let told = c.in-Ok-None.ensures.judged ls (by_mode fills p ls l.self.fills l.self.lines r.read.mode r.read.lines) in
          reads_on fills p names s c.args.piece.now rest c.args.text.now.items l.text.items l.self r cut.first.now (first_no_feed rest cut parted) c.in-Some.left.now line told.0 c.judge_line.new.text.items i
          (cut_at rest cut c.in-Some.left parted c.in-Some.is) (c.deref.ensures.value ∙ c.in_ok-extend_from_slice.ensures.items) told.1
          (judged_by_mode fills p names ls l.self.lines.last (line_of (fields line)) l.self.fills None told.0 i.lines r.read.mode (subst (λ (o : Option Stop). IsJudgedBy l.self.fills p names ls l.self.lines.last (line_of (fields line)) o told.0 i.lines) c.in-Ok-None.field-0-is told.2)) refl c.clear.ensures.items;
    }
