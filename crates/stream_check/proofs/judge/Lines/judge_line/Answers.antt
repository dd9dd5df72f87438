use Rattle.std.proofs.Common.{None, Some, Option, [], true, false, refl, sym, subst, ◌∙◌, append-nil}
use Rattle.pool_syntax.specs.TreeOf.{program_of}
use Rattle.record_writer.specs.WrittenText.{writes_of}
use Rattle.record_parser.specs.Fields.{fields}
use Rattle.record_parser.specs.Lines.{line_of}
use Rattle.record_parser.specs.ReadLineView.{told}
use Rattle.run_record.specs.declared.fault.RecordFault.TheVariants as fault
use Rattle.stream_check.specs.declared.judge.Stop.{Stop}
use Rattle.stream_check.specs.declared.judge.Stop.TheVariants as S
use Rattle.stream_check.specs.Progress.{IsFilledAt, judged_text}
use Rattle.stream_check.proofs.NextLine.{judged_line, number_told}
use Rattle.stream_check.proofs.WholeLines.{by_mode, faulty_by, filled_told, judged_by_mode, out_of_order}
use Rattle.stream_check.proofs.judge.Lines.judge_line.Goals as goal

pub returns-in_ok-push_writes-in-None-clause-judged : goal.returns-in_ok-push_writes-in-None-clause-judged
returns-in_ok-push_writes-in-None-clause-judged c =
    let p = program_of c.args.program.now.program.now in
    let names = c.args.names.now in
    let line = c.numbered_in-line.result in
    let o = line_of (fields c.args.line.now) in
    let last = c.args.self.now.last in
    let i = c.follow.new.self in
    λ ls a. (
      writes_of names line,
      c.in_ok-push_writes-in-None.ensures,
      judged_by_mode c.args.fills p names ls last o false None (writes_of names line) i (sym c.if-fills.false) (judged_line p names ls last o (told c.in-Some.read) line c.in_ok-follow.field-0 None (writes_of names line) i
          c.in-Some.ensures (sym c.comes_next.ensures ∙ c.if-not-comes_next.false) c.numbered_in-line.ensures (c.in_ok-follow.ensures.verdict ls (by_mode c.args.fills p ls false c.args.self.now (sym c.if-fills.false) a)) c.in-None.is refl),
    )

pub returns-in_ok-push_verdict-in-Some-2-clause-judged : goal.returns-in_ok-push_verdict-in-Some-2-clause-judged
returns-in_ok-push_verdict-in-Some-2-clause-judged c =
    let p = program_of c.args.program.now.program.now in
    let names = c.args.names.now in
    let line = c.numbered_in-line.result in
    let o = line_of (fields c.args.line.now) in
    let last = c.args.self.now.last in
    let i = c.follow.new.self in
    let verdict = Some c.in-Some-2.verdict in
    let text = judged_text names line verdict in
    λ ls a. (
      text,
      c.in_ok-push_verdict-in-Some-2.ensures,
      judged_by_mode c.args.fills p names ls last o false (Some (S.Judged c.in-Some-2.verdict)) text i (sym c.if-fills.false) (judged_line p names ls last o (told c.in-Some.read) line c.in_ok-follow.field-0 verdict text i
          c.in-Some.ensures (sym c.comes_next.ensures ∙ c.if-not-comes_next.false) c.numbered_in-line.ensures (c.in_ok-follow.ensures.verdict ls (by_mode c.args.fills p ls false c.args.self.now (sym c.if-fills.false) a)) c.in-Some-2.is refl),
    )

pub returns-then-not-comes_next-clause-judged : goal.returns-then-not-comes_next-clause-judged
returns-then-not-comes_next-clause-judged c =
    let last = c.args.self.now.last in
    let o = line_of (fields c.args.line.now) in
    let f = fault.OutOfOrder c.next_number-then-not-comes_next.result in
    let wrong = out_of_order last o (told c.in-Some.read) c.next_number-then-not-comes_next.result c.in-Some.ensures (sym c.comes_next.ensures ∙ c.if-not-comes_next.true) c.next_number-then-not-comes_next.ensures in
    λ ls a. ([], sym (append-nil c.args.text.now.items), faulty_by c.args.fills (program_of c.args.program.now.program.now) c.args.names.now ls last o f c.args.self.now wrong)

pub returns-then-fills-clause-judged : goal.returns-then-fills-clause-judged
returns-then-fills-clause-judged c =
    let p = program_of c.args.program.now.program.now in
    let names = c.args.names.now in
    let line = c.numbered_in-line.result in
    let o = line_of (fields c.args.line.now) in
    let last = c.args.self.now.last in
    let i = c.judge_filled.new.self in
    let v = c.in_ok-verdict.verdict in
    let yes = c.if-fills.true in
    let t = told c.in-Some.read in
    let next = sym c.comes_next.ensures ∙ c.if-not-comes_next.false in
    λ ls a.
    let judged = c.in_ok-verdict.ensures.judged ls (by_mode c.args.fills p ls true c.args.self.now (sym yes) a) (number_told names last t line c.numbered_in-line.ensures next) in (
      judged.0,
      judged.1,
      judged_by_mode c.args.fills p names ls last o true c.stop_by.result judged.0 i (sym yes)
          (subst (λ (s : Option Stop). IsFilledAt p names ls last o s judged.0 i) (sym c.stop_by.ensures)
          (filled_told p names ls last o t line v judged.0 i c.in-Some.ensures next c.numbered_in-line.ensures judged.2)),
    )
