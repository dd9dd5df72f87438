use Rattle.std.proofs.Common.{◌≡◌, ◌+◌, ◌<◌, [], ◌∷◌, ◌++◌, length, sym, ap, subst, ◌∙◌, arith, append_assoc}
use Rattle.std.specs.Prelude.{IfSome}
use Rattle.record_parser.specs.Fields.{parts}
use Rattle.run_record.specs.Numbered.{lines_after, names_after, numbered, with_name}
use Rattle.run_record.specs.Records.{Rows, record_of, is_end, last_after, refused, rows}
use Rattle.run_record.specs.ParsedLines.{row}
use Rattle.run_record.proofs.ReadIsReadable.{lines_writable}
use Rattle.record_parser.proofs.Laws.{parts_length}
use Rattle.run_record.proofs.ParsedLines.{behind_cut, ended_rows, front_more, last_part, names_append, rows_fault, rows_step, table_is, told_is}
use Rattle.run_record.proofs.read.read_record.Goals as goal
use Rattle.run_record.proofs.read.read_record.Goals.{In-Err}

refused_is : (c : In-Err) → rows c.form_of-start.result.form c.lines.invariant.earlier c.lines.seen c.lines.last c.lines.ended (parts 10 c.lines.text.now) ≡ refused c.in-Err.fault
refused_is c =
    let l = c.lines in
    let left = c.in-Some.left.now in
    let f = c.form_of-start.result.form in
    ap (rows f l.invariant.earlier l.seen l.last l.ended) (behind_cut l.text.now c.cut-next.result c.in-Some.left c.cut-next.ensures.parts c.in-Some.is)
    ∙ rows_fault f l.invariant.earlier l.seen l.last l.ended c.cut-next.result.first.now (parts 10 left) c.in-Err.fault (parts_length 10 left) (c.in-Err.ensures.err l.invariant.earlier l.invariant.posted)

pub returns-in-Err-clause-fault : goal.returns-in-Err-clause-fault
returns-in-Err-clause-fault c =
    told_is c.in-Err.fault _ (sym c.lines.invariant.fault ∙ ap (λ (r : Rows). r.fault) (refused_is ((goal.at.returns-in-Err-clause-fault c).In-Err)))

pub returns-in-Err-clause-kept : goal.returns-in-Err-clause-kept
returns-in-Err-clause-kept c =
    table_is c.in-Err.fault c.lines.names c.args.names.now (record_of c.args.bytes.now).told
    (sym (ap (λ (r : Rows). names_after c.lines.names r.told) (refused_is ((goal.at.returns-in-Err-clause-kept c).In-Err))) ∙ c.lines.invariant.table_is)

pub lines-preserved : goal.lines-preserved
lines-preserved c =
    let l = c.lines in
    let f = c.form_of-start.result.form in
    let earlier = l.invariant.earlier in
    let first = c.cut-next.result.first.now in
    let left = c.in-Some.left.now in
    let ps = parts 10 left in
    let r = row c.in-Ok.row in
    let t = r.told in
    let next = rows f (t.line ∷ earlier) (l.seen + 1) (last_after l.last t.line) (is_end t.line) ps in
    let names = c.numbered.new.names in
    let step = ap (rows f earlier l.seen l.last l.ended) (behind_cut l.text.now c.cut-next.result c.in-Some.left c.cut-next.ensures.parts c.in-Some.is)
    ∙ rows_step f earlier l.seen l.last l.ended first ps r (parts_length 10 left) c.in-Ok.ensures.line (c.in-Ok.ensures.ok earlier l.invariant.posted) in
    let new = rows f (t.line ∷ earlier) (l.seen + 1) c.last_after-last.result c.is_end-ended.result ps in
    let new_is : new ≡ next =
    ap (λ n. rows f (t.line ∷ earlier) (l.seen + 1) n c.is_end-ended.result ps) c.last_after-last.ensures
    ∙ ap (λ b. rows f (t.line ∷ earlier) (l.seen + 1) (last_after l.last t.line) b ps) c.is_end-ended.ensures in
    let shorter : length left < length l.text.now = subst (λ o. IfSome o (λ s. length s.now < length l.text.now)) c.in-Some.is c.cut-next.ensures.shorter in
    record {
      earlier = t.line ∷ earlier;
      posted = c.in-Ok-add.ensures earlier l.invariant.posted;
      within = omega (arith, shorter, l.invariant.within);
      low = omega (arith, c.last_after-last.ensures, c.in-Ok.ensures.next);
      few = omega (arith, c.in-Ok-numbered.ensures.few, l.invariant.few);
      fault = ap (λ (r : Rows). r.fault) new_is ∙ (sym (ap (λ (r : Rows). r.fault) step) ∙ l.invariant.fault);
      told =
          ap (λ xs. xs ++ lines_after names new.told) c.in-Ok-push.ensures.ok
          ∙ (append_assoc l.lines (c.in-Ok-numbered.line ∷ []) (lines_after names new.told)
          ∙ (ap (λ x. l.lines ++ (x ∷ lines_after names new.told)) c.in-Ok-numbered.ensures.line
          ∙ (ap (λ ns. l.lines ++ (numbered l.names t ∷ lines_after ns new.told)) c.in-Ok-numbered.ensures.names
          ∙ (ap (λ (r : Rows). l.lines ++ (numbered l.names t ∷ lines_after (with_name l.names t.text) r.told)) new_is
          ∙ (sym (ap (λ (r : Rows). l.lines ++ lines_after l.names r.told) step) ∙ l.invariant.told)))));
      table_is =
          ap (λ ns. names_after ns new.told) c.in-Ok-numbered.ensures.names
          ∙ (ap (λ (r : Rows). names_after (with_name l.names t.text) r.told) new_is
          ∙ (sym (ap (λ (r : Rows). names_after l.names r.told) step) ∙ l.invariant.table_is));
      before = l.invariant.before ++ t ∷ [];
      all = append_assoc l.invariant.before (t ∷ []) new.told ∙ (ap (λ (r : Rows). l.invariant.before ++ t ∷ r.told) new_is ∙ (sym (ap (λ (r : Rows). l.invariant.before ++ r.told) step) ∙ l.invariant.all));
      so_far = c.in-Ok-numbered.ensures.names ∙ (ap (λ ns. with_name ns t.text) l.invariant.so_far ∙ sym (names_append c.args.names.now l.invariant.before (t ∷ [])));
    }

pub returns-in-Err-push-clause-kept : goal.returns-in-Err-push-clause-kept
returns-in-Err-push-clause-kept c =
    let l = c.lines in
    let f = c.form_of-start.result.form in
    let earlier = l.invariant.earlier in
    let left = c.in-Some.left.now in
    let ps = parts 10 left in
    let r = row c.in-Ok.row in
    let t = r.told in
    let step = ap (rows f earlier l.seen l.last l.ended) (behind_cut l.text.now c.cut-next.result c.in-Some.left c.cut-next.ensures.parts c.in-Some.is)
    ∙ rows_step f earlier l.seen l.last l.ended c.cut-next.result.first.now ps r (parts_length 10 left) c.in-Ok.ensures.line (c.in-Ok.ensures.ok earlier l.invariant.posted) in
    front_more c.args.names.now l.names c.numbered.new.names t (rows f (t.line ∷ earlier) (l.seen + 1) (last_after l.last t.line) (is_end t.line) ps).told (record_of c.args.bytes.now).told l.invariant.before
    (sym (ap (λ (r : Rows). l.invariant.before ++ r.told) step) ∙ l.invariant.all) l.invariant.so_far c.in-Ok-numbered.ensures.names

pub returns-then-is_empty-clause-writable : goal.returns-then-is_empty-clause-writable
returns-then-is_empty-clause-writable c =
    let l = c.lines in
    let f = c.cut-next.result in
    let alone = last_part l.text.now f c.cut-next.ensures.parts c.in_default.not-Some in
    let all = ended_rows f.first.now l.invariant alone c.if-ended.true (sym c.is_empty.ensures ∙ c.if-is_empty.true) in
    lines_writable c.args.bytes.now c.args.names.now c.lines.names c.lines.lines all.0 all.1
