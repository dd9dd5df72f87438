use Rattle.std.proofs.Common.{◌∷◌, ◌++◌, [], sym, ap, ◌∙◌}
use Rattle.std.proofs.lemmas.List.{append-nil}
use Rattle.flat_lists.specs.Units.{numbers_of}
use Rattle.visited_set.specs.Rows.{Row, rows_of}
use Rattle.visited_set.proofs.FailedResults.{on_failure}
use Rattle.visited_set.proofs.RowLists.{one_row_more, same_rows}
use Rattle.visited_set.proofs.kept_rows.Rows.push.Goals as goal

pub returns-in_err-push-clause-err : goal.returns-in_err-push-clause-err
returns-in_err-push-clause-err c =
    on_failure c.from_residual-in_err-push.result _
    (same_rows c.self.inside.heads.items c.self.inside.objects c.self.inside.queues c.args.self.now c.len-count.result c.self.view_is c.self.invariant.0 c.self.invariant.1 (c.len-count.ensures ∙ c.self.inside.heads.ok.0)
    c.push.new.self c.truncate-2.new.self [] [] (c.in_err-push.ensures.err ∙ c.truncate.ensures ∙ sym (append-nil _)) (c.truncate-2.ensures ∙ sym (append-nil _)))

pub returns-in_err-push-2-clause-err : goal.returns-in_err-push-2-clause-err
returns-in_err-push-2-clause-err c =
    on_failure c.from_residual-in_err-push-2.result _
    (same_rows c.self.inside.heads.items c.self.inside.objects c.self.inside.queues c.args.self.now c.len-count.result c.self.view_is c.self.invariant.0 c.self.invariant.1 (c.len-count.ensures ∙ c.self.inside.heads.ok.0)
    c.push.new.self c.push-2.new.self (c.as_slice.result.now ∷ []) [] (c.in_ok-push.ensures.ok ∙ ap (λ z. z ++ c.as_slice.result.now ∷ []) c.truncate.ensures) (c.in_err-push-2.ensures.err ∙ c.truncate-2.ensures ∙ sym (append-nil _)))

pub returns-in_err-push-3-clause-err : goal.returns-in_err-push-3-clause-err
returns-in_err-push-3-clause-err c =
    on_failure c.from_residual-in_err-push-3.result _
    (ap (λ hs. rows_of hs c.push.new.self c.push-2.new.self) c.in_err-push-3.ensures.items
    ∙ same_rows c.self.inside.heads.items c.self.inside.objects c.self.inside.queues c.args.self.now c.len-count.result c.self.view_is c.self.invariant.0 c.self.invariant.1 (c.len-count.ensures ∙ c.self.inside.heads.ok.0)
    c.push.new.self c.push-2.new.self (c.as_slice.result.now ∷ []) (c.args.row.now.queues.now ∷ []) (c.in_ok-push.ensures.ok ∙ ap (λ z. z ++ c.as_slice.result.now ∷ []) c.truncate.ensures) (c.in_ok-push-2.ensures.ok ∙ ap (λ z. z ++ c.args.row.now.queues.now ∷ []) c.truncate-2.ensures))

pub returns-clause-ok : goal.returns-clause-ok
returns-clause-ok c =
    one_row_more c.self.inside.heads.items c.self.inside.objects c.self.inside.queues c.args.self.now c.len-count.result c.self.view_is c.self.invariant.0 c.self.invariant.1 (c.len-count.ensures ∙ c.self.inside.heads.ok.0)
    c.push-3.new.self.items c.push.new.self c.push-2.new.self (record { next = c.args.row.now.next; written = c.args.row.now.written }) c.as_slice.result.now c.args.row.now.queues.now
    c.in_ok-push-3.ensures.items (c.in_ok-push.ensures.ok ∙ ap (λ z. z ++ c.as_slice.result.now ∷ []) c.truncate.ensures) (c.in_ok-push-2.ensures.ok ∙ ap (λ z. z ++ c.args.row.now.queues.now ∷ []) c.truncate-2.ensures)
    ∙ ap (λ os. let r : Row = record { next = c.args.row.now.next; written = c.args.row.now.written; objects = os; queues = c.args.row.now.queues.now } in c.args.self.now ++ r ∷ [])
    (ap numbers_of c.as_slice.ensures.value ∙ c.in_ok-units.ensures)
