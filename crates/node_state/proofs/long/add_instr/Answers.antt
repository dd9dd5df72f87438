use Rattle.std.proofs.Common.{◌≡◌, Some, sym, ap, ◌∙◌}
use Rattle.code_semantics.specs.declared.unit.Instr.TheVariants as I
use Rattle.node_state.specs.LongAnswers.{instr_at, names_in}
use Rattle.node_state.proofs.LongAnswers.{on_ok_weaker}
use Rattle.node_state.proofs.LongInstrs.{first, after_answer, after_select, after_other}
use Rattle.node_state.proofs.long.add_instr.Goals as goal

pub returns-in-Answer : goal.returns-in-Answer
returns-in-Answer c = λ u here old.
    let p = c.args.place in let at : instr_at u p ≡ Some (I.Answer c.in-Answer.names) = here ∙ ap Some c.in-Answer.is in
    on_ok_weaker c.add_answer.result _ _ (after_answer u p c.add_answer.new.found c.in-Answer.names at) (c.add_answer.ensures u (ap (λ z. names_in z 1) at) (first u p c.args.found.now old))

pub returns-in-Select : goal.returns-in-Select
returns-in-Select c = λ u here old.
    let p = c.args.place in let alts = c.items.result.now in let at : instr_at u p ≡ Some (I.Select alts) = here ∙ ap Some (c.in-Select.is ∙ ap (λ xs. I.Select xs) (sym c.items.ensures)) in
    on_ok_weaker c.add_alternatives.result _ _ (after_select u p c.add_alternatives.new.found alts at) (c.add_alternatives.ensures u at (first u p c.args.found.now old))

pub returns-in_default : goal.returns-in_default
returns-in_default c = λ u here old. after_other u c.args.place c.args.found.now c.args.instr.now here c.in_default.not-Answer c.in_default.not-Select old
