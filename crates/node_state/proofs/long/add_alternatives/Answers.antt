use Rattle.std.proofs.Common.{◌≡◌, ◌+◌, Some, length, slice_get, sym, ap, ◌∙◌, subst, arith}
use Rattle.std.proofs.lemmas.Option.{slice_get-get_or}
use Rattle.node_state.specs.LongAnswers.{answered, AreLongBefore}
use Rattle.node_state.proofs.LongPlaces.{further, none_at}
use Rattle.node_state.proofs.LongInstrs.{never, select_names}
use Rattle.node_state.proofs.long.add_alternatives.Goals as goal
use Rattle.node_state.proofs.long.add_alternatives.Goals.{in-Some+in_ok-add_answer, in_default}

pub loop-before-preserved : goal.loop-before-preserved
loop-before-preserved c u select old =
    let so_far = c.loop-before.invariant u select old in let alts = c.args.alts.now in let p = c.args.place in let i = c.loop-before.before in let a = c.index-alts-before.result in
    let at : slice_get alts i ≡ Some a = slice_get-get_or alts i a c.loop-before-test.true ∙ ap Some (sym c.index-alts-before.is) in
    let named = select_names u p alts i select ∙ ap (λ o. answered o) at in
    elim c.match-alternative.branch [
      | in-Some+in_ok-add_answer w ↦ subst (AreLongBefore u (record p { alt = i + 1 + 1 })) (sym w.found-is) (w.in_ok-add_answer.ensures u (named ∙ w.in-Some.is) so_far)
      | in_default w ↦ subst (AreLongBefore u (record p { alt = i + 1 + 1 })) (sym w.found-is) (further u (record p { alt = i + 1 }) (record p { alt = i + 1 + 1 }) _ (none_at u (record p { alt = i + 1 }) (never u (record p { alt = i + 1 }) (named ∙ w.in_default.is))) so_far)
    ]

pub returns : goal.returns
returns c = λ u select old. let end : c.loop-before.before ≡ length c.args.alts.now = omega (arith, c.loop-before-test.false, c.loop-before.auto.before-end) in
    subst (λ n. AreLongBefore u (record c.args.place { alt = n + 1 }) c.loop-before.found) end (c.loop-before.invariant u select old)
