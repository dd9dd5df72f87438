use Rattle.std.proofs.Common.{rules, ◌≡◌, ◌≢◌, ◌<◌, ◌+◌, ◌-◌, ap, arith, sym, ◌∙◌, suc, [], ◌∷◌, ◌++◌, length, get_or, Some, None}
use Rattle.std.proofs.lemmas.List.{append_assoc}
use Rattle.text_scan.specs.Text.{Text}
use Rattle.run_types.proofs.Laws.{same_some}
use Rattle.record_writer.specs.RecordText.{led, object_text}
use Rattle.wait_report.specs.Cycles.{jump}
use Rattle.wait_report.proofs.CycleText.{told_on, told_last, told_none, told_less, no_steps, in_turn, taken_back, on_ok}
use Rattle.wait_report.proofs.cycles.put_cycle.Goals as goal
use Rattle.wait_report.proofs.cycles.put_cycle.Goals.{else-loop-step-test, then-loop-step-test+in_ok-push_object+in_default-2, then-loop-step-test+in_ok-push_object+in_default}

pub loop-step-preserved : goal.loop-step-preserved
loop-step-preserved c =
    let i = c.loop-step.invariant in
    let s : length c.args.next.now - c.loop-step._step ≡ suc (length c.args.next.now - (c.loop-step._step + 1)) = omega (arith, c.loop-step-test.true, c.loop-step.auto._step-end) in
    let e : jump c.args.next.now c.loop-step.at ≡ Some c.in-Some-2.place = search rules in
    let l : c.args.first < c.in-Some-2.place = search rules in
    let t = told_on c.args.numbers.now c.args.next.now c.args.first (length c.args.next.now - (c.loop-step._step + 1)) (length c.args.next.now - c.loop-step._step) c.loop-step.at c.in-Some-2.place i.0 s e l in (
      i.0 ++ led (object_text (get_or c.args.numbers.now c.loop-step.at 0) ∷ []),
      c.in_ok-push_object.ensures ∙ ap (λ z. z ++ led (object_text (get_or c.args.numbers.now c.loop-step.at 0) ∷ [])) i.1 ∙ append_assoc c.args.text.now.items i.0 _,
      i.2,
      c.requires.within c.loop-step.at c.in-Some-2.place e,
      i.4 ∙ t,
    )

pub returns-in-Some : goal.returns-in-Some
returns-in-Some c =
    let i = c.loop-step.invariant in
    let s : length c.args.next.now - c.loop-step._step ≡ suc (length c.args.next.now - (c.loop-step._step + 1)) = omega (arith, c.loop-step-test.true, c.loop-step.auto._step-end) in
    let e : jump c.args.next.now c.loop-step.at ≡ Some c.in-Some.place = search rules in
    let t = told_last c.args.numbers.now c.args.next.now c.args.first (length c.args.next.now - (c.loop-step._step + 1)) (length c.args.next.now - c.loop-step._step) c.loop-step.at c.in-Some.place i.0 s e c.if-place-first.true in
    let word : Text = led (object_text (get_or c.args.numbers.now c.loop-step.at 0) ∷ []) in
    on_ok c.put-in-Some.result c.put-in-Some.ensures
    (λ p. p ∙ ap (λ z. z ++ 10 ∷ []) (c.in_ok-push_object.ensures ∙ ap (λ z. z ++ word) i.1) ∙ in_turn c.args.text.now.items i.0 word (10 ∷ []) ∙ ap (λ z. c.args.text.now.items ++ z) (sym (i.4 ∙ t)))

pub returns : goal.returns
returns c =
    let i = c.loop-step.invariant in
    let old = c.args.text.now.items in
    let m = length c.args.next.now - (c.loop-step._step + 1) in
    let n = length c.args.next.now - c.loop-step._step in
    let word : Text = led (object_text (get_or c.args.numbers.now c.loop-step.at 0) ∷ []) in
    elim c.loop-step-test.branch [
      | else-loop-step-test w ↦
          let k : n ≡ 0 = omega (arith, w.loop-step-test.false) in
          taken_back old c.loop-step-test.text.items c.truncate.new.self.items i.0 _ c.len-before.result c.truncate.ensures.items i.2
          (ap (λ v. v.items) w.text-is ∙ i.1) (i.4 ∙ no_steps c.args.numbers.now c.args.next.now c.args.first c.loop-step.at n i.0 k)
      | then-loop-step-test+in_ok-push_object+in_default-2 w ↦
          let s : n ≡ suc m = omega (arith, w.loop-step-test.true) in
          let e : jump c.args.next.now c.loop-step.at ≡ Some w.in-Some.place = search rules in
          let d : w.in-Some.place ≢ c.args.first = w.if-place-first.false in
          let e' : jump c.args.next.now c.loop-step.at ≡ Some w.in-Some-2.place = search rules in
          let q : w.in-Some.place ≡ w.in-Some-2.place = same_some (sym e ∙ e') in
          let l : w.in-Some.place < c.args.first = omega (arith, d, w.if-place-first-2.false, q) in
          taken_back old c.loop-step-test.text.items c.truncate.new.self.items (i.0 ++ word) _ c.len-before.result c.truncate.ensures.items i.2
          (ap (λ v. v.items) w.text-is ∙ w.in_ok-push_object.ensures ∙ ap (λ z. z ++ word) i.1 ∙ append_assoc old i.0 word)
          (i.4 ∙ told_less c.args.numbers.now c.args.next.now c.args.first m n c.loop-step.at w.in-Some.place i.0 s e l)
      | then-loop-step-test+in_ok-push_object+in_default w ↦
          let s : n ≡ suc m = omega (arith, w.loop-step-test.true) in
          let e : jump c.args.next.now c.loop-step.at ≡ None = search rules in
          taken_back old c.loop-step-test.text.items c.truncate.new.self.items (i.0 ++ word) _ c.len-before.result c.truncate.ensures.items i.2
          (ap (λ v. v.items) w.text-is ∙ w.in_ok-push_object.ensures ∙ ap (λ z. z ++ word) i.1 ∙ append_assoc old i.0 word)
          (i.4 ∙ told_none c.args.numbers.now c.args.next.now c.args.first m n c.loop-step.at i.0 s e)
    ]
