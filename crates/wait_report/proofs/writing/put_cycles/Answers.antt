use Rattle.std.proofs.Common.{rules, ◌≡◌, ◌<◌, ◌+◌, ap, arith, sym, ◌∙◌, subst, ℕ, List, ◌++◌, length, get_or, drop, false}
use Rattle.std.proofs.lemmas.List.{append_assoc}
use Rattle.mesh_semantics.specs.Standing.{chase}
use Rattle.run_types.specs.declared.types.Standing.TheVariants.{Ready}
use Rattle.wait_report.specs.declared.rows.ObjectRow.{ObjectRow}
use Rattle.wait_report.specs.Calls.{names_of, AreNext, Rising}
use Rattle.wait_report.specs.Cycles.{jump, cycle_at}
use Rattle.wait_report.specs.Report.{cycles_text}
use Rattle.wait_report.proofs.CyclesByName.{told_from, told_step, unmarked}
use Rattle.wait_report.proofs.writing.put_cycles.Goals as goal
use Rattle.wait_report.proofs.writing.put_cycles.Goals.{then-starts-at+in_ok-put_cycle, else-starts-at}

blank : ObjectRow
blank = record { name = 0; class = record { 0 = 0 }; standing = Ready }

pub loop-at-preserved : goal.loop-at-preserved
loop-at-preserved c =
    let i = c.loop-at.invariant in
    let rows = c.args.rows.now in
    let next = c.args.next.now in
    let rises = subst Rising c.requires.numbers c.requires.rising in
    let are = subst (λ n. AreNext n rows next) c.requires.numbers c.requires.next in
    let step = told_step rows next rises are c.loop-at.at blank c.loop-at-test.true in
    let told : ℕ → List ℕ = λ k. cycles_text (told_from rows next rises are (drop k rows)) in
    let cycle = chase (jump next) (length next) c.loop-at.at c.loop-at.at in
    elim c.if-starts-at.branch [
      | then-starts-at+in_ok-put_cycle w ↦
          let e : c.if-starts-at.text.items ≡ c.loop-at.text.items ++ cycle_at (names_of rows) cycle =
          ap (λ v. v.items) w.text-is ∙ w.in_ok-put_cycle.ensures ∙ ap (λ n. c.loop-at.text.items ++ cycle_at n cycle) c.requires.numbers in
          i ∙ ap (λ z. c.loop-at.text.items ++ z) step ∙ sym (append_assoc c.loop-at.text.items (cycle_at (names_of rows) cycle) (told (c.loop-at.at + 1)))
          ∙ ap (λ z. z ++ told (c.loop-at.at + 1)) (sym e)
      | else-starts-at w ↦
          let f : get_or c.args.starts.now c.loop-at.at false ≡ false = search rules in
          let l : c.loop-at.at < length next = omega (arith, c.loop-at-test.true, c.requires.next.many) in
          let u = unmarked rows next rises are c.args.starts.now c.loop-at.at c.requires.starts l f in
          i ∙ ap (λ z. c.loop-at.text.items ++ z) (step ∙ ap (λ z. z ++ told (c.loop-at.at + 1)) u) ∙ ap (λ z. z ++ told (c.loop-at.at + 1)) (sym (ap (λ v. v.items) w.text-is))
    ]
