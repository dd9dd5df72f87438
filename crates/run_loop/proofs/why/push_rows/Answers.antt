use Rattle.std.proofs.Common.{◌≡◌, ◌∙◌, ◌+◌, ◌*◌, ◌≤◌, ℕ, refl, sym, ap, arith}
use Rattle.run_loop.specs.ReportRows.{rows_below}
use Rattle.run_loop.proofs.WhyLaws.{next_one, next_same, rows_node}
use Rattle.run_loop.proofs.why.push_rows.Goals.{in-Some+in-Ok, in-None}
use Rattle.run_loop.proofs.why.push_rows.Goals as goal

later : (n slot : ℕ) → n + (slot + 1) ≡ (n + slot) + 1
later n slot = omega arith

at_end : (slot count last : ℕ) → slot ≤ last → last ≤ slot → last ≡ count → slot ≡ count
at_end slot count last a b e = omega (arith, a, b, e)

pub loop-slot-preserved : goal.loop-slot-preserved
loop-slot-preserved c = λ c' d s h.
    let u = c.args.machine.now.unit in
    let l = c.args.machine.now.placement in
    let n = c.args.node * 65536 + c.loop-slot.slot in
    let so_far = c.loop-slot.invariant c' d s h in
    elim c.match-row_at.branch [
      | in-Some+in-Ok w ↦ next_one u c' d l s.sound c.loop-slot.rows c.match-row_at.rows n _ w.in-Some.row (later (c.args.node * 65536) c.loop-slot.slot) so_far
          (w.rows-is ∙ w.in-Ok.ensures.ok) (sym w.in-Some.is ∙ (rw c.object_name.ensures at (c.row_at.ensures c' d s)))
      | in-None w ↦ next_same u c' d c.loop-slot.rows c.match-row_at.rows n _ (later (c.args.node * 65536) c.loop-slot.slot) so_far w.rows-is (sym w.in-None.is ∙ (rw c.object_name.ensures at (c.row_at.ensures c' d s)))
    ]

pub returns : goal.returns
returns c = λ c' d s h.
    let u = c.args.machine.now.unit in
    let l = c.args.machine.now.placement in
    let so_far = c.loop-slot.invariant c' d s h in
    let last = c.objects_of-slot-end.result in
    let same : c.loop-slot.slot ≡ last = at_end c.loop-slot.slot last last c.loop-slot.auto.slot-end c.loop-slot-test.false refl in
    so_far ∙ ap (λ (k : ℕ). rows_below u c' d (c.args.node * 65536 + k)) same
    ∙ rows_node u c' d l s.sound c.args.node last (c.objects_of-slot-end.ensures.count c' d s) c.objects_of-slot-end.ensures.few
