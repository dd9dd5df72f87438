use Rattle.std.proofs.Common.{◌<◌, ℕ, ◌∷◌, [], Vec, Global, sym, subst, length, arith}
use Rattle.run_types.specs.declared.types.Label.{Label}
use Rattle.label_list.specs.Parts.{label_of, labels_in, times_of}
use Rattle.object_moves.specs.Followed.{AreChanged, HasMoved}
use Rattle.pool_search.proofs.MovedObjects.{one_more_changed}
use Rattle.pool_search.proofs.changes.changed_by.Goals as goal
use Rattle.pool_search.proofs.changes.changed_by.Goals.{then-times-gt0+in_ok-push_movers, else-times-gt0}

pub loop-part-preserved : goal.loop-part-preserved
loop-part-preserved c =
    let l = c.loop-part in
    let ps = c.parts-part-items.result.now in
    let part = c.part-item.result in
    let inside : l.part-index < length ps = omega (arith, c.loop-part-test.true, l.auto.part-index-end) in
    elim c.if-times-gt0.branch [
      | then-times-gt0+in_ok-push_movers w ↦
          let some : 0 < times_of part = omega (arith, c.times.ensures, w.if-times-gt0.true) in
          let grown : HasMoved (label_of part ∷ []) l.moved.items w.push_movers.new.moved.items =
          subst (λ (x : Label). HasMoved (x ∷ []) l.moved.items w.push_movers.new.moved.items) w.label.ensures w.in_ok-push_movers.ensures in
          subst (λ (v : Vec ℕ Global). AreChanged (labels_in ps) v.items) (sym w.moved-is)
          (one_more_changed ps l.part-index part l.moved.items w.push_movers.new.moved.items inside c.part-item.is some l.invariant grown)
      | else-times-gt0 w ↦ subst (λ (v : Vec ℕ Global). AreChanged (labels_in ps) v.items) (sym w.moved-is) l.invariant
    ]
