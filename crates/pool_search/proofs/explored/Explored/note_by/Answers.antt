use Rattle.std.proofs.Common.{rules, ◌≡◌, sym, subst, ap, ◌∙◌, List, ℕ, Ok, Some, set, slice_get}
use Rattle.std.specs.Prelude.{IfSome}
use Rattle.std.proofs.lemmas.Option.{slice_get_within}
use Rattle.pool_syntax.specs.Terms.{ProgramTree}
use Rattle.pool_search.specs.Entries.{entries, searched}
use Rattle.pool_search.specs.Leads.{HasMovedTo}
use Rattle.pool_search.specs.Progress.{Entries}
use Rattle.visited_set.specs.WaiterLists.{GoesOnBy, noted}
use Rattle.pool_search.specs.KnownWaiters.{AreKnown}
use Rattle.pool_search.specs.declared.going_on.Lead.TheVariants as L
use Rattle.visited_set.specs.declared.waiters.Waiters.{Waiters}
use Rattle.pool_search.proofs.EntryExpansion.{entry_there}
use Rattle.pool_search.proofs.WaiterLaws.{known_noted}
use Rattle.pool_search.proofs.explored.Explored.note_by.Goals as goal
use Rattle.pool_search.proofs.explored.Explored.note_by.Goals.{then-goes_on_by, else-goes_on_by, in-Ok-To, in-Ok-Unknown+in-Ok-To-lead_whole}

pub note-requires : goal.note-requires
note-requires c =
    let g = c.goes_on_by.ensures c.if-goes_on_by.true in
    slice_get_within c.loop-index.waiters.list.items c.loop-index.index g.waiter g.there

pub loop-index-preserved : goal.loop-index-preserved
loop-index-preserved c =
    let p = searched c.args.self.now in
    let es = entries c.args.self.now in
    let l = c.loop-index in
    let ws = l.waiters.list.items in
    let m = c.match-lead_known-2 in
    let to = m.to in
    let moved = m.moved.items in
    let label = c.args.label.now in
    let here = entry_there es c.args.at c.requires.exists in
    let e = here.0 in
    let there = here.1 in
    let led : HasMovedTo p es e.next e.configuration label moved to = elim m.branch [
      | in-Ok-To w ↦
          let told : c.lead_known.result ≡ Ok (L.To to) = search rules in
          subst (λ (xs : List ℕ). HasMovedTo p es e.next e.configuration label xs to) (ap (λ x. x.items) (sym w.moved-is)) (c.lead_known.ensures.led to told e there)
      | in-Ok-Unknown+in-Ok-To-lead_whole w ↦
          let q = searched c.lead_known.new.self in
          let fs = entries c.lead_known.new.self in
          let number = w.in-Ok-To-lead_whole.to in
          let os = w.lead_whole.new.moved.items in
          let still : slice_get fs c.args.at ≡ Some e = ap (λ (xs : Entries). slice_get xs c.args.at) c.lead_known.ensures.same ∙ there in
          let all : HasMovedTo q fs e.next e.configuration label os number = w.in-Ok-To-lead_whole.ensures.led number (ap Ok w.in-Ok-To-lead_whole.field-0-is) e still in
          let here : HasMovedTo p es e.next e.configuration label os number =
          subst (λ (r : ProgramTree). HasMovedTo r es e.next e.configuration label os number) c.lead_known.ensures.program
          (subst (λ (xs : Entries). HasMovedTo q xs e.next e.configuration label os number) c.lead_known.ensures.same all)
          in
          subst (λ n. HasMovedTo p es e.next e.configuration label moved n) (sym w.to-is)
          (subst (λ (xs : List ℕ). HasMovedTo p es e.next e.configuration label xs number) (ap (λ x. x.items) (sym w.moved-is)) here)
    ] in
    elim c.if-goes_on_by.branch [
      | then-goes_on_by w ↦
          let g : GoesOnBy l.index c.args.at to moved ws =
          subst (λ (os : List ℕ). GoesOnBy l.index c.args.at to os ws) c.deref.ensures.value (c.goes_on_by.ensures w.if-goes_on_by.true) in
          let new : w.note.new.self.list.items ≡ set ws l.index (noted g.waiter) =
          subst (λ o. IfSome o (λ v. w.note.new.self.list.items ≡ set ws l.index (noted v))) g.there w.note.ensures in
          subst (λ (x : Waiters). AreKnown p es x.list.items) (sym w.waiters-is)
          (subst (AreKnown p es) (sym new) (known_noted p es ws e.next e.configuration label moved l.index c.args.at to l.invariant (e.items, there) led g))
      | else-goes_on_by w ↦ subst (λ (x : Waiters). AreKnown p es x.list.items) (sym w.waiters-is) l.invariant
    ]
