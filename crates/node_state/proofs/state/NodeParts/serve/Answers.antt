use Rattle.std.proofs.Common.{◌≡◌, Some, refl, sym, subst, ◌∙◌, arith}
use Rattle.std.specs.Prelude.{remove}
use Rattle.run_types.specs.declared.types.Serves.{Serves}
use Rattle.code_semantics.specs.Step.{code_serving}
use Rattle.code_semantics.specs.Forget.{forget}
use Rattle.node_heap.specs.Heaps.{object_at}
use Rattle.object_interp.specs.Offers.{offer_at, offers_at, open_names}
use Rattle.slot_queues.specs.Mail.{box_of}
use Rattle.slot_queues.proofs.Laws.{taken_at, taken_named, taken_somewhere}
use Rattle.node_state.specs.declared.state.NodeParts.{NodeParts}
use Rattle.node_state.specs.Views.{arrivals_of, number_by, slot_at}
use Rattle.node_state.specs.Changes.{IsChanged, serves_for_call}
use Rattle.node_state.proofs.LongAnswers.{same_answers, same_place}
use Rattle.node_state.proofs.SlotUpdate.{slot_real}
use Rattle.node_state.proofs.SmallChanges.{by_served, on_ok, not_ok}
use Rattle.node_state.proofs.state.NodeParts.serve.Goals as goal
use Rattle.node_state.proofs.state.NodeParts.serve.Goals.{then-is_ok, else-is_ok}

pub names_of-requires-clause-fits : goal.names_of-requires-clause-fits
names_of-requires-clause-fits c = (slot_real c.args.unit.now c.args.self.now c.requires.unit c.args.slot c.requires.slot).fits

pub enter-entered-requires-clause-fits : goal.enter-entered-requires-clause-fits
enter-entered-requires-clause-fits c = (slot_real c.args.unit.now c.args.self.now c.requires.unit c.args.slot c.requires.slot).fits

pub enter-entered-requires-clause-answers : goal.enter-entered-requires-clause-answers
enter-entered-requires-clause-answers c =
    let p = c.args.self.now in let m = c.in-Some-take_first.message in
    same_answers c.in-Some.names.now (open_names (offer_at (offers_at c.args.unit.now (object_at p.heap c.args.slot)) c.args.alt)) c.in-Some.ensures.same m.method
    ∙ taken_named c.in-Some.names.now p.mailbox c.take_first.new.self c.args.slot m c.in-Some-take_first.ensures

pub returns-clause-served : goal.returns-clause-served
returns-clause-served c = λ place called.
    let u = c.args.unit.now in let p = c.args.self.now in let i = c.args.slot in let m = c.in-Some-take_first.message in let names = c.in-Some.names.now in
    let same = same_place names (open_names (offer_at (offers_at u (object_at p.heap i)) c.args.alt)) c.in-Some.ensures.same (box_of p.mailbox i) in
    let t = taken_at names p.mailbox c.take_first.new.self i (Some m) place c.in-Some-take_first.ensures (sym same ∙ called) in
    elim c.if-is_ok.branch [
      | then-is_ok w ↦ (
          let e = on_ok c.enter-entered.result _ c.enter-entered.ensures.ok (sym c.is_ok.ensures.value ∙ w.if-is_ok.true) in
          let k = subst (λ (s : Serves). code_serving u (object_at p.heap i) c.args.alt m.method m.args s ≡ Some e.0) c.serves-serves.ensures e.1 in (
            m,
            refl,
            t.2 ∙ sym t.1,
            (
              e.0,
              k,
              subst (λ (z : NodeParts). IsChanged u p z i
                  (record (slot_at p i) { state = record (slot_at p i).state { object = forget e.0 }; callers = number_by (serves_for_call m.from m.call) (slot_at p i).callers; mailbox = arrivals_of (remove (box_of p.mailbox i) place) })) (sym w.self-is)
                  (by_served u p c.requires.whole c.requires.unit i c.requires.slot e.0 (remove (box_of p.mailbox i) place) c.args.alt m.method m.args (serves_for_call m.from m.call) c.take_first.new.self c.enter-entered.new.heap w.refresh.new.self
                  c.requires.free k t.3 e.2 c.enter-entered.ensures.fits c.enter-entered.ensures.rests w.refresh.ensures),
            ),
          ))
      | else-is_ok w ↦ absurd (let full = c.enter-entered.ensures.full.0 (not_ok c.enter-entered.result (sym c.is_ok.ensures.value ∙ w.if-is_ok.false)) in omega (arith, full, c.requires.frames))
    ]

pub returns-clause-none : goal.returns-clause-none
returns-clause-none c = λ none.
    let p = c.args.self.now in let names = c.in-Some.names.now in
    let same = same_place names (open_names (offer_at (offers_at c.args.unit.now (object_at p.heap c.args.slot)) c.args.alt)) c.in-Some.ensures.same (box_of p.mailbox c.args.slot) in
    absurd (taken_somewhere names p.mailbox c.take_first.new.self c.args.slot c.in-Some-take_first.message c.in-Some-take_first.ensures (sym same ∙ none))
