use Rattle.std.proofs.Common.{◌≡◌, sym, subst, ap, ◌∙◌, [], Some, None}
use Rattle.pool_syntax.specs.TreeOf.{statements_of}
use Rattle.pool_relation.specs.Action as A
use Rattle.pool_relation.specs.Transition.{picked}
use Rattle.object_acts.specs.declared.act.Act.{Act}
use Rattle.object_acts.specs.declared.act.Act.TheVariants as C
use Rattle.stepper_objects.specs.Offers.{work_seen}
use Rattle.stepper_terms.specs.Arguments.{now_choices}
use Rattle.object_moves.specs.Changed.{IsActOf}
use Rattle.object_moves.proofs.ChangeFacts.{no_pick, none_picked, pick_change}
use Rattle.object_moves.proofs.changes.pick_of.Goals as goal

pub returns-in-Some : goal.returns-in-Some
returns-in-Some c = λ p o d.
    let t = c.args.state.now in
    let at : IsActOf p o t C.Select = subst (λ (a : Act). IsActOf p o t a) c.in-Select.is d in
    let work : picked (A.Select (now_choices t.work.next)) c.args.alt ≡ Some (statements_of c.in-Some.work.now) = sym c.plain_alt.ensures ∙ ap work_seen c.in-Some.is in
    pick_change p o t [] at c.args.alt c.in-Some.work work

pub returns-in-None : goal.returns-in-None
returns-in-None c = λ p o d.
    let t = c.args.state.now in
    let at : IsActOf p o t C.Select = subst (λ (a : Act). IsActOf p o t a) c.in-Select.is d in
    let work : picked (A.Select (now_choices t.work.next)) c.args.alt ≡ None = sym c.plain_alt.ensures ∙ ap work_seen c.in-None.is in
    none_picked p o t [] at c.args.alt work

pub returns-in_default : goal.returns-in_default
returns-in_default c = λ p o d. no_pick p o c.args.state.now [] c.args.act.now d c.args.alt c.in_default.not-Select
