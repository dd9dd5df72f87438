use Rattle.std.proofs.Common.{refl, sym, subst, ap, ap₂, ◌∙◌, ◌<◌, ◌^◌, ◌-◌, ℕ, List, get_or}
use Rattle.run_types.specs.declared.types.NameId.{NameId}
use Rattle.run_types.specs.declared.types.Label.TheVariants as L
use Rattle.run_types.specs.declared.types.What.TheVariants as W
use Rattle.node_semantics.specs.Node.{name_at}
use Rattle.node_state.specs.NodeOf.{NodeOf}
use Rattle.node_turns.proofs.CreateStep.{below_more, no_fewer, free_kept, asks_kept, here_made, here_heap, here_frames, some_placed, class_name}
use Rattle.node_turns.proofs.making.create_here.Goals as goal

pub name_of-name-requires-clause-slot : goal.name_of-name-requires-clause-slot
name_of-name-requires-clause-slot c = no_fewer c.args.unit.now c.args.parts.now c.add.new.self _ c.in-Ok.ensures.added.2 c.in-Ok.new c.in-Ok.ensures.slot

pub give-requires-clause-slot : goal.give-requires-clause-slot
give-requires-clause-slot c = below_more c.args.unit.now c.args.parts.now c.add.new.self c.requires.unit _ c.in-Ok.ensures.added.2 c.args.slot c.requires.slot

pub give-requires-clause-free : goal.give-requires-clause-free
give-requires-clause-free c = free_kept c.args.unit.now c.args.parts.now c.add.new.self c.requires.unit _ c.in-Ok.ensures.added.2 c.args.slot c.requires.slot c.requires.free

pub give-requires-clause-asks : goal.give-requires-clause-asks
give-requires-clause-asks c = asks_kept c.args.unit.now c.args.parts.now c.add.new.self c.requires.unit _ c.in-Ok.ensures.added.2 c.args.slot c.requires.slot c.requires.kind.0 c.requires.kind.1

pub count_in-requires-clause-class : goal.count_in-requires-clause-class
count_in-requires-clause-class c = subst (λ (n : ℕ). c.args.class < n) (sym c.give.ensures.unit.made) c.requires.class

pub count_in-requires-clause-few : goal.count_in-requires-clause-few
count_in-requires-clause-few c =
    subst (λ (ks : List ℕ). get_or ks c.args.class 0 < 2 ^ 32 - 1) (sym (ap (λ (n : NodeOf). n.state.made) c.give.ensures.is ∙ c.add.ensures.made)) c.requires.few

pub returns-in-Ok : goal.returns-in-Ok
returns-in-Ok c = λ l q leaving set e.
    here_made c.args.unit.now l leaving c.args.parts.now set c.args.slot c.requires.slot c.requires.kind.0 c.args.class c.requires.kind.1 c.requires.kind.2 c.in-Ok.ensures.added.0 c.in-Ok.ensures.added.1 q c.add.new.self c.give.new.self c.count_in.new.parts c.step-room.result c.name_of-name.result e
    c.in-Ok.ensures.added.2 c.give.ensures (c.name_of-name.ensures ∙ ap (λ j. name_at c.add.new.self.id j) c.in-Ok.ensures.slot) _ c.count_in.ensures refl
    (c.step-room.ensures ∙ ap₂ (λ (o : ℕ) (k : NameId). W.Step (L.New o c.name_of-name.result k) 1) c.name_of-object.ensures (class_name c.args.unit.now.classes c.items.result.now c.requires.kind.0 c.args.class _ c.requires.kind.2 c.items.ensures))

pub returns-in-Err-Objects : goal.returns-in-Err-Objects
returns-in-Err-Objects c = λ l q leaving set e.
    let y = some_placed c.args.unit.now c.requires.kind.0 c.args.class c.requires.kind.2 in
    here_heap c.args.unit.now l leaving c.args.parts.now set c.args.slot c.requires.slot c.requires.kind.0 c.args.class c.requires.kind.1 c.requires.kind.2 y.0 y.1 q c.add.new.self c.in-Err-Objects.ensures.err e (c.add.ensures.objects.0 (cc))

pub returns-in-Err-Frames : goal.returns-in-Err-Frames
returns-in-Err-Frames c = λ l q leaving set e.
    let y = some_placed c.args.unit.now c.requires.kind.0 c.args.class c.requires.kind.2 in
    here_frames c.args.unit.now l leaving c.args.parts.now set c.args.slot c.requires.slot c.requires.kind.0 c.args.class c.requires.kind.1 c.requires.kind.2 y.0 y.1 q c.add.new.self c.in-Err-Frames.ensures.err e (c.add.ensures.frames.0 (cc))
