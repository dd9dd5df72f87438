use Rattle.std.proofs.Common.{sym, ◌≡◌, ◌<◌, ◌≢◌, refl, ◌∙◌, length, arith}
use Rattle.node_heap.proofs.HeapAbstraction.{count, few_objects, full, none_free, more_kept, more_put, most_objects_are}
use Rattle.node_heap.proofs.heap.Heap.place.Goals as goal

pub returns-then-slot-self-clause-objects : goal.returns-then-slot-self-clause-objects
returns-then-slot-self-clause-objects c =
    let h = c.self.inside in
    let most : h.limits.objects ≡ c.args.self.now.most_objects = most_objects_are h c.self.invariant c.args.self.now c.self.view_is in
    (λ _. omega (arith, c.if-slot-self.true, c.len-slot.ensures, h.slots.ok.0, count h c.self.invariant c.args.self.now c.self.view_is), λ _. refl)

pub returns-then-slot-self-clause-frames : goal.returns-then-slot-self-clause-frames
returns-then-slot-self-clause-frames c =
    let h = c.self.inside in
    let most : h.limits.objects ≡ c.args.self.now.most_objects = most_objects_are h c.self.invariant c.args.self.now c.self.view_is in
    (λ other. absurd (cc other), λ p. absurd (omega (arith, p.0, c.if-slot-self.true, c.len-slot.ensures, h.slots.ok.0, count h c.self.invariant c.args.self.now c.self.view_is)))

pub begin_frame-requires-clause-queue : goal.begin_frame-requires-clause-queue
begin_frame-requires-clause-queue c =
    let h = c.self.inside in
    let differs : c.len-slot.result ≢ h.limits.objects = c.if-slot-self.false in
    omega (arith, differs, c.len-slot.ensures, h.slots.ok.0, few_objects h c.self.invariant c.args.self.now c.self.view_is, c.self.invariant.queues)

pub push_reserved-requires : goal.push_reserved-requires
push_reserved-requires c =
    let h = c.self.inside in
    let differs : c.len-slot.result ≢ h.limits.objects = c.if-slot-self.false in
    omega (arith, differs, c.len-slot.ensures, h.slots.ok.0, few_objects h c.self.invariant c.args.self.now c.self.view_is, c.self.invariant.slots)

pub overflow_cast-result : goal.overflow_cast-result
overflow_cast-result c =
    let h = c.self.inside in
    omega (arith, c.len-slot.ensures, h.slots.ok.0, few_objects h c.self.invariant c.args.self.now c.self.view_is, c.self.invariant.objects)

pub invariant_of-self-2 : goal.invariant_of-self-2
invariant_of-self-2 c =
    let h = c.self.inside in
    let differs : c.len-slot.result ≢ h.limits.objects = c.if-slot-self.false in
    let end : c.len-slot.result ≡ length h.slots.items = omega (arith, c.len-slot.ensures, h.slots.ok.0) in
    let room : length h.slots.items < h.limits.objects = omega (arith, end, differs, few_objects h c.self.invariant c.args.self.now c.self.view_is) in
    let begun = c.if-not-begin_frame.ensures.begun refl in
    more_kept h c.self.invariant c.args.self.now c.self.view_is c.args.class c.args.vars begun.0 c.len-slot.result
    (record { limits = h.limits; slots = c.push_reserved.new.self; values = h.values; frames = c.begin_frame.new.frames })
    end c.requires refl refl c.push_reserved.ensures.capacity c.push_reserved.ensures.items begun.2 room

pub returns-clause-ok : goal.returns-clause-ok
returns-clause-ok c =
    let h = c.self.inside in
    let differs : c.len-slot.result ≢ h.limits.objects = c.if-slot-self.false in
    let end : c.len-slot.result ≡ length h.slots.items = omega (arith, c.len-slot.ensures, h.slots.ok.0) in
    let room : length h.slots.items < h.limits.objects = omega (arith, end, differs, few_objects h c.self.invariant c.args.self.now c.self.view_is) in
    let begun = c.if-not-begin_frame.ensures.begun refl in (
      end ∙ sym (count h c.self.invariant c.args.self.now c.self.view_is),
      more_put h c.self.invariant c.args.self.now c.self.view_is c.args.class c.args.vars begun.0 c.len-slot.result
          (record { limits = h.limits; slots = c.push_reserved.new.self; values = h.values; frames = c.begin_frame.new.frames })
          end c.requires refl refl c.push_reserved.ensures.capacity c.push_reserved.ensures.items begun.2 room begun.1,
    )

pub returns-clause-objects : goal.returns-clause-objects
returns-clause-objects c =
    let h = c.self.inside in
    let most : h.limits.objects ≡ c.args.self.now.most_objects = most_objects_are h c.self.invariant c.args.self.now c.self.view_is in
    let differs : c.len-slot.result ≢ h.limits.objects = c.if-slot-self.false in
    (λ other. absurd (cc other), λ all. absurd (omega (arith, all, differs, c.len-slot.ensures, h.slots.ok.0, count h c.self.invariant c.args.self.now c.self.view_is)))

pub returns-clause-frames : goal.returns-clause-frames
returns-clause-frames c =
    let h = c.self.inside in
    (λ other. absurd (cc other), λ p. absurd (cc (c.if-not-begin_frame.ensures.full.1 (none_free h c.self.invariant c.args.self.now c.self.view_is p.1))))

pub returns-then-not-begin_frame-clause-objects : goal.returns-then-not-begin_frame-clause-objects
returns-then-not-begin_frame-clause-objects c =
    let h = c.self.inside in
    let most : h.limits.objects ≡ c.args.self.now.most_objects = most_objects_are h c.self.invariant c.args.self.now c.self.view_is in
    let differs : c.len-slot.result ≢ h.limits.objects = c.if-slot-self.false in
    (λ other. absurd (cc other), λ all. absurd (omega (arith, all, differs, c.len-slot.ensures, h.slots.ok.0, count h c.self.invariant c.args.self.now c.self.view_is)))

pub returns-then-not-begin_frame-clause-frames : goal.returns-then-not-begin_frame-clause-frames
returns-then-not-begin_frame-clause-frames c =
    let h = c.self.inside in
    let most : h.limits.objects ≡ c.args.self.now.most_objects = most_objects_are h c.self.invariant c.args.self.now c.self.view_is in
    let differs : c.len-slot.result ≢ h.limits.objects = c.if-slot-self.false in
    let room : length c.args.self.now.objects < c.args.self.now.most_objects =
    omega (arith, differs, c.len-slot.ensures, h.slots.ok.0, count h c.self.invariant c.args.self.now c.self.view_is, few_objects h c.self.invariant c.args.self.now c.self.view_is)
    in
    (λ _. (room, full h c.self.invariant c.args.self.now c.self.view_is c.begin_frame.ensures.within (c.if-not-begin_frame.ensures.full.0 refl)), λ _. refl)
