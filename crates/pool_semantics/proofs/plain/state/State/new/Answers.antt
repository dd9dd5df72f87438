use Rattle.std.proofs.Common.{◌≡◌, ◌∙◌, ap, refl, sym, Some, true, false, ◌==◌, is_some, arith}
use Rattle.pool_syntax.specs.TreeOf.{program_of, class_tree}
use Rattle.std.specs.Ordering.{nat_cmp}
use Rattle.std.specs.BTreeMap.{get}
use Rattle.std.specs.FinMap.{put}
use Rattle.object_acts.specs.ClassesAndMethods.{class_seen}
use Rattle.pool_syntax.specs.Classes.{class_of}
use Rattle.pool_relation.specs.Transition.{new_object}
use Rattle.pool_semantics.specs.Plains.{configuration}
use Rattle.pool_semantics.proofs.AddedObject.{apart_from, none_there}
use Rattle.pool_semantics.proofs.Labels.{new_made, new_other, new_used, new_refused}
use Rattle.pool_semantics.proofs.plain.state.State.new.Goals as goal

pub returns-in_default-clause-step : goal.returns-in_default-clause-step
returns-in_default-clause-step c =
    let s = c.args.self.now in
    (new_refused (program_of s.program.now) s.objects (configuration s).messages c.args.object c.args.name c.args.class c.in-Some.field-0-0.now c.in-Some.act c.in-Some.ensures.some c.in_default.not-New, refl)

pub returns-then-made-class-clause-step : goal.returns-then-made-class-clause-step
returns-then-made-class-clause-step c =
    let s = c.args.self.now in
    let d = rw c.in-New.is at c.in-Some.ensures.some in
    let h : (c.in-New.made.0 == c.args.class.0) ≡ false = grind arith in
    (new_other (program_of s.program.now) s.objects (configuration s).messages c.args.object c.args.name c.args.class c.in-New.made c.in-Some.field-0-0.now d h, refl)

pub returns-then-contains_key-clause-step : goal.returns-then-contains_key-clause-step
returns-then-contains_key-clause-step c =
    let s = c.args.self.now in
    let d = rw c.in-New.is at c.in-Some.ensures.some in
    let h : is_some (get nat_cmp s.objects c.args.name) ≡ true = sym c.contains_key.ensures ∙ c.if-contains_key.true in
    (new_used (program_of s.program.now) s.objects (configuration s).messages c.args.object c.args.name c.args.class c.in-New.made c.in-Some.field-0-0.now d h, refl)

pub add-requires : goal.add-requires
add-requires c =
    let s = c.args.self.now in
    let d = rw c.in-New.is at c.in-Some.ensures.some in
    let g : is_some (get nat_cmp s.objects c.args.name) ≡ false = sym c.contains_key.ensures ∙ c.if-contains_key.false in
    c.in_ok-update-in-Some-find_class.ensures.others c.args.name (apart_from s.objects c.args.name c.args.object c.in-Some.field-0-0.now g d.found) ∙ none_there (get nat_cmp s.objects c.args.name) g

pub returns-in_ok-add-in-Some-find_class-clause-step : goal.returns-in_ok-add-in-Some-find_class-clause-step
returns-in_ok-add-in-Some-find_class-clause-step c =
    let s = c.args.self.now in
    let t = c.in-Some.field-0-0.now in
    let d = rw c.in-New.is at c.in-Some.ensures.some in
    let ms = (configuration s).messages in
    let p = program_of s.program.now in
    let k = class_tree c.in-Some-find_class.declared.now in
    let h : (c.in-New.made.0 == c.args.class.0) ≡ true = grind arith in
    let g : is_some (get nat_cmp s.objects c.args.name) ≡ false = sym c.contains_key.ensures ∙ c.if-contains_key.false in
    let f : class_of p c.args.class.0 ≡ Some k = sym c.find_class.ensures ∙ ap class_seen c.in-Some-find_class.is in (
      new_made p s.objects ms c.args.object c.args.name c.args.class c.in-New.made t k d h g f
          ∙ ap (λ os. Some (record { objects = os; messages = ms }))
          (sym (c.in_ok-add-in-Some-find_class.ensures.added ∙ ap (put nat_cmp c.args.name (new_object k)) (c.in_ok-update-in-Some-find_class.ensures.changed t d.found))),
      refl,
    )
