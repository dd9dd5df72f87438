use Rattle.std.proofs.Common.{◌≡◌, refl, sym, ap, ◌∙◌, length, Some, None}
use Rattle.pool_syntax.specs.TreeOf.{program_of, method_tree, statements_of}
use Rattle.pool_relation.specs.Action.{method_of}
use Rattle.pool_relation.specs.Transition as X
use Rattle.object_acts.specs.ClassesAndMethods.{method_seen}
use Rattle.stepper_objects.specs.Offers.{offered, offer_act}
use Rattle.stepper_terms.specs.Arguments.{now_choices, now_names}
use Rattle.object_moves.proofs.ChangeFacts.{no_method, no_offer, serve_change}
use Rattle.object_moves.proofs.changes.serve_of.Goals as goal

pub returns-in_default : goal.returns-in_default
returns-in_default c = λ o d.
    let t = c.args.state.now in
    let without : offer_act c.args.act.now (now_names t.work.next) (now_choices t.work.next) c.args.method.0 ≡ None = sym c.offer_to.ensures ∙ ap offered c.in_default.is in
    no_offer (program_of c.args.program.now) o t c.args.args c.args.act.now d c.args.method c.args.caller without

pub returns-in_default-find_method : goal.returns-in_default-find_method
returns-in_default-find_method c = λ o d.
    let p = program_of c.args.program.now in
    let t = c.args.state.now in
    let v : X.Offer = record { names = c.in-Some.offer.names.now; work = statements_of c.in-Some.offer.after.now } in
    let offers : offer_act c.args.act.now (now_names t.work.next) (now_choices t.work.next) c.args.method.0 ≡ Some v = sym c.offer_to.ensures ∙ ap offered c.in-Some.is in
    let unknown : method_of p t.class c.args.method.0 (length c.args.args) ≡ None = ap (λ l. method_of p t.class c.args.method.0 (length l)) (sym c.values.ensures) ∙ sym c.find_method.ensures ∙ ap method_seen c.in_default-find_method.is in
    no_method p o t c.args.args c.args.act.now d c.args.method c.args.caller v offers unknown

pub returns : goal.returns
returns c = λ o d.
    let p = program_of c.args.program.now in
    let t = c.args.state.now in
    let m = c.in-Some-find_method.found in
    let v : X.Offer = record { names = c.in-Some.offer.names.now; work = statements_of c.in-Some.offer.after.now } in
    let offers : offer_act c.args.act.now (now_names t.work.next) (now_choices t.work.next) c.args.method.0 ≡ Some v = sym c.offer_to.ensures ∙ ap offered c.in-Some.is in
    let known : method_of p t.class c.args.method.0 (length c.args.args) ≡ Some (method_tree m.now) = ap (λ l. method_of p t.class c.args.method.0 (length l)) (sym c.values.ensures) ∙ sym c.find_method.ensures ∙ ap method_seen c.in-Some-find_method.is in
    serve_change p o t c.args.args c.args.act.now d c.args.method c.args.caller v m c.in-Some.offer.after offers refl known
