use Rattle.std.proofs.Common.{◌≡◌, ◌∙◌, ap, ap₂, refl, sym, [], length, ◌==◌, ◌&&◌, Some, None, true}
use Rattle.std.specs.Option.{option_copied}
use Rattle.pool_syntax.specs.TreeOf.{program_of, method_tree, statements_of}
use Rattle.pool_relation.specs.Action.{method_of}
use Rattle.run_types.specs.Tables.{Pair, pair_cmp, list_at, put_list}
use Rattle.pool_relation.specs.Transition as X
use Rattle.run_types.specs.Same.{are_same}
use Rattle.pool_relation.specs.Transition.{first_message, without_first}
use Rattle.run_types.specs.Message.{Message}
use Rattle.pool_relation.specs.Configuration.{messages_of}
use Rattle.stepper_terms.specs.Arguments.{now_names, now_choices}
use Rattle.stepper_objects.specs.ObjectStates.{thing_object}
use Rattle.object_acts.specs.ClassesAndMethods.{method_seen}
use Rattle.message_queue.specs.Mails.{message_of, without_of}
use Rattle.pool_semantics.specs.Mails.{queued}
use Rattle.stepper_objects.specs.Offers.{offered, offer_act}
use Rattle.pool_semantics.specs.Plains.{configuration}
use Rattle.pool_semantics.proofs.EarliestMessage.{no_first, the_first, without_named}
use Rattle.run_types.proofs.Laws.{first as first_of_both}
use Rattle.pool_semantics.proofs.PairMessages.{list_found, list_missing}
use Rattle.pool_semantics.proofs.Labels.{take_is, taken_none, taken_no_first, taken_other, taken_unknown, taken_some}
use Rattle.pool_semantics.proofs.plain.state.State.take.Goals as goal

pub returns-in_default-offer_to-clause-step : goal.returns-in_default-offer_to-clause-step
returns-in_default-offer_to-clause-step c =
    let s = c.args.self.now in
    let p = program_of s.program.now in
    let y = c.in-Some.serving.now in
    let k : Pair = (c.args.sender, c.args.receiver) in
    let w : offer_act c.in-Some.act (now_names y.work.next) (now_choices y.work.next) c.args.method.0 ≡ None = sym c.offer_to.ensures ∙ ap offered c.in_default-offer_to.is in
    (take_is p s.objects (configuration s).messages c.args.receiver c.args.sender c.args.method c.args.args y c.in-Some.act c.in-Some.ensures.some ∙ taken_none p (configuration s) c.args.receiver c.args.sender c.args.method c.args.args (thing_object y) _ w, refl)

pub returns-in_default-get-clause-step : goal.returns-in_default-get-clause-step
returns-in_default-get-clause-step c =
    let s = c.args.self.now in
    let p = program_of s.program.now in
    let y = c.in-Some.serving.now in
    let k : Pair = (c.args.sender, c.args.receiver) in
    let v : X.Offer = record { names = c.in-Some-offer_to.offer.names.now; work = statements_of c.in-Some-offer_to.offer.after.now } in
    let w : offer_act c.in-Some.act (now_names y.work.next) (now_choices y.work.next) c.args.method.0 ≡ Some v = sym c.offer_to.ensures ∙ ap offered c.in-Some-offer_to.is in
    let l : messages_of (configuration s) c.args.sender c.args.receiver ≡ [] = list_missing queued k s.messages.entries (sym c.get.ensures.value ∙ ap option_copied c.in_default-get.is) in
    (take_is p s.objects (configuration s).messages c.args.receiver c.args.sender c.args.method c.args.args y c.in-Some.act c.in-Some.ensures.some ∙ taken_no_first p (configuration s) c.args.receiver c.args.sender c.args.method c.args.args (thing_object y) _ v w (ap (first_message v.names) l), refl)

pub returns-in_default-first_named-clause-step : goal.returns-in_default-first_named-clause-step
returns-in_default-first_named-clause-step c =
    let s = c.args.self.now in
    let p = program_of s.program.now in
    let y = c.in-Some.serving.now in
    let k : Pair = (c.args.sender, c.args.receiver) in
    let v : X.Offer = record { names = c.in-Some-offer_to.offer.names.now; work = statements_of c.in-Some-offer_to.offer.after.now } in
    let w : offer_act c.in-Some.act (now_names y.work.next) (now_choices y.work.next) c.args.method.0 ≡ Some v = sym c.offer_to.ensures ∙ ap offered c.in-Some-offer_to.is in
    let q = c.in-Some-get.queue.now in
    let l : messages_of (configuration s) c.args.sender c.args.receiver ≡ queued q = list_found queued k s.messages.entries q (sym c.get.ensures.value ∙ ap option_copied c.in-Some-get.is) in
    (take_is p s.objects (configuration s).messages c.args.receiver c.args.sender c.args.method c.args.args y c.in-Some.act c.in-Some.ensures.some ∙ taken_no_first p (configuration s) c.args.receiver c.args.sender c.args.method c.args.args (thing_object y) _ v w (ap (first_message v.names) l ∙ no_first q v.names _ c.first_named.ensures.first c.in_default-first_named.is), refl)

pub returns-then-not-is_mail-clause-step : goal.returns-then-not-is_mail-clause-step
returns-then-not-is_mail-clause-step c =
    let s = c.args.self.now in
    let p = program_of s.program.now in
    let y = c.in-Some.serving.now in
    let k : Pair = (c.args.sender, c.args.receiver) in
    let v : X.Offer = record { names = c.in-Some-offer_to.offer.names.now; work = statements_of c.in-Some-offer_to.offer.after.now } in
    let w : offer_act c.in-Some.act (now_names y.work.next) (now_choices y.work.next) c.args.method.0 ≡ Some v = sym c.offer_to.ensures ∙ ap offered c.in-Some-offer_to.is in
    let q = c.in-Some-get.queue.now in
    let l : messages_of (configuration s) c.args.sender c.args.receiver ≡ queued q = list_found queued k s.messages.entries q (sym c.get.ensures.value ∙ ap option_copied c.in-Some-get.is) in
    let f : Message = message_of c.in-Some-first_named.mail.now in
    let i : first_message v.names (messages_of (configuration s) c.args.sender c.args.receiver) ≡ Some f = ap (first_message v.names) l ∙ the_first q v.names _ _ c.first_named.ensures.first c.in-Some-first_named.is in
    let same : c.is_mail.result ≡ (f.method == c.args.method.0 && are_same f.args c.args.args) = c.is_mail.ensures ∙ ap (λ vs. f.method == c.args.method.0 && are_same f.args vs) c.values.ensures in
    (take_is p s.objects (configuration s).messages c.args.receiver c.args.sender c.args.method c.args.args y c.in-Some.act c.in-Some.ensures.some ∙ taken_other p (configuration s) c.args.receiver c.args.sender c.args.method c.args.args (thing_object y) _ v f w i (sym same ∙ c.if-not-is_mail.true), refl)

pub returns-in_default-find_method-clause-step : goal.returns-in_default-find_method-clause-step
returns-in_default-find_method-clause-step c =
    let s = c.args.self.now in
    let p = program_of s.program.now in
    let y = c.in-Some.serving.now in
    let k : Pair = (c.args.sender, c.args.receiver) in
    let v : X.Offer = record { names = c.in-Some-offer_to.offer.names.now; work = statements_of c.in-Some-offer_to.offer.after.now } in
    let w : offer_act c.in-Some.act (now_names y.work.next) (now_choices y.work.next) c.args.method.0 ≡ Some v = sym c.offer_to.ensures ∙ ap offered c.in-Some-offer_to.is in
    let q = c.in-Some-get.queue.now in
    let l : messages_of (configuration s) c.args.sender c.args.receiver ≡ queued q = list_found queued k s.messages.entries q (sym c.get.ensures.value ∙ ap option_copied c.in-Some-get.is) in
    let f : Message = message_of c.in-Some-first_named.mail.now in
    let i : first_message v.names (messages_of (configuration s) c.args.sender c.args.receiver) ≡ Some f = ap (first_message v.names) l ∙ the_first q v.names _ _ c.first_named.ensures.first c.in-Some-first_named.is in
    let same : c.is_mail.result ≡ (f.method == c.args.method.0 && are_same f.args c.args.args) = c.is_mail.ensures ∙ ap (λ vs. f.method == c.args.method.0 && are_same f.args vs) c.values.ensures in
    let h : method_of p y.class c.args.method.0 (length c.args.args) ≡ None = ap (λ vs. method_of p y.class c.args.method.0 (length vs)) (sym c.values-2.ensures) ∙ sym c.find_method.ensures ∙ ap method_seen c.in_default-find_method.is in
    (take_is p s.objects (configuration s).messages c.args.receiver c.args.sender c.args.method c.args.args y c.in-Some.act c.in-Some.ensures.some ∙ taken_unknown p (configuration s) c.args.receiver c.args.sender c.args.method c.args.args (thing_object y) _ v f w i h, refl)

pub returns-clause-step : goal.returns-clause-step
returns-clause-step c =
    let s = c.args.self.now in
    let p = program_of s.program.now in
    let y = c.in-Some.serving.now in
    let k : Pair = (c.args.sender, c.args.receiver) in
    let v : X.Offer = record { names = c.in-Some-offer_to.offer.names.now; work = statements_of c.in-Some-offer_to.offer.after.now } in
    let w : offer_act c.in-Some.act (now_names y.work.next) (now_choices y.work.next) c.args.method.0 ≡ Some v = sym c.offer_to.ensures ∙ ap offered c.in-Some-offer_to.is in
    let q = c.in-Some-get.queue.now in
    let l : messages_of (configuration s) c.args.sender c.args.receiver ≡ queued q = list_found queued k s.messages.entries q (sym c.get.ensures.value ∙ ap option_copied c.in-Some-get.is) in
    let f : Message = message_of c.in-Some-first_named.mail.now in
    let i : first_message v.names (messages_of (configuration s) c.args.sender c.args.receiver) ≡ Some f = ap (first_message v.names) l ∙ the_first q v.names _ _ c.first_named.ensures.first c.in-Some-first_named.is in
    let same : c.is_mail.result ≡ (f.method == c.args.method.0 && are_same f.args c.args.args) = c.is_mail.ensures ∙ ap (λ vs. f.method == c.args.method.0 && are_same f.args vs) c.values.ensures in
    let m = c.in-Some-find_method.found.now in
    let h : method_of p y.class c.args.method.0 (length c.args.args) ≡ Some (method_tree m) = ap (λ vs. method_of p y.class c.args.method.0 (length vs)) (sym c.values-2.ensures) ∙ sym c.find_method.ensures ∙ ap method_seen c.in-Some-find_method.is in
    let ms = (configuration s).messages in
    let h-of : (f.method == c.args.method.0 && are_same f.args c.args.args) ≡ true = sym same ∙ c.if-not-is_mail.false in
    let r : without_of c.args.method.0 (list_at pair_cmp k ms) ≡ without_first v.names (messages_of (configuration s) c.args.sender c.args.receiver) = without_named v.names c.args.method.0 f (messages_of (configuration s) c.args.sender c.args.receiver) i (first_of_both (f.method == c.args.method.0) (are_same f.args c.args.args) h-of) in (
      take_is p s.objects (configuration s).messages c.args.receiver c.args.sender c.args.method c.args.args y c.in-Some.act c.in-Some.ensures.some
          ∙ taken_some p (configuration s) c.args.receiver c.args.sender c.args.method c.args.args (thing_object y) _ v f (method_tree m) w i h-of h
          ∙ ap₂ (λ os ns. Some (record { objects = os; messages = ns })) (sym (c.in_ok-update.ensures.changed y c.in-Some.ensures.some.found))
          (ap (λ ns. put_list pair_cmp k ns ms) (sym r) ∙ sym c.unpost.ensures),
      refl,
    )
