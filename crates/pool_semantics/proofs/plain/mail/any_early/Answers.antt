use Rattle.std.proofs.Common.{◌≡◌, ◌<◌, ◌∙◌, ℕ, ap, subst, sym, length, is_some, Bool, true, arith}
use Rattle.stepper_terms.specs.Arguments.{now_names, now_choices}
use Rattle.stepper_objects.specs.Offers.{offer_act}
use Rattle.message_queue.specs.declared.Mail.{Mail}
use Rattle.pool_semantics.proofs.EarliestMessage.{any_here, any_none, offered_some}
use Rattle.pool_semantics.proofs.plain.mail.any_early.Goals as goal

pub returns-then-is_some : goal.returns-then-is_some
returns-then-is_some c =
    let e = c.index.result.now in
    let f : ℕ → Bool = λ n. is_some (offer_act c.args.act.now (now_names c.args.work.now.next) (now_choices c.args.work.now.next) n) in
    let here : f e.method.0 ≡ true = ap is_some (sym c.offer_to.ensures) ∙ (offered_some c.offer_to.result ∙ (sym c.is_some.ensures ∙ c.if-is_some.true)) in
    let inside : c.loop-at.at < length c.args.mails.now.items = omega (arith, c.loop-at-test.true, c.len.ensures) in
    sym (any_here f c.args.mails.now.items c.loop-at.at e inside (subst (λ (m : Mail). f m.method.0 ≡ true) c.index.ensures here))

pub returns : goal.returns
returns c =
    let f : ℕ → Bool = λ n. is_some (offer_act c.args.act.now (now_names c.args.work.now.next) (now_choices c.args.work.now.next) n) in
    sym (any_none f c.args.mails.now.items (λ k d lt. c.loop-at.invariant k d (omega (arith, lt, c.loop-at-test.false, c.len.ensures))))
