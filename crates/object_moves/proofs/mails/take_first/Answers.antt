use Rattle.std.proofs.Common.{◌≡◌, sym, ap, ◌∙◌, Some}
use Rattle.std.specs.Map.{lookup}
use Rattle.std.specs.BTreeMap.{is_at}
use Rattle.std.specs.Option.{option_copied}
use Rattle.run_types.specs.Tables.{Pair, pair_cmp, list_at, put_list}
use Rattle.run_types.proofs.Laws.{same_some}
use Rattle.message_queue.specs.Mails.{first_of, without_of}
use Rattle.pool_semantics.specs.Mails.{posts, queued}
use Rattle.pool_semantics.proofs.Laws.{list_found, list_missing}
use Rattle.object_moves.specs.Known.{parcel_message}
use Rattle.object_moves.proofs.WaitingMail.{head_is, lent_none, lent_some, not_the_first}
use Rattle.object_moves.proofs.mails.take_first.Goals as goal

pub returns-clause-made : goal.returns-clause-made
returns-clause-made c = λ _.
    let es = c.args.messages.now.entries in
    let a = c.args.act.now in
    let k : Pair = (a.other, c.args.receiver) in
    let q = c.in-Some.queue.now in
    let there : lookup (is_at (pair_cmp k)) es ≡ Some q = sym c.get.ensures.value ∙ ap option_copied c.in-Some.is in
    let all = list_found queued k es q there in
    let first : first_of a.method.0 (queued q) ≡ Some (parcel_message a) = lent_some (first_of a.method.0 (queued q)) c.first_of.result c.in-Some-first_of.mail c.first_of.ensures c.in-Some-first_of.is ∙ ap Some (c.is_mail.ensures.is c.if-not-is_mail.false) in
    let head = head_is a.method.0 (queued q) (parcel_message a) (sym c.is_next.ensures ∙ c.if-not-is_next.false) first in
    (head.0, all ∙ head.1, c.unpost.ensures ∙ ap (λ l. put_list pair_cmp k (without_of a.method.0 l) (posts es)) all ∙ ap (λ l. put_list pair_cmp k l (posts es)) head.2)

pub returns-in-None-clause-impossible : goal.returns-in-None-clause-impossible
returns-in-None-clause-impossible c = λ _.
    let es = c.args.messages.now.entries in
    let a = c.args.act.now in
    let k : Pair = (a.other, c.args.receiver) in
    not_the_first a.method.0 (list_at pair_cmp k (posts es)) (parcel_message a) (ap (first_of a.method.0) (list_missing queued k es (sym c.get.ensures.value ∙ ap option_copied c.in-None.is)))

pub returns-in-None-first_of-clause-impossible : goal.returns-in-None-first_of-clause-impossible
returns-in-None-first_of-clause-impossible c = λ _.
    let es = c.args.messages.now.entries in
    let a = c.args.act.now in
    let k : Pair = (a.other, c.args.receiver) in
    let q = c.in-Some.queue.now in
    let there : lookup (is_at (pair_cmp k)) es ≡ Some q = sym c.get.ensures.value ∙ ap option_copied c.in-Some.is in
    not_the_first a.method.0 (list_at pair_cmp k (posts es)) (parcel_message a) (ap (first_of a.method.0) (list_found queued k es q there) ∙ lent_none (first_of a.method.0 (queued q)) c.first_of.result c.first_of.ensures c.in-None-first_of.is)

pub returns-then-not-is_mail-clause-impossible : goal.returns-then-not-is_mail-clause-impossible
returns-then-not-is_mail-clause-impossible c = λ _ e.
    let es = c.args.messages.now.entries in
    let a = c.args.act.now in
    let k : Pair = (a.other, c.args.receiver) in
    let q = c.in-Some.queue.now in
    let there : lookup (is_at (pair_cmp k)) es ≡ Some q = sym c.get.ensures.value ∙ ap option_copied c.in-Some.is in
    let first = ap (first_of a.method.0) (list_found queued k es q there) ∙ lent_some (first_of a.method.0 (queued q)) c.first_of.result c.in-Some-first_of.mail c.first_of.ensures c.in-Some-first_of.is in
    c.is_mail.ensures.other c.if-not-is_mail.true (same_some (sym first ∙ e))
