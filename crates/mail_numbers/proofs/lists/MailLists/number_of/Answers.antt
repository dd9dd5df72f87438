use Rattle.std.proofs.Common.{◌≡◌, ap, sym, ◌∙◌, subst, map, take, length, arith}
use Rattle.message_queue.specs.Mails.{message_of}
use Rattle.mail_numbers.specs.Messages.{messages_of}
use Rattle.mail_numbers.specs.Numbered.{messages_at}
use Rattle.mail_numbers.proofs.Growth.{found_last, found_there, no_list_more, one_list_more}
use Rattle.mail_numbers.proofs.lists.MailLists.number_of.Goals as goal

pub returns-in_err-numbers-clause-grows : goal.returns-in_err-numbers-clause-grows
returns-in_err-numbers-clause-grows c =
    no_list_more (messages_of c.self.inside.mails) (messages_of c.numbers_of.new.table) c.self.inside.lists c.args.self.now c.self.view_is c.numbers_of.ensures.grows c.self.invariant

pub returns-in-Some-clause-grows : goal.returns-in-Some-clause-grows
returns-in-Some-clause-grows c =
    no_list_more (messages_of c.self.inside.mails) (messages_of c.numbers_of.new.table) c.self.inside.lists c.args.self.now c.self.view_is c.numbers_of.ensures.grows c.self.invariant

pub returns-in_default-try_from-clause-grows : goal.returns-in_default-try_from-clause-grows
returns-in_default-try_from-clause-grows c =
    no_list_more (messages_of c.self.inside.mails) (messages_of c.numbers_of.new.table) c.self.inside.lists c.args.self.now c.self.view_is c.numbers_of.ensures.grows c.self.invariant

pub returns-in_err-insert-clause-grows : goal.returns-in_err-insert-clause-grows
returns-in_err-insert-clause-grows c =
    no_list_more (messages_of c.self.inside.mails) (messages_of c.numbers_of.new.table) c.self.inside.lists c.args.self.now c.self.view_is c.numbers_of.ensures.grows c.self.invariant

pub returns-in_err-push-clause-grows : goal.returns-in_err-push-clause-grows
returns-in_err-push-clause-grows c =
    subst (λ zs. take (length c.args.self.now) (map (messages_at (messages_of c.numbers_of.new.table)) zs) ≡ c.args.self.now) (sym c.in_err-push.ensures.err) (no_list_more (messages_of c.self.inside.mails) (messages_of c.numbers_of.new.table) c.self.inside.lists c.args.self.now c.self.view_is c.numbers_of.ensures.grows c.self.invariant)

pub returns-in-Some-clause-found : goal.returns-in-Some-clause-found
returns-in-Some-clause-found c =
    found_there (messages_of c.numbers_of.new.table) c.self.inside.lists c.in-Some.number c.as_slice-2.result.now (map message_of c.args.mails.now) c.in-Some.ensures (ap (messages_at (messages_of c.numbers_of.new.table)) c.as_slice-2.ensures.value ∙ c.in_ok-numbers.ensures.messages)

pub returns-clause-found : goal.returns-clause-found
returns-clause-found c =
    found_last (messages_of c.self.inside.mails) (messages_of c.numbers_of.new.table) c.self.inside.lists c.args.self.now c.self.view_is c.numbers_of.ensures.grows c.self.invariant c.as_slice-3.result.now c.push.new.self c.in_ok-push.ensures.ok c.in-Ok.number (map message_of c.args.mails.now) (omega (arith, c.in-Ok.ensures, c.len.ensures)) (ap (messages_at (messages_of c.numbers_of.new.table)) c.as_slice-3.ensures.value ∙ c.in_ok-numbers.ensures.messages)

pub returns-clause-grows : goal.returns-clause-grows
returns-clause-grows c =
    one_list_more (messages_of c.self.inside.mails) (messages_of c.numbers_of.new.table) c.self.inside.lists c.args.self.now c.self.view_is c.numbers_of.ensures.grows c.self.invariant c.as_slice-3.result.now c.push.new.self c.in_ok-push.ensures.ok
