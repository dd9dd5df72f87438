use Rattle.std.proofs.Common.{◌≡◌, ◌∙◌, ◌++◌, ap, sym, map, append_assoc}
use Rattle.std.specs.BTreeMap.{values}
use Rattle.message_queue.specs.Mails.{message_of}
use Rattle.term_text.proofs.Laws.{on_ok}
use Rattle.term_text.specs.StateText.{mail_text}
use Rattle.watch_text.proofs.MailTexts.{text_both}
use Rattle.watch_text.proofs.mails.push_queue.Goals as goal

pub returns : goal.returns
returns c =
    let names = c.args.names.now in
    let old = c.args.text.now.items in
    let early = c.parts.result.0.now.items in
    let later = values c.parts.result.1.now in
    on_ok c.push_later.result
    (λ e. e ∙ ap (λ l. l ++ mail_text names (map message_of later)) c.in_ok-push_early.ensures ∙ append_assoc old (mail_text names (map message_of early)) (mail_text names (map message_of later))
    ∙ ap (λ l. old ++ l) (sym (text_both names early later) ∙ ap (λ ms. mail_text names (map message_of ms)) (sym c.parts.ensures)))
    c.push_later.ensures
