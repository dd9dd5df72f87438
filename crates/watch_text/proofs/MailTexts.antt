-- The text of messages in two parts.
use Rattle.std.proofs.Common.{◌≡◌, refl, sym, ap, ◌∙◌, List, [], ◌∷◌, ◌++◌, map, append_assoc}
use Rattle.text_scan.specs.Text.{Text}
use Rattle.message_queue.specs.declared.Mail.{Mail}
use Rattle.message_queue.specs.Mails.{message_of}
use Rattle.watch_text.specs.Acting.{message_text}
use Rattle.term_text.specs.StateText.{mail_text}

pub text_both : (names : List Text) (ms ns : List Mail) → mail_text names (map message_of (ms ++ ns)) ≡ mail_text names (map message_of ms) ++ mail_text names (map message_of ns)
text_both names [] ns = refl
text_both names (m ∷ ms) ns = ap (λ l. message_text names (message_of m) ++ l) (text_both names ms ns) ∙ sym (append_assoc (message_text names (message_of m)) (mail_text names (map message_of ms)) (mail_text names (map message_of ns)))
