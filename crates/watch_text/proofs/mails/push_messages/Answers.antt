use Rattle.std.proofs.Common.{◌≡◌, ◌∙◌, ◌++◌, ap, sym, map, Some, None, append-nil}
use Rattle.std.specs.Option.{option_copied}
use Rattle.std.specs.Map.{lookup}
use Rattle.std.specs.BTreeMap.{is_at}
use Rattle.run_types.specs.Tables.{Pair, pair_cmp}
use Rattle.pool_semantics.specs.Mails.{message_of}
use Rattle.pool_semantics.proofs.Laws.{list_found, list_missing}
use Rattle.term_text.proofs.Laws.{on_ok}
use Rattle.term_text.specs.StateText.{mail_text}
use Rattle.watch_text.proofs.mails.push_messages.Goals as goal

pub returns-in-None : goal.returns-in-None
returns-in-None c =
    let es = c.args.state.now.messages.entries in
    let k : Pair = (c.args.sender, c.args.receiver) in
    let h : lookup (is_at (pair_cmp k)) es ≡ None = sym c.get.ensures.value ∙ ap option_copied c.in-None.is in
    let base = c.args.text.now.items in
    sym (ap (λ ms. base ++ mail_text c.args.names.now ms) (list_missing (λ q. map message_of q) k es h) ∙ append-nil base)

pub returns-in-Some : goal.returns-in-Some
returns-in-Some c =
    let es = c.args.state.now.messages.entries in
    let k : Pair = (c.args.sender, c.args.receiver) in
    let h : lookup (is_at (pair_cmp k)) es ≡ Some c.in-Some.queue.now = sym c.get.ensures.value ∙ ap option_copied c.in-Some.is in
    let base = c.args.text.now.items in
    on_ok c.push_queue.result
    (λ e. e ∙ sym (ap (λ ms. base ++ mail_text c.args.names.now ms) (list_found (λ q. map message_of q) k es c.in-Some.queue.now h)))
    c.push_queue.ensures
