use Rattle.std.proofs.Common.{◌≡◌, ◌∙◌, ap, sym, ◌++◌, ◌∷◌, [], Some, None, arith}
use Rattle.std.proofs.lemmas.Grind.{common_steps}
use Rattle.std.specs.Option.{option_copied_mut}
use Rattle.std.specs.Map.{lookup}
use Rattle.std.specs.BTreeMap.{is_at, insert_entry}
use Rattle.run_types.specs.Tables.{Pair, pair_cmp}
use Rattle.pool_semantics.specs.Mails.{posts}
use Rattle.pool_semantics.proofs.MessageQueues.{posted_last, posted_first}
use Rattle.pool_semantics.proofs.plain.mail.post.Goals as goal

pub returns-in_ok-push-in-Some : goal.returns-in_ok-push-in-Some
returns-in_ok-push-in-Some c =
    let es = c.args.messages.now.entries in
    let k : Pair = (c.args.sender, c.args.receiver) in
    let h : lookup (is_at (pair_cmp k)) es ≡ Some c.in-Some.queue.now = sym c.get_mut.ensures.value ∙ ap option_copied_mut c.in-Some.is in
    let e = posted_last k c.in-Some.queue.now c.push.new.self c.args.mail es c.get_mut.ensures.ordered h c.in_ok-push-in-Some.ensures.ok in
    ap posts (c.get_mut.follows.holds c.push.new.self).0 ∙ e

pub returns-in_ok-insert-in-None : goal.returns-in_ok-insert-in-None
returns-in_ok-insert-in-None c =
    let es = c.args.messages.now.entries in
    let k : Pair = (c.args.sender, c.args.receiver) in
    let h : lookup (is_at (pair_cmp k)) es ≡ None = sym c.get_mut.ensures.value ∙ ap option_copied_mut c.in-None.is in
    let i = c.in_ok-push-in-None.ensures.ok ∙ ap (λ l. l ++ c.args.mail ∷ []) c.new-queue.ensures in
    let o : c.get_mut.follows.lender-at-none.entries ≡ es = grind (arith, common_steps, c.get_mut.follows.holds-at-none) in
    ap posts (c.in_ok-insert-in-None.ensures.entries ∙ ap (λ l. insert_entry pair_cmp l k c.push-in-None.new.self) o) ∙ posted_first k c.push-in-None.new.self c.args.mail es h i
