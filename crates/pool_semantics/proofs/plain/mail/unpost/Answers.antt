use Rattle.std.proofs.Common.{◌≡◌, ◌∙◌, ap, sym, Some, None, arith}
use Rattle.std.proofs.lemmas.Grind.{common_steps}
use Rattle.std.specs.Option.{option_copied_mut}
use Rattle.std.specs.Map.{lookup, remove_entry}
use Rattle.std.specs.BTreeMap.{is_at}
use Rattle.run_types.specs.Tables.{Pair, pair_cmp}
use Rattle.pool_semantics.specs.Mails.{posts}
use Rattle.pool_semantics.proofs.MessageQueues.{unposted_some, unposted_none, unposted_nothing}
use Rattle.pool_semantics.proofs.plain.mail.unpost.Goals as goal

pub returns-then-not-drop_of : goal.returns-then-not-drop_of
returns-then-not-drop_of c =
    let es = c.args.messages.now.entries in
    let k : Pair = (c.args.sender, c.args.receiver) in
    let h : lookup (is_at (pair_cmp k)) es ≡ Some c.in-Some.queue.now = sym c.get_mut.ensures.value ∙ ap option_copied_mut c.in-Some.is in
    ap posts (c.get_mut.follows.holds c.drop_of.new.queue).0 ∙ unposted_some k c.in-Some.queue.now c.drop_of.new.queue c.args.method.0 es c.get_mut.ensures.ordered h c.drop_of.ensures.rest (c.drop_of.ensures.some c.if-not-drop_of.true)

pub returns : goal.returns
returns c =
    let es = c.args.messages.now.entries in
    let k : Pair = (c.args.sender, c.args.receiver) in
    let h : lookup (is_at (pair_cmp k)) es ≡ Some c.in-Some.queue.now = sym c.get_mut.ensures.value ∙ ap option_copied_mut c.in-Some.is in
    ap posts (c.remove.ensures.entries ∙ ap (remove_entry (is_at (pair_cmp k))) (c.get_mut.follows.holds c.drop_of.new.queue).0)
    ∙ unposted_none k c.in-Some.queue.now c.drop_of.new.queue c.args.method.0 es c.get_mut.ensures.ordered h c.drop_of.ensures.rest (c.drop_of.ensures.none c.if-not-drop_of.false)

pub returns-in-None : goal.returns-in-None
returns-in-None c =
    let es = c.args.messages.now.entries in
    let k : Pair = (c.args.sender, c.args.receiver) in
    let h : lookup (is_at (pair_cmp k)) es ≡ None = sym c.get_mut.ensures.value ∙ ap option_copied_mut c.in-None.is in
    let o : c.get_mut.follows.lender-at-none.entries ≡ es = grind (arith, common_steps, c.get_mut.follows.holds-at-none) in
    ap posts o ∙ unposted_nothing k c.args.method.0 es h
