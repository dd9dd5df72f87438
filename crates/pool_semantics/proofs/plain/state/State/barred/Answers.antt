use Rattle.std.proofs.Common.{◌≡◌, ◌∙◌, ap, sym, Some, None}
use Rattle.std.specs.Option.{option_copied}
use Rattle.std.specs.Map.{lookup}
use Rattle.std.specs.BTreeMap.{is_at}
use Rattle.run_types.specs.Tables.{Pair, pair_cmp}
use Rattle.pool_relation.specs.Transition.{has_message}
use Rattle.pool_semantics.specs.Mails.{queued}
use Rattle.pool_semantics.proofs.PairMessages.{list_found, list_missing}
use Rattle.pool_semantics.proofs.plain.state.State.barred.Goals as goal

pub returns-in-None : goal.returns-in-None
returns-in-None c =
    let es = c.args.self.now.messages.entries in
    let k : Pair = (c.args.sender, c.args.receiver) in
    let h : lookup (is_at (pair_cmp k)) es ≡ None = sym c.get.ensures.value ∙ ap option_copied c.in-None.is in
    sym (ap (has_message c.args.names.now) (list_missing queued k es h))

pub returns-in-Some : goal.returns-in-Some
returns-in-Some c =
    let es = c.args.self.now.messages.entries in
    let k : Pair = (c.args.sender, c.args.receiver) in
    let h : lookup (is_at (pair_cmp k)) es ≡ Some c.in-Some.queue.now = sym c.get.ensures.value ∙ ap option_copied c.in-Some.is in
    c.is_some.ensures ∙ c.first_named.ensures.has ∙ sym (ap (has_message c.args.names.now) (list_found queued k es c.in-Some.queue.now h))
