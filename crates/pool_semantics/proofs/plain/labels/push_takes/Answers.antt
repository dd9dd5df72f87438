use Rattle.std.proofs.Common.{◌∙◌, ◌++◌, ap, sym, map}
use Rattle.std.specs.BTreeMap.{values}
use Rattle.std.proofs.lemmas.List.{append_assoc}
use Rattle.reachability.specs.Labels.{takes}
use Rattle.run_types.specs.Tables.{Pair}
use Rattle.message_queue.specs.Mails.{message_of}
use Rattle.pool_semantics.proofs.LabelLists.{takes_both, on_ok}
use Rattle.pool_semantics.proofs.plain.labels.push_takes.Goals as goal

pub returns : goal.returns
returns c =
    let k : Pair = (c.args.sender, c.args.receiver) in
    let old = c.args.into.now.items in
    let early = c.parts.result.0.now.items in
    let later = values c.parts.result.1.now in
    on_ok c.push_later.result
    (λ e. e ∙ ap (λ l. l ++ takes k (map message_of later)) c.in_ok-push_early.ensures ∙ append_assoc old (takes k (map message_of early)) (takes k (map message_of later))
    ∙ ap (λ l. old ++ l) (sym (takes_both k early later) ∙ ap (λ ms. takes k (map message_of ms)) (sym c.parts.ensures)))
    c.push_later.ensures
