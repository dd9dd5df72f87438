use Rattle.std.proofs.Common.{◌≡◌, true, ap, ◌∙◌, rules, arith}
use Rattle.run_types.specs.Table.{is_distinct}
use Rattle.run_types.proofs.Texts.{texts_of, new_at}
use Rattle.run_types.proofs.names.Names.copy.Goals as goal

-- src/names.rt:94:13
pub put-requires-clause-new : goal.put-requires-clause-new
put-requires-clause-new c =
    let d : is_distinct (texts_of c.as_slice-text-items.result.now) ≡ true = ap (λ keys. is_distinct (texts_of keys)) c.as_slice-text-items.ensures.keys ∙ c.self.invariant.0 in
    let n = new_at c.as_slice-text-items.result.now c.loop-text.text-index c.text-item.result (omega arith) c.text-item.is d in
    let e : c.in_ok-to_vec.field-0.items ≡ c.text-item.result.items = search rules in
    rw (c.loop-text.invariant, e) n
