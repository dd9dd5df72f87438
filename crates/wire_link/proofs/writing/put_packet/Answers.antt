use Rattle.std.proofs.Common.{[], ◌∷◌, ◌++◌, ap, sym, ◌∙◌}
use Rattle.wire_link.specs.Bytes.{args_bytes, number_bytes, packet_bytes}
use Rattle.wire_link.proofs.ByteConcatenation.{behind}
use Rattle.wire_link.proofs.writing.put_packet.Goals as goal

pub returns-in-Create-clause-items : goal.returns-in-Create-clause-items
returns-in-Create-clause-items c =
    let xs = c.args.bytes.now.items in
    let p = c.in-Create in
    let one = behind xs (1 ∷ []) (number_bytes p.number) _ _ c.push.ensures.items c.put_number.ensures.items in
    let two = behind xs _ (number_bytes p.from) _ _ one c.put_number-in-Create.ensures.items in
    let three = behind xs _ (number_bytes p.node) _ _ two c.put_number-in-Create-2.ensures.items in
    behind xs _ (number_bytes p.class.0) _ _ three c.put_number-in-Create-3.ensures.items ∙ ap (λ z. xs ++ packet_bytes z) (sym p.is)

pub returns-in-Created-clause-items : goal.returns-in-Created-clause-items
returns-in-Created-clause-items c =
    let xs = c.args.bytes.now.items in
    let p = c.in-Created in
    let one = behind xs (2 ∷ []) (number_bytes p.number) _ _ c.push-in-Created.ensures.items c.put_number-in-Created.ensures.items in
    let two = behind xs _ (number_bytes p.to) _ _ one c.put_number-in-Created-2.ensures.items in
    behind xs _ (number_bytes p.name) _ _ two c.put_number-in-Created-3.ensures.items ∙ ap (λ z. xs ++ packet_bytes z) (sym p.is)

pub returns-in-Request-clause-items : goal.returns-in-Request-clause-items
returns-in-Request-clause-items c =
    let xs = c.args.bytes.now.items in
    let p = c.in-Request in
    let one = behind xs (3 ∷ []) (number_bytes p.number) _ _ c.push-in-Request.ensures.items c.put_number-in-Request.ensures.items in
    let two = behind xs _ (number_bytes p.from) _ _ one c.put_number-in-Request-2.ensures.items in
    let three = behind xs _ (number_bytes p.to) _ _ two c.put_number-in-Request-3.ensures.items in
    let four = behind xs _ (number_bytes p.method.0) _ _ three c.put_number-in-Request-4.ensures.items in
    behind xs _ (args_bytes p.args) _ _ four c.put_args.ensures.items ∙ ap (λ z. xs ++ packet_bytes z) (sym p.is)

pub returns-in-Async-clause-items : goal.returns-in-Async-clause-items
returns-in-Async-clause-items c =
    let xs = c.args.bytes.now.items in
    let p = c.in-Async in
    let one = behind xs (5 ∷ []) (number_bytes p.from) _ _ c.push-in-Async.ensures.items c.put_number-in-Async.ensures.items in
    let two = behind xs _ (number_bytes p.to) _ _ one c.put_number-in-Async-2.ensures.items in
    let three = behind xs _ (number_bytes p.method.0) _ _ two c.put_number-in-Async-3.ensures.items in
    behind xs _ (args_bytes p.args) _ _ three c.put_args-in-Async.ensures.items ∙ ap (λ z. xs ++ packet_bytes z) (sym p.is)
