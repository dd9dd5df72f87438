use Rattle.std.proofs.Common.{◌≡◌, ◌∙◌, sym, ap, is_some, Option, Some, None, refl}
use Rattle.std.specs.Option.{option_copied}
use Rattle.std.specs.Borrow.{Bor}
use Rattle.std.specs.List.{list_any}
use Rattle.rendezvous_protocol.specs.Numbers.{is_number}
use Rattle.rendezvous_protocol.proofs.SlotNumbers.{is_out_there}
use Rattle.rendezvous_protocol.proofs.outstanding.Outstanding.is_out.Goals as goal

copied : {X : Type 0} (o : Option (Bor X)) → is_some (option_copied o) ≡ is_some o
copied None = refl
copied (Some x) = refl

pub returns : goal.returns
returns c =
    let n = is_out_there c.self.inside.slots c.self.inside.numbers.items c.args.number c.self.invariant in
    c.is_some.ensures ∙ sym (copied c.get.result) ∙ ap is_some c.get.ensures ∙ n ∙ ap (λ xs. list_any (is_number c.args.number) xs) c.self.view_is
