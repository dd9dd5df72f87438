use Rattle.std.proofs.Common.{◌≡◌, ◌∙◌, ap, sym, slice_get, ◌==◌}
use Rattle.std.specs.Option.{option_map}
use Rattle.std.specs.List.{find}
use Rattle.message_queue.specs.declared.Mail.{Mail}
use Rattle.message_queue.proofs.Parts.{lent_at, found_early, not_early, first_of_is}
use Rattle.message_queue.proofs.MessageQueue.first_of.Goals as goal

pub returns-in-Some : goal.returns-in-Some
returns-in-Some c =
    let f = found_early (λ (m : Mail). m.method.0 == c.args.method.0) c.self.inside.early.items c.self.inside.behind c.in-Some.at (sym c.place_of.ensures ∙ c.in-Some.is) in
    let g : option_map (λ m. m.now) c.get.result ≡ slice_get c.self.inside.early.items c.in-Some.at = lent_at c.self.inside.early.items c.in-Some.at _ c.get.result c.self.inside.early.ok.0 c.get.ensures.variant c.get.ensures.lookup f.2 in
    first_of_is c.args.method.0 c.args.self.now c.get.result (g ∙ sym f.0 ∙ ap (find (λ (m : Mail). m.method.0 == c.args.method.0)) c.self.view_is)

pub returns-in-None : goal.returns-in-None
returns-in-None c =
    let f = not_early (λ (m : Mail). m.method.0 == c.args.method.0) c.self.inside.early.items c.self.inside.behind (sym c.place_of.ensures ∙ c.in-None.is) in
    first_of_is c.args.method.0 c.args.self.now c.first_of.result (c.first_of.ensures ∙ sym f.0 ∙ ap (find (λ (m : Mail). m.method.0 == c.args.method.0)) c.self.view_is)
