use Rattle.std.proofs.Common.{◌≡◌, ◌∙◌, ap, sym, slice_get}
use Rattle.std.specs.Option.{option_map}
use Rattle.std.specs.List.{find}
use Rattle.pool_relation.specs.Transition.{names_method}
use Rattle.message_queue.specs.declared.Mail.{Mail}
use Rattle.message_queue.proofs.Parts.{lent_at, found_early, not_early, first_named_is, has_named_is}
use Rattle.message_queue.proofs.MessageQueue.first_named.Goals as goal

pub returns-in-Some-clause-first : goal.returns-in-Some-clause-first
returns-in-Some-clause-first c =
    let f = found_early (λ (m : Mail). names_method c.args.names.now m.method.0) c.self.inside.early.items c.self.inside.behind c.in-Some.at (sym c.place_named.ensures ∙ c.in-Some.is) in
    let g : option_map (λ m. m.now) c.get.result ≡ slice_get c.self.inside.early.items c.in-Some.at = lent_at c.self.inside.early.items c.in-Some.at _ c.get.result c.self.inside.early.ok.0 c.get.ensures.variant c.get.ensures.lookup f.2 in
    first_named_is c.args.names.now c.args.self.now c.get.result (g ∙ sym f.0 ∙ ap (find (λ (m : Mail). names_method c.args.names.now m.method.0)) c.self.view_is)

pub returns-in-Some-clause-has : goal.returns-in-Some-clause-has
returns-in-Some-clause-has c =
    let f = found_early (λ (m : Mail). names_method c.args.names.now m.method.0) c.self.inside.early.items c.self.inside.behind c.in-Some.at (sym c.place_named.ensures ∙ c.in-Some.is) in
    let g : option_map (λ m. m.now) c.get.result ≡ slice_get c.self.inside.early.items c.in-Some.at = lent_at c.self.inside.early.items c.in-Some.at _ c.get.result c.self.inside.early.ok.0 c.get.ensures.variant c.get.ensures.lookup f.2 in
    has_named_is c.args.names.now c.args.self.now c.get.result (g ∙ sym f.0 ∙ ap (find (λ (m : Mail). names_method c.args.names.now m.method.0)) c.self.view_is)

pub returns-in-None-clause-first : goal.returns-in-None-clause-first
returns-in-None-clause-first c =
    let f = not_early (λ (m : Mail). names_method c.args.names.now m.method.0) c.self.inside.early.items c.self.inside.behind (sym c.place_named.ensures ∙ c.in-None.is) in
    first_named_is c.args.names.now c.args.self.now c.first_named.result (c.first_named.ensures ∙ sym f.0 ∙ ap (find (λ (m : Mail). names_method c.args.names.now m.method.0)) c.self.view_is)

pub returns-in-None-clause-has : goal.returns-in-None-clause-has
returns-in-None-clause-has c =
    let f = not_early (λ (m : Mail). names_method c.args.names.now m.method.0) c.self.inside.early.items c.self.inside.behind (sym c.place_named.ensures ∙ c.in-None.is) in
    has_named_is c.args.names.now c.args.self.now c.first_named.result (c.first_named.ensures ∙ sym f.0 ∙ ap (find (λ (m : Mail). names_method c.args.names.now m.method.0)) c.self.view_is)
