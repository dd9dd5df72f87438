use Rattle.std.proofs.Common.{◌≡◌, ◌∙◌, ap, sym, ◌==◌, ◌++◌, map, rules}
use Rattle.std.specs.Option.{option_map}
use Rattle.std.specs.List.{find, remove}
use Rattle.std.specs.Set.{remove_key}
use Rattle.message_queue.specs.declared.Mail.{Mail}
use Rattle.message_queue.specs.Mails.{message_of}
use Rattle.message_queue.proofs.Parts.{given_at, found_early, not_early, of_found, of_rest}
use Rattle.message_queue.proofs.MessageQueue.take_of.Goals as goal

pub returns-in-Some-clause-taken : goal.returns-in-Some-clause-taken
returns-in-Some-clause-taken c =
    let f = found_early (λ (m : Mail). m.method.0 == c.args.method.0) c.self.inside.early.items c.self.inside.behind c.in-Some.at (sym c.place_of.ensures ∙ c.in-Some.is) in
    let l = f.2 in
    let g = given_at c.self.inside.early.items c.in-Some.at _ c.remove.result c.self.inside.early.ok.0 c.remove.ensures.variant c.remove.ensures.value f.2 in
    ap (option_map message_of) (g ∙ sym f.0 ∙ ap (find (λ (m : Mail). m.method.0 == c.args.method.0)) c.self.view_is) ∙ of_found c.args.method.0 c.args.self.now

pub returns-in-Some-clause-rest : goal.returns-in-Some-clause-rest
returns-in-Some-clause-rest c =
    let f = found_early (λ (m : Mail). m.method.0 == c.args.method.0) c.self.inside.early.items c.self.inside.behind c.in-Some.at (sym c.place_of.ensures ∙ c.in-Some.is) in
    let l = f.2 in
    let g : c.remove.new.self.items ≡ remove c.self.inside.early.items c.in-Some.at = search rules in
    ap (map message_of) (ap (λ xs. xs ++ c.self.inside.behind) g ∙ sym f.1 ∙ ap (remove_key (λ (m : Mail). m.method.0 == c.args.method.0)) c.self.view_is) ∙ of_rest c.args.method.0 c.args.self.now

pub returns-in-None-clause-taken : goal.returns-in-None-clause-taken
returns-in-None-clause-taken c =
    let f = not_early (λ (m : Mail). m.method.0 == c.args.method.0) c.self.inside.early.items c.self.inside.behind (sym c.place_of.ensures ∙ c.in-None.is) in
    ap (option_map message_of) (c.take_of.ensures.taken ∙ sym f.0 ∙ ap (find (λ (m : Mail). m.method.0 == c.args.method.0)) c.self.view_is) ∙ of_found c.args.method.0 c.args.self.now

pub returns-in-None-clause-rest : goal.returns-in-None-clause-rest
returns-in-None-clause-rest c =
    let f = not_early (λ (m : Mail). m.method.0 == c.args.method.0) c.self.inside.early.items c.self.inside.behind (sym c.place_of.ensures ∙ c.in-None.is) in
    ap (map message_of) (ap (λ xs. c.self.inside.early.items ++ xs) c.take_of.ensures.rest ∙ sym f.1 ∙ ap (remove_key (λ (m : Mail). m.method.0 == c.args.method.0)) c.self.view_is) ∙ of_rest c.args.method.0 c.args.self.now
