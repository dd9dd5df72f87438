use Rattle.std.proofs.Common.{◌≡◌, ℕ, ◌+◌, ◌<◌, ◌^◌, List, [], get_or, position, Some, sym, ap, ◌∙◌, subst}
use Rattle.run_types.specs.declared.types.NameId.{NameId}
use Rattle.slot_queues.specs.Mail.{is_named}
use Rattle.slot_queues.specs.declared.Message.{Message}
use Rattle.mailbox.proofs.Front.{slot_early, slot_behind, place_early, place_behind, place_nowhere, place_fits, behind_below}
use Rattle.mailbox.proofs.Mailbox.first.Goals as goal

pub early_place-requires : goal.early_place-requires
early_place-requires c =
    let i = c.self.inside in slot_early i.early i.behind i.free i.cells c.self.invariant c.args.self.now c.self.view_is c.args.to c.requires

pub first-requires : goal.first-requires
first-requires c =
    let i = c.self.inside in slot_behind i.early i.behind i.free i.cells c.self.invariant c.args.self.now c.self.view_is c.args.to c.requires

pub overflow_add-result : goal.overflow_add-result
overflow_add-result c =
    let i = c.self.inside in let b = behind_below i.early i.behind i.free i.cells c.self.invariant c.args.self.now c.self.view_is c.args.to c.requires c.args.names.now c.in-Some-first.place c.in-Some-first.ensures in let f = place_fits i.early i.behind i.free i.cells c.self.invariant c.args.self.now c.self.view_is c.args.to c.requires c.in-Some-first.place b in let g : c.len.result + c.in-Some-first.place < 2 ^ 64 = subst (λ (n : ℕ). n + c.in-Some-first.place < 2 ^ 64) (sym c.len.ensures) f in record { fits = g }

pub returns-in-Some : goal.returns-in-Some
returns-in-Some c =
    let i = c.self.inside in let at : c.early_place.result ≡ position (λ (m : Message). is_named c.args.names.now m.method) (get_or i.early.lists c.args.to []) = c.early_place.ensures ∙ ap (λ (z : List NameId). position (λ (m : Message). is_named z m.method) (get_or i.early.lists c.args.to [])) c.items.ensures in place_early i.early i.behind i.free i.cells c.self.invariant c.args.self.now c.self.view_is c.args.to c.requires c.args.names.now c.in-Some.place (sym c.in-Some.is ∙ at)

pub returns-in-Some-first : goal.returns-in-Some-first
returns-in-Some-first c =
    let i = c.self.inside in let at : c.early_place.result ≡ position (λ (m : Message). is_named c.args.names.now m.method) (get_or i.early.lists c.args.to []) = c.early_place.ensures ∙ ap (λ (z : List NameId). position (λ (m : Message). is_named z m.method) (get_or i.early.lists c.args.to [])) c.items.ensures in ap (λ (n : ℕ). Some (n + c.in-Some-first.place)) c.len.ensures ∙ place_behind i.early i.behind i.free i.cells c.self.invariant c.args.self.now c.self.view_is c.args.to c.requires c.args.names.now c.in-Some-first.place (sym c.in-None.is ∙ at) c.in-Some-first.ensures

pub returns-in-None-first : goal.returns-in-None-first
returns-in-None-first c =
    let i = c.self.inside in let at : c.early_place.result ≡ position (λ (m : Message). is_named c.args.names.now m.method) (get_or i.early.lists c.args.to []) = c.early_place.ensures ∙ ap (λ (z : List NameId). position (λ (m : Message). is_named z m.method) (get_or i.early.lists c.args.to [])) c.items.ensures in place_nowhere i.early i.behind i.free i.cells c.self.invariant c.args.self.now c.self.view_is c.args.to c.requires c.args.names.now (sym c.in-None.is ∙ at) c.in-None-first.ensures
