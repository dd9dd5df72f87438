use Rattle.std.proofs.Common.{Some, None, sym, ◌∙◌, arith}
use Rattle.mailbox.proofs.Front.{slot_early, slot_behind, more_free, early_below, early_taken, not_taken, none_behind, behind_taken, behind_taken_front, behind_more, take_early_front, box_length}
use Rattle.mailbox.proofs.Mailbox.take_first.Goals as goal

pub early_place-requires : goal.early_place-requires
early_place-requires c =
    let i = c.self.inside in slot_early i.early i.behind i.free i.cells c.self.invariant c.args.self.now c.self.view_is c.args.to c.requires

pub overflow_add-self : goal.overflow_add-self
overflow_add-self c =
    let i = c.self.inside in let at = c.early_place.ensures in let below = early_below i.early i.behind i.free i.cells c.self.invariant c.args.self.now c.self.view_is c.args.to c.requires c.args.names.now c.in-Some.place (sym c.in-Some.is ∙ at) in record { fits = more_free i.early i.behind i.free i.cells c.self.invariant c.args.self.now c.self.view_is c.args.to c.requires (omega (arith, below, box_length i.early i.behind i.free i.cells c.self.invariant c.args.self.now c.self.view_is c.args.to c.requires)) }

pub remove-requires : goal.remove-requires
remove-requires c =
    let i = c.self.inside in let at = c.early_place.ensures in (slot_early i.early i.behind i.free i.cells c.self.invariant c.args.self.now c.self.view_is c.args.to c.requires, early_below i.early i.behind i.free i.cells c.self.invariant c.args.self.now c.self.view_is c.args.to c.requires c.args.names.now c.in-Some.place (sym c.in-Some.is ∙ at))

pub invariant_of-self : goal.invariant_of-self
invariant_of-self c =
    let i = c.self.inside in let at = c.early_place.ensures in let below = early_below i.early i.behind i.free i.cells c.self.invariant c.args.self.now c.self.view_is c.args.to c.requires c.args.names.now c.in-Some.place (sym c.in-Some.is ∙ at) in take_early_front i.early i.behind i.free i.cells c.self.invariant c.args.self.now c.self.view_is c.args.to c.requires c.in-Some.place below c.remove.new.self c.remove.ensures.lists

pub count_of-requires : goal.count_of-requires
count_of-requires c =
    let i = c.self.inside in slot_behind i.early i.behind i.free i.cells c.self.invariant c.args.self.now c.self.view_is c.args.to c.requires

pub returns-then-count_of-eq0 : goal.returns-then-count_of-eq0
returns-then-count_of-eq0 c =
    let i = c.self.inside in let at = c.early_place.ensures in not_taken i.early i.behind i.free i.cells c.self.invariant c.args.self.now c.self.view_is c.args.to c.requires c.args.names.now (sym c.in-None.is ∙ at) (none_behind i.early i.behind i.free i.cells c.self.invariant c.args.self.now c.self.view_is c.args.to c.requires c.args.names.now (sym c.count_of.ensures ∙ c.if-count_of-eq0.true))

pub overflow_add-self-in-Some-take_first : goal.overflow_add-self-in-Some-take_first
overflow_add-self-in-Some-take_first c =
    let i = c.self.inside in record { fits = more_free i.early i.behind i.free i.cells c.self.invariant c.args.self.now c.self.view_is c.args.to c.requires (behind_more i.early i.behind i.free i.cells c.self.invariant c.args.self.now c.self.view_is c.args.to c.requires c.args.names.now c.in-Some-take_first.message c.take_first.new.self c.in-Some-take_first.ensures) }

pub invariant_of-self-in-Some-take_first : goal.invariant_of-self-in-Some-take_first
invariant_of-self-in-Some-take_first c =
    let i = c.self.inside in behind_taken_front i.early i.behind i.free i.cells c.self.invariant c.args.self.now c.self.view_is c.args.to c.requires c.args.names.now c.in-Some-take_first.message c.take_first.new.self c.in-Some-take_first.ensures

pub returns-in-Some : goal.returns-in-Some
returns-in-Some c =
    let i = c.self.inside in let at = c.early_place.ensures in early_taken i.early i.behind i.free i.cells c.self.invariant c.args.self.now c.self.view_is c.args.to c.requires c.args.names.now c.in-Some.place (sym c.in-Some.is ∙ at) c.remove.result c.remove.ensures.value c.remove.new.self c.remove.ensures.lists

pub returns-in-Some-take_first : goal.returns-in-Some-take_first
returns-in-Some-take_first c =
    let i = c.self.inside in let at = c.early_place.ensures in behind_taken i.early i.behind i.free i.cells c.self.invariant c.args.self.now c.self.view_is c.args.to c.requires c.args.names.now (sym c.in-None.is ∙ at) (Some c.in-Some-take_first.message) c.take_first.new.self c.in-Some-take_first.ensures

pub returns-in-None-take_first : goal.returns-in-None-take_first
returns-in-None-take_first c =
    let i = c.self.inside in let at = c.early_place.ensures in behind_taken i.early i.behind i.free i.cells c.self.invariant c.args.self.now c.self.view_is c.args.to c.requires c.args.names.now (sym c.in-None.is ∙ at) None c.take_first.new.self c.in-None-take_first.ensures
