use Rattle.std.proofs.Common.{ℕ, is_some, Option, sym, ap, ◌∙◌}
use Rattle.mailbox.proofs.Front.{slot_early, slot_behind, has_early, none_early, has_behind, place_nowhere, none_behind}
use Rattle.mailbox.proofs.Mailbox.has_first.Goals as goal

pub early_place-requires : goal.early_place-requires
early_place-requires c =
    let i = c.self.inside in slot_early i.early i.behind i.free i.cells c.self.invariant c.args.self.now c.self.view_is c.args.to c.requires

pub returns-then-is_some : goal.returns-then-is_some
returns-then-is_some c =
    let i = c.self.inside in let at = c.early_place.ensures in has_early i.early i.behind i.free i.cells c.self.invariant c.args.self.now c.self.view_is c.args.to c.requires c.args.names.now c.early_place.result at (sym c.is_some.ensures ∙ c.if-is_some.true)

pub count_of-requires : goal.count_of-requires
count_of-requires c =
    let i = c.self.inside in slot_behind i.early i.behind i.free i.cells c.self.invariant c.args.self.now c.self.view_is c.args.to c.requires

pub returns-then-count_of-eq0 : goal.returns-then-count_of-eq0
returns-then-count_of-eq0 c =
    let i = c.self.inside in let at = c.early_place.ensures in let none = none_early i.early i.behind i.free i.cells c.self.invariant c.args.self.now c.self.view_is c.args.to c.requires c.args.names.now c.early_place.result at (sym c.is_some.ensures ∙ c.if-is_some.false) in ap (λ (o : Option ℕ). is_some o) (place_nowhere i.early i.behind i.free i.cells c.self.invariant c.args.self.now c.self.view_is c.args.to c.requires c.args.names.now none (none_behind i.early i.behind i.free i.cells c.self.invariant c.args.self.now c.self.view_is c.args.to c.requires c.args.names.now (sym c.count_of.ensures ∙ c.if-count_of-eq0.true)))

pub returns : goal.returns
returns c =
    let i = c.self.inside in let at = c.early_place.ensures in let none = none_early i.early i.behind i.free i.cells c.self.invariant c.args.self.now c.self.view_is c.args.to c.requires c.args.names.now c.early_place.result at (sym c.is_some.ensures ∙ c.if-is_some.false) in has_behind i.early i.behind i.free i.cells c.self.invariant c.args.self.now c.self.view_is c.args.to c.requires c.args.names.now none c.has_first.result c.has_first.ensures
