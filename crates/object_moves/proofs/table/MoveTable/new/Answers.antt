use Rattle.std.proofs.Common.{◌<◌, ap, subst, ◌∙◌, [], length, Some, arith}
use Rattle.std.proofs.lemmas.List.Elements.{All-head}
use Rattle.std.specs.Option.{IfSome}
use Rattle.search_states.specs.States.{states}
use Rattle.object_moves.specs.Known.{numbers_of_one}
use Rattle.object_moves.specs.Rows.{AreWithin}
use Rattle.object_moves.specs.declared.known.One.TheVariants as O
use Rattle.object_moves.proofs.KnownFacts.{both_within}
use Rattle.object_moves.proofs.StateGrowth.{no_shorter}
use Rattle.object_moves.proofs.table.MoveTable.new.Goals as goal

pub returns-in-Ok-Some-To-newborn-clause-within : goal.returns-in-Ok-Some-To-newborn-clause-within
returns-in-Ok-Some-To-newborn-clause-within c =
    let ys = states c.follow.new.self.table in
    let zs = states c.newborn.new.self.table in
    let told = c.in-Ok-Some-To in
    let born = c.in-Ok-Some-To-newborn in
    let first : AreWithin ys (numbers_of_one (O.To told.maker)) = subst (λ r. IfSome r (λ m. AreWithin ys (numbers_of_one m))) (told.field-0-is ∙ ap Some told.field-0-0-is) told.ensures.within in
    let second : AreWithin zs (numbers_of_one (O.To born.new)) = subst (λ r. IfSome r (λ m. AreWithin zs (numbers_of_one m))) (born.field-0-is ∙ ap Some born.field-0-0-is) born.ensures.within in
    let longer = no_shorter ys zs born.ensures.grows in
    let maker : told.maker < length ys = All-head (λ n. n < length ys) told.maker [] first in
    both_within zs told.maker born.new (omega (arith, maker, longer)) (All-head (λ n. n < length zs) born.new [] second)
