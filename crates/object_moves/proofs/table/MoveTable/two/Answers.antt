use Rattle.std.proofs.Common.{◌≡◌, ◌<◌, ap, subst, ◌∙◌, [], length, Some, None, arith}
use Rattle.std.proofs.lemmas.List.Elements.{All-head}
use Rattle.std.specs.Option.{IfSome}
use Rattle.pool_syntax.specs.Terms.{ProgramTree}
use Rattle.pool_syntax.specs.TreeOf.{program_of}
use Rattle.search_states.specs.States.{states}
use Rattle.object_moves.specs.Known.{numbers_of_one, one_of, state_at}
use Rattle.object_moves.specs.Roles.{after}
use Rattle.object_moves.specs.Rows.{AreWithin}
use Rattle.object_moves.specs.declared.known.One.TheVariants as O
use Rattle.object_moves.proofs.KnownFacts.{both_within}
use Rattle.object_moves.proofs.PartEffects.{no_asking, served_both, served_none}
use Rattle.object_moves.proofs.StateGrowth.{no_shorter}
use Rattle.object_moves.proofs.table.MoveTable.two.Goals as goal

pub returns-in-Ok-Some-To-follow-clause-is : goal.returns-in-Ok-Some-To-follow-clause-is
returns-in-Ok-Some-To-follow-clause-is c =
    let p = program_of c.args.self.now.program.now in
    let xs = states c.args.self.now.table in
    let ys = states c.follow.new.self.table in
    let zs = states c.follow-in-Ok-Some-To.new.self.table in
    let b = c.args.pair.receiver in
    let o = c.args.pair.caller in
    let s = c.args.pair.serving in
    let t = c.args.pair.asking in
    let asking = c.asking-asking.result in
    let serving = c.serving-serving.result in
    let told = c.in-Ok-Some-To in
    let more = c.in-Ok-Some-To-follow in
    let first : after p o asking (state_at xs t) ≡ Some (state_at ys told.asked) = subst (λ r. IfSome r (λ m. after p o asking (state_at xs t) ≡ one_of ys m)) (told.field-0-is ∙ ap Some told.field-0-0-is) told.ensures.is in
    let within : AreWithin ys (numbers_of_one (O.To told.asked)) = subst (λ r. IfSome r (λ m. AreWithin ys (numbers_of_one m))) (told.field-0-is ∙ ap Some told.field-0-0-is) told.ensures.within in
    let q = program_of c.follow.new.self.program.now in
    let then : after q b serving (state_at ys s) ≡ Some (state_at zs more.served) = subst (λ r. IfSome r (λ m. after q b serving (state_at ys s) ≡ one_of zs m)) (more.field-0-is ∙ ap Some more.field-0-0-is) more.ensures.is in
    let second : after p b serving (state_at ys s) ≡ Some (state_at zs more.served) = subst (λ (r : ProgramTree). after r b serving (state_at ys s) ≡ Some (state_at zs more.served)) (ap (λ r. program_of r.now) told.ensures.program) then in
    served_both p b o c.args.act.now asking serving c.asking-asking.ensures.0 c.asking-asking.ensures.1 c.serving-serving.ensures.0 c.serving-serving.ensures.1 xs ys zs told.ensures.grows more.ensures.grows s t c.requires.serving more.served told.asked
    (All-head (λ n. n < length ys) told.asked [] within) first second

pub returns-in-Ok-Some-To-follow-clause-within : goal.returns-in-Ok-Some-To-follow-clause-within
returns-in-Ok-Some-To-follow-clause-within c =
    let ys = states c.follow.new.self.table in
    let zs = states c.follow-in-Ok-Some-To.new.self.table in
    let told = c.in-Ok-Some-To in
    let more = c.in-Ok-Some-To-follow in
    let first : AreWithin ys (numbers_of_one (O.To told.asked)) = subst (λ r. IfSome r (λ m. AreWithin ys (numbers_of_one m))) (told.field-0-is ∙ ap Some told.field-0-0-is) told.ensures.within in
    let second : AreWithin zs (numbers_of_one (O.To more.served)) = subst (λ r. IfSome r (λ m. AreWithin zs (numbers_of_one m))) (more.field-0-is ∙ ap Some more.field-0-0-is) more.ensures.within in
    let longer = no_shorter ys zs more.ensures.grows in
    let asked : told.asked < length ys = All-head (λ n. n < length ys) told.asked [] first in
    both_within zs more.served told.asked (All-head (λ n. n < length zs) more.served [] second) (omega (arith, asked, longer))

pub returns-in-Ok-Some-Impossible-follow-clause-is : goal.returns-in-Ok-Some-Impossible-follow-clause-is
returns-in-Ok-Some-Impossible-follow-clause-is c =
    let p = program_of c.args.self.now.program.now in
    let xs = states c.args.self.now.table in
    let ys = states c.follow.new.self.table in
    let zs = states c.follow-in-Ok-Some-To.new.self.table in
    let b = c.args.pair.receiver in
    let o = c.args.pair.caller in
    let s = c.args.pair.serving in
    let t = c.args.pair.asking in
    let asking = c.asking-asking.result in
    let serving = c.serving-serving.result in
    let told = c.in-Ok-Some-To in
    let more = c.in-Ok-Some-Impossible-follow in
    let first : after p o asking (state_at xs t) ≡ Some (state_at ys told.asked) = subst (λ r. IfSome r (λ m. after p o asking (state_at xs t) ≡ one_of ys m)) (told.field-0-is ∙ ap Some told.field-0-0-is) told.ensures.is in
    let q = program_of c.follow.new.self.program.now in
    let then : after q b serving (state_at ys s) ≡ None = subst (λ r. IfSome r (λ m. after q b serving (state_at ys s) ≡ one_of zs m)) (more.field-0-is ∙ ap Some more.field-0-0-is) more.ensures.is in
    let second : after p b serving (state_at ys s) ≡ None = subst (λ (r : ProgramTree). after r b serving (state_at ys s) ≡ None) (ap (λ r. program_of r.now) told.ensures.program) then in
    served_none p b o c.args.act.now asking serving c.asking-asking.ensures.0 c.asking-asking.ensures.1 c.serving-serving.ensures.0 c.serving-serving.ensures.1 xs ys zs told.ensures.grows more.ensures.grows s t c.requires.serving told.asked first second

pub returns-in-Ok-Some-Impossible-clause-is : goal.returns-in-Ok-Some-Impossible-clause-is
returns-in-Ok-Some-Impossible-clause-is c =
    let p = program_of c.args.self.now.program.now in
    let xs = states c.args.self.now.table in
    let ys = states c.follow.new.self.table in
    let o = c.args.pair.caller in
    let t = c.args.pair.asking in
    let asking = c.asking-asking.result in
    let told = c.in-Ok-Some-Impossible in
    let first : after p o asking (state_at xs t) ≡ None = subst (λ r. IfSome r (λ m. after p o asking (state_at xs t) ≡ one_of ys m)) (told.field-0-is ∙ ap Some told.field-0-0-is) told.ensures.is in
    no_asking p c.args.pair.receiver o c.args.act.now asking c.serving-serving.result c.asking-asking.ensures.0 c.asking-asking.ensures.1 c.serving-serving.ensures.0 c.serving-serving.ensures.1 (state_at xs c.args.pair.serving) (state_at xs t) first
