use Rattle.std.proofs.Common.{subst, sym}
use Rattle.pool_syntax.specs.TreeOf.{program_of}
use Rattle.pool_semantics.specs.Moving.{IsLeast}
use Rattle.pool_semantics.proofs.MovingObjects.{Moves}
use Rattle.pool_semantics.specs.Plains.{configuration}
use Rattle.pool_semantics.proofs.MoverSearch.{can_move, none_below, none_moves, least_of_all}
use Rattle.pool_semantics.proofs.SoundSteps.{sound_now}
use Rattle.pool_semantics.proofs.plain.Plain.moving.Goals as goal

pub returns-clause-some : goal.returns-clause-some
returns-clause-some c =
    let s = c.args.self.now.state in
    let p = program_of s.program.now in
    let m = subst (λ r. IsLeast (Moves p (configuration s)) r) (sym c.lesser.ensures) (least_of_all p (configuration s) c.least_by_objects.result c.least_by_messages.result c.least_by_objects.ensures c.least_by_messages.ensures) in
    can_move p (configuration s) (sound_now c.args.self.now.spent p (configuration s) c.args.self.now.typed c.requires) c.lesser.result m

pub returns-clause-least : goal.returns-clause-least
returns-clause-least c =
    let s = c.args.self.now.state in
    let p = program_of s.program.now in
    let m = subst (λ r. IsLeast (Moves p (configuration s)) r) (sym c.lesser.ensures) (least_of_all p (configuration s) c.least_by_objects.result c.least_by_messages.result c.least_by_objects.ensures c.least_by_messages.ensures) in
    none_below p (configuration s) c.lesser.result m

pub returns-clause-none : goal.returns-clause-none
returns-clause-none c =
    let s = c.args.self.now.state in
    let p = program_of s.program.now in
    let m = subst (λ r. IsLeast (Moves p (configuration s)) r) (sym c.lesser.ensures) (least_of_all p (configuration s) c.least_by_objects.result c.least_by_messages.result c.least_by_objects.ensures c.least_by_messages.ensures) in
    none_moves p (configuration s) c.lesser.result m
