use Rattle.std.proofs.Common.{◌≡◌, ◌∙◌}
use Rattle.pool_syntax.specs.TreeOf.{program_of}
use Rattle.search_states.specs.States.{states}
use Rattle.object_moves.specs.Effects.{effect_mail}
use Rattle.object_moves.specs.Known.{one_of, parcel_label, state_at}
use Rattle.object_moves.specs.Roles.{after}
use Rattle.object_moves.specs.declared.known.One.{One}
use Rattle.object_moves.proofs.KnownFacts.{each_told}
use Rattle.object_moves.proofs.PartEffects.{mail_part}
use Rattle.object_moves.proofs.table.MoveTable.mail.Goals as goal

pub returns-clause-is : goal.returns-clause-is
returns-clause-is c =
    let p = program_of c.args.self.now.program.now in
    let x = state_at (states c.args.self.now.table) c.args.state in
    let ys = states c.follow.new.self.table in
    let o = c.args.object in
    let part = c.mail.result in
    each_told (λ (m : One). after p o part x ≡ one_of ys m) (λ (m : One). effect_mail p (parcel_label o c.args.act.now) x ≡ one_of ys m)
    (λ (m : One) is. mail_part p o c.args.act.now part x c.mail.ensures.0 c.mail.ensures.1 ∙ is) c.follow.result c.follow.ensures.is
