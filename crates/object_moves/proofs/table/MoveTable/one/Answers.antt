use Rattle.std.proofs.Common.{◌≡◌, ◌∙◌}
use Rattle.pool_syntax.specs.TreeOf.{program_of}
use Rattle.search_states.specs.States.{states}
use Rattle.object_moves.specs.Effects.{effect_one}
use Rattle.object_moves.specs.Known.{one_of, solo_label, state_at}
use Rattle.object_moves.specs.Roles.{after}
use Rattle.object_moves.specs.declared.known.One.{One}
use Rattle.object_moves.proofs.KnownFacts.{each_told}
use Rattle.object_moves.proofs.PartEffects.{solo_part}
use Rattle.object_moves.proofs.table.MoveTable.one.Goals as goal

pub returns-clause-is : goal.returns-clause-is
returns-clause-is c =
    let p = program_of c.args.self.now.program.now in
    let x = state_at (states c.args.self.now.table) c.args.state in
    let ys = states c.follow.new.self.table in
    let o = c.args.object in
    let part = c.alone.result in
    each_told (λ (m : One). after p o part x ≡ one_of ys m) (λ (m : One). effect_one p (solo_label o c.args.act) x ≡ one_of ys m) (λ (m : One) is. solo_part p o c.args.act part x c.alone.ensures ∙ is) c.follow.result c.follow.ensures.is
