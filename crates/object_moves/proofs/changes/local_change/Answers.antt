use Rattle.std.proofs.Common.{subst}
use Rattle.pool_syntax.specs.TreeOf.{program_of}
use Rattle.object_acts.specs.declared.act.Act.{Act}
use Rattle.object_acts.specs.declared.act.Act.TheVariants as C
use Rattle.object_moves.specs.Changed.{IsActOf}
use Rattle.object_moves.proofs.ChangeFacts.{local_made, not_local}
use Rattle.object_moves.proofs.changes.local_change.Goals as goal

pub returns-in-Local : goal.returns-in-Local
returns-in-Local c = λ args.
    let p = program_of c.args.program.now in
    let t = c.args.state.now in
    let at : IsActOf p c.args.object t (C.Local c.in-Local.change) = subst (λ (a : Act). IsActOf p c.args.object t a) c.in-Local.is c.act_of.ensures in
    local_made p c.args.object t args c.in-Local.change at

pub returns-in_default : goal.returns-in_default
returns-in_default c = λ args. not_local (program_of c.args.program.now) c.args.object c.args.state.now args c.act_of.result c.act_of.ensures c.in_default.not-Local
