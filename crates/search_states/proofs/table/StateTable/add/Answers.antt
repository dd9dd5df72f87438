use Rattle.std.proofs.Common.{◌≡◌, length, arith}
use Rattle.std.proofs.lemmas.Grind.{common_steps}
use Rattle.search_states.proofs.LastState.{added_last}
use Rattle.search_states.proofs.table.StateTable.add.Goals as goal

pub returns-clause-found : goal.returns-clause-found
returns-clause-found c =
    let n : c.len-count.result ≡ length c.args.self.now.things.items = grind (arith, common_steps) in
    added_last c.args.self.now.things.items c.push.new.self.items c.in-Ok.copied c.len-count.result _ c.in_ok-push.ensures.items n c.in-Ok.ensures
