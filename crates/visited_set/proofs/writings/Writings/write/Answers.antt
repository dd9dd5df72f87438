use Rattle.std.proofs.Common.{arith}
use Rattle.visited_set.proofs.WrittenListsGrowth.{grown_by_one, number_of_one}
use Rattle.visited_set.proofs.writings.Writings.write.Goals as goal

pub returns-clause-grown : goal.returns-clause-grown
returns-clause-grown c = grown_by_one c.args.self.now.nodes.items c.push.new.self.items (record { before = c.args.before; item = c.args.item }) c.in_ok-push.ensures.items

pub returns-clause-number : goal.returns-clause-number
returns-clause-number c =
    number_of_one c.args.self.now.nodes.items c.push.new.self.items (record { before = c.args.before; item = c.args.item }) c.in-Ok.number c.requires c.in_ok-push.ensures.items
    (omega (arith, c.in-Ok.ensures, c.len.ensures))
