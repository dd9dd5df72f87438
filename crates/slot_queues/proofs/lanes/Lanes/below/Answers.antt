use Rattle.std.proofs.Common.{rules, leb, Bool, [], get_or, Some, None, ◌∙◌}
use Rattle.cell_pool.proofs.Laws.{first_is_position}
use Rattle.slot_queues.specs.declared.lanes.Stamped.{Stamped}
use Rattle.slot_queues.proofs.Ranks.{rank_front_other, rank_front}
use Rattle.slot_queues.proofs.lanes.Lanes.below.Goals as goal

pub returns-then-front-to : goal.returns-then-front-to
returns-then-front-to c = rank_front_other c.args.to c.args.end (get_or c.args.self.now.pool.lists c.args.queue []) c.get.result.now c.get.ensures c.requires.chain c.if-front-to.true

pub returns-in-Some : goal.returns-in-Some
returns-in-Some c =
    let p : Stamped → Bool = λ x. leb c.args.end x.stamp in let e = first_is_position p (get_or c.args.self.now.pool.lists c.args.queue []) (Some c.in-Some.place) c.in-Some.ensures (λ x b told. search rules) in
    rank_front c.args.to c.args.end (get_or c.args.self.now.pool.lists c.args.queue []) c.get.result.now c.get.ensures c.requires.chain c.if-front-to.false (Some c.in-Some.place) e

pub returns-in-None : goal.returns-in-None
returns-in-None c =
    let p : Stamped → Bool = λ x. leb c.args.end x.stamp in let e = first_is_position p (get_or c.args.self.now.pool.lists c.args.queue []) None c.in-None.ensures (λ x b told. search rules) in
    c.len-len.ensures ∙ rank_front c.args.to c.args.end (get_or c.args.self.now.pool.lists c.args.queue []) c.get.result.now c.get.ensures c.requires.chain c.if-front-to.false None e
