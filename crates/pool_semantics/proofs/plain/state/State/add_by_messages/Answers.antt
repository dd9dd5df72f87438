use Rattle.std.proofs.Common.{◌≡◌, subst, sym, refl, is_some, true, ◌∷◌, rules}
use Rattle.std.specs.Map.{lookup}
use Rattle.std.specs.Map.Iter.{deref_pair}
use Rattle.std.specs.BTreeMap.{is_at}
use Rattle.std.proofs.lemmas.Map.Iter.{rest_more, rest_all, btree_map_turn}
use Rattle.run_types.specs.Tables.{Pair, pair_cmp}
use Rattle.pool_syntax.specs.TreeOf.{program_of}
use Rattle.pool_semantics.specs.Mails.{queued}
use Rattle.pool_semantics.specs.Plains.{configuration}
use Rattle.pool_semantics.proofs.PairMessages.{pair_is, pair_total}
use Rattle.pool_semantics.proofs.MoverSearch.{TakesOf, pair_there, its_messages, of_pair, from_pair, to_pair}
use Rattle.pool_semantics.proofs.MoverSets.{Collected, collects, collects_more, collected, adds_same}
use Rattle.pool_semantics.proofs.plain.state.State.add_by_messages.Goals as goal

pub loop-pair-init : goal.loop-pair-init
loop-pair-init c =
    let s = c.args.self.now in
    let p = program_of s.program.now in
    let start : c.into_iter-pair-iterator.result ≡ s.messages.entries = search rules in
    collects pair_cmp (TakesOf p (configuration s)) c.args.movers.now c.into_iter-pair-iterator.result
    (λ k b t. subst (λ es. is_some (lookup (is_at (pair_cmp k)) es) ≡ true) (sym start) (pair_there p (configuration s) s.messages.entries k b refl t))

pub loop-pair-preserved : goal.loop-pair-preserved
loop-pair-preserved c =
    let s = c.args.self.now in
    let p = program_of s.program.now in
    let l = c.loop-pair in
    let k : Pair = c.in-Some.pair.now in
    let q = c.in-Some.queue.now in
    let start : c.into_iter-pair-iterator.result ≡ s.messages.entries = search rules in
    let more : l.pair-iterator ≡ (k, q) ∷ c.next.new.self = rest_more deref_pair l.pair-iterator c.next.new.self c.next.result (c.in-Some.pair, c.in-Some.queue) c.in-Some.is c.next.ensures.steps in
    let turn = btree_map_turn deref_pair l.yielded c.into_iter-pair-iterator.result l.pair-iterator c.next.new.self c.next.result (c.in-Some.pair, c.in-Some.queue) l.yielded_by c.in-Some.is c.next.ensures.steps pair_total s.messages start (search rules) in
    collects_more pair_cmp (TakesOf p (configuration s)) c.args.movers.now l.movers c.add_mover.new.movers c.taker.result (k, q) c.next.new.self (λ j h. pair_is j k h)
    (of_pair p (configuration s) k (queued q) c.taker.result (its_messages (configuration s) s.messages.entries k q refl turn.1) c.taker.ensures) c.in_ok-add_mover.ensures
    (subst (λ es. Collected pair_cmp (TakesOf p (configuration s)) c.args.movers.now l.movers es) more l.invariant)

pub returns : goal.returns
returns c =
    let s = c.args.self.now in
    let p = program_of s.program.now in
    let l = c.loop-pair in
    adds_same (λ b. (k : Pair) × TakesOf p (configuration s) k b) _ c.args.movers.now l.movers (from_pair p (configuration s)) (to_pair p (configuration s))
    (collected pair_cmp (TakesOf p (configuration s)) c.args.movers.now l.movers l.pair-iterator (rest_all deref_pair l.pair-iterator c.next.new.self c.next.result c.in-None.is c.next.ensures.steps) l.invariant)
