use Rattle.std.proofs.Common.{◌≡◌, ◌++◌, [], inl, inr, sym, subst, ap, ◌∙◌, get_or, arith}
use Rattle.std.specs.Prelude.{reverse}
use Rattle.std.proofs.lemmas.List.{append-nil}
use Rattle.visited_set.specs.WritingsOf.{lists_of}
use Rattle.visited_set.proofs.WrittenListsGrowth.{nothing_at, walk_step}
use Rattle.visited_set.proofs.writings.Writings.items.Goals as goal
use Rattle.visited_set.proofs.writings.Writings.items.Goals.{then-loop-at-test+else-at-len, else-loop-at-test}

pub loop-at-init : goal.loop-at-init
loop-at-init c =
    let v = get_or (lists_of c.args.self.now) c.args.number [] in
    subst (λ xs. v ≡ v ++ reverse xs) (sym c.new-items.ensures.items) (sym (append-nil v))

pub loop-at-preserved : goal.loop-at-preserved
loop-at-preserved c =
    let ns = c.args.self.now.nodes.items in
    let v = get_or (lists_of c.args.self.now) c.parent-at.result [] in
    c.loop-at.invariant
    ∙ walk_step ns c.loop-at.at c.parent-at.result c.index-node.result.now c.loop-at.items.items (omega (arith, c.loop-at-test.true)) (omega (arith, c.if-at-len.true, c.len.ensures))
    c.index-node.ensures c.parent-at.ensures
    ∙ ap (λ xs. v ++ reverse xs) (sym c.in_ok-push.ensures.items)

pub returns : goal.returns
returns c =
    let ns = c.args.self.now.nodes.items in
    let ended : get_or (lists_of c.args.self.now) c.loop-at.at [] ≡ [] =
    elim c.loop-at-test.branch [
      | then-loop-at-test+else-at-len w ↦ nothing_at ns c.loop-at.at (inr (omega (arith, w.if-at-len.false, w.len.ensures)))
      | else-loop-at-test w ↦ nothing_at ns c.loop-at.at (inl (omega (arith, w.loop-at-test.false)))
    ]
    in
    c.reverse.ensures.items ∙ sym (c.loop-at.invariant ∙ ap (λ v. v ++ reverse c.loop-at.items.items) ended)
