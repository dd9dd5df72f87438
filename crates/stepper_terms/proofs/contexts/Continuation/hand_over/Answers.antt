use Rattle.std.proofs.Common.{◌≡◌, ◌++◌, [], ◌∷◌, length, arith}
use Rattle.std.proofs.lemmas.Grind.{common_steps}
use Rattle.stepper_terms.proofs.ContinuationChanges.{returned_left}
use Rattle.stepper_terms.proofs.contexts.Continuation.hand_over.Goals as goal

pub returns-then-is_empty : goal.returns-then-is_empty
returns-then-is_empty c =
    let xs = c.args.self.now.calls.items in
    let ys = c.pop.new.self.items in
    let s : xs ≡ ys ++ c.in-Some.call ∷ [] = grind (arith, common_steps) in
    let z : length c.in-Body.post.now ≡ 0 = grind (arith, common_steps) in
    let e = returned_left xs ys c.in-Some.call c.args.self.now.next c.in-Body.value c.in-Body.post s c.requires.end c.requires.awaited c.in-Body.is z in
    grind (arith, common_steps, e)
