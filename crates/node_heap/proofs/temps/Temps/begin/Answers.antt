use Rattle.std.proofs.Common.{refl, sym, ◌∙◌, ap, ◌≡◌, ◌+◌, suc, take, set, arith, length-set}
use Rattle.run_types.specs.declared.types.Value.TheVariants.{Nil}
use Rattle.node_heap.specs.Heaps.{nils}
use Rattle.node_heap.proofs.ArrayPrefix.{nils_on}
use Rattle.node_heap.proofs.temps.Temps.begin.Goals as goal

pub loop-place-init : goal.loop-place-init
loop-place-init c = (refl, c.self.invariant.1)

pub loop-place-preserved : goal.loop-place-preserved
loop-place-preserved c =
    let vs = c.loop-place.self-inside.values in let k = c.loop-place.place in let one : k + 1 ≡ suc k = omega arith in (
      ap (λ n. take n (set vs k Nil)) one ∙ nils_on vs k (omega (arith, c.requires, c.loop-place.invariant.1)) c.loop-place.invariant.0 ∙ ap nils (sym one),
      length-set vs k Nil ∙ c.loop-place.invariant.1,
    )

pub returns : goal.returns
returns c =
    let all : c.loop-place.place ≡ c.args.count = omega arith in
    ap (λ n. take n c.loop-place.self-inside.values) (sym all) ∙ c.loop-place.invariant.0 ∙ ap nils all
