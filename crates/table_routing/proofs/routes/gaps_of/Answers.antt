use Rattle.std.proofs.Common.{◌+◌, ◌/◌, ◌%◌, ◌∙◌, List, ap, sym, subst}
use Rattle.run_types.specs.declared.types.LinkId.{LinkId}
use Rattle.run_types.specs.Paths.{is_cut}
use Rattle.table_routing.specs.Tables.{AreGaps, size}
use Rattle.table_routing.proofs.Places.{gap_more}
use Rattle.table_routing.proofs.routes.gaps_of.Goals as goal

pub loop-place-preserved : goal.loop-place-preserved
loop-place-preserved c =
    let l = c.args.placement.now in
    let p = c.loop-place in
    subst (AreGaps l (p.place + 1)) (sym c.in-Ok.ensures.items) (gap_more l p.place c.is_cut-gap.result p.gaps.items p.invariant (c.is_cut-gap.ensures ∙ ap (λ (ks : List LinkId). is_cut ks (p.place / size l) (p.place % size l)) c.items.ensures))
