-- `write` fills the room of one cell, whatever it holds. Assumes `Logic`.
use Rattle.linked_cells.proofs.RegionWalks.{◌≡◌, ◌+◌, ◌*◌, ◌<◌, ◌^◌, List, [], ◌∷◌, length, refl, ap, sym, subst, proved_at, Some, get_or, slice_set, None, ent, never, id⊢, ftrue, flft, fact, Args, a_type, named, inst_fn, Val, vunit, vstruct, vcons, vnil, ptr_val, WpFn, tables, ‵, raw, ◌⊛◌, at_ret, ◌$◌, ◌∵◌, !, qed, done, move, keep, drop, use1, use2, split, join, group, fsplit, fsplit3, fjoin, feq_i, feq_l, flt_l, rewrite, suffices, frame, whole, sub, enter, of_opd, unit_lit, init, assigns_last, stop, fld, hop, from, first, blocks, exec, returns, alloc_all, pass_all, free_all, look_at, look_in_at, get, sets, take_at, give_at, env, no, RattleType, param, layout, layouts, param_laws, Ptr, in_a_block, MutRef, mut_vals, mut_Tells, fat, full_share, froom, plain, opens, closes, nothing, heard, Stays, says, stay_dropped, stay_ref, walk_of, ends_at, Goes-dropped, Goes-ref, after, ◌⊑◌}
use Rattle.std.proofs.mem.Param.{one}
use borrow.Table.OneValue.{part_in}
use lib.ListN.{length-set}
use Rattle.linked_cells.specs.Slots.{IsPlace, index_of}
use Rattle.linked_cells.specs.Ownership.{cell_owns, cells_own, region_owns}
use Rattle.linked_cells.specs.RegionLends.{with_slots}
use Rattle.linked_cells.proofs.Blocks.{lies, others, cell_out, cell_back, region_back, emptied, place_fits}
use Rattle.linked_cells.specs.contracts.region.Region.{the_row as region_row}
use Rattle.linked_cells.specs.contracts.region.Place.{the_row as place_row}
use Rattle.linked_cells.proofs.region.Place.TheLaws as place
use Rattle.linked_cells.specs.contracts.region.Region.write as f
use Rattle.linked_cells.proofs.region.Region.write.Statement.{statement}
use Rattle.linked_cells.proofs.region.Region.write.Code as code

module _ (X : RattleType) where
  abbrev stayed : Stays (f.ended X).signature.params (f.ended X).kept
  stayed = (stay_ref (0 ∷ []) tt (plain (λ _. region_row (param 0 X))), (stay_dropped _ no, (stay_dropped _ no, tt)))

pub write_spec : {M : Type 1} → statement M
write_spec 𝓤 𝓛 𝓜 𝓡 wired X L =
    let c = f.clauses X 𝓛 𝓜.mem 𝓡.returns in let W = walk_of 𝓛 (f.ended X) (stayed X) c in let 𝓣 = tables 𝓤 𝓛.H 𝓜 𝓡 𝓡.env in
    let R = param 0 X in let R' = region_row R in let P = place_row R in let args : Args = layouts (a_type ∷ []) (X, tt) in let function = inst_fn args code.function in
    proved_at 𝓛 (f.ended X) (stayed X) c 𝓜 𝓡 (Goes-ref 𝓛 2 0 tt (plain (λ _. R')), (Goes-dropped 𝓛 2 (plain (λ _. P)) no (λ κs x w. refl), (Goes-dropped 𝓛 2 (plain (λ _. R)) no (λ κs x w. refl), tt)))
    (f.Key.name args) function (code.unfolded 𝓤 𝓛.H 𝓜 𝓡 wired (X, tt)) (λ y' are.
    let κ = y'.0.0.0 in let κ' = y'.0.0.1.0 in let q = y'.0.1.0 in let a = y'.0.3 in let d = a.0.now in let p = a.1.0.ptr in let item = a.1.1.0 in
    let word = place.lowered R (param_laws 0 X L) a.1.0 in
    let had = one (record { row = X; laws = L }) y'.0.4.1.1.0 (((param_laws 0 X L).lawful 𝓛).typed item y'.0.4.1.1.0 are.1.1.0) in let v = had.0 in
    let y : W.Ghost = ((y'.0.0, y'.0.1, y'.0.2, a, (mut_vals a.0, (word ∷ [], (v ∷ [], tt)))), tt) in
    let rb = a.0.ref_ptr.0 in let ro = a.0.ref_ptr.1 in let i = index_of d.grid p in let new = with_slots d (slice_set d.slots i (Some item)) in
    let walk : ent 𝓤 (W.pre y) (WpFn 𝓤 𝓛.H 𝓣.C 𝓣.Λ function (W.args y) (W.post y)) =
    qed 𝓛 (((‵ (flft κ q) ⊛ ‵ (flft κ' y'.0.1.1.0) ⊛ ‵ ftrue) ⊛ ‵ ((MutRef (named 0) κ R').own_val a.0 (mut_vals a.0)) ⊛ ‵ (P.own_val a.1.0 (word ∷ [])) ⊛ ‵ (R.own_val item (v ∷ [])) ⊛ ‵ ftrue)
    ∷ (raw (fact 𝓤 (κ' ⊑ X.lives)) ⊛ raw (fact 𝓤 (IsPlace d.grid (length d.slots) p))) ∷ []) ∵
    split ! $ move ! (2 ∷ []) $ split ! $ drop ! $ heard ! _ (λ asked. split ! $ move ! (2 ∷ []) $ split ! $ move ! (1 ∷ []) $ split ! $ drop ! $ split ! $ move ! (2 ∷ []) $ fsplit3 ! $ keep ! (1 ∷ 2 ∷ 5 ∷ 6 ∷ 3 ∷ 0 ∷ []) $
    enter ! _ _ _ _ _ $ alloc_all ! (λ l. pass_all ! refl ((tt, tt), (place_fits X p, (had.2, tt))) $ opens ! tt R' {h = d} rb ro (λ us. move ! (1 ∷ []) $ fsplit ! $ move ! (1 ∷ []) $
    in_a_block ! d.grid.1 (λ c. region_owns R d.grid.0 c d.slots) (id⊢ 𝓤 (never 𝓤)) (λ b o e. fsplit ! $ fsplit ! $ feq_l ! (λ stride. flt_l ! (λ small.
    let at = i * d.grid.0 + o in let there = ap (λ s. i * s + o) stride in
    take_at ! 2 $ rewrite ! 0 (λ (c : Ptr). ‵ (fat full_share (layout P) (l 2) 0 (vstruct (vcons (ptr_val c) vnil)))) (lies d.grid p b o e asked.0) refl $ give_at ! 2 $
    use1 𝓛 (‵ (cell_owns R b at (get_or d.slots i None)) ⊛ ‵ (others R b o d.slots i)) (cell_out R b 𝓛 d.slots i o at asked.1 there) $ split ! $
    use1 𝓛 (‵ (froom (layout X) b at)) (emptied X 𝓛 b at (get_or d.slots i None)) $
    -- [the cell's room; the others; the fields; the region's bytes; the open borrow, in three entries; the other token; what the item owns; the reference's first part; the locals]
    first ! $ blocks ! $ sets ! (of_opd ! (get ! refl)) refl had.2 $
    assigns_last ! (of_opd ! (get ! refl)) (from ! (fld ! refl (hop ! (look_in_at ! 2 (sub ! 0 refl (whole !))) (stop !)))) (init ! 0 refl had.2) $
    exec ! 𝓣.C 𝓣.Λ (env function.locals l) (after 1 function.body) (at_ret _ (W.post y)) $ sets ! (of_opd ! (unit_lit !)) refl (tt, tt) $
    move ! (0 ∷ 8 ∷ []) $ use2 𝓛 (‵ (cell_owns R b at (Some item))) (part_in 𝓛 R refl full_share item b at v) $
    use2 𝓛 (‵ (cells_own R b o new.slots)) (cell_back R b 𝓛 d.slots i o at (Some item) asked.1 there) $
    use1 𝓛 (‵ (region_owns R d.grid.0 d.grid.1 new.slots)) (region_back X 𝓛 d b o new.slots e stride (subst (λ k. k * d.grid.0 < 2 ^ 63) (sym (length-set d.slots i (Some item))) small)) $
    move ! (1 ∷ 0 ∷ []) $ fjoin ! $ move ! (1 ∷ 0 ∷ []) $ closes ! tt R' new us rb ro $
    -- [the reference's other parts; the tokens; its first part]
    returns ! (look_at ! 0 refl) $ free_all ! refl $ move ! (2 ∷ 3 ∷ []) $ join ! $
    suffices ! _ (ends_at 𝓛 (f.ended X) (stayed X) c y vunit tt (new, (tt, (tt, tt))) (tt, (tt, (tt, tt)))) $ says ! (refl, refl) $ frame ! $
    move ! (2 ∷ 0 ∷ 1 ∷ []) $ group ! 3 $ nothing ! $ nothing ! $ join ! $ nothing ! $ join ! $ move ! (1 ∷ 0 ∷ []) $ join ! $ frame ! $
    feq_i ! (List Val) (vunit ∷ []) _ refl $ done !)))))) in
    let e0 : y'.0.4.0 ≡ mut_vals a.0 = mut_Tells (named 0) κ R' a.0 y'.0.4.0 are.0 in
    let e1 : y'.0.4.1.0 ≡ word ∷ [] = (place.lowers R (param_laws 0 X L)).val_is a.1.0 y'.0.4.1.0 are.1.0 in
    let Walked : List Val × (List Val × (List Val × Unit {0})) → Type 1 = λ vss. ent 𝓤 (W.pre ((y'.0.0, y'.0.1, y'.0.2, a, vss), tt)) (WpFn 𝓤 𝓛.H 𝓣.C 𝓣.Λ function (W.args ((y'.0.0, y'.0.1, y'.0.2, a, vss), tt)) (W.post ((y'.0.0, y'.0.1, y'.0.2, a, vss), tt))) in
    subst Walked (λ j. (sym e0 j, (sym e1 j, (sym had.1 j, tt)))) walk)
