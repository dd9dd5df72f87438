-- `get_mut` lends the value of one cell, and the region follows it. Assumes `Logic`.
use Rattle.linked_cells.proofs.RegionWalks.{◌≡◌, ℕ, ◌+◌, ◌*◌, ◌<◌, ◌^◌, List, [], ◌∷◌, length, refl, ap, MutBor, proved, Option, Some, None, get_or, slice_set, type_size, Ura, full_share, ent, sep, never, id⊢, Fml, ftrue, fsep, flft, fact, Args, a_type, named, inst_fn, Val, vptr, vstruct, vcons, vnil, ptr_val, Logic, sem, tables, ‵, raw, ◌⊛◌, some, later, at_ret, ◌$◌, ◌∵◌, !, qed, by, done, move, drop, use1, use2, split, join, group, pick, await, fsplit, fsplit3, fjoin3, feq_l, flt_l, rewrite, suffices, whole, sub, enter, of_opd, addr, stop, fld, hop, from, first, blocks, exec, returns, alloc_all, pass_all, free_all, look_at, look_in_at, get, sets, sets_last, env, no, RattleType, param, layouts, param_laws, Ptr, block_ptr, in_a_block, MutRef, mut_vals, mut_Tells, cell_at, mem, plain, opens, nothing, heard, Stays, says, stay_dropped, walk_of, ends_at, Goes-dropped, Goes-spent_ref, after, ◌⊑◌, keep, take_at, give_at, fat, frame, SProp, split3, layout}
use base.Fml.{GName}
use denote.Follow.{follows, Part, lends_Part}
use Rattle.linked_cells.specs.Slots.{IsCell, index_of}
use Rattle.linked_cells.specs.Ownership.{cell_owns, cells_own, region_owns}
use Rattle.linked_cells.specs.RegionLends.{with_slots}
use Rattle.linked_cells.proofs.Blocks.{lies, filled_below, others, cell_out, cell_back, fields_own, whole_back, place_fits}
use Rattle.linked_cells.specs.declared.region.Region.{Region}
use Rattle.linked_cells.specs.contracts.region.Region.{the_row as region_row}
use Rattle.linked_cells.specs.contracts.region.Place.{the_row as place_row}
use Rattle.linked_cells.proofs.region.Place.TheLaws as place
use Rattle.linked_cells.specs.contracts.region.Region.get_mut as f
use Rattle.linked_cells.proofs.region.Region.get_mut.Statement.{statement}
use Rattle.linked_cells.proofs.region.Region.get_mut.Code as code

module _ (X : RattleType) where
  abbrev stayed : Stays (f.ended X).signature.params (f.ended X).kept
  stayed = (stay_dropped _ no, (stay_dropped _ no, tt))

module _ (X : RattleType) {M : Type 1} {𝓤 : Ura M} (𝓛 : Logic 𝓤) (d : Region X.Denot) (b o rb ro i : ℕ) (us : List Val) where
  abbrev R : RattleType
  R = param 0 X

  -- all that the region owns but the value of the i-th cell
  abbrev Rest : Fml
  Rest = fsep (others R b o d.slots i) (fsep (fields_own R us) (cell_at full_share (region_row R).mir us rb ro))

  abbrev new : X.Denot → Region X.Denot
  new w = with_slots d (slice_set d.slots i (Some w))

  back : i < length d.slots → d.grid.1 ≡ block_ptr b o → d.grid.0 ≡ type_size R → length d.slots * d.grid.0 < 2 ^ 63
      → (w : X.Denot) → ent 𝓤 (sep 𝓤 (sem 𝓛 ((mem R).own_at w b (i * d.grid.0 + o))) (sem 𝓛 Rest)) (sem 𝓛 ((mem (region_row R)).own_at (new w) rb ro))
  back below begin stride small w = let at = i * d.grid.0 + o in
      qed 𝓛 (‵ (cell_owns R b at (Some w)) ∷ ‵ Rest ∷ []) ∵ move ! (1 ∷ []) $ fsplit3 ! $ move ! (3 ∷ 0 ∷ []) $
      use2 𝓛 (‵ (cells_own R b o (new w).slots)) (cell_back R b 𝓛 d.slots i o at (Some w) below (ap (λ s. i * s + o) stride)) $
      by ! (whole_back X 𝓛 d b o rb ro us (Some w) i begin stride small)

pub get_mut_spec : {M : Type 1} → statement M
get_mut_spec 𝓤 𝓛 𝓜 𝓡 wired X L =
    let c = f.clauses X 𝓛 𝓜.mem 𝓡.returns in let W = walk_of 𝓛 (f.ended X) (stayed X) c in let 𝓣 = tables 𝓤 𝓛.H 𝓜 𝓡 𝓡.env in
    let R = param 0 X in let R' = region_row R in let args : Args = layouts (a_type ∷ []) (X, tt) in let function = inst_fn args code.function in
    proved 𝓛 (f.ended X) (stayed X) c 𝓜 𝓡 (Goes-spent_ref 𝓛 2 (0 ∷ []) tt (plain (λ _. R')), (Goes-dropped 𝓛 2 (plain (λ _. place_row R)) no (λ κs x w. refl), tt))
    (f.Key.name args) function (code.unfolded 𝓤 𝓛.H 𝓜 𝓡 wired (X, tt))
    (λ κs. (mut_vals, (λ p. place.lowered R (param_laws 0 X L) p ∷ [], tt))) (λ κs. (mut_Tells (named 0) κs.0 R', ((place.lowers R (param_laws 0 X L)).val_is, tt))) (λ κs qs bounds a _ are.
    let d = a.0.now in let q = a.1.0.ptr in let κ = κs.0 in let γ = a.0.ghost_name in let rb = a.0.ref_ptr.0 in let ro = a.0.ref_ptr.1 in
    let word = place.lowered R (param_laws 0 X L) a.1.0 in
    let y : W.Ghost = ((κs, qs, bounds, a, (mut_vals a.0, (word ∷ [], tt))), tt) in
    qed 𝓛 (((‵ (flft κ qs.0) ⊛ ‵ (flft κs.1.0 qs.1.0) ⊛ ‵ ftrue) ⊛ ‵ ((MutRef (named 0) κ R').own_val a.0 (mut_vals a.0)) ⊛ ‵ ((place_row R).own_val a.1.0 (word ∷ [])) ⊛ ‵ ftrue)
    ∷ (raw (fact 𝓤 (κs.1.0 ⊑ X.lives)) ⊛ raw (fact 𝓤 (IsCell d.grid d.slots q))) ∷ []) ∵
    split ! $ move ! (2 ∷ []) $ split ! $ drop ! $ heard ! _ (λ asked. split ! $ move ! (2 ∷ []) $ split ! $ fsplit3 ! $ keep ! (1 ∷ 2 ∷ 4 ∷ 5 ∷ []) $
    enter ! _ _ _ _ _ $ alloc_all ! (λ l. pass_all ! refl ((tt, tt), (place_fits X q, tt)) $ opens ! tt R' {h = d} rb ro (λ us. move ! (1 ∷ []) $ fsplit ! $ move ! (1 ∷ []) $
    in_a_block ! d.grid.1 (λ p. region_owns R d.grid.0 p d.slots) (id⊢ 𝓤 (never 𝓤)) (λ b o e. fsplit ! $ fsplit ! $ feq_l ! (λ stride. flt_l ! (λ small.
    let i = index_of d.grid q in let at = i * d.grid.0 + o in let x = asked.1.0 in let below = filled_below d.slots i x asked.1.1 in let u = R'.coded.code d in
    take_at ! 2 $ rewrite ! 0 (λ (p : Ptr). ‵ (fat full_share (layout (place_row R)) (l 2) 0 (vstruct (vcons (ptr_val p) vnil)))) (lies d.grid q b o e asked.0) refl $ give_at ! 2 $
    use1 𝓛 (‵ (cell_owns R b at (get_or d.slots i None)) ⊛ ‵ (others R b o d.slots i)) (cell_out R b 𝓛 d.slots i o at below (ap (λ s. i * s + o) stride)) $ split ! $
    rewrite ! 0 (λ (c : Option X.Denot). ‵ (cell_owns R b at c)) asked.1.1 refl $
    -- [the cell; the others; the fields; the region's bytes; the open borrow, in three entries; the other token; the locals]
    first ! $ blocks ! $ sets_last ! (addr ! (from ! (fld ! refl (hop ! (look_in_at ! 2 (sub ! 0 refl (whole !))) (stop !))))) refl (tt, tt) $
    exec ! 𝓣.C 𝓣.Λ (env function.locals l) (after 1 function.body) (at_ret _ (W.post y)) $ sets ! (of_opd ! (get ! refl)) refl (tt, tt) $
    let rest : SProp 𝓤 = sem 𝓛 (Rest X 𝓛 d b o rb ro i us) in let way = back X 𝓛 d b o rb ro i us below e stride small in
    move ! (1 ∷ 2 ∷ 3 ∷ []) $ fjoin3 ! $ move ! (2 ∷ 3 ∷ 4 ∷ 1 ∷ 0 ∷ []) $ group ! 5 $
    use1 𝓛 (later (some (λ (δ : GName). raw (Part 𝓛 R' R (new X 𝓛 d b o rb ro i us) (named 0) κ qs.0 rb ro b at γ rest way x δ)))) (lends_Part 𝓛 R' R (new X 𝓛 d b o rb ro i us) (named 0) κ qs.0 rb ro b at γ rest way u u x) $ await ! tt $ pick ! (λ δ.
    let r : MutBor X.Denot = record { ref_ptr = (b, at); ghost_name = δ; now = x } in
    returns ! (look_at ! 0 refl) $ free_all ! refl $
    use1 𝓛 (‵ ((MutRef (named 0) κ R).own_val r (vptr b at ∷ [])) ⊛ ‵ (flft κ qs.0) ⊛ ‵ (follows R' R γ δ (new X 𝓛 d b o rb ro i us))) (id⊢ 𝓤 _) $ split3 ! $ move ! (1 ∷ 3 ∷ []) $ join ! $
    suffices ! _ (ends_at 𝓛 (f.ended X) (stayed X) c y (vptr b at) r (tt, (tt, tt)) (tt, (tt, tt))) $
    nothing ! $ nothing ! $ join ! $ nothing ! $ join ! $ move ! (1 ∷ 0 ∷ []) $ group ! 3 $ frame ! $ says ! asked.1.1 $ done !))))))))
