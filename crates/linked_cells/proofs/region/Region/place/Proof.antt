-- `place` counts a number of cells from the first on. Assumes `Logic`.
use Rattle.linked_cells.proofs.RegionWalks.{◌≡◌, ◌+◌, ◌*◌, ◌<◌, ◌^◌, [], ◌∷◌, length, refl, ap, sym, ◌∙◌, arith, proved, type_size, never, id⊢, ftrue, flft, fact, Args, a_type, named, w64, inst_fn, Val, vptr, vint, vstruct, vcons, vnil, ptr_val, WpFn, tables, ‵, raw, ◌⊛◌, at_ret, prop, ◌$◌, ◌∵◌, !, qed, done, move, drop, split, join, fsplit, feq_l, flt_l, regoal, suffices, whole, sub, agg, enter, of_opd, bin, size_lit, and_then, no_more, stop, fld, first, blocks, exec, returns, alloc_all, pass_all, free_all, look_at, get, get_in, sets, sets_last, env, usize, RefOf, yes, no, RattleType, param, layouts, param_laws, Ptr, block_ptr, block_of, count_of, in_a_block, ShrRef, shr_vals, shr_Tells, plain, unhide, nothing, heard, pure_i, uint_vals, uint_Tells, Stays, says, stay_dropped, walk_of, ends_at, Goes-dropped, after, ◌⊑◌}
use Rattle.std.proofs.ptr.Rows.{times_below, one_below}
use Rattle.linked_cells.specs.Slots.{place_at}
use Rattle.linked_cells.specs.Ownership.{region_lends}
use Rattle.linked_cells.specs.declared.region.Place.{Place}
use Rattle.linked_cells.specs.contracts.region.Region.{the_row as region_row}
use Rattle.linked_cells.specs.contracts.region.Place.{the_row as place_row}
use Rattle.linked_cells.proofs.region.Place.TheLaws as place
use Rattle.linked_cells.specs.contracts.region.Region.place as f
use Rattle.linked_cells.proofs.region.Region.place.Statement.{statement}
use Rattle.linked_cells.proofs.region.Region.place.Code as code

module _ (X : RattleType) where
  abbrev stayed : Stays (f.ended X).signature.params (f.ended X).kept
  stayed = (stay_dropped _ yes, (stay_dropped _ no, (stay_dropped _ yes, tt)))

pub place_spec : {M : Type 1} → statement M
place_spec 𝓤 𝓛 𝓜 𝓡 wired X L =
    let c = f.clauses X 𝓛 𝓜.mem 𝓡.returns in let W = walk_of 𝓛 (f.ended X) (stayed X) c in let 𝓣 = tables 𝓤 𝓛.H 𝓜 𝓡 𝓡.env in
    let R = param 0 X in let args : Args = layouts (a_type ∷ []) (X, tt) in let function = inst_fn args code.function in
    proved 𝓛 (f.ended X) (stayed X) c 𝓜 𝓡 (Goes-dropped 𝓛 2 (RefOf (0 ∷ []) tt (plain (λ _. region_row R)) (λ _. tt)) yes (λ κs x w. refl), (Goes-dropped 𝓛 2 (plain (λ _. place_row R)) no (λ κs x w. refl), (Goes-dropped 𝓛 2 (plain (λ _. usize)) yes (λ κs x w. refl), tt)))
    (f.Key.name args) function (code.unfolded 𝓤 𝓛.H 𝓜 𝓡 wired (X, tt))
    (λ κs. (shr_vals, (λ p. place.lowered R (param_laws 0 X L) p ∷ [], (uint_vals w64, tt)))) (λ κs. (shr_Tells (named 0) κs.0 (region_row R), ((place.lowers R (param_laws 0 X L)).val_is, (uint_Tells w64, tt)))) (λ κs qs bounds a _ are.
    let d = a.0.now in let base = a.1.0.ptr in let i = a.1.1.0 in let R' = region_row R in let κ = κs.0 in let s = type_size R in let fits_i = are.1.1.0.1 in
    let word = place.lowered R (param_laws 0 X L) a.1.0 in
    let y : W.Ghost = ((κs, qs, bounds, a, (shr_vals a.0, (word ∷ [], (uint_vals w64 i, tt)))), tt) in
    qed 𝓛 (((‵ (flft κ qs.0) ⊛ ‵ (flft κs.1.0 qs.1.0) ⊛ ‵ ftrue) ⊛ ‵ ((ShrRef (named 0) κ R').own_val a.0 (shr_vals a.0)) ⊛ ‵ ((place_row R).own_val a.1.0 (word ∷ [])) ⊛ ‵ (usize.own_val i (uint_vals w64 i)) ⊛ ‵ ftrue)
    ∷ (raw (fact 𝓤 (κs.1.0 ⊑ X.lives)) ⊛ raw (fact 𝓤 ((base ≡ d.grid.1) × (i < length d.slots)))) ∷ []) ∵
    split ! $ move ! (2 ∷ []) $ split ! $ drop ! $ heard ! _ (λ asked. move ! (1 ∷ []) $ split ! $ fsplit ! $ drop ! $ unhide ! $ fsplit ! $ drop ! $
    in_a_block ! d.grid.1 (λ p. region_lends R d.grid.0 p d.slots κ) (id⊢ 𝓤 (never 𝓤)) (λ b o e. fsplit ! $ fsplit ! $ feq_l ! (λ stride. flt_l ! (λ below. drop ! $ drop ! $
    let small : length d.slots * s < 2 ^ 63 = omega (arith, below, ap (λ k. length d.slots * k) stride) in
    let tiny : s < 2 ^ 64 = omega (arith, one_below (length d.slots) s (2 ^ 63) (omega (arith, asked.1)) small) in
    let far : i * s < 2 ^ 64 = omega (arith, times_below i (length d.slots) s (2 ^ 63) (omega (arith, asked.1)) small) in
    let at = i * s + o in let there : Place X.Denot = record { ptr = block_ptr b at } in let v : Val = vstruct (vcons (vptr b at) vnil) in
    let is : block_ptr b at ≡ place_at d.grid i = ap (λ k. block_ptr b (i * k + o)) (sym stride) ∙ ap (λ (p : Ptr). block_ptr (block_of p) (i * d.grid.0 + count_of p)) (sym e) in
    regoal ! (λ (p : Ptr). prop (WpFn 𝓤 𝓛.H 𝓣.C 𝓣.Λ function (vptr a.0.ref_ptr.0 a.0.ref_ptr.1 ∷ vstruct (vcons (ptr_val p) vnil) ∷ vint w64 i ∷ []) (W.post y))) (asked.0 ∙ e) refl $
    enter ! _ _ _ _ _ $ alloc_all ! (λ l. pass_all ! refl ((tt, tt), ((tt, (tt, tt)), ((tt, record { fits = fits_i }), tt))) $
    first ! $ blocks ! $ sets ! (of_opd ! (get_in ! (fld ! refl (stop !)) (sub ! 0 refl (whole !)))) refl (tt, tt) $ sets ! (of_opd ! (get ! refl)) refl (tt, record { fits = fits_i }) $
    sets ! (bin ! (get ! refl) (size_lit ! (record { fits = tiny })) (record { fits = far })) refl (tt, record { fits = far }) $ sets_last ! (bin ! (get ! refl) (get ! refl) tt) refl (tt, tt) $
    exec ! 𝓣.C 𝓣.Λ (env function.locals l) (after 1 function.body) (at_ret _ (W.post y)) $ sets ! (of_opd ! (get ! refl)) refl (tt, tt) $
    sets ! (agg ! (and_then ! (get ! refl) (no_more !))) refl (tt, (tt, tt)) $
    returns ! (look_at ! 0 refl) $ free_all ! refl $
    suffices ! _ (ends_at 𝓛 (f.ended X) (stayed X) c y v there (tt, (tt, (tt, tt))) (tt, (tt, (tt, tt)))) $ says ! is $
    pure_i ! ((place_row R).own_val there (v ∷ [])) (λ vss. (tt, (tt, tt))) ((vptr b at ∷ [], tt), (refl, (refl, tt))) $
    nothing ! $ nothing ! $ join ! $ nothing ! $ join ! $ nothing ! $ join ! $ move ! (2 ∷ 0 ∷ 1 ∷ []) $ done !))))))
