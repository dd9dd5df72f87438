-- `get` lends the value of one cell of a region that is lent. Assumes `Logic`.
use Rattle.linked_cells.proofs.RegionWalks.{◌+◌, ◌*◌, [], ◌∷◌, refl, ap, proved, None, get_or, never, id⊢, ftrue, flft, fact, Args, a_type, named, inst_fn, vptr, Val, WpFn, tables, ‵, raw, ◌⊛◌, at_ret, prop, ◌$◌, ◌∵◌, !, qed, done, move, drop, use1, split, join, fsplit, fjoin, feq_i, feq_l, rewrite, regoal, suffices, whole, sub, enter, of_opd, addr, stop, fld, hop, from, first, blocks, exec, returns, alloc_all, pass_all, free_all, look_at, look_in_at, get, sets, sets_last, RefOf, yes, no, RattleType, param, layouts, param_laws, Ptr, in_a_block, Bor, ShrRef, shr_vals, shr_Tells, plain, hide, unhide, nothing, heard, Stays, says, stay_dropped, walk_of, ends_at, Goes-dropped, env, ◌⊑◌, after, Option, List, vstruct, vcons, vnil, ptr_val}
use Rattle.linked_cells.specs.Slots.{IsCell, index_of}
use Rattle.linked_cells.specs.Ownership.{cell_lends, region_lends}
use Rattle.linked_cells.proofs.Blocks.{lies, filled_below, cell_seen}
use Rattle.linked_cells.specs.contracts.region.Region.{the_row as region_row}
use Rattle.linked_cells.specs.contracts.region.Place.{the_row as place_row}
use Rattle.linked_cells.proofs.region.Place.TheLaws as place
use Rattle.linked_cells.specs.contracts.region.Region.get as f
use Rattle.linked_cells.proofs.region.Region.get.Statement.{statement}
use Rattle.linked_cells.proofs.region.Region.get.Code as code

module _ (X : RattleType) where
  abbrev stayed : Stays (f.ended X).signature.params (f.ended X).kept
  stayed = (stay_dropped _ yes, (stay_dropped _ no, tt))

pub get_spec : {M : Type 1} → statement M
get_spec 𝓤 𝓛 𝓜 𝓡 wired X L =
    let c = f.clauses X 𝓛 𝓜.mem 𝓡.returns in let W = walk_of 𝓛 (f.ended X) (stayed X) c in let 𝓣 = tables 𝓤 𝓛.H 𝓜 𝓡 𝓡.env in
    let R = param 0 X in let args : Args = layouts (a_type ∷ []) (X, tt) in let function = inst_fn args code.function in
    proved 𝓛 (f.ended X) (stayed X) c 𝓜 𝓡 (Goes-dropped 𝓛 2 (RefOf (0 ∷ []) tt (plain (λ _. region_row R)) (λ _. tt)) yes (λ κs x w. refl), (Goes-dropped 𝓛 2 (plain (λ _. place_row R)) no (λ κs x w. refl), tt))
    (f.Key.name args) function (code.unfolded 𝓤 𝓛.H 𝓜 𝓡 wired (X, tt))
    (λ κs. (shr_vals, (λ p. place.lowered R (param_laws 0 X L) p ∷ [], tt))) (λ κs. (shr_Tells (named 0) κs.0 (region_row R), ((place.lowers R (param_laws 0 X L)).val_is, tt))) (λ κs qs bounds a _ are.
    let d = a.0.now in let q = a.1.0.ptr in let R' = region_row R in let κ = κs.0 in
    let word = place.lowered R (param_laws 0 X L) a.1.0 in
    let y : W.Ghost = ((κs, qs, bounds, a, (shr_vals a.0, (word ∷ [], tt))), tt) in
    qed 𝓛 (((‵ (flft κ qs.0) ⊛ ‵ (flft κs.1.0 qs.1.0) ⊛ ‵ ftrue) ⊛ ‵ ((ShrRef (named 0) κ R').own_val a.0 (shr_vals a.0)) ⊛ ‵ ((place_row R).own_val a.1.0 (word ∷ [])) ⊛ ‵ ftrue) ∷ (raw (fact 𝓤 (κs.1.0 ⊑ X.lives)) ⊛ raw (fact 𝓤 (IsCell d.grid d.slots q))) ∷ []) ∵
    split ! $ move ! (2 ∷ []) $ split ! $ drop ! $ heard ! _ (λ asked. move ! (1 ∷ []) $ split ! $ fsplit ! $ drop ! $ unhide ! $ fsplit ! $ drop ! $
    in_a_block ! d.grid.1 (λ p. region_lends R d.grid.0 p d.slots κ) (id⊢ 𝓤 (never 𝓤)) (λ b o e. fsplit ! $ fsplit ! $ feq_l ! (λ stride. drop ! $
    let i = index_of d.grid q in let at = i * d.grid.0 + o in let x = asked.1.0 in let r : Bor X.Denot = record { ref_ptr = (b, at); now = x } in
    use1 𝓛 (‵ (cell_lends R b at (get_or d.slots i None) κ)) (cell_seen R b 𝓛 κ d.slots i o at (filled_below d.slots i x asked.1.1) (ap (λ s. i * s + o) stride)) $
    rewrite ! 0 (λ (c : Option X.Denot). ‵ (cell_lends R b at c κ)) asked.1.1 refl $ hide ! $ move ! (1 ∷ []) $ drop ! $
    regoal ! (λ (p : Ptr). prop (WpFn 𝓤 𝓛.H 𝓣.C 𝓣.Λ function (vptr a.0.ref_ptr.0 a.0.ref_ptr.1 ∷ vstruct (vcons (ptr_val p) vnil) ∷ []) (W.post y))) (lies d.grid q b o e asked.0) refl $
    enter ! _ _ _ _ _ $ alloc_all ! (λ l. pass_all ! refl ((tt, tt), ((tt, (tt, tt)), tt)) $
    -- [the `&` to the value; the tokens; the locals]
    first ! $ blocks ! $ sets_last ! (addr ! (from ! (fld ! refl (hop ! (look_in_at ! 2 (sub ! 0 refl (whole !))) (stop !))))) refl (tt, tt) $
    exec ! 𝓣.C 𝓣.Λ (env function.locals l) (after 1 function.body) (at_ret _ (W.post y)) $ sets ! (of_opd ! (get ! refl)) refl (tt, tt) $
    returns ! (look_at ! 0 refl) $ free_all ! refl $
    suffices ! _ (ends_at 𝓛 (f.ended X) (stayed X) c y (vptr b at) r (tt, (tt, tt)) (tt, (tt, tt))) $ says ! asked.1.1 $
    feq_i ! (List Val) (vptr b at ∷ []) (vptr b at ∷ []) refl $ fjoin ! $
    nothing ! $ nothing ! $ join ! $ nothing ! $ join ! $ move ! (2 ∷ 0 ∷ 1 ∷ []) $ done !)))))
