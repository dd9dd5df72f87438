-- `deallocate` turns the cells, whatever they hold, into free room and returns the block. Assumes `Logic`.
use Rattle.linked_cells.proofs.RegionWalks.{◌≡◌, ℕ, ◌*◌, ◌<◌, ◌^◌, List, [], ◌∷◌, length, refl, ap, sym, ◌∙◌, subst, arith, proved, type_size, never, id⊢, ftrue, flft, froom, fact, named, w64, inst_fn, Val, vptr, vint, vunit, vstruct, vcons, vnil, WpFn, tables, ‵, raw, ◌⊛◌, later, given, learn, at_ret, prop, ◌$◌, ◌∵◌, !, qed, done, move, keep, drop, use1, split, split3, join, group, await, fsplit, feq_i, feq_l, flt_l, rewrite, regoal, suffices, whole, sub, enter, of_opd, unit_lit, bin, and_then, no_more, stop, fld, first, blocks, exec, returns, alloc_all, pass_all, free_all, look_at, get, get_in, sets, lands_last, env, usize, RefOf, yes, no, param, param_laws, layout, Ptr, block_ptr, ptr_val, in_a_block, ShrRef, shr_vals, shr_Tells, plain, nothing, heard, uint_vals, uint_Tells, Stays, stay_dropped, walk_of, ends_at, Goes-dropped, after, ◌⊑◌, size_word, align_word, is, calls_at_last, framed}
use lib.Dec.{T}
use mir.Syntax.{ty_array, ty_unit}
use mir.Val.{has_ty, WT}
use base.Fml.{Incl-trans}
use prog.Memory.{align, capped}
use prog.Capped.{capped_fits}
use Rattle.std.proofs.alloc.Calls.{Al, token, Gives, at_gives, Gives-goes, Gives-Gives, Goes-blank}
use Rattle.std.proofs.RawLayout.{as_raw}
use Rattle.linked_cells.specs.Ownership.{region_owns, deed_owns}
use Rattle.linked_cells.specs.contracts.region.Region.{the_row as region_row}
use Rattle.linked_cells.specs.contracts.region.Place.{the_row as place_row}
use Rattle.linked_cells.specs.contracts.region.Deed.{the_row as deed_row}
use Rattle.linked_cells.proofs.region.Place.TheLaws as place
use Rattle.linked_cells.proofs.region.Region.TheLaws as owner
use Rattle.linked_cells.proofs.region.Deed.TheLaws as right
use Rattle.linked_cells.proofs.BlockAllocation.{args, block_of_cells, block_size, block_align, capped_product, room_of_cells, mark}
use Rattle.linked_cells.specs.contracts.region.deallocate as f
use Rattle.linked_cells.proofs.region.deallocate.Statement.{statement}
use Rattle.linked_cells.proofs.region.deallocate.Code as code

pub deallocate_spec : {M : Type 1} → statement M
deallocate_spec 𝓤 𝓛 𝓜 𝓡 wired X W L K g dict drops met met_drop =
    let Z : Al = record { row = W; laws = K; g = g; d = dict; drops = drops } in
    let R = param 0 X in let A = param 1 W in let LR = param_laws 0 X L in let LA = param_laws 1 W K in
    let P = place_row R in let R' = region_row R in let D = deed_row R A g in let function = inst_fn (args X Z) code.function in
    let T' = f.ended X W g dict drops in let stayed : Stays T'.signature.params T'.kept = (stay_dropped _ yes, (stay_dropped _ no, (stay_dropped _ yes, (stay_dropped _ no, (stay_dropped _ no, tt))))) in
    let c = f.clauses X W g dict drops 𝓛 𝓜.mem 𝓡.returns in let Walk = walk_of 𝓛 T' stayed c in let 𝓣 = tables 𝓤 𝓛.H 𝓜 𝓡 𝓡.env in
    proved 𝓛 T' stayed c 𝓜 𝓡 (
      Goes-dropped 𝓛 3 (RefOf (0 ∷ []) tt (plain (λ _. A)) (λ _. tt)) yes (λ κs x w. refl),
      (
        Goes-dropped 𝓛 3 (plain (λ _. P)) no (λ κs x w. refl),
        (
          Goes-dropped 𝓛 3 (plain (λ _. usize)) yes (λ κs x w. refl),
          (Goes-blank 𝓛 3 (plain (λ _. R')) no (λ κs x w. tt), (Goes-blank 𝓛 3 (plain (λ _. D)) no (λ κs x w. tt), tt)),
        ),
      ),
    )
    (f.Key.name (args X Z)) function (code.unfolded 𝓤 𝓛.H 𝓜 𝓡 wired (X, (W, tt)) dict drops)
    (λ κs. (shr_vals, (λ p. place.lowered R LR p ∷ [], (uint_vals w64, (λ r. owner.lowered R LR r ∷ [], (λ d. right.lowered R A g LR LA d ∷ [], tt))))))
    (λ κs. (shr_Tells (named 0) κs.0 A, ((place.lowers R LR).val_is, (uint_Tells w64, ((owner.lowers R LR).val_is, ((right.lowers R A g LR LA).val_is, tt)))))) (λ κs qs bounds a _ are.
    let κ = κs.0 in let q = qs.0 in let handle = a.0.now in let at_p = a.0.ref_ptr in let base = a.1.0.ptr in let n = a.1.1.0 in let region = a.1.1.1.0 in let deed = a.1.1.1.1.0 in let s = type_size R in
    let word = place.lowered R LR a.1.0 in let fits_n = are.1.1.0.1 in
    let y : Walk.Ghost = ((κs, qs, bounds, a, (shr_vals a.0, (word ∷ [], (uint_vals w64 n, (mark ∷ [], (mark ∷ [], tt)))))), tt) in
    let Asks : Type 0 = (region.grid.1 ≡ base) × (length region.slots ≡ n) × (deed.at ≡ base) × (deed.len ≡ n) × (deed.alloc ≡ handle) in
    qed 𝓛 (((‵ (flft κ q) ⊛ ‵ (flft κs.1.0 qs.1.0) ⊛ ‵ (flft κs.1.1.0 qs.1.1.0) ⊛ ‵ ftrue)
    ⊛ ‵ ((ShrRef (named 0) κ A).own_val a.0 (shr_vals a.0)) ⊛ ‵ (P.own_val a.1.0 (word ∷ [])) ⊛ ‵ (usize.own_val n (uint_vals w64 n)) ⊛ ‵ (R'.own_val region (mark ∷ [])) ⊛ ‵ (D.own_val deed (mark ∷ [])) ⊛ ‵ ftrue)
    ∷ (raw (fact 𝓤 (κs.1.0 ⊑ X.lives)) ⊛ raw (fact 𝓤 (κs.1.1.0 ⊑ W.lives)) ⊛ raw (fact 𝓤 Asks)) ∷ []) ∵
    split ! $ move ! (2 ∷ []) $ split3 ! $ drop ! $ heard ! _ (λ within. heard ! _ (λ asked. split ! $ move ! (2 ∷ []) $ split3 ! $ fsplit ! $ move ! (3 ∷ []) $ split3 ! $ move ! (1 ∷ []) $ fsplit ! $ move ! (3 ∷ []) $ split ! $ fsplit ! $
    -- [the deed's mark; its right; nothing; the region's mark; its cells; the length; the handle, in two entries; the base; the tokens, in two entries]
    keep ! (4 ∷ 1 ∷ 7 ∷ 9 ∷ 10 ∷ []) $ in_a_block ! region.grid.1 (λ p. region_owns R region.grid.0 p region.slots) (id⊢ 𝓤 (never 𝓤)) (λ b o e. fsplit ! $ fsplit ! $ feq_l ! (λ stride. flt_l ! (λ fit.
    let begin : base ≡ block_ptr b o = sym asked.0 ∙ e in
    let small : n * s < 2 ^ 63 = subst (λ k. k * s < 2 ^ 63) asked.1 (subst (λ k. length region.slots * k < 2 ^ 63) stride fit) in let bytes : n * s < 2 ^ 64 = omega arith in
    let al = capped (align (layout X)) in let τ = block_of_cells X n in let call : (Gives Z 𝓛 𝓜.mem 𝓡.returns).Ghost = at_gives Z 𝓛 𝓜.mem 𝓡.returns κ q at_p handle b o (n * s) al τ in
    use1 𝓛 (‵ (froom (ty_array (layout X) (length region.slots)) b o)) (room_of_cells X 𝓛 b region.slots o) $
    rewrite ! 0 (λ (k : ℕ). ‵ (froom (ty_array (layout X) k) b o)) asked.1 refl $ as_raw ! (ty_array (layout X) n) b o $
    rewrite ! 1 (λ (d : W.Denot × (Ptr × ℕ)). ‵ (deed_owns R (token Z d.0) d.1.0 d.1.1)) (λ i. (asked.4 i, ((asked.2 ∙ begin) i, asked.3 i))) refl $
    regoal ! (λ (p : Ptr). prop (WpFn 𝓤 𝓛.H 𝓣.C 𝓣.Λ function (vptr a.0.ref_ptr.0 a.0.ref_ptr.1 ∷ vstruct (vcons (ptr_val p) vnil) ∷ vint w64 n ∷ mark ∷ mark ∷ []) (Walk.post y))) begin refl $
    enter ! _ _ _ _ _ $ alloc_all ! (λ l. pass_all ! refl ((tt, tt), ((tt, (tt, tt)), ((tt, record { fits = fits_n }), ((tt, (tt, tt)), ((tt, (tt, tt)), tt))))) $
    first ! $ blocks ! $ sets ! (of_opd ! (get_in ! (fld ! refl (stop !)) (sub ! 0 refl (whole !)))) refl (tt, tt) $
    sets ! (is ! (bin ! (get ! refl) (size_word !) (record { fits = subst (λ k. k < 2 ^ 64) (sym (capped_product n s bytes)) bytes })) (ap (vint w64) (capped_product n s bytes))) refl (tt, record { fits = bytes }) $
    group ! 4 $ use1 𝓛 (raw ((Gives Z 𝓛 𝓜.mem 𝓡.returns).pre call)) (Gives-goes Z 𝓛 𝓜.mem 𝓡.returns κ q at_p handle (Incl-trans bounds.0 within) b o (n * s) al τ (block_size X n bytes) (block_align X n) bytes (capped_fits (align (layout X)))) $
    calls_at_last ! (framed 𝓤 𝓛.H 𝓜 𝓣) (Gives Z 𝓛 𝓜.mem 𝓡.returns) (met.deallocate drops) call (and_then ! (get ! refl) (and_then ! (get ! refl) (and_then ! (get ! refl) (and_then ! (align_word !) (no_more !))))) (λ v.
    use1 𝓛 (later (given (v ≡ vunit) (‵ (flft κ q)))) (Gives-Gives Z 𝓛 𝓜.mem 𝓡.returns κ q at_p handle b o (n * s) al τ v) $ await ! tt $ learn ! (λ unit_is.
    lands_last ! refl (subst (λ (w : Val). T (has_ty ty_unit w) × WT w) (sym unit_is) (tt, tt)) $ exec ! 𝓣.C 𝓣.Λ (env function.locals l) (after 1 function.body) (at_ret _ (Walk.post y)) $
    sets ! (of_opd ! (unit_lit !)) refl (tt, tt) $ returns ! (look_at ! 0 refl) $ free_all ! refl $ join ! $
    suffices ! _ (ends_at 𝓛 T' stayed c y vunit tt (tt, (tt, (tt, (tt, (tt, tt))))) (tt, (tt, (tt, (tt, (tt, tt)))))) $
    feq_i ! (List Val) (vunit ∷ []) _ refl $ nothing ! $ nothing ! $ join ! $ nothing ! $ join ! $ nothing ! $ join ! $ nothing ! $ join ! $ nothing ! $ join ! $
    move ! (2 ∷ 0 ∷ 1 ∷ []) $ group ! 3 $ nothing ! $ move ! (1 ∷ 0 ∷ []) $ done !)))))))))
