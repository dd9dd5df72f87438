-- `allocate` turns the new block into empty cells and keeps the right to free it. Assumes `Logic`.
use Rattle.linked_cells.proofs.RegionWalks.{◌≡◌, ℕ, ◌*◌, ◌<◌, ◌^◌, [], ◌∷◌, length, refl, ap, sym, subst, arith, proved, None, type_size, ftrue, flft, fact, named, w64, inst_fn, Val, vptr, vstruct, vcons, vnil, tables, ‵, raw, ◌⊛◌, later, at_ret, ◌$◌, ◌∵◌, !, qed, done, move, keep, drop, use1, use2, use3, split, join, await, fjoin, feq_i, flt_i, suffices, frame, whole, agg, enter, of_opd, lit, bin, and_then, no_more, stop, fld, first, exec, returns, alloc_all, pass_all, free_all, look_at, get, get_in, sets, sets_last, lands_as, env, usize, RefOf, yes, RattleType, param, layout, Ptr, block_ptr, ShrRef, shr_vals, shr_Tells, plain, nothing, heard, owned, pure_i, uint_vals, uint_Tells, Stays, says, stay_dropped, walk_of, ends_at, Goes-dropped, after, head, arm_body, ◌⊑◌, Post, any_q, size_word, align_word, switches_on, get_tag, is, live, vrt, in_variant, calls_at, framed, replicate, length-replicate, split3, fsplit, vint, Sq, prop}
use mathlib.Core.Bool.{true, false}
use lib.Dec.{lit<}
use mir.Syntax.{Body, ty_array}
use base.Fml.{Incl-trans}
use prog.Memory.{align, capped}
use prog.Capped.{capped_fits}
use prog.Wp.{Wp, after_seq, at_return}
use denote.Laws.{Is}
use denote.Struct.Struct.{Struct, Struct-Makes}
use denote.Struct.Declared as Declared
use denote.Struct.Owning.{shape}
use denote.Struct.Tuple.{Tuple}
use Rattle.std.specs.Prelude.{Ok, Err, IfOk}
use Rattle.std.specs.Vec.Ownership.{FitsInBlock}
use Rattle.std.specs.contracts.result.Result as Res
use Rattle.std.specs.contracts.alloc.AllocError as Refusal
use Rattle.std.proofs.alloc.Calls.{Al, Answer-typed, Takes, at_takes, Answered, Takes-goes, Takes-gives, answers}
use Rattle.std.proofs.RawLayout.{as_written}
use Rattle.std.proofs.ResultValues.{ok_of, err_of}
use Rattle.std.proofs.RcSteps.{Good, first_Good}
use Rattle.linked_cells.specs.Ownership.{cells_own}
use Rattle.linked_cells.specs.declared.region.Place.{Place}
use Rattle.linked_cells.specs.declared.region.Region.{Region}
use Rattle.linked_cells.specs.contracts.region.Region.{the_row as region_row, the_type as region_type}
use Rattle.linked_cells.specs.contracts.region.Place.{the_row as place_row}
use Rattle.linked_cells.specs.contracts.region.Deed.{the_row as deed_row, the_type as deed_type}
use Rattle.linked_cells.proofs.BlockAllocation.{args, block_of_cells, block_size, block_align, capped_product, cells_of_room, mark, three, three_made}
use Rattle.linked_cells.specs.contracts.region.allocate as f
use Rattle.linked_cells.proofs.region.allocate.Statement.{statement}
use Rattle.linked_cells.proofs.region.allocate.Code as code

pub allocate_spec : {M : Type 1} → statement M
allocate_spec 𝓤 𝓛 𝓜 𝓡 wired X W L K g dict drops met met_drop =
    let Z : Al = record { row = W; laws = K; g = g; d = dict; drops = drops } in
    let T = f.ended X W g dict drops in let stayed : Stays T.signature.params T.kept = (stay_dropped _ yes, (stay_dropped _ yes, tt)) in
    let c = f.clauses X W g dict drops 𝓛 𝓜.mem 𝓡.returns in let Walk = walk_of 𝓛 T stayed c in let 𝓣 = tables 𝓤 𝓛.H 𝓜 𝓡 𝓡.env in
    let R = param 0 X in let A = param 1 W in let function = inst_fn (args X Z) code.function in
    proved 𝓛 T stayed c 𝓜 𝓡 (Goes-dropped 𝓛 3 (RefOf (0 ∷ []) tt (plain (λ _. A)) (λ _. tt)) yes (λ κs x w. refl), (Goes-dropped 𝓛 3 (plain (λ _. usize)) yes (λ κs x w. refl), tt))
    (f.Key.name (args X Z)) function (code.unfolded 𝓤 𝓛.H 𝓜 𝓡 wired (X, (W, tt)) dict drops)
    (λ κs. (shr_vals, (uint_vals w64, tt))) (λ κs. (shr_Tells (named 0) κs.0 A, (uint_Tells w64, tt))) (λ κs qs bounds a _ are.
    let κ = κs.0 in let q = qs.0 in let handle = a.0.now in let at_p = a.0.ref_ptr in let n = a.1.0 in let s = type_size R in let fits_n = are.1.0.1 in
    let y : Walk.Ghost = ((κs, qs, bounds, a, (shr_vals a.0, (uint_vals w64 n, tt))), tt) in
    qed 𝓛 (((‵ (flft κ q) ⊛ ‵ (flft κs.1.0 qs.1.0) ⊛ ‵ (flft κs.1.1.0 qs.1.1.0) ⊛ ‵ ftrue) ⊛ ‵ ((ShrRef (named 0) κ A).own_val a.0 (shr_vals a.0)) ⊛ ‵ (usize.own_val n (uint_vals w64 n)) ⊛ ‵ ftrue)
    ∷ (raw (fact 𝓤 (κs.1.0 ⊑ X.lives)) ⊛ raw (fact 𝓤 (κs.1.1.0 ⊑ W.lives)) ⊛ raw (fact 𝓤 (FitsInBlock R n))) ∷ []) ∵
    split ! $ move ! (2 ∷ []) $ split3 ! $ drop ! $ heard ! _ (λ within. heard ! _ (λ asked. split ! $ move ! (2 ∷ []) $ split ! $ fsplit ! $ keep ! (1 ∷ 3 ∷ 4 ∷ []) $
    let small : n * s < 2 ^ 63 = asked.0 in let bytes : n * s < 2 ^ 64 = omega arith in let al = capped (align (layout X)) in let τ = block_of_cells X n in
    let call : (Takes Z 𝓛 𝓜.mem 𝓡.returns).Ghost = at_takes Z 𝓛 𝓜.mem 𝓡.returns κ q at_p handle (n * s) al τ in
    enter ! _ _ _ _ _ $ alloc_all ! (λ l. pass_all ! refl ((tt, tt), ((tt, record { fits = fits_n }), tt)) $
    let here = env function.locals l in let both : Body = head (after 2 function.body) in
    let Then : Post 𝓤 𝓛.H = any_q (after_seq 𝓤 𝓛.H (Wp 𝓤 𝓛.H 𝓣.C 𝓣.Λ here (after 3 function.body) (at_return 𝓤 𝓛.H here (Walk.post y))) (at_return 𝓤 𝓛.H here (Walk.post y))) in
    sets ! (is ! (bin ! (get ! refl) (size_word !) (record { fits = subst (λ k. k < 2 ^ 64) (sym (capped_product n s bytes)) bytes })) (ap (vint w64) (capped_product n s bytes))) refl (tt, record { fits = bytes }) $
    use2 𝓛 (raw ((Takes Z 𝓛 𝓜.mem 𝓡.returns).pre call)) (Takes-goes Z 𝓛 𝓜.mem 𝓡.returns κ q at_p handle (Incl-trans bounds.0 within) (n * s) al τ (block_size X n bytes) (block_align X n) bytes (capped_fits (align (layout X)))) $
    calls_at ! (framed 𝓤 𝓛.H 𝓜 𝓣) (Takes Z 𝓛 𝓜.mem 𝓡.returns) (met.allocate drops) call (and_then ! (get ! refl) (and_then ! (get ! refl) (and_then ! (align_word !) (no_more !)))) (λ v.
    use1 𝓛 (later (raw (Answered Z 𝓛 𝓜.mem 𝓡.returns handle τ v) ⊛ ‵ (flft κ q))) (Takes-gives Z 𝓛 𝓜.mem 𝓡.returns κ q at_p handle (n * s) al τ v) $ await ! tt $ split ! $
    let Out : RattleType = Tuple (place_row R ∷ region_row R ∷ deed_row R A g ∷ []) in let Answer : RattleType = Res.the_row Out Refusal.the_row in
    let end : (r : Answer.Denot) (w : Val) → IfOk r (λ t. (t.1.grid ≡ (s, t.0.ptr)) × (t.1.slots ≡ replicate n None) × (t.2.at ≡ t.0.ptr) × (t.2.len ≡ n) × (t.2.alloc ≡ handle))
    → Sq 𝓛 (‵ (Answer.own_val r (w ∷ [])) ∷ ‵ (flft κ q) ∷ (‵ (flft κs.1.0 qs.1.0) ⊛ ‵ (flft κs.1.1.0 qs.1.1.0) ⊛ ‵ ftrue) ∷ []) (prop (Walk.post y w)) = λ r w given.
    move ! (1 ∷ 2 ∷ []) $ join ! $ suffices ! _ (ends_at 𝓛 T stayed c y w r (tt, (tt, tt)) (tt, (tt, tt))) $ says ! given $ frame ! $ nothing ! $ nothing ! $ join ! $ nothing ! $ join ! $ done ! in
    answers Z ! 𝓜.mem 𝓡.returns handle τ v
    (λ b o e.
    let p : Ptr = block_ptr b o in let base : Place X.Denot = record { ptr = p } in let word : Val = vstruct (vcons (vptr b o) vnil) in
    let region : Region X.Denot = record { mark = record {}; grid = (s, p); slots = replicate n None } in
    let deed : (deed_row R A g).Denot = record { mark = record {}; at = p; len = n; alloc = handle } in
    let made : Val = three word mark mark in let fit : Good (layout Out) made = (tt, ((tt, tt), ((tt, tt), ((tt, tt), tt)))) in let ok = first_Good (layout Out) made fit in
    lands_as ! e refl (Answer-typed true b o) $ first ! $ switches_on ! (get_tag ! (vrt ! refl (fld ! refl (stop !))) (whole !)) $ exec ! 𝓣.C 𝓣.Λ here (arm_body 0 both) Then $
    sets ! (of_opd ! (get_in ! (vrt ! refl (fld ! refl (stop !))) (in_variant ! 0 0 refl refl (whole !)))) refl (tt, tt) $ sets ! (of_opd ! (get ! refl)) refl (tt, tt) $
    sets ! (agg ! (and_then ! (get ! refl) (no_more !))) refl (tt, (tt, tt)) $
    sets ! (agg ! (no_more !)) refl (tt, tt) $ sets ! (agg ! (and_then ! (get ! refl) (no_more !))) refl (tt, (tt, tt)) $
    sets ! (agg ! (no_more !)) refl (tt, tt) $ sets ! (agg ! (and_then ! (get ! refl) (no_more !))) refl (tt, (tt, tt)) $
    sets ! (of_opd ! (get ! refl)) refl (tt, (tt, tt)) $ sets ! (of_opd ! (get ! refl)) refl (tt, (tt, tt)) $
    sets ! (agg ! (and_then ! (get ! refl) (and_then ! (get ! refl) (and_then ! (get ! refl) (no_more !))))) refl fit $
    sets_last ! (agg ! (and_then ! (lit ! tt) (and_then ! (get ! refl) (no_more !)))) refl ok $
    exec ! 𝓣.C 𝓣.Λ here (after 3 function.body) (at_ret here (Walk.post y)) $ sets ! (of_opd ! (get ! refl)) refl ok $
    returns ! (look_at ! 0 refl) $ free_all ! refl $
    -- [the room; the right to free it; the tokens, in two entries]
    as_written ! (ty_array (layout X) n) b o $ use1 𝓛 (‵ (cells_own R b o (replicate n None))) (cells_of_room X 𝓛 b n o) $
    flt_i ! (length region.slots * s) (2 ^ 63) (subst (λ k. k * s < 2 ^ 63) (sym (length-replicate n None)) small) $ feq_i ! ℕ s s refl $ fjoin ! $ fjoin ! $
    pure_i ! ((Struct (shape (region_type R))).own_val (tt, tt) (mark ∷ [])) (λ vss. (tt, ((λ uss. (tt, tt)), tt))) ((vstruct vnil ∷ [], tt), (refl, ((tt, (refl, tt)), tt))) $ fjoin ! $ move ! (1 ∷ []) $
    pure_i ! ((Struct (shape (deed_type R A g))).own_val (tt, tt) (mark ∷ [])) (λ vss. (tt, ((λ uss. (tt, tt)), tt))) ((vstruct vnil ∷ [], tt), (refl, ((tt, (refl, tt)), tt))) $ fjoin ! $
    pure_i ! ((place_row R).own_val base (word ∷ [])) (λ vss. (tt, (tt, tt))) ((vptr b o ∷ [], tt), (refl, (refl, tt))) $ move ! (0 ∷ 2 ∷ []) $
    use3 𝓛 (‵ (Out.own_val (base, region, deed) (made ∷ []))) (three_made 𝓛 (place_row R) (region_row R) (deed_row R A g) base region deed word mark mark) $
    use1 𝓛 (‵ (Answer.own_val (Ok (base, region, deed)) (live 0 (vcons made vnil) ∷ []))) (ok_of 𝓛 Out Refusal.the_row (base, region, deed) made) $
    end (Ok (base, region, deed)) (live 0 (vcons made vnil)) (refl, refl, refl, refl, refl))
    (λ e. let none : Val = live 1 (vcons (vstruct vnil) vnil) in
    lands_as ! e refl (Answer-typed false 0 0) $ first ! $ switches_on ! (get_tag ! (vrt ! refl (fld ! refl (stop !))) (whole !)) $ exec ! 𝓣.C 𝓣.Λ here (arm_body 1 both) Then $
    sets ! (of_opd ! (get_in ! (vrt ! refl (fld ! refl (stop !))) (in_variant ! 1 0 refl refl (whole !)))) refl (tt, tt) $
    sets_last ! (agg ! (and_then ! (lit ! tt) (and_then ! (get ! refl) (no_more !)))) refl (tt, (record { fits = lit< tt }, (tt, tt))) $
    exec ! 𝓣.C 𝓣.Λ here (after 3 function.body) (at_ret here (Walk.post y)) $ sets ! (of_opd ! (get ! refl)) refl (tt, (record { fits = lit< tt }, (tt, tt))) $
    returns ! (look_at ! 0 refl) $ free_all ! refl $
    let refusal : RattleType = Struct (Declared.shape Refusal.the_type) in
    owned ! refusal (Is refusal) (Struct-Makes 𝓛 (Declared.shape Refusal.the_type) tt) tt (vstruct vnil ∷ []) (tt, (refl, tt)) $
    use1 𝓛 (‵ (Answer.own_val (Err (record {})) (none ∷ []))) (err_of 𝓛 Out Refusal.the_row (record {}) (vstruct vnil)) $
    end (Err (record {})) none tt))))))
