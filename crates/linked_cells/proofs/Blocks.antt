-- One cell of a block is split off from the adjacent cells, put back, or borrowed. Assumes `Logic`.
use Rattle.linked_cells.proofs.RegionWalks.{◌≡◌, ℕ, ◌+◌, ◌*◌, ◌<◌, ◌^◌, List, [], ◌∷◌, length, refl, sym, ap, ◌∙◌, subst, arith, Option, Some, None, get_or, slice_set, type_size, Ura, ent, sep, Lft, Fml, ftrue, fsep, Val, vstruct, vcons, vnil, Logic, sem, ‵, ◌⊛◌, ◌$◌, ◌∵◌, !, qed, by, done, move, drop, use1, use2, split, fsplit, fjoin, rewrite, RattleType, param, layout, Ptr, block_ptr, null_ptr, block_of, count_of, ptr_val, full_share, cell_at, part_at, mem, feq_i, flt_i, some, pick, fat, froom}
use native.Mathlib.Nat.{zero-mul, suc-mul}
use lib.Dec.{T, lit<}
use mir.Val.{has_ty, WT}
use Prim.Native.Nat.{zero, suc}
use Rattle.linked_cells.specs.Slots.{Grid, place_at, index_of}
use types.Kit.{fpack}
use borrow.Table.OneValue.{part_out}
use lib.ListN.{length-set}
use denote.Memory.{part_of}
use denote.Struct.Struct.{Struct}
use denote.Struct.Owning.{shape}
use Rattle.linked_cells.specs.Ownership.{cell_owns, cells_own, cell_lends, cells_lend, region_owns}
use Rattle.linked_cells.specs.RegionLends.{with_slots}
use Rattle.linked_cells.specs.declared.region.Region.{Region}
use Rattle.linked_cells.specs.contracts.region.Region.{the_row as region_row, the_type as region_type}
use Rattle.linked_cells.specs.contracts.region.Place.{the_row as place_row}

-- a place is one pointer, whatever it points to
pub place_fits : (X : RattleType) (p : Ptr) → let v = vstruct (vcons (ptr_val p) vnil) in T (has_ty (layout (place_row (param 0 X))) v) × WT v
place_fits X (block_ptr b o) = (tt, (tt, tt))
place_fits X null_ptr = (tt, (record { fits = lit< tt }, tt))

-- where a cell lies, once the block is open
pub lies : (g : Grid) (q : Ptr) (b o : ℕ) → g.1 ≡ block_ptr b o → q ≡ place_at g (index_of g q) → q ≡ block_ptr b (index_of g q * g.0 + o)
lies g q b o begin is = is ∙ ap (λ (p : Ptr). block_ptr (block_of p) (index_of g q * g.0 + count_of p)) begin

pub filled_below : {X : Type 0} (cs : List (Option X)) (i : ℕ) (x : X) → get_or cs i None ≡ Some x → i < length cs
filled_below [] i x e = cc
filled_below (c ∷ cs) zero x e = omega arith
filled_below (c ∷ cs) (suc i) x e = omega (arith, filled_below cs i x e)

module _ (R : RattleType) (b : ℕ) where
  abbrev s : ℕ
  s = type_size R

  -- all cells but the i-th
  abbrev pub others : ℕ → List (Option R.Denot) → ℕ → Fml
  others o [] i = ftrue
  others o (c ∷ cs) zero = cells_own R b (o + s) cs
  others o (c ∷ cs) (suc i) = fsep (cell_owns R b o c) (others (o + s) cs i)

  module _ {M : Type 1} {𝓤 : Ura M} (𝓛 : Logic 𝓤) where
    pub cell_out : (cs : List (Option R.Denot)) (i o at : ℕ) → i < length cs → at ≡ i * s + o → ent 𝓤 (sem 𝓛 (cells_own R b o cs)) (sep 𝓤 (sem 𝓛 (cell_owns R b at (get_or cs i None))) (sem 𝓛 (others o cs i)))
    cell_out [] i o at below is = absurd (omega arith)
    cell_out (c ∷ cs) zero o at below is = let same : o ≡ at = omega (arith, zero-mul s) in
        qed 𝓛 (‵ (cells_own R b o (c ∷ cs)) ∷ []) ∵ fsplit ! $ rewrite ! 0 (λ (k : ℕ). ‵ (cell_owns R b k c)) same refl $ done !
    cell_out (c ∷ cs) (suc i) o at below is = qed 𝓛 (‵ (cells_own R b o (c ∷ cs)) ∷ []) ∵ fsplit ! $ move ! (1 ∷ []) $
        use1 𝓛 (‵ (cell_owns R b at (get_or cs i None)) ⊛ ‵ (others (o + s) cs i)) (cell_out cs i (o + s) at (omega arith) (omega (arith, suc-mul i s))) $
        split ! $ move ! (2 ∷ 1 ∷ []) $ fjoin ! $ move ! (1 ∷ 0 ∷ []) $ done !

    pub cell_back : (cs : List (Option R.Denot)) (i o at : ℕ) (c : Option R.Denot) → i < length cs → at ≡ i * s + o → ent 𝓤 (sep 𝓤 (sem 𝓛 (cell_owns R b at c)) (sem 𝓛 (others o cs i))) (sem 𝓛 (cells_own R b o (slice_set cs i c)))
    cell_back [] i o at c below is = absurd (omega arith)
    cell_back (d ∷ cs) zero o at c below is = let same : at ≡ o = omega (arith, zero-mul s) in
        qed 𝓛 (‵ (cell_owns R b at c) ∷ ‵ (cells_own R b (o + s) cs) ∷ []) ∵ rewrite ! 0 (λ (k : ℕ). ‵ (cell_owns R b k c)) same refl $ fjoin ! $ done !
    cell_back (d ∷ cs) (suc i) o at c below is = qed 𝓛 (‵ (cell_owns R b at c) ∷ ‵ (others o (d ∷ cs) (suc i)) ∷ []) ∵ move ! (1 ∷ []) $ fsplit ! $ move ! (2 ∷ 1 ∷ []) $
        use2 𝓛 (‵ (cells_own R b (o + s) (slice_set cs i c))) (cell_back cs i (o + s) at c (omega arith) (omega (arith, suc-mul i s))) $ move ! (1 ∷ 0 ∷ []) $ fjoin ! $ done !

    pub cell_seen : (κ : Lft) (cs : List (Option R.Denot)) (i o at : ℕ) → i < length cs → at ≡ i * s + o → ent 𝓤 (sem 𝓛 (cells_lend R b o cs κ)) (sem 𝓛 (cell_lends R b at (get_or cs i None) κ))
    cell_seen κ [] i o at below is = absurd (omega arith)
    cell_seen κ (c ∷ cs) zero o at below is = let same : o ≡ at = omega (arith, zero-mul s) in
        qed 𝓛 (‵ (cells_lend R b o (c ∷ cs) κ) ∷ []) ∵ fsplit ! $ move ! (1 ∷ []) $ drop ! $ rewrite ! 0 (λ (k : ℕ). ‵ (cell_lends R b k c κ)) same refl $ done !
    cell_seen κ (c ∷ cs) (suc i) o at below is = qed 𝓛 (‵ (cells_lend R b o (c ∷ cs) κ) ∷ []) ∵ fsplit ! $ drop ! $
        by ! (cell_seen κ cs i (o + s) at (omega arith) (omega (arith, suc-mul i s)))

-- what the fields of a region own beside its cells, which is nothing
abbrev pub fields_own : RattleType → List Val → Fml
fields_own R us = (Struct (shape (region_type R))).own_val (tt, tt) us

module _ (X : RattleType) {M : Type 1} {𝓤 : Ura M} (𝓛 : Logic 𝓤) (d : Region X.Denot) (b o : ℕ) where
  abbrev R : RattleType
  R = param 0 X

  -- the row of cells is a region's again
  pub region_back : (cs : List (Option X.Denot)) → d.grid.1 ≡ block_ptr b o → d.grid.0 ≡ type_size R → length cs * d.grid.0 < 2 ^ 63 → ent 𝓤 (sem 𝓛 (cells_own R b o cs)) (sem 𝓛 (region_owns R d.grid.0 d.grid.1 cs))
  region_back cs begin stride small = qed 𝓛 (‵ (cells_own R b o cs) ∷ []) ∵ flt_i ! (length cs * d.grid.0) (2 ^ 63) small $ feq_i ! ℕ d.grid.0 (type_size R) stride $ fjoin ! $ fjoin ! $
      rewrite ! 0 (λ (p : Ptr). ‵ (region_owns R d.grid.0 p cs)) (sym begin) refl $ done !

  -- and so is the region, where its bytes lie
  pub whole_back : (rb ro : ℕ) (us : List Val) (c : Option X.Denot) (i : ℕ) → d.grid.1 ≡ block_ptr b o → d.grid.0 ≡ type_size R → length d.slots * d.grid.0 < 2 ^ 63
      → let cs = slice_set d.slots i c in ent 𝓤 (sep 𝓤 (sem 𝓛 (cells_own R b o cs)) (sep 𝓤 (sem 𝓛 (fields_own R us)) (sem 𝓛 (cell_at full_share (region_row R).mir us rb ro)))) (sem 𝓛 ((mem (region_row R)).own_at (with_slots d cs) rb ro))
  unfolding part_of
  whole_back rb ro us c i begin stride small = let cs = slice_set d.slots i c in
      qed 𝓛 (‵ (cells_own R b o cs) ∷ ‵ (fields_own R us) ∷ ‵ (cell_at full_share (region_row R).mir us rb ro) ∷ []) ∵
      use1 𝓛 (‵ (region_owns R d.grid.0 d.grid.1 cs)) (region_back cs begin stride (subst (λ k. k * d.grid.0 < 2 ^ 63) (sym (length-set d.slots i c)) small)) $
      move ! (1 ∷ 0 ∷ []) $ fjoin ! $ move ! (1 ∷ 0 ∷ []) $ fjoin ! $ fpack ! (List Val) (λ vs. fsep (cell_at full_share (region_row R).mir vs rb ro) ((region_row R).own_val (with_slots d cs) vs)) us $ done !

-- whatever a cell holds is let go, and its room is left
pub emptied : (X : RattleType) {M : Type 1} {𝓤 : Ura M} (𝓛 : Logic 𝓤) (b o : ℕ) (c : Option X.Denot) → ent 𝓤 (sem 𝓛 (cell_owns (param 0 X) b o c)) (sem 𝓛 (froom (layout X) b o))
emptied X 𝓛 b o None = 𝓛.laws.raw-room (layout X) b o
emptied X 𝓛 b o (Some x) = qed 𝓛 (‵ (part_at (param 0 X) full_share x b o) ∷ []) ∵
    use1 𝓛 (some (λ (v : Val). ‵ (fat full_share (layout X) b o v) ⊛ ‵ (X.own_val x (v ∷ [])))) (part_out 𝓛 (param 0 X) refl full_share x b o) $
    pick ! (λ v. split ! $ move ! (1 ∷ []) $ drop ! $ by ! (𝓛.laws.at_room (layout X) b o v))
