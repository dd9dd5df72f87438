-- A `&` to a region consists of a `&` to each value in it, and its assertion can be copied and shortened. Assumes
-- `Logic`.
use Prim.Native.Nat.{ℕ, ◌+◌}
use Rattle.std.specs.Prelude.{List, [], ◌∷◌, length, Option, Some, None}
use Rattle.std.specs.Mem.{type_size}
use seplogic.Ra.Ura.{Ura}
use base.Fml.{Lft, Incl, ftrue, ffalse}
use types.Logic.{Logic}
use denote.RattleType.{RattleType, RowLaws}
use denote.Param.Laws.{Laws}
use denote.RawPtr.{Ptr, block_ptr, null_ptr}
use denote.Sharing.{ShrLaws, said}
use denote.SharingLaws.{beside_shr_laws, nothing_shr_laws, said_shr_laws}
use denote.Shares.{Shares-less}
use denote.Struct.Lending.{Lends, Lends-both, Lends-nothing, Lends-said, Lends-false}
use Rattle.linked_cells.specs.Ownership.{cell_owns, cells_own, cell_lends, cells_lend, sized, region_owns, region_lends}

-- what a `&` holds
module _ (R : RattleType) (laws : RowLaws R) where
  cells_lend_laws : (cs : List (Option R.Denot)) (b o : ℕ) → ShrLaws (cells_lend R b o cs)
  cells_lend_laws [] b o = nothing_shr_laws
  cells_lend_laws (None ∷ cs) b o = beside_shr_laws _ _ nothing_shr_laws (cells_lend_laws cs b (o + type_size R))
  cells_lend_laws (Some x ∷ cs) b o = beside_shr_laws _ _ (laws x b o) (cells_lend_laws cs b (o + type_size R))

  pub region_lends_laws : (s : ℕ) (begin : Ptr) (cs : List (Option R.Denot)) → ShrLaws (region_lends R s begin cs)
  region_lends_laws s null_ptr cs = said_shr_laws ffalse tt
  region_lends_laws s (block_ptr b o) cs = beside_shr_laws _ _ (said_shr_laws (sized R s (length cs)) (tt, tt)) (cells_lend_laws cs b o)

-- how it is made
module _ {M : Type 1} {𝓤 : Ura M} (𝓛 : Logic 𝓤) (lives : Lft) (R : RattleType) (laws : Laws R) (within : Incl lives R.lives) where
  Lends-cell : (b o : ℕ) (c : Option R.Denot) → Lends 𝓛 (cell_owns R b o c) (cell_lends R b o c) lives
  Lends-cell b o None = Lends-nothing 𝓛 (cell_owns R b o None) lives
  Lends-cell b o (Some x) = λ κ ts. Shares-less 𝓛 R R.lives lives within (laws.shares 𝓛) x κ ts b o

  Lends-cells : (cs : List (Option R.Denot)) (b o : ℕ) → Lends 𝓛 (cells_own R b o cs) (cells_lend R b o cs) lives
  Lends-cells [] b o = Lends-nothing 𝓛 ftrue lives
  Lends-cells (c ∷ cs) b o = Lends-both 𝓛 (cell_owns R b o c) (cells_own R b (o + type_size R) cs) (cell_lends R b o c) (cells_lend R b (o + type_size R) cs) lives (Lends-cell b o c) (Lends-cells cs b (o + type_size R))

  pub Lends-region : (s : ℕ) (begin : Ptr) (cs : List (Option R.Denot)) → Lends 𝓛 (region_owns R s begin cs) (region_lends R s begin cs) lives
  Lends-region s null_ptr cs = Lends-false 𝓛 (said ffalse) lives
  Lends-region s (block_ptr b o) cs = let fits = sized R s (length cs) in Lends-both 𝓛 fits (cells_own R b o cs) (said fits) (cells_lend R b o cs) lives (Lends-said 𝓛 fits (tt, tt) lives) (Lends-cells cs b o)
