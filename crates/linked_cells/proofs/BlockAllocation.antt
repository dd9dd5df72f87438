-- The calls of the allocator in `allocate` and `deallocate`: the block's type and size, and its cells as free room.
-- Assumes `Logic`.
use Rattle.linked_cells.proofs.RegionWalks.{◌≡◌, ℕ, ◌+◌, ◌*◌, ◌<◌, ◌^◌, List, [], ◌∷◌, length, refl, sym, ap, ◌∙◌, arith, Option, None, type_size, Ura, ent, sem, Logic, Args, Ty, a_type, Val, vstruct, vcons, vnil, ‵, ◌⊛◌, ◌$◌, ◌∵◌, !, qed, by, done, move, keep, use1, split, fsplit, fjoin, feq_i, frame, nothing, RattleType, param, layout, froom, ⋆}
use Prim.Native.Nat.{zero, suc}
use native.Mathlib.Nat.{zero-mul, suc-mul}
use lib.ListN.{replicate}
use mir.Syntax.{ty_array, dcons, dnil}
use mir.Raw.{raw as bare}
use prog.Memory.{size, align, capped}
use prog.Capped.{capped_is}
use prog.RawLaws.{size-raw, align-raw}
use types.Kit.{fpack}
use denote.RattleType.{Valss}
use denote.Param.{bounded}
use denote.Struct.Struct.{within}
use denote.Struct.Declared as Declared
use denote.Struct.Tuple.{Tuple, tuple_type}
use Rattle.std.proofs.alloc.Calls.{Al}
use Rattle.linked_cells.specs.Ownership.{cell_owns, cells_own}
use Rattle.linked_cells.proofs.Blocks.{emptied}

-- the type that a block of n cells is asked for, and its size and alignment as a word holds them
abbrev pub block_of_cells : RattleType → ℕ → Ty
block_of_cells X n = bare (ty_array (layout X) n)

pub block_size : (X : RattleType) (n : ℕ) → n * size (layout X) < 2 ^ 64 → capped (size (block_of_cells X n)) ≡ n * size (layout X)
block_size X n fits = ap capped (size-raw (ty_array (layout X) n)) ∙ capped_is (n * size (layout X)) fits

pub block_align : (X : RattleType) (n : ℕ) → capped (align (block_of_cells X n)) ≡ capped (align (layout X))
block_align X n = ap capped (align-raw (ty_array (layout X) n))

-- a product that fits is that of the size itself
pub capped_product : (n k : ℕ) → n * k < 2 ^ 64 → n * capped k ≡ n * k
capped_product zero k fits = zero-mul (capped k) ∙ sym (zero-mul k)
capped_product (suc n) k fits = let product = suc-mul n k in ap (λ j. suc n * j) (capped_is k (omega arith))

abbrev pub args : RattleType → Al → Args
args X Z = bounded (a_type ∷ a_type ∷ []) (X, (Z.row, tt)) (dcons Z.d (dcons Z.drops dnil))

-- the one machine value of a region, and of a deed
abbrev pub mark : Val
mark = vstruct (vcons (vstruct vnil) vnil)

module _ (X : RattleType) {M : Type 1} {𝓤 : Ura M} (𝓛 : Logic 𝓤) (b : ℕ) where
  -- new room is a row of empty cells
  pub cells_of_room : (n o : ℕ) → ent 𝓤 (sem 𝓛 (froom (ty_array (layout X) n) b o)) (sem 𝓛 (cells_own (param 0 X) b o (replicate n None)))
  cells_of_room zero o = qed 𝓛 (‵ (froom (ty_array (layout X) 0) b o) ∷ []) ∵ keep ! [] $ done !
  cells_of_room (suc n) o = let s = type_size (param 0 X) in qed 𝓛 (‵ (froom (ty_array (layout X) (suc n)) b o) ∷ []) ∵
      use1 𝓛 (‵ (froom (layout X) b o) ⊛ ‵ (froom (ty_array (layout X) n) b (o + s))) (𝓛.laws.room_uncons (layout X) n b o) $ split ! $
      use1 𝓛 (‵ (cell_owns (param 0 X) b o None)) (𝓛.laws.room-raw (layout X) b o) $ frame ! $ by ! (cells_of_room n (o + s))

  -- and a row of cells is room, whatever they hold
  pub room_of_cells : (cs : List (Option X.Denot)) (o : ℕ) → ent 𝓤 (sem 𝓛 (cells_own (param 0 X) b o cs)) (sem 𝓛 (froom (ty_array (layout X) (length cs)) b o))
  room_of_cells [] o = 𝓛.laws.room_nil (layout X) b o
  room_of_cells (c ∷ cs) o = let s = type_size (param 0 X) in qed 𝓛 (‵ (cells_own (param 0 X) b o (c ∷ cs)) ∷ []) ∵ fsplit ! $
      use1 𝓛 (‵ (froom (layout X) b o)) (emptied X 𝓛 b o c) $ move ! (1 ∷ []) $
      use1 𝓛 (‵ (froom (ty_array (layout X) (length cs)) b (o + s))) (room_of_cells cs (o + s)) $ move ! (1 ∷ []) $ by ! (𝓛.laws.room_cons (layout X) (length cs) b o)

-- a tuple of three is made of its parts
abbrev pub three : Val → Val → Val → Val
three u v w = vstruct (vcons u (vcons v (vcons w vnil)))

pub three_made : {M : Type 1} {𝓤 : Ura M} (𝓛 : Logic 𝓤) (R S T : RattleType) (x : R.Denot) (y : S.Denot) (z : T.Denot) (u v w : Val)
    → let Rs = R ∷ S ∷ T ∷ [] in ent 𝓤 (⋆ 𝓛 (‵ (R.own_val x (u ∷ [])) ∷ ‵ (S.own_val y (v ∷ [])) ∷ ‵ (T.own_val z (w ∷ [])) ∷ [])) (sem 𝓛 ((Tuple Rs).own_val (x, y, z) (three u v w ∷ [])))
three_made 𝓛 R S T x y z u v w = let Rs = R ∷ S ∷ T ∷ [] in
    qed 𝓛 (‵ (R.own_val x (u ∷ [])) ∷ ‵ (S.own_val y (v ∷ [])) ∷ ‵ (T.own_val z (w ∷ [])) ∷ []) ∵ nothing ! $ move ! (3 ∷ 0 ∷ []) $ fjoin ! $ move ! (2 ∷ 0 ∷ []) $ fjoin ! $ move ! (1 ∷ 0 ∷ []) $ fjoin ! $
    feq_i ! (List Val) (three u v w ∷ []) (three u v w ∷ []) refl $ fjoin ! $ fpack ! (Valss Rs) (within (Declared.shape (tuple_type Rs)) (x, (y, (z, tt))) (three u v w ∷ [])) (u ∷ [], (v ∷ [], (w ∷ [], tt))) $ done !
