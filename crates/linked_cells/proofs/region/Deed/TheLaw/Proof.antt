-- A `&` to a deed lends nothing. Assumes `Logic`.
use denote.RattleType.{RattleType}
use denote.RawPtr.{RawPtr}
use denote.Param.Laws.{Laws}
use denote.Param.Shared.{copy_shared}
use denote.SharingLaws.{nothing_shr_laws}
use denote.Struct.Laws.{field_copy}
use denote.Struct.Lending.{of_Lends, Lends-nothing}
use Rattle.std.specs.declared.alloc.Allocator.{Ghosts}
use Rattle.std.specs.contracts.marker.PhantomData as mark
use Rattle.linked_cells.specs.contracts.region.Deed as d
use Rattle.linked_cells.proofs.region.Deed.TheLaw.Statement.{statement}

pub shares : (R A : RattleType) (g : Ghosts A.Denot) (L : Laws R) (P : Laws A) → statement R A g L P
shares R A g L P =
    of_Lends (d.struct R A g) (d.the_codes R.Denot A.Denot R.coded A.coded (mark.the_row RawPtr).coded) (d.the_heap R A g) (d.the_lent R A g) (λ x p. nothing_shr_laws)
    (copy_shared (mark.the_field RawPtr) (field_copy (mark.the_type RawPtr) tt), tt)
    (λ M 𝓤 𝓛 x p. Lends-nothing 𝓛 (d.the_heap R A g x) (d.the_row R A g).lives)
