-- A `&` to a region gives access to each value in it. Assumes `Logic`.
use mathlib.Core.List.{[], ◌++◌}
use base.Fml.{Incl-trans}
use contract.BorrowLft.{meet_⊑_left}
use denote.RattleType.{RattleType}
use denote.RawPtr.{RawPtr}
use denote.Param.Laws.{Laws}
use denote.Param.Shared.{copy_shared}
use denote.Struct.Laws.{field_copy}
use denote.Struct.Lending.{of_Lends}
use Rattle.std.specs.contracts.marker.PhantomData as mark
use Rattle.linked_cells.specs.contracts.region.Region as r
use Rattle.linked_cells.proofs.region.Region.TheLaw.Statement.{statement}
use Rattle.linked_cells.proofs.SharedRegion.{region_lends_laws, Lends-region}

pub shares : (R : RattleType) (L : Laws R) → statement R L
shares R L =
    let within = Incl-trans (meet_⊑_left (R.lives ++ []) _) (meet_⊑_left R.lives []) in
    of_Lends (r.struct R) (r.the_codes R.Denot R.coded (mark.the_row RawPtr).coded) (r.the_heap R) (r.the_lent R)
    (λ d p. region_lends_laws R L.shr_laws d.grid.0 d.grid.1 d.slots)
    (copy_shared (mark.the_field RawPtr) (field_copy (mark.the_type RawPtr) tt), tt)
    (λ M 𝓤 𝓛 d p. Lends-region 𝓛 (r.the_row R).lives R L within d.grid.0 d.grid.1 d.slots)
